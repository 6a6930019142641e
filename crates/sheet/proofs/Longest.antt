-- No sheet has more than 368 bytes. Assumes nothing.
use mathlib.Core.Path.{◌≡◌, refl, ◌∙◌}
use mathlib.Core.Bool.{Bool, true, false}
use mathlib.Core.List.{List, [], ◌∷◌, ◌++◌}
use Prim.Native.Nat.{ℕ, ◌+◌, ◌*◌, ◌≤◌, ◌<◌}
use native.Mathlib.Omega.{arith}
use lib.ListN.{length, take, length-append}
use lib.Seq.{length-take-le}
use Rattle.std.specs.Prelude.{Option, Some, None}
use Rattle.sheet.specs.declared.reading.Sheet.{Sheet}
use Rattle.sheet.specs.Digits.{decimal, digit_count}
use Rattle.sheet.specs.Sheets.{sides_word, caps_word, numbers_text, block_text, head_text, cap_lines, sheet_text, InU32, FirstUsed, Lawful}
use Rattle.sheet.specs.Readers.{reading}
use Rattle.sheet.proofs.Numerals.{length_digits, count_small, count-within}
use Rattle.sheet.proofs.Exact.{sound}

-- ---- numbers
decimal-most : (n : ℕ) → InU32 n → length (decimal n) ≤ 10
decimal-most n f = omega (arith, length_digits 10 (digit_count n) n, count-within 9 n (omega arith))

decimal-one : (n : ℕ) → n < 10 → length (decimal n) ≡ 1
decimal-one n h = length_digits 10 (digit_count n) n ∙ count_small n h

numbers-length : (w i : ℕ) (xs : List ℕ) → length (numbers_text w i xs) ≡ 9 * length xs
unfolding numbers_text
numbers-length w i [] = refl
numbers-length w i (x ∷ xs) = simp length-append (omega (arith, length_digits 16 8 x, numbers-length w (i + 1) xs))

-- ---- lines
block-length : (word : List ℕ) (w places n : ℕ) (xs : List ℕ) → n ≤ 6 → w * n ≤ places → FirstUsed places (w * n) xs → length (block_text word w n xs) ≡ length word + 2 + 9 * (w * n)
block-length word w places n xs h p f =
    let t : length (take (w * n) xs) ≡ w * n = length-take-le (w * n) xs (omega (arith, f.long)) in
    simp length-append (omega (arith, decimal-one n (omega arith), numbers-length w 0 (take (w * n) xs), t))

head-most : (h d : ℕ) → InU32 d → length (head_text h d) ≤ 29
head-most h d f = simp length-append (omega (arith, decimal-one 1 (omega arith), length_digits 16 8 h, decimal-most d f))

pub sheet-most : (s : Sheet) → Lawful s → length (sheet_text s) ≤ 368
sheet-most s l =
    let a = head_text s.height s.subdivisions in
    let b = block_text sides_word 4 s.sides s.pairs in
    let c = block_text caps_word 2 (cap_lines s.caps) s.corners in
    let k : cap_lines s.caps ≤ 6 = few s.caps in
    let p : length (a ++ (b ++ c)) ≡ length a + length (b ++ c) = length-append a (b ++ c) in
    let q : length (b ++ c) ≡ length b + length c = length-append b c in
    omega (arith, p, q, head-most s.height s.subdivisions l.subdivisions, l.sides, block-length sides_word 4 24 s.sides s.pairs l.sides (omega (arith, l.sides)) l.pairs, block-length caps_word 2 12 (cap_lines s.caps) s.corners k (omega arith) l.corners)
  where
    few : (x : Bool) → cap_lines x ≤ 6
    few true = omega arith
    few false = omega arith

-- so what is longer does not read
pub long-unread : (bytes : List ℕ) → 368 < length bytes → reading bytes ≡ None
long-unread bytes h = go (reading bytes) refl
  where
    go : (x : Option Sheet) → reading bytes ≡ x → x ≡ None
    go (Some s) e =
        let t = sound bytes s e in
        absurd (let k : length bytes ≤ 368 = rw t.1 (sheet-most s t.0) in omega arith)
    go None e = refl
