-- One step of the cursor is one step of its reader. Assumes nothing.
use mathlib.Core.Path.{◌≡◌, refl, sym}
use mathlib.Core.Bool.{Bool, true, false, ◌&&◌}
use mathlib.Core.List.{List, [], ◌∷◌, ◌++◌}
use Prim.Native.Nat.{ℕ, suc, ◌+◌, ◌*◌, ◌-◌, ◌^◌, ◌≤◌, ◌<◌}
use native.Mathlib.Nat.{mul-le-mul_left, pow-le-pow_right, pow-suc}
use native.Mathlib.Numerals.{add-one}
use native.Mathlib.Omega.{arith}
use borrow.Author.Tests.{lt-ltb, le-ltb, le-leb, ltb-true, ltb-false}
use lib.Dec.{ltb, eqb}
use lib.ListN.{length, take, drop, set, replicate, length-replicate}
use lib.Seq.{length-take-le, take-suc-set}
use Rattle.sheet.specs.Digits.{gap}
use lib.Pointwise.{pointwise}
use Rattle.patterns.specs.Digits.{digit_value}
use Rattle.sheet.proofs.Formats.{not_none, only-if-inv, taken-value, taken-rest}
use Rattle.sheet.specs.Readers.{Taken, taken, none, next, only_if, mark_of, word_of, digit_at, digit_of, hex_from, hex_of, decimal_from, section_of, numbers_from, numbers_of, block_of}

-- ---- a word
abbrev after_byte : Bool → List ℕ → List ℕ → Taken Unit
after_byte x ws s = next (only_if x (taken (tt {0}) s)) (λ _ a. word_of ws a)

pub word-here : (ws s : List ℕ) → pointwise eqb (take (length ws) s) ws ≡ true → taken tt (drop (length ws) s) ≡ word_of ws s
unfolding word_of mark_of
word-here [] s e = refl
word-here (w ∷ ws) [] e = cc
word-here (w ∷ ws) (a ∷ s) e = go (eqb a w) refl (word-here ws s) e
  where
    go : (x : Bool) → eqb a w ≡ x → (pointwise eqb (take (length ws) s) ws ≡ true → taken (tt {0}) (drop (length ws) s) ≡ word_of ws s) → x && pointwise eqb (take (length ws) s) ws ≡ true → taken (tt {0}) (drop (length ws) s) ≡ after_byte x ws s
    go true p ih h = ih h
    go false p ih h = cc

pub word-other : (ws s : List ℕ) → pointwise eqb (take (length ws) s) ws ≡ false → none ≡ word_of ws s
unfolding word_of mark_of
word-other [] s e = cc
word-other (w ∷ ws) [] e = refl
word-other (w ∷ ws) (a ∷ s) e = go (eqb a w) (word-other ws s) e
  where
    go : (x : Bool) → (pointwise eqb (take (length ws) s) ws ≡ false → none ≡ word_of ws s) → x && pointwise eqb (take (length ws) s) ws ≡ false → none ≡ after_byte x ws s
    go true ih h = ih h
    go false ih h = refl

-- ---- a digit, read in a base
module _ (base d : ℕ) (s t : List ℕ) (e : taken d t ≡ digit_of base s) where
  read : (ltb (digit_at s) base ≡ true) × (taken (digit_at s) (drop 1 s) ≡ taken d t)
  read = only-if-inv (ltb (digit_at s) base) (taken (digit_at s) (drop 1 s)) d t (sym e)

  pub digit-is : digit_at s ≡ d
  digit-is = taken-value read.1

  pub digit-rest : drop 1 s ≡ t
  digit-rest = taken-rest read.1

  pub digit-below : d < base
  digit-below = omega (arith, ltb-true (digit_at s) base read.0, digit-is)

pub digit-shorter : (d : ℕ) (s t : List ℕ) → taken d t ≡ digit_of 10 s → length t < length s
unfolding digit_at
digit-shorter d [] t e = absurd (not_none (sym e))
digit-shorter d (b ∷ s) t e = let r : s ≡ t = digit-rest 10 d (b ∷ s) t e in rw (← r) (omega arith)

no_digit : (base : ℕ) (s : List ℕ) → none ≡ digit_of base s → base ≤ digit_at s
no_digit base s e = go (ltb (digit_at s) base) refl e
  where
    go : (x : Bool) → ltb (digit_at s) base ≡ x → none ≡ only_if x (taken (digit_at s) (drop 1 s)) → base ≤ digit_at s
    go true p h = absurd (not_none h)
    go false p h = ltb-false (digit_at s) base p

-- ---- hex digits
module _ (k v : ℕ) (s : List ℕ) (h : k < 8) where
  left : 8 - k ≡ suc (8 - (k + 1))
  left = omega arith

  pub hex-more : (d : ℕ) (t : List ℕ) → taken d t ≡ digit_of 16 s → hex_from (8 - k) v s ≡ hex_from (8 - (k + 1)) (v * 16 + d) t
  unfolding hex_from
  hex-more d t e = rw (left, (read 16 d s t e).0, digit-is 16 d s t e, digit-rest 16 d s t e)

  pub hex-not : none ≡ digit_of 16 s → none ≡ hex_from (8 - k) v s
  unfolding hex_from
  hex-not e = rw (left, le-ltb (digit_at s) 16 (no_digit 16 s e))

pub hex-room : (k v : ℕ) → k < 8 → v < 16 ^ k → v < 268435456
hex-room k v h b = let p : 16 ^ k ≤ 16 ^ 7 = pow-le-pow_right {n = 16} (omega arith) {i = k} {j = 7} (omega arith) in omega arith

pub hex-grown : (k v d : ℕ) → v < 16 ^ k → d < 16 → v * 16 + d < 16 ^ (k + 1)
hex-grown k v d b h = let p : 16 ^ suc k ≡ 16 ^ k * 16 = pow-suc 16 k in rw (add-one k, p) (omega arith)

pub hex-whole : (v : ℕ) (s : List ℕ) (k : ℕ) → 8 ≤ k → hex_from (8 - k) v s ≡ taken v s
unfolding hex_from
hex-whole v s k h = let p : 8 - k ≡ 0 = omega arith in rw p

-- ---- decimal digits
module _ (v : ℕ) where
  pub decimal-stop : (s : List ℕ) → none ≡ digit_of 10 s → decimal_from v s ≡ taken v s
  unfolding decimal_from digit_at
  decimal-stop [] e = refl
  decimal-stop (b ∷ s) e = rw (le-ltb (digit_value b) 10 (no_digit 10 (b ∷ s) e))

  pub decimal-more : (d : ℕ) (s t : List ℕ) → taken d t ≡ digit_of 10 s → v * 10 + d < 4294967296 → decimal_from v s ≡ decimal_from (v * 10 + d) t
  unfolding decimal_from digit_at
  decimal-more d [] t e h = absurd (not_none (sym e))
  decimal-more d (b ∷ s) t e h = rw ((read 10 d (b ∷ s) t e).0, digit-is 10 d (b ∷ s) t e, digit-rest 10 d (b ∷ s) t e, lt-ltb (v * 10 + d) 4294967296 h)

  pub decimal-over : (d : ℕ) (s t : List ℕ) → taken d t ≡ digit_of 10 s → 4294967296 ≤ v * 10 + d → decimal_from v s ≡ none
  unfolding decimal_from digit_at
  decimal-over d [] t e h = absurd (not_none (sym e))
  decimal-over d (b ∷ s) t e h = rw ((read 10 d (b ∷ s) t e).0, digit-is 10 d (b ∷ s) t e, le-ltb (v * 10 + d) 4294967296 h)

-- ---- numbers
pub numbers_more : (width many i x : ℕ) (out s a b : List ℕ) → i < many → many ≡ length out → taken x a ≡ hex_of s → taken (tt {0}) b ≡ mark_of (gap width i) a → numbers_from width (many - i) (take i out) s ≡ numbers_from width (many - (i + 1)) (take (i + 1) (set out i x)) b
unfolding numbers_from
numbers_more width many i x out s a b h r e f =
    let left : many - i ≡ suc (many - (i + 1)) = omega arith in
    let at : length (take i out) ≡ i = length-take-le i out (omega arith) in
    let l : i < length out = omega arith in
    rw (left, ← e, at, ← f, add-one i, take-suc-set out i x l)

-- ---- a section with its lines
module _ (name : List ℕ) (width places n : ℕ) (s a : List ℕ) (read : taken n a ≡ section_of name s) (few : n ≤ 6) (room : width * 6 ≤ places) where
  -- the places that are lent
  abbrev lent : List ℕ
  lent = take (width * n) (replicate places 0)

  lent-all : length lent ≡ width * n
  lent-all = length-take-le (width * n) (replicate places 0) (omega (arith, mul-le-mul_left {m = n} {n = 6} width few, length-replicate {A = ℕ} places 0))

  pub block-not : none ≡ numbers_from width (length lent) [] a → none ≡ block_of name width places s
  unfolding block_of numbers_of
  block-not e = rw (← read, le-leb n 6 few, ← lent-all, ← e)

  pub block-read : (xs b : List ℕ) → taken xs b ≡ numbers_from width (length lent) [] a → taken (record { lines = n; numbers = xs ++ drop (width * n) (replicate places 0) }) b ≡ block_of name width places s
  unfolding block_of numbers_of
  block-read xs b e = let f : taken xs b ≡ numbers_from width (width * n) [] a = rw lent-all at e in rw (← read, le-leb n 6 few, ← f)
