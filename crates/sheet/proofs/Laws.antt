-- What a text is like: its numbers read back, its lines have as many as they should, and it is not long. Assumes nothing.
use mathlib.Core.Path.{◌≡◌, refl, ap₂, ◌∙◌, sym}
use mathlib.Core.Bool.{Bool, true, false, not, cond}
use mathlib.Core.List.{List, [], ◌∷◌, ◌++◌, append_assoc, append-nil}
use Prim.Native.Nat.{ℕ, zero, suc, ◌+◌, ◌*◌, ◌/◌, ◌%◌, ◌^◌, ◌≤◌, ◌<◌}
use native.Mathlib.Nat.{add-suc, add-zero, mul-suc, mul-zero, pow-zero, pow-succ', mod-lt, div-add-mod', div-lt_iff_lt-mul, mul_comm, mul-add-mod_self_left}
use native.Mathlib.Omega.{arith}
use borrow.Author.Tests.{lt-ltb}
use lib.Dec.{T, ltb, ltb→lt, nltb→le}
use lib.ListN.{length, get_or, take, drop, length-append, get_or-append}
use lib.Seq.{take-append_seam, length-take-le}
use Rattle.face.specs.Lists.{chain}
use Rattle.face.proofs.Filling.{chain_same}
use Rattle.face.specs.declared.triangle.Counts.{Counts}
use Rattle.buffers.specs.Laying.{Buffers}
use Rattle.patterns.specs.Digits.{digit_value}
use Rattle.sheet.specs.Digits.{digit, digits, divisions, digit_count, hex_digits, decimal, spelt, gap}
use Rattle.sheet.specs.Meshes.{index_word, index_lines, mesh_text, refusal_text, Written}
use Rattle.sheet.proofs.Formats.{value-of-digit}
use Rattle.sheet.proofs.Numerals.{length_digits, count-within, count_most}
use Rattle.sheet.proofs.Rooms.{length-index, length-mesh, length-refusal}

-- ---- P2: the digits of a number spell it
one_more_lem : (base n : ℕ) (cs : List ℕ) (c : ℕ) → spelt base n (cs ++ (c ∷ [])) ≡ spelt base n cs * base + digit_value c
unfolding spelt
one_more_lem base n [] c = refl
one_more_lem base n (d ∷ cs) c = one_more_lem base (n * base + digit_value d) cs c

pub digits-spell : (base w n : ℕ) → 0 < base → base ≤ 16 → n < base ^ w → spelt base 0 (digits base w n) ≡ n
unfolding spelt digits
digits-spell base zero n p q h = let e : base ^ 0 ≡ 1 = pow-zero base in omega arith
digits-spell base (suc w) n p q h =
    let r : n % base < base = mod-lt n p in
    let u : n / base < base ^ w = (div-lt_iff_lt-mul p).1 (rw (pow-succ' base w, mul_comm base (base ^ w)) at h) in
    one_more_lem base 0 (digits base w (n / base)) (digit (n % base))
    ∙ rw (digits-spell base w (n / base) p q u, value-of-digit (n % base) (omega arith)) (div-add-mod' n base)

pub hex-spells : (n : ℕ) → n < 2 ^ 32 → spelt 16 0 (hex_digits n) ≡ n
hex-spells n h = digits-spell 16 8 n (omega arith) (omega arith) (omega arith)

within_count : (k n : ℕ) → n ≤ k → n < 10 ^ divisions k n
unfolding divisions
within_count zero n h = omega arith
within_count (suc k) n h = go (ltb n 10) (ltb→lt n 10) (within_count k (n / 10))
  where
    go : (x : Bool) → (T x → n < 10) → (n / 10 ≤ k → n / 10 < 10 ^ divisions k (n / 10)) → n < 10 ^ cond x 1 (suc (divisions k (n / 10)))
    go true f r = f tt
    go false f r =
        let e : 10 ^ suc (divisions k (n / 10)) ≡ 10 * 10 ^ divisions k (n / 10) = pow-succ' 10 (divisions k (n / 10)) in
        let u : n / 10 < 10 ^ divisions k (n / 10) = r (omega arith) in
        omega arith

pub decimal-spells : (n : ℕ) → spelt 10 0 (decimal n) ≡ n
unfolding digit_count
decimal-spells n = digits-spell 10 (digit_count n) n (omega arith) (omega arith) (within_count n n (omega arith))

some-digit : (k n : ℕ) → 0 < divisions k n
unfolding divisions
some-digit zero n = omega arith
some-digit (suc k) n = go (ltb n 10)
  where
    go : (x : Bool) → 0 < cond x 1 (suc (divisions k (n / 10)))
    go true = omega arith
    go false = omega arith

first-digit : (k n : ℕ) → n ≤ k → 0 < n → 48 < get_or (digits 10 (divisions k n) n) 0 0
unfolding divisions digits
first-digit zero n h p = absurd (omega arith)
first-digit (suc k) n h p = go (ltb n 10) (ltb→lt n 10) (nltb→le n 10) (first-digit k (n / 10))
  where
    go : (x : Bool) → (T x → n < 10) → (T (not x) → 10 ≤ n) → (n / 10 ≤ k → 0 < n / 10 → 48 < get_or (digits 10 (divisions k (n / 10)) (n / 10)) 0 0) → 48 < get_or (digits 10 (cond x 1 (suc (divisions k (n / 10)))) n) 0 0
    go true f g r = let u : n < 10 = f tt in rw (lt-ltb (n % 10) 10 (omega arith)) (omega arith)
    go false f g r =
        let u : 10 ≤ n = g tt in
        let l : length (digits 10 (divisions k (n / 10)) (n / 10)) ≡ divisions k (n / 10) = length_digits 10 (divisions k (n / 10)) (n / 10) in
        rw (get_or-append (digits 10 (divisions k (n / 10)) (n / 10)) (digit (n % 10) ∷ []) 0 0 (omega (arith, some-digit k (n / 10)))) (r (omega arith) (omega arith))

-- and no decimal but 0 begins with one
pub no-leading-zero : (n : ℕ) → 0 < n → 48 < get_or (decimal n) 0 0
unfolding digit_count
no-leading-zero n p = first-digit n n (omega arith) p

-- ---- P3: a line has w numbers, with what follows the r-th of them
chain-split : {A : Type 0} (f : ℕ → List A) (a b : ℕ) → chain f (a + b) ≡ chain f a ++ chain (λ r. f (a + r)) b
chain-split f a zero = rw (add-zero a, append-nil (chain f a))
chain-split f a (suc b) = rw add-suc (rw (chain-split f a b) (append_assoc (chain f a) (chain (λ r. f (a + r)) b) (f (a + b))))

pub by_lines : (word : ℕ → List ℕ) (w m : ℕ) → chain (λ k. word k ++ (gap w k ∷ [])) (w * m) ≡ chain (λ j. chain (λ r. word (w * j + r) ++ (gap w r ∷ [])) w) m
by_lines word w zero = rw mul-zero
by_lines word w (suc m) =
    let f : ℕ → List ℕ = λ k. word k ++ (gap w k ∷ []) in
    rw (mul-suc w m)
    (chain-split f (w * m) w
    ∙ ap₂ (λ (x y : List ℕ). x ++ y) (by_lines word w m) (chain_same (λ r. f (w * m + r)) (λ r. word (w * m + r) ++ (gap w r ∷ [])) w (λ r u. rw (mul-add-mod_self_left w m r))))

-- ---- how long a text is
-- indices of so many digits at most, each with what follows it
pub index-lines-most : (w : ℕ) (is : List ℕ) → ((k : ℕ) → get_or is k 0 < 10 ^ suc w) → (n : ℕ) → length (index_lines is n) ≤ (w + 2) * n
unfolding index_lines
index-lines-most w is h zero = omega arith
index-lines-most w is h (suc n) =
    let e : length (chain (index_word is) n ++ index_word is n) ≡ length (chain (index_word is) n) + length (index_word is n) = length-append (chain (index_word is) n) (index_word is n) in
    let m : (w + 2) * suc n ≡ (w + 2) * n + (w + 2) = mul-suc (w + 2) n in
    omega (arith, e, m, index-lines-most w is h n, length-index is n, count-within w (get_or is n 0) (h n))

pub mesh-most : (B : Buffers) (c : Counts) → c.vertices.0 < 2 ^ 64 → c.indices.0 < 2 ^ 64 → ((k : ℕ) → get_or B.indices k 0 < 65536) → length (mesh_text B c) ≤ 72 * c.vertices.0 + 6 * c.indices.0 + 113
mesh-most B c p q h = omega (arith, length-mesh B c, index-lines-most 4 B.indices (λ k. omega (arith, h k)) c.indices.0, count_most c.vertices.0 p, count_most c.indices.0 q)

pub refusal-most : (n : ℕ) → n < 2 ^ 64 → length (refusal_text n) ≤ 29
refusal-most n h = omega (arith, length-refusal n, count_most n h)

-- no text is empty: 0 is the answer where nothing is written alone
pub mesh-some : (B : Buffers) (c : Counts) → 0 < length (mesh_text B c)
mesh-some B c = omega (arith, length-mesh B c)

pub refusal-some : (n : ℕ) → 0 < length (refusal_text n)
refusal-some n = omega (arith, length-refusal n)

-- ---- what a caller has of a text that was written
-- as many bytes as the answer says are the text
pub written-text : (ok : Bool) (text old new : List ℕ) (r : ℕ) → ok ≡ true → Written ok text old new r → take r new ≡ text
written-text ok text old new r e w =
    let b : new ≡ text ++ drop (length text) old = rw e at w.buffer in
    let c : r ≡ length text = rw e at w.count in
    rw (c, b) (take-append_seam text (drop (length text) old))

-- the answer counts bytes of the buffer
pub written-within : (ok : Bool) (text old new : List ℕ) (r : ℕ) → Written ok text old new r → r ≤ length new
written-within true text old new r w =
    let e : r ≡ length text = w.count in
    let b : new ≡ text ++ drop (length text) old = w.buffer in
    rw (e, b, length-append text (drop (length text) old)) (omega arith)
written-within false text old new r w = let e : r ≡ 0 = w.count in omega arith

pub written-counts : (ok : Bool) (text old new : List ℕ) (r : ℕ) → Written ok text old new r → r ≡ length (take r new)
written-counts ok text old new r w = sym (length-take-le r new (written-within ok text old new r w))
