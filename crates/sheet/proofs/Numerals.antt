-- The digits of a number: how many there are, and that the last may be written first. Assumes nothing.
use mathlib.Core.Path.{◌≡◌, refl, sym, ap, ◌∙◌}
use mathlib.Core.Bool.{Bool, true, false, not, cond}
use mathlib.Core.List.{List, [], ◌∷◌, ◌++◌, append_assoc}
use Prim.Native.Nat.{ℕ, zero, suc, ◌+◌, ◌*◌, ◌/◌, ◌%◌, ◌-◌, ◌^◌, ◌≤◌, ◌<◌}
use native.Mathlib.Nat.{pow-succ', pow-le-pow_right}
use native.Mathlib.Numerals.{add-one}
use native.Mathlib.Omega.{arith}
use borrow.Author.Tests.{lt-ltb, le-ltb}
use lib.Dec.{T, ltb, ltb→lt, nltb→le}
use lib.ListN.{length, set, drop, length-append, length-set}
use lib.Seq.{drop-cons, drop-set-lt, get_or-set_same}
use Rattle.sheet.specs.Digits.{digit, digits, divisions, digit_count}

pub length_digits : (base w n : ℕ) → length (digits base w n) ≡ w
unfolding digits
length_digits base zero n = refl
length_digits base (suc w) n = length-append (digits base w (n / base)) (digit (n % base) ∷ []) ∙ rw (length_digits base w (n / base)) (add-one w)

-- of k digits that are left to write the last is written before those that are there, and the whole is the same
pub digit-written : (base k n d : ℕ) (l whole : List ℕ) → 0 < k → k ≤ length l → d ≡ digit (n % base) → digits base k n ++ drop k l ≡ whole → digits base (k - 1) (n / base) ++ drop (k - 1) (set l (k - 1) d) ≡ whole
unfolding digits
digit-written base zero n d l whole h r e w = absurd (omega arith)
digit-written base (suc k) n d l whole h r e w =
    let p : suc k - 1 ≡ k = omega arith in
    rw (p, drop-cons (set l k d) k 0 (omega (arith, length-set l k d)), get_or-set_same l k d 0 (omega arith), drop-set-lt (suc k) l k d (omega arith), e)
    (sym (append_assoc (digits base k (n / base)) (digit (n % base) ∷ []) (drop (suc k) l)) ∙ w)

-- ---- how many digits a decimal has
of_none : (k : ℕ) → divisions k 0 ≡ 1
unfolding divisions
of_none zero = refl
of_none (suc k) = refl

-- as many divisions as the number itself are enough
enough : (k j n : ℕ) → n ≤ k → n ≤ j → divisions k n ≡ divisions j n
unfolding divisions
enough zero j n h g = let e : n ≡ 0 = omega arith in rw e (sym (of_none j))
enough (suc k) zero n h g = let e : n ≡ 0 = omega arith in rw e
enough (suc k) (suc j) n h g = go (ltb n 10) (nltb→le n 10) (enough k j (n / 10))
  where
    go : (x : Bool) → (T (not x) → 10 ≤ n) → (n / 10 ≤ k → n / 10 ≤ j → divisions k (n / 10) ≡ divisions j (n / 10)) → cond x 1 (suc (divisions k (n / 10))) ≡ cond x 1 (suc (divisions j (n / 10)))
    go true f r = refl
    go false f r = let t : 10 ≤ n = f tt in ap suc (r (omega arith) (omega arith))

pub count_small : (n : ℕ) → n < 10 → digit_count n ≡ 1
unfolding digit_count divisions
count_small zero h = refl
count_small (suc n) h = rw (lt-ltb (suc n) 10 h)

pub count-more : (n : ℕ) → 10 ≤ n → digit_count n ≡ suc (digit_count (n / 10))
unfolding digit_count divisions
count-more zero h = absurd (omega arith)
count-more (suc n) h = rw (le-ltb (suc n) 10 h) (ap suc (enough n (suc n / 10) (suc n / 10) (omega arith) (omega arith)))

pub count-within : (k n : ℕ) → n < 10 ^ suc k → digit_count n ≤ suc k
count-within zero n h = let p : 10 ^ 1 ≡ 10 = refl in let e : digit_count n ≡ 1 = count_small n (omega arith) in omega arith
count-within (suc k) n h = go (ltb n 10) (ltb→lt n 10) (nltb→le n 10) (count-within k (n / 10))
  where
    go : (x : Bool) → (T x → n < 10) → (T (not x) → 10 ≤ n) → (n / 10 < 10 ^ suc k → digit_count (n / 10) ≤ suc k) → digit_count n ≤ suc (suc k)
    go true s f r = let e : digit_count n ≡ 1 = count_small n (s tt) in omega arith
    go false s f r =
        let p : 10 ^ suc (suc k) ≡ 10 * 10 ^ suc k = pow-succ' 10 (suc k) in
        let e : digit_count n ≡ suc (digit_count (n / 10)) = count-more n (f tt) in
        let q : digit_count (n / 10) ≤ suc k = r (omega arith) in
        omega arith

count-least : (k n : ℕ) → 10 ^ k ≤ n → suc k ≤ digit_count n
count-least zero n h = go (ltb n 10) (ltb→lt n 10) (nltb→le n 10)
  where
    go : (x : Bool) → (T x → n < 10) → (T (not x) → 10 ≤ n) → 1 ≤ digit_count n
    go true s f = let e : digit_count n ≡ 1 = count_small n (s tt) in omega arith
    go false s f = let e : digit_count n ≡ suc (digit_count (n / 10)) = count-more n (f tt) in omega arith
count-least (suc k) n h =
    let p : 10 ^ suc k ≡ 10 * 10 ^ k = pow-succ' 10 k in
    let q : 10 ^ 0 ≤ 10 ^ k = pow-le-pow_right {n = 10} (omega arith) {i = 0} {j = k} (omega arith) in
    let e : digit_count n ≡ suc (digit_count (n / 10)) = count-more n (omega arith) in
    omega (arith, count-least k (n / 10) (omega arith))

-- between a power of ten and the next the count is the power's, and one more
pub count-between : (k n : ℕ) → 10 ^ k ≤ n → n < 10 * 10 ^ k → k + 1 ≡ digit_count n
count-between k n h g = omega (arith, count-least k n h, count-within k n (rw (pow-succ' 10 k) g))

-- 64 bits are never more than twenty digits
pub count_most : (n : ℕ) → n < 2 ^ 64 → digit_count n ≤ 20
count_most n h = count-within 19 n (omega arith)
