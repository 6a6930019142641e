-- How many binary digits a number has, and what is left of it when digits are cut off. Assumes nothing.
use Rattle.std.proofs.Common.{◌≡◌, ℕ, suc, ◌+◌, ◌-◌, ◌*◌, ◌/◌, ◌^◌, ◌<◌, ◌≤◌, sym, ◌∙◌, subst, le_trans, le_of_eq, lt_of_lt_of_le, le_of_suc-le-suc, lt_irrefl, mul-le-mul_right, div-lt_iff_lt-mul, le_antisymm, lt_of_not-le, not-le_of_lt, arith, pow_pos, pow_mono, pow-add, shl_lt, shr_lt}
use lib.Pow.{pow-lt}
use lib.Ieee.{size}
use lib.Ieee.Digits.{size-lt, size-le}

pub pow_lt_back : (i p : ℕ) → 2 ^ i < 2 ^ p → i < p
pow_lt_back i p h = lt_of_not-le (λ (g : p ≤ i). lt_irrefl (2 ^ i) (lt_of_lt_of_le h (pow_mono g)))

pub pow_le_back : (i p : ℕ) → 2 ^ i ≤ 2 ^ p → i ≤ p
pow_le_back i p h = le_of_suc-le-suc (lt_of_not-le (λ (g : suc p ≤ i). lt_irrefl (2 ^ p) (lt_of_lt_of_le (pow-lt g) h)))

pub size-gt : (n j : ℕ) → 2 ^ j ≤ n → j < size n
size-gt n j h = lt_of_not-le (λ (g : size n ≤ j). not-le_of_lt (lt_of_lt_of_le (size-lt n) (pow_mono g)) h)

pub size_is : (n j : ℕ) → 2 ^ j ≤ n → n < 2 ^ (j + 1) → size n ≡ j + 1
size_is n j h k = let a : size n ≤ j + 1 = size-le n (j + 1) k in let b : j < size n = size-gt n j h in omega arith

-- k zeros more at the end
pub size-shl : (n j k : ℕ) → 2 ^ j ≤ n → n < 2 ^ (j + 1) → size (n * 2 ^ k) ≡ j + 1 + k
size-shl n j k h g =
    let e : j + k + 1 ≡ j + 1 + k = omega arith in
    size_is (n * 2 ^ k) (j + k) (le_trans (le_of_eq (pow-add 2 j k)) (mul-le-mul_right (2 ^ k) h)) (subst (λ (x : ℕ). n * 2 ^ k < 2 ^ x) (sym e) (shl_lt (j + 1) k g))
    ∙ e

cover : (z j : ℕ) → z ≤ z - j + j
cover z j = omega arith

fewer : (z y j : ℕ) → z ≤ y + j → z - j ≤ y
fewer z y j h = omega arith

-- j digits cut off at the end
pub size-shr : (n j : ℕ) → size (n / 2 ^ j) ≡ size n - j
size-shr n j =
    le_antisymm
    (size-le (n / 2 ^ j) (size n - j) (shr_lt (size n - j) j (lt_of_lt_of_le (size-lt n) (pow_mono (cover (size n) j)))))
    (fewer (size n) (size (n / 2 ^ j)) j
    (size-le n (size (n / 2 ^ j) + j) (lt_of_lt_of_le ((div-lt_iff_lt-mul (pow_pos j)).0 (size-lt (n / 2 ^ j))) (le_of_eq (sym (pow-add 2 (size (n / 2 ^ j)) j))))))
