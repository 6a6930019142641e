-- The steps of `place` and `nearest` on plain numbers. Assumes nothing.
use Rattle.std.proofs.Common.{◌≡◌, ℕ, zero, suc, ◌+◌, ◌-◌, ◌*◌, ◌/◌, ◌%◌, ◌^◌, ◌<◌, ◌≤◌, sym, refl, ap, ◌∙◌, subst, ap₂, inl, inr, le_trans, le_of_eq, lt_of_lt_of_le, lt_of_le_of_lt, mul-le-mul_right, mod-lt, mod-eq_of_lt, mul_assoc, add-mul, one-mul, div-add-mod', add-one, arith, lit<, pow_mono, pow-add, shl_lt}
use native.Mathlib.Nat.{div-eq_of_lt, div-eq_of_lt-le, mul-mod_left}
use lib.Ieee.Nearest.{closest}
use Rattle.arith.specs.Parts.{Placed}
use Rattle.arith.proofs.Digits.{pow_lt_back}
use Rattle.arith.proofs.Rounding.{three, closest-lt, closest-eq, closest-gt}

-- ---- `place`: z zeros above the leading digit, which is that of 2 ^ j
module _ (sig exp zeros z j : ℕ) (zj : z + suc j ≡ 64) (lo : 2 ^ j ≤ sig) (hi : sig < 2 ^ suc j) (fit : sig < 2 ^ (64 - zeros)) (some : zeros ≤ 63) (big : 63 ≤ exp + zeros) where
  j-lt : j < 64 - zeros
  j-lt = pow_lt_back j (64 - zeros) (lt_of_le_of_lt lo fit)

  pub enough : zeros ≤ z
  enough = let l : j < 64 - zeros = j-lt in omega arith

  pub spare : z - zeros ≤ exp
  spare = let l : j < 64 - zeros = j-lt in omega arith

  abbrev n : ℕ
  n = z - zeros

  above : 2 ^ (63 - zeros) ≤ sig * 2 ^ n
  above =
      let e : j + n ≡ 63 - zeros = (let l : j < 64 - zeros = j-lt in omega arith) in
      subst (λ (y : ℕ). 2 ^ y ≤ sig * 2 ^ n) e (le_trans (le_of_eq (pow-add 2 j n)) (mul-le-mul_right (2 ^ n) lo))

  below : sig * 2 ^ n < 2 ^ (64 - zeros)
  below =
      let e : suc j + n ≡ 64 - zeros = (let l : j < 64 - zeros = j-lt in omega arith) in
      subst (λ (y : ℕ). sig * 2 ^ n < 2 ^ y) e (shl_lt (suc j) n hi)

  word : (sig * 2 ^ n) % 2 ^ 64 ≡ sig * 2 ^ n
  word = mod-eq_of_lt (lt_of_lt_of_le below (pow_mono (let g : 64 - zeros ≤ 64 = omega arith in g)))

  pub placed : Placed sig exp zeros ((sig * 2 ^ n) % 2 ^ 64) (exp - n)
  placed =
      let l : z - zeros ≤ exp = spare in
      let s : n + (exp - n) ≡ exp = omega arith in
      let b : n ≡ exp - (exp - n) = omega arith in
      subst (λ (m : ℕ). Placed sig exp zeros m (exp - n)) (sym word) record {
        value = mul_assoc sig (2 ^ n) (2 ^ (exp - n)) ∙ ap (λ (y : ℕ). sig * y) (sym (pow-add 2 n (exp - n)) ∙ ap (λ (y : ℕ). 2 ^ y) s);
        moved = ap (λ (y : ℕ). sig * 2 ^ y) b;
        lead = above;
        small = below;
        high = omega arith;
        low = omega arith;
      }

-- a number below 2 ^ i whose leading digit went up to that of 2 ^ 61 has 61 - i zeros at its end, and one more
pub zeros_of : (sig i n m : ℕ) → sig < 2 ^ i → m ≡ sig * 2 ^ n → 2 ^ 61 ≤ m → i ≤ 48 → m % 2 ^ 14 ≡ 0
zeros_of sig i n m h e l k =
    let g : 61 < i + n = pow_lt_back 61 (i + n) (lt_of_le_of_lt (le_trans l (le_of_eq e)) (shl_lt i n h)) in
    let s : n ≡ n - 14 + 14 = omega arith in
    ap (λ (y : ℕ). y % 2 ^ 14) (e ∙ ap (λ (y : ℕ). sig * 2 ^ y) s ∙ ap (λ (y : ℕ). sig * y) (pow-add 2 (n - 14) 14) ∙ sym (mul_assoc sig (2 ^ (n - 14)) (2 ^ 14)))
    ∙ mul-mod_left (sig * 2 ^ (n - 14)) (2 ^ 14)

-- ---- `nearest`: q * (h * 2) + r with half a unit h
module _ (x h q r : ℕ) (hp : 0 < h) (iq : x / (h * 2) ≡ q) (ir : x % (h * 2) ≡ r) where
  made : q * (h * 2) + r ≡ x
  made = ap₂ (λ (a b : ℕ). a * (h * 2) + b) (sym iq) (sym ir) ∙ div-add-mod' x (h * 2)

  short : r < h * 2
  short = subst (λ (y : ℕ). y < h * 2) ir (mod-lt x (omega arith))

  -- a quotient that goes up by i
  up : (i : ℕ) → i * (h * 2) ≤ r + (h - 1) + q % 2 → r + (h - 1) + q % 2 < i * (h * 2) + h * 2 → (x + (h - 1) + q % 2) / (h * 2) ≡ q + i
  up i l g =
      div-eq_of_lt-le (h * 2)
      (let e : (q + i) * (h * 2) ≡ q * (h * 2) + i * (h * 2) = add-mul q i (h * 2) in let m : q * (h * 2) + r ≡ x = made in omega arith)
      (let e : (q + i + 1) * (h * 2) ≡ q * (h * 2) + i * (h * 2) + h * 2 = add-mul (q + i) 1 (h * 2) ∙ ap₂ (λ (a b : ℕ). a + b) (add-mul q i (h * 2)) (one-mul (h * 2)) in
      let m : q * (h * 2) + r ≡ x = made in
      omega arith)

  zero-times : 0 * (h * 2) ≡ 0
  zero-times = omega arith

  one-times : 1 * (h * 2) ≡ h * 2
  one-times = omega arith

  pub halved : (x + (h - 1) + q % 2) / (h * 2) ≡ closest x (h * 2)
  halved = elim (three r h) [
    | inl l ↦ up 0 (omega arith) (omega arith) ∙ omega arith ∙ sym (closest-lt x (h * 2) q r iq ir (omega arith))
    | inr (inl e) ↦ even (q % 2) refl e ∙ sym (closest-eq x (h * 2) q r iq ir (omega arith))
    | inr (inr g) ↦ (let s : r < h * 2 = short in up 1 (omega arith) (omega arith)) ∙ add-one q ∙ sym (closest-gt x (h * 2) q r iq ir (omega arith))
  ]
    where
      even : (p : ℕ) → q % 2 ≡ p → r ≡ h → (x + (h - 1) + q % 2) / (h * 2) ≡ q + q % 2
      even zero e f = up 0 (omega arith) (omega arith) ∙ omega arith
      even (suc zero) e f = up 1 (omega arith) (omega arith) ∙ omega arith
      even (suc (suc p)) e f = absurd (let g : q % 2 < 2 = mod-lt q (lit< tt) in omega arith)

pub near-far : (x sh : ℕ) → x < 2 ^ 63 → 63 < sh → 0 ≡ closest x (2 ^ sh)
near-far x sh h k =
    let l : x * 2 < 2 ^ sh = lt_of_lt_of_le (let g : x * 2 < 2 ^ 64 = omega arith in g) (pow_mono k) in
    let m : x < 2 ^ sh = omega arith in
    sym (closest-lt x (2 ^ sh) 0 x (div-eq_of_lt m) (mod-eq_of_lt m) l)

-- 1 << (sh - 1) is half of 2 ^ sh
pub half-word : (sh : ℕ) → 0 < sh → sh ≤ 63 → (1 * 2 ^ (sh - 1)) % 2 ^ 64 ≡ 2 ^ (sh - 1)
half-word sh h k =
    ap (λ (y : ℕ). y % 2 ^ 64) (one-mul (2 ^ (sh - 1)))
    ∙ mod-eq_of_lt (lt_of_le_of_lt (pow_mono (let g : sh - 1 ≤ 63 = omega arith in g)) (let g : 2 ^ 63 < 2 ^ 64 = lit< tt in g))

pub half_twice : (sh : ℕ) → 0 < sh → 2 ^ (sh - 1) * 2 ≡ 2 ^ sh
half_twice sh h = sym (pow-add 2 (sh - 1) 1) ∙ ap (λ (y : ℕ). 2 ^ y) (omega arith)
