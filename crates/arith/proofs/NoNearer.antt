-- `root x` is the nearest: no `f32`, of either sign, is nearer to the exact root of x, and the answer fits binary32. Assumes nothing.
-- Values count units of 2 ^ -149, of which every `f32` is a whole number: x is a units, y is q and root x is p. The root of x is then that of n = a * 2 ^ 149.
use Rattle.std.proofs.Common.{◌≡◌, ℕ, zero, suc, ◌+◌, ◌-◌, ◌*◌, ◌/◌, ◌%◌, ◌^◌, ◌<◌, ◌≤◌, Bool, true, false, ◌&&◌, T, eqb, ltb, leb, ◌⊎◌, ℤ, pos, negsuc, sym, refl, ap, ◌∙◌, subst, inl, inr, le_trans, le_of_eq, lt_of_lt_of_le, le_of_suc-le-suc, lt_of_le_of_lt, le_of_lt, mul-le-mul_right, mod-lt, mul_assoc, suc-mul, mul_comm, mul-le-mul, lt_of_mul-lt-mul_right, eq-or-lt_of_le, mul-le-mul_left, mul-lt-mul_of_pos_right, lt_of_not-le, div-add-mod', le-div_iff_mul-le, zero-add, zero-mul, mul-one, mul_right_comm, not-le_of_lt, arith, lit<, lit≤, ltb→lt, leb→le, pow_pos, pow_mono, pow-add}
use Prim.Native.Nat.{compare}
use native.Mathlib.Nat.{le_dest, pow-succ', eq_of_mul-eq-mul_right}
use native.Mathlib.Decide.{dec_le}
use lib.Pow.{pow-lt}
use lib.Ieee.{Float, nan, inf, fin, binary32, up, down, fits, size, units, to_bits}
use lib.Ieee.Digits.{size_reaches}
use lib.Ieee.Fits.{and_l, and_r, down_pos, round-fits, nan-fits}
use lib.Ieee.Exact.{HasValue, units_val}
use lib.Ieee.Nearest.{closest, nearest-ge}
use lib.Ieee.Scale.{finite}
use Rattle.arith.specs.Digit.{flag}
use Rattle.arith.specs.Pattern.{worth}
use Rattle.arith.proofs.Values.{sign, held}
use Rattle.arith.specs.Root.{isqrt, root, NoFarther}
use Rattle.arith.proofs.Digits.{size-gt}
use Rattle.arith.proofs.Rounding.{three, closest-lt, closest-eq, closest-gt, round-pow}
use Rattle.arith.proofs.WholeRoots.{Floor, isqrt-floor, le-root, double, opened}
use Rattle.arith.proofs.RootCases.{root-pos}

-- ---- a fraction x / b and the nearest whole number: at most half a unit apart
module _ (x b : ℕ) (B : 0 < b) where
  abbrev c : ℕ
  c = closest x b

  abbrev w : ℕ
  w = x / b

  abbrev r : ℕ
  r = x % b

  made : w * b + r ≡ x
  made = div-add-mod' x b

  pub half-apart : (2 * (c * b) ≤ 2 * x + b) × (2 * x ≤ 2 * (c * b) + b)
  half-apart = elim (three (r * 2) b) [
    | inl l ↦ at w (closest-lt x b w r refl refl l) (let m : w * b + r ≡ x = made in (omega arith, omega arith))
    | inr (inl e) ↦ at (w + w % 2) (closest-eq x b w r refl refl e) (tie (w % 2) refl e)
    | inr (inr g) ↦
        at (suc w) (closest-gt x b w r refl refl g)
        (let m : w * b + r ≡ x = made in let s : suc w * b ≡ w * b + b = suc-mul w b in let l : r < b = mod-lt x B in (omega arith, omega arith))
  ]
    where
      at : (y : ℕ) → c ≡ y → (2 * (y * b) ≤ 2 * x + b) × (2 * x ≤ 2 * (y * b) + b) → (2 * (c * b) ≤ 2 * x + b) × (2 * x ≤ 2 * (c * b) + b)
      at y e h = subst (λ (z : ℕ). (2 * (z * b) ≤ 2 * x + b) × (2 * x ≤ 2 * (z * b) + b)) (sym e) h

      tie : (i : ℕ) → w % 2 ≡ i → r * 2 ≡ b → (2 * ((w + w % 2) * b) ≤ 2 * x + b) × (2 * x ≤ 2 * ((w + w % 2) * b) + b)
      tie zero i e =
          let m : w * b + r ≡ x = made in
          let s : (w + w % 2) * b ≡ w * b = ap (λ (z : ℕ). (w + z) * b) i ∙ ap (λ (z : ℕ). z * b) (omega arith) in
          (omega arith, omega arith)
      tie (suc zero) i e =
          let m : w * b + r ≡ x = made in
          let s : (w + w % 2) * b ≡ w * b + b = ap (λ (z : ℕ). (w + z) * b) i ∙ ap (λ (z : ℕ). z * b) (let g : w + 1 ≡ suc w = omega arith in g) ∙ suc-mul w b in
          (omega arith, omega arith)
      tie (suc (suc j)) i e = absurd (let g : w % 2 ≡ suc (suc j) = i in omega arith)

-- ---- the numbers of 24 digits, each times a power of two: the next below and above R * 2 ^ k
module _ (m i k R : ℕ) (h : m < 2 ^ 24) (l : 2 ^ 23 ≤ R) where
  -- one on a finer grid is at most 2 ^ 23 * 2 ^ k
  finer : i < k → m * 2 ^ i ≤ 2 ^ 23 * 2 ^ k
  finer g =
      le_trans (mul-le-mul_right (2 ^ i) (le_of_lt h))
      (le_trans (le_of_eq (mul_assoc 8388608 2 (2 ^ i) ∙ ap (λ (x : ℕ). 8388608 * x) (sym (pow-succ' 2 i)))) (mul-le-mul_left (2 ^ 23) (pow_mono {i = suc i} {j = k} g)))

  coarser : k ≤ i → (d : ℕ) × (m * 2 ^ i ≡ d * 2 ^ k)
  coarser g =
      let t = le_dest g in
      (m * 2 ^ t.0, ap (λ (x : ℕ). m * 2 ^ x) (sym t.1) ∙ ap (λ (x : ℕ). m * x) (pow-add 2 k t.0 ∙ mul_comm (2 ^ k) (2 ^ t.0)) ∙ sym (mul_assoc m (2 ^ t.0) (2 ^ k)))

  next-below : m * 2 ^ i < R * 2 ^ k → (m * 2 ^ i + 2 ^ k ≤ R * 2 ^ k) ⊎ (R ≡ 2 ^ 23)
  next-below b = go (dec_le k i) (eq-or-lt_of_le l)
    where
      go : Dec (k ≤ i) → (2 ^ 23 ≡ R) ⊎ (2 ^ 23 < R) → (m * 2 ^ i + 2 ^ k ≤ R * 2 ^ k) ⊎ (R ≡ 2 ^ 23)
      go (yes g) c =
          let t = coarser g in
          let u : suc t.0 * 2 ^ k ≤ R * 2 ^ k = mul-le-mul_right (2 ^ k) (lt_of_mul-lt-mul_right (2 ^ k) (lt_of_le_of_lt (le_of_eq (sym t.1)) b)) in
          inl (omega (arith, t.1, suc-mul t.0 (2 ^ k)))
      go (no f) (inl e) = inr (sym e)
      go (no f) (inr g) =
          let a : m * 2 ^ i ≤ 2 ^ 23 * 2 ^ k = finer (lt_of_not-le f) in
          let u : suc 8388608 * 2 ^ k ≤ R * 2 ^ k = mul-le-mul_right (2 ^ k) g in
          inl (omega arith)

  next-above : R * 2 ^ k < m * 2 ^ i → R * 2 ^ k + 2 ^ k ≤ m * 2 ^ i
  next-above b = go (dec_le k i)
    where
      go : Dec (k ≤ i) → R * 2 ^ k + 2 ^ k ≤ m * 2 ^ i
      go (yes g) =
          let t = coarser g in
          let u : suc R * 2 ^ k ≤ t.0 * 2 ^ k = mul-le-mul_right (2 ^ k) (lt_of_mul-lt-mul_right (2 ^ k) (lt_of_lt_of_le b (le_of_eq t.1))) in
          omega (arith, t.1, suc-mul R (2 ^ k))
      go (no f) = absurd (not-le_of_lt b (le_trans (finer (lt_of_not-le f)) (mul-le-mul_right (2 ^ k) l)))

-- ---- what `fits` says of a value above zero
digits_of : (s : Bool) (m : ℕ) (e : ℤ) → T (fits binary32 (fin s (suc m) e)) → (suc m < 2 ^ 24) × (down e ≤ 2 ^ 149) × (suc m * up e < 2 ^ 128 * down e)
unfolding fits
digits_of s m e t =
    let a : Bool = eqb (suc m % 2) 1 in
    let b : Bool = ltb (suc m) (2 ^ 24) in
    let c : Bool = leb (down e) (2 ^ 149) in
    let d : Bool = ltb (suc m * up e) (2 ^ 128 * down e) in
    let abc : T (a && b && c) = and_l (a && b && c) d t in (
      ltb→lt (suc m) (2 ^ 24) (and_r a b (and_l (a && b) c abc)),
      leb→le (down e) (2 ^ 149) (and_r (a && b) c abc),
      ltb→lt (suc m * up e) (2 ^ 128 * down e) (and_r (a && b && c) d t),
    )

-- a number of 24 digits times a power of two
abbrev Grid : ℕ → Type 0
Grid q = (m : ℕ) × (i : ℕ) × (m < 2 ^ 24) × (q ≡ m * 2 ^ i)

at-exponent : (m : ℕ) (e : ℤ) (q : ℕ) → m < 2 ^ 24 → down e ≤ 2 ^ 149 → m * up e * 2 ^ 149 ≡ q * down e → Grid q
at-exponent m (pos a) q h d v = (m, a + 149, h, sym (mul-one q) ∙ sym v ∙ mul_assoc m (2 ^ a) (2 ^ 149) ∙ ap (λ (x : ℕ). m * x) (sym (pow-add 2 a 149)))
at-exponent m (negsuc a) q h d v =
    let t = le_dest (le_of_suc-le-suc (lt_of_not-le (λ (g : suc 149 ≤ suc a). not-le_of_lt (pow-lt g) d))) in (
      m,
      t.0,
      h,
      eq_of_mul-eq-mul_right (2 ^ suc a) (pow_pos (suc a)) q (m * 2 ^ t.0)
          (sym v ∙ ap (λ (x : ℕ). x * 2 ^ 149) (mul-one m) ∙ ap (λ (x : ℕ). m * 2 ^ x) (sym t.1)
          ∙ ap (λ (x : ℕ). m * x) (pow-add 2 (suc a) t.0 ∙ mul_comm (2 ^ suc a) (2 ^ t.0))
          ∙ sym (mul_assoc m (2 ^ t.0) (2 ^ suc a))),
    )

zero-units : (e : ℤ) (q : ℕ) → 0 * up e * 2 ^ 149 ≡ q * down e → q ≡ 0
zero-units e q v = eq_of_mul-eq-mul_right (down e) (down_pos e) q 0 (sym v ∙ ap (λ (x : ℕ). x * 2 ^ 149) (zero-mul (up e)) ∙ sym (zero-mul (down e)))

grid-of : (y : Float) (t : Bool) (q : ℕ) → T (fits binary32 y) → HasValue y t q (2 ^ 149) → Grid q
grid-of nan t q f v = absurd v
grid-of (inf s) t q f v = absurd v
grid-of (fin s zero e) t q f v = (0, 0, lit< tt, zero-units e q v.1)
grid-of (fin s (suc m) e) t q f v = let d = digits_of s m e f in at-exponent (suc m) e q d.0 d.1 v.1

-- every `f32` is below 2 ^ 277 units
below_top : (x : Float) (t : Bool) (a : ℕ) → T (fits binary32 x) → HasValue x t a (2 ^ 149) → a < 2 ^ 277
below_top nan t a f v = absurd v
below_top (inf s) t a f v = absurd v
below_top (fin s zero e) t a f v = subst (λ (x : ℕ). x < 2 ^ 277) (sym (zero-units e a v.1)) (lit< tt)
below_top (fin s (suc m) e) t a f v =
    lt_of_mul-lt-mul_right (down e)
    (lt_of_le_of_lt (le_of_eq (sym v.1)) (lt_of_lt_of_le (mul-lt-mul_of_pos_right (digits_of s m e f).2 (pow_pos 149)) (le_of_eq (mul_right_comm (2 ^ 128) (down e) (2 ^ 149)))))

-- ---- the root of n with its whole part s and its digit, rounded to R * 2 ^ k
module _ (n s : ℕ) (f : Floor n s) where
  under : (w : ℕ) → w ≤ 2 * s → w * w ≤ 4 * n
  under w h = le_trans (mul-le-mul h h) (omega (arith, double s, f.0))

  over : (w : ℕ) → 2 * suc s ≤ w → 4 * n ≤ w * w
  over w h = le_trans (omega (arith, double (suc s), f.1)) (mul-le-mul h h)

  abbrev X : ℕ
  X = 2 * s + flag (n - s * s)

  -- an even w at or below X is at or below the root, and one at or above X is at or above it
  even-under : (v : ℕ) → 2 * v ≤ X → 2 * v * (2 * v) ≤ 4 * n
  even-under v h = under (2 * v) (go (n - s * s) refl)
    where
      go : (d : ℕ) → n - s * s ≡ d → 2 * v ≤ 2 * s
      go zero e = let g : flag (n - s * s) ≡ 0 = ap flag e in omega arith
      go (suc d) e = let g : flag (n - s * s) ≡ 1 = ap flag e in omega arith

  even-over : (v : ℕ) → X ≤ 2 * v → 4 * n ≤ 2 * v * (2 * v)
  even-over v h = go (n - s * s) refl
    where
      go : (d : ℕ) → n - s * s ≡ d → 4 * n ≤ 2 * v * (2 * v)
      go zero e =
          let g : flag (n - s * s) ≡ 0 = ap flag e in
          let l : s ≤ v = omega arith in
          omega (arith, double v, mul-le-mul l l)
      go (suc d) e = over (2 * v) (let g : flag (n - s * s) ≡ 1 = ap flag e in omega arith)

  module _ (k R : ℕ) (K : 1 ≤ k) (big : 2 ^ 23 * 2 ^ k ≤ s) (R-is : closest X (2 ^ (1 + k)) ≡ R) where
    abbrev u : ℕ
    u = 2 ^ k

    abbrev p : ℕ
    p = R * u

    -- the unit is even
    abbrev v : ℕ
    v = 2 ^ (k - 1)

    u-is : u ≡ 2 * v
    u-is = ap (λ (x : ℕ). 2 ^ x) (back k K) ∙ pow-succ' 2 (k - 1)
      where
        back : (k : ℕ) → 1 ≤ k → k ≡ suc (k - 1)
        back k K = omega arith

    -- in half units, and the half of a half
    p-near : (2 * p ≤ X + u) × (X ≤ 2 * p + u)
    p-near =
        let a = half-apart X (2 ^ (1 + k)) (pow_pos (1 + k)) in
        let b : 2 ^ (1 + k) ≡ 2 * u = pow-add 2 1 k in
        let c : closest X (2 ^ (1 + k)) * 2 ^ (1 + k) ≡ 2 * p = ap (λ (x : ℕ). x * 2 ^ (1 + k)) R-is ∙ ap (λ (x : ℕ). R * x) b ∙ sym (mul_assoc R 2 u) ∙ ap (λ (x : ℕ). x * u) (mul_comm R 2) ∙ mul_assoc 2 R u in
        (omega (arith, a.0), omega (arith, a.1))

    full : 2 ^ 23 ≤ R
    full =
        subst (λ (x : ℕ). 2 ^ 23 ≤ x) R-is
        (le_trans ((le-div_iff_mul-le (pow_pos (1 + k))).1 (let b : 2 ^ (1 + k) ≡ 2 * u = pow-add 2 1 k in omega arith)) (nearest-ge (X / 2 ^ (1 + k)) (compare (X % 2 ^ (1 + k) * 2) (2 ^ (1 + k)))))

    module _ (m i : ℕ) (h : m < 2 ^ 24) where
      abbrev q : ℕ
      q = m * 2 ^ i

      -- q + p is below 2 * p - u, which is even
      pub down-side : q < p → (q + p) * (q + p) ≤ 4 * n
      down-side b = go (next-below m i k R h full b)
        where
          go : (q + u ≤ p) ⊎ (R ≡ 2 ^ 23) → (q + p) * (q + p) ≤ 4 * n
          go (inl g) =
              let a : 2 * p ≤ X + u = p-near.0 in
              let e : u ≡ 2 * v = u-is in
              let l : q + p ≤ 2 * (p - v) = omega arith in
              le_trans (mul-le-mul l l) (even-under (p - v) (omega arith))
          go (inr g) = under (q + p) (let e : p ≡ 2 ^ 23 * u = ap (λ (x : ℕ). x * u) g in omega arith)

      pub up-side : p < q → 4 * n ≤ (q + p) * (q + p)
      up-side b =
          let a : X ≤ 2 * p + u = p-near.1 in
          let g : p + u ≤ q = next-above m i k R h full b in
          let e : u ≡ 2 * v = u-is in
          let l : 2 * (p + v) ≤ q + p = omega arith in
          le_trans (even-over (p + v) (omega arith)) (mul-le-mul l l)

-- ---- the theorem
no-farther : (n p q : ℕ) (t : Bool) → (0 < p → p * p ≤ 4 * n) → (q < p → (q + p) * (q + p) ≤ 4 * n) → (p < q → 4 * n ≤ (q + p) * (q + p)) → NoFarther n p t q
no-farther n p q false z d u = (d, u)
no-farther n p q true z d u = go (three 0 p)
  where
    less : p - q ≤ p
    less = omega arith

    go : (0 < p) ⊎ ((0 ≡ p) ⊎ (p < 0)) → (p - q) * (p - q) ≤ 4 * n
    go (inl h) = le_trans (mul-le-mul less less) (z h)
    go (inr (inl h)) = let e : p - q ≡ 0 = omega arith in omega (arith, ap (λ (x : ℕ). x * x) e)
    go (inr (inr h)) = absurd (let g : p < 0 = h in omega arith)

many : (s : ℕ) → 2 ^ 74 ≤ s → (1 ≤ size s - 24) × (2 ^ 23 * 2 ^ (size s - 24) ≤ s)
many s h = (omega (arith, z), le_trans (le_of_eq (sym (pow-add 2 23 (size s - 24)))) (size_reaches s (23 + (size s - 24)) (omega (arith, z))))
  where
    z : 74 < size s
    z = size-gt s 74 h

half_is : (s d : ℕ) → (2 * s + flag d) / 2 ≡ s
half_is s zero = omega arith
half_is s (suc d) = omega arith

module _ (x : Float) (a : ℕ) (fx : T (fits binary32 x)) (vx : HasValue x false a (2 ^ 149)) (some : 0 < a) where
  abbrev n : ℕ
  n = a * 2 ^ 149

  abbrev s : ℕ
  s = isqrt 213 n

  abbrev k : ℕ
  k = size s - 24

  abbrev R : ℕ
  R = closest (2 * s + flag (n - s * s)) (2 ^ (1 + k))

  n-lt : n < 4 ^ 213
  n-lt = mul-lt-mul_of_pos_right (below_top x false a fx vx) (pow_pos 149)

  fl : Floor n s
  fl = isqrt-floor 213 n n-lt

  enough : (1 ≤ k) × (2 ^ 23 * 2 ^ k ≤ s)
  enough = many s (le-root n s fl (2 ^ 74) (le_trans (lit≤ tt) (mul-le-mul_right (2 ^ 149) some)))

  rounded : root x ≡ units binary32 false R k
  rounded =
      root-pos x a vx some
      ∙ opened n
      ∙ round-pow binary32 false (2 * s + flag (n - s * s)) 1
      ∙ ap (λ (i : ℕ). units binary32 false (closest (2 * s + flag (n - s * s)) (2 ^ (1 + (size i - 24)))) (size i - 24)) (half_is s (n - s * s))

  beyond-zero : 0 < R * 2 ^ k → R * 2 ^ k * (R * 2 ^ k) ≤ 4 * n
  beyond-zero h = subst (λ (i : ℕ). i * i ≤ 4 * n) (zero-add (R * 2 ^ k)) (down-side n s fl k R enough.0 enough.1 refl 0 0 (lit< tt) h)

  small : R * 2 ^ k < 2 ^ 277
  small = lt_of_not-le (λ (g : 2 ^ 277 ≤ R * 2 ^ k). no g)
    where
      no : 2 ^ 277 ≤ R * 2 ^ k → ⊥
      no g =
          let l : n * 4 < 4 ^ 213 * 4 = mul-lt-mul_of_pos_right n-lt (lit< tt) in
          let b : R * 2 ^ k * (R * 2 ^ k) ≤ n * 4 = le_trans (beyond-zero (lt_of_lt_of_le (pow_pos 277) g)) (le_of_eq (mul_comm 4 n)) in
          not-le_of_lt (lt_of_le_of_lt b l) (le_trans (lit≤ tt) (mul-le-mul g g))

  nearest : (y : Float) (t : Bool) (q : ℕ) → T (fits binary32 y) → HasValue y t q (2 ^ 149) → NoFarther n (R * 2 ^ k) t q
  nearest y t q fy vy =
      let g = grid-of y t q fy vy in
      subst (λ (i : ℕ). NoFarther n (R * 2 ^ k) t i) (sym g.3)
      (no-farther n (R * 2 ^ k) (g.0 * 2 ^ g.1) t beyond-zero
      (down-side n s fl k R enough.0 enough.1 refl g.0 g.1 g.2)
      (up-side n s fl k R enough.0 enough.1 refl g.0 g.1 g.2))

  answer : HasValue (root x) false (R * 2 ^ k) (2 ^ 149)
  answer = subst (λ (v : Float). HasValue v false (R * 2 ^ k) (2 ^ 149)) (sym rounded) (units_val binary32 false R k small)

-- ---- the answer fits
pub root-fits : (x : Float) → T (fits binary32 x) → T (fits binary32 (root x))
unfolding root
root-fits nan f = nan-fits binary32
root-fits (inf false) f = f
root-fits (inf true) f = nan-fits binary32
root-fits (fin s zero e) f = f
root-fits (fin true (suc m) e) f = nan-fits binary32
root-fits (fin false (suc m) e) f =
    let n = suc m * up e * 2 ^ 298 / down e in
    subst (λ (v : Float). T (fits binary32 v)) (sym (opened n)) (round-fits binary32 false (2 * isqrt 213 n + flag (n - isqrt 213 n * isqrt 213 n)) (2 ^ 150))

-- The theorem: an `f32` x above zero has a root that fits binary32, of p units, and no finite `f32` y is nearer to the exact root. An infinity is farther than any number.
pub no-nearer : (x : Float) (a : ℕ) → T (fits binary32 x) → HasValue x false a (2 ^ 149) → 0 < a
    → T (fits binary32 (root x)) × ((p : ℕ) × HasValue (root x) false p (2 ^ 149) × ((y : Float) (t : Bool) (q : ℕ) → T (fits binary32 y) → HasValue y t q (2 ^ 149) → NoFarther (a * 2 ^ 149) p t q))
no-nearer x a f v h = (root-fits x f, (R x a f v h * 2 ^ k x a f v h, answer x a f v h, nearest x a f v h))

-- and each finite `f32` is a whole number of units
pub whole-units : (y : Float) → T (fits binary32 y) → T (finite y) → (t : Bool) × (q : ℕ) × HasValue y t q (2 ^ 149)
whole-units y f h = (sign y, worth (to_bits binary32 y), held y f h)
