-- `isqrt` is the whole part of the root, and the nearest whole number to the root of a significand is what `root_of` rounds to. Assumes nothing.
use Rattle.std.proofs.Common.{◌≡◌, ℕ, zero, suc, ◌+◌, ◌-◌, ◌*◌, ◌/◌, ◌%◌, ◌^◌, ◌<◌, ◌≤◌, max, Bool, true, false, cond, not, T, leb, sym, refl, ap, ◌∙◌, subst, ap₂, le_trans, le_of_eq, lt_of_lt_of_le, le_of_suc-le-suc, lt_of_le_of_lt, le_of_lt, mul-le-mul_right, zero-lt-suc, mul_assoc, mul_comm, div-lt_iff_lt-mul, add-mul, mul-le-mul, mul-lt-mul_of_pos_right, mul-pos, one-mul, pow-suc, lt_of_not-le, mul-one, mul-add, not-le_of_lt, add-one, arith, lit≤, leb→le, pow_pos, pow_mono, pow-add}
use native.Mathlib.Nat.{mul-mul-mul_comm, eq_of_mul-eq-mul_right}
use lib.Dec.{nleb→lt}
use lib.Ieee.{binary32, round, of_bits}
use lib.Ieee.Nearest.{closest}
use Rattle.arith.specs.Digit.{flag}
use Rattle.arith.specs.Pattern.{packed}
use Rattle.arith.specs.Root.{isqrt, step, root_of}
use Rattle.arith.specs.Parts.{NearestRoot}
use Rattle.arith.proofs.Rounding.{flag-le, flag-pos, one-digit, closest-lt, closest-gt}
use Rattle.arith.proofs.Packing.{finished}

-- ---- `isqrt`
abbrev pub Floor : ℕ → ℕ → Type 0
Floor n r = (r * r ≤ n) × (n < suc r * suc r)

pub double : (r : ℕ) → 2 * r * (2 * r) ≡ 4 * (r * r)
double r = mul-mul-mul_comm 2 r 2 r

pub square-suc : (q : ℕ) → (q + 1) * (q + 1) ≡ q * q + 2 * q + 1
square-suc q = simp (add-mul, mul-add, mul-one, one-mul) (omega arith)

pub suc-square : (r : ℕ) → suc r * suc r ≡ r * r + 2 * r + 1
suc-square r = ap (λ (x : ℕ). x * x) (sym (add-one r)) ∙ square-suc r

step-floor : (r n : ℕ) → Floor (n / 4) r → Floor n (step (2 * r) n)
step-floor r n f = go (leb (suc (2 * r) * suc (2 * r)) n) (leb→le (suc (2 * r) * suc (2 * r)) n) (nleb→lt (suc (2 * r) * suc (2 * r)) n)
  where
    go : (b : Bool) → (T b → suc (2 * r) * suc (2 * r) ≤ n) → (T (not b) → n < suc (2 * r) * suc (2 * r)) → Floor n (cond b (suc (2 * r)) (2 * r))
    go true y z = (y tt, omega (arith, f.1, suc-square r, suc-square (suc (2 * r)), suc-square (2 * r), double r))
    go false y z = (omega (arith, f.0, double r), z tt)

pub isqrt-floor : (d n : ℕ) → n < 4 ^ d → Floor n (isqrt d n)
unfolding isqrt
isqrt-floor zero n h = (omega arith, omega arith)
isqrt-floor (suc d) n h = step-floor (isqrt d (n / 4)) n (isqrt-floor d (n / 4) ((div-lt_iff_lt-mul (zero-lt-suc 3)).1 (subst (λ (x : ℕ). n < x) (pow-suc 4 d) h)))

module _ (n s : ℕ) (f : Floor n s) where
  pub le-root : (a : ℕ) → a * a ≤ n → a ≤ s
  le-root a h = le_of_suc-le-suc (lt_of_not-le (λ (g : suc s ≤ a). not-le_of_lt f.1 (le_trans (mul-le-mul g g) h)))

  pub lt-root : (a : ℕ) → n < a * a → s < a
  lt-root a h = lt_of_not-le (λ (g : a ≤ s). not-le_of_lt h (le_trans (mul-le-mul g g) f.0))

-- ---- the root of n = A * 4 ^ j, of which q is the leading digits: the rest below them is zero exactly where q * q is A
module _ (n A j s q : ℕ) (e : n ≡ A * (2 ^ j * 2 ^ j)) (f : Floor n s) (g : Floor A q) where
  abbrev p : ℕ
  p = 2 ^ j

  low : q * p ≤ s
  low = le-root n s f (q * p) (le_trans (le_of_eq (mul-mul-mul_comm q p q p)) (le_trans (mul-le-mul_right (p * p) g.0) (le_of_eq (sym e))))

  high : s < suc q * p
  high =
      lt-root n s f (suc q * p)
      (lt_of_le_of_lt (le_of_eq e) (lt_of_lt_of_le (mul-lt-mul_of_pos_right g.1 (mul-pos (pow_pos j) (pow_pos j))) (le_of_eq (sym (mul-mul-mul_comm (suc q) p (suc q) p)))))

  next : suc q * p ≡ q * p + p
  next = ap (λ (x : ℕ). x * p) (sym (add-one q)) ∙ add-mul q 1 p ∙ ap (λ (x : ℕ). q * p + x) (one-mul p)

  -- the rest, in half units
  abbrev rest : ℕ
  rest = 2 * (s - q * p) + flag (n - s * s)

  rest_lt : rest < 2 ^ (j + 1)
  rest_lt =
      let a : q * p ≤ s = low in
      let b : s < suc q * p = high in
      let c : suc q * p ≡ q * p + p = next in
      let d : flag (n - s * s) ≤ 1 = flag-le (n - s * s) in
      let w : 2 ^ (j + 1) ≡ p * 2 = pow-add 2 j 1 in
      omega arith

  split : 2 * s + flag (n - s * s) ≡ q * 2 ^ (j + 1) + rest
  split =
      let a : q * p ≤ s = low in
      let w : q * 2 ^ (j + 1) ≡ q * p * 2 = ap (λ (x : ℕ). q * x) (pow-add 2 j 1) ∙ sym (mul_assoc q p 2) in
      omega arith

  square-of : s ≡ q * p → s * s ≡ q * q * (p * p)
  square-of h = ap (λ (x : ℕ). x * x) h ∙ mul-mul-mul_comm q p q p

  -- the same digit stands for both rests
  flags : flag rest ≡ flag (A - q * q)
  flags = go (A - q * q) refl
    where
      go : (x : ℕ) → A - q * q ≡ x → flag rest ≡ flag (A - q * q)
      go zero z =
          let a : A ≡ q * q = (let l : q * q ≤ A = g.0 in omega arith) in
          let m : n ≡ q * p * (q * p) = e ∙ ap (λ (x : ℕ). x * (p * p)) a ∙ sym (mul-mul-mul_comm q p q p) in
          let u : s ≤ q * p = le_of_suc-le-suc (lt-root n s f (suc (q * p)) (lt_of_le_of_lt (le_of_eq m) (let k : suc (q * p) * suc (q * p) ≡ q * p * (q * p) + 2 * (q * p) + 1 = suc-square (q * p) in omega arith))) in
          let l : q * p ≤ s = low in
          let v : s ≡ q * p = omega arith in
          let w : n - s * s ≡ 0 = (let k : s * s ≡ q * p * (q * p) = ap (λ (x : ℕ). x * x) v in omega arith) in
          let r : rest ≡ 0 = (let k : flag (n - s * s) ≡ 0 = ap flag w in omega arith) in
          ap flag r ∙ sym (ap flag z)
      go (suc x) z = flag-pos rest (lt_of_not-le (λ (h : rest ≤ 0). no h)) ∙ sym (ap flag z)
        where
          exact : (y : ℕ) → n - s * s ≡ y → flag (n - s * s) ≡ 0 → n ≤ s * s
          exact zero h k = omega arith
          exact (suc y) h k = absurd (let u : flag (n - s * s) ≡ 1 = ap flag h in omega arith)

          no : rest ≤ 0 → ⊥
          no h =
              let l : q * p ≤ s = low in
              let v : s ≡ q * p = omega arith in
              let k : flag (n - s * s) ≡ 0 = omega arith in
              let m : n ≤ s * s = exact (n - s * s) refl k in
              let c : n ≡ q * q * (p * p) = (let a : s * s ≤ n = f.0 in let b : s * s ≡ q * q * (p * p) = square-of v in omega arith) in
              let d : A ≡ q * q = eq_of_mul-eq-mul_right (p * p) (mul-pos (pow_pos j) (pow_pos j)) A (q * q) (sym e ∙ c) in
              let i : A - q * q ≡ suc x = z in
              omega arith

  -- so the digits of q and that digit round as the root does
  pub leading : 2 ^ 24 ≤ q → round binary32 false (2 * s + flag (n - s * s)) (2 ^ 150) ≡ round binary32 false ((q * 2 + flag (A - q * q)) * 2 ^ j) (2 ^ 150)
  leading l =
      ap (λ (x : ℕ). round binary32 false x (2 ^ 150)) split
      ∙ one-digit binary32 false 1 j q rest rest_lt l
      ∙ ap (λ (x : ℕ). round binary32 false ((q * 2 + x) * 2 ^ j) (2 ^ 150)) flags

pub times-next : (r : ℕ) → r * (r + 1) ≡ r * r + r
times-next r = mul-add r r 1 ∙ ap (λ (x : ℕ). r * r + x) (mul-one r)

-- ---- r nearest to the root of a, and q the whole part of the root of 4 * a: twice q and the digit lie next to 4 * r
module _ (a r q : ℕ) (N : NearestRoot a r) (g : Floor (4 * a) q) (rp : 0 < r) where
  q-le : q ≤ 2 * r
  q-le = le_of_suc-le-suc (lt-root (4 * a) q g (suc (2 * r)) (omega (arith, N.below, times-next r, suc-square (2 * r), double r)))

  w_le : (w : ℕ) → w + 1 ≡ 2 * r → (w ≤ q) × (w * w < 4 * a)
  w_le w e =
      let h : w * w < 4 * a = omega (arith, N.above, square-suc w, ap (λ (x : ℕ). x * x) e, double r) in
      (le-root (4 * a) q g w (le_of_lt h), h)

  pub nearest-four : closest (q * 2 + flag (4 * a - q * q)) 4 ≡ r
  nearest-four = go (2 * r - q) refl
    where
      w : ℕ
      w = 2 * r - 1

      back : w + 1 ≡ 2 * r
      back = omega arith

      at : (x : ℕ) → q * 2 + flag (4 * a - q * q) ≡ x → closest x 4 ≡ r → closest (q * 2 + flag (4 * a - q * q)) 4 ≡ r
      at x e h = ap (λ (y : ℕ). closest y 4) e ∙ h

      go : (i : ℕ) → 2 * r - q ≡ i → closest (q * 2 + flag (4 * a - q * q)) 4 ≡ r
      go zero i =
          let l : q ≤ 2 * r = q-le in
          let v : q ≡ 2 * r = omega arith in
          let b : flag (4 * a - q * q) ≤ 1 = flag-le (4 * a - q * q) in
          closest-lt (q * 2 + flag (4 * a - q * q)) 4 r (flag (4 * a - q * q)) (omega arith) (omega arith) (omega arith)
      go (suc zero) i =
          let l : q ≤ 2 * r = q-le in
          let v : q ≡ w = omega arith in
          let h : q * q < 4 * a = subst (λ (x : ℕ). x * x < 4 * a) (sym v) (w_le w back).1 in
          let b : flag (4 * a - q * q) ≡ 1 = flag-pos (4 * a - q * q) (omega arith) in
          closest-gt (q * 2 + flag (4 * a - q * q)) 4 (r - 1) 3 (omega arith) (omega arith) (omega arith) ∙ omega arith
      go (suc (suc k)) i = absurd (let l : w ≤ q = (w_le w back).0 in omega arith)

-- ---- the bounds of r
module _ (a r : ℕ) (N : NearestRoot a r) where
  pub root_ge : 2 ^ 46 ≤ a → 2 ^ 23 ≤ r
  root_ge l = le_of_suc-le-suc (lt_of_not-le (λ (h : suc r ≤ 2 ^ 23). no h))
    where
      no : suc r ≤ 2 ^ 23 → ⊥
      no h = omega (arith, N.below, times-next r, mul-le-mul h h, suc-square r)

  pub root-lt : a ≤ 2 ^ 48 - 2 ^ 24 → r < 2 ^ 24
  root-lt l = lt_of_not-le (λ (h : 2 ^ 24 ≤ r). no h)
    where
      no : 2 ^ 24 ≤ r → ⊥
      no h =
          let k : (r - 2 ^ 24) + 2 ^ 24 ≡ r = omega arith in
          let m : r * r ≡ r * (r - 2 ^ 24) + r * 2 ^ 24 = ap (λ (x : ℕ). r * x) (sym k) ∙ mul-add r (r - 2 ^ 24) (2 ^ 24) in
          let u : r * 2 ^ 24 ≤ r * r = omega arith in
          omega (arith, N.above)

-- i places more
pub finer : (s e i : ℕ) → s * 2 ^ (e + i) ≡ s * 2 ^ e * 2 ^ i
finer s e i = ap (λ (x : ℕ). s * x) (pow-add 2 e i) ∙ sym (mul_assoc s (2 ^ e) (2 ^ i))

pub opened : (n : ℕ) → root_of n ≡ round binary32 false (2 * isqrt 213 n + flag (n - isqrt 213 n * isqrt 213 n)) (2 ^ 150)
unfolding root_of
opened n = refl

-- ---- the pattern of the root of m * 2 ^ (e + 23) units
module _ (m e a r : ℕ) (lo : 2 ^ 23 ≤ m) (hi : m < 2 ^ 24) (le : 2 ≤ e) (ge : e < 380) (ia : a ≡ m * 2 ^ (23 + e % 2)) (N : NearestRoot a r) where
  abbrev n : ℕ
  n = m * 2 ^ (e + 23)

  power : 2 ^ (23 + e % 2) ≤ 2 ^ 24
  power = pow_mono (let g : 23 + e % 2 ≤ 24 = omega arith in g)

  power' : 2 ^ 23 ≤ 2 ^ (23 + e % 2)
  power' = pow_mono (let g : 23 ≤ 23 + e % 2 = omega arith in g)

  pub a-ge : 2 ^ 46 ≤ a
  a-ge = le_trans (mul-le-mul lo power') (le_of_eq (sym ia))

  pub a-le : a ≤ 2 ^ 48 - 2 ^ 24
  a-le = le_trans (le_of_eq ia) (le_trans (mul-le-mul (let g : m ≤ 2 ^ 24 - 1 = omega arith in g) power) (lit≤ tt))

  -- e + 23 places: twice j for the root, and 25 or 26 that stay
  split_places : n ≡ 4 * a * (2 ^ (e / 2 - 1) * 2 ^ (e / 2 - 1))
  split_places =
      let j = e / 2 - 1 in
      let x : e + 23 ≡ 2 + (23 + e % 2) + (j + j) = omega arith in
      ap (λ (y : ℕ). m * 2 ^ y) x
      ∙ ap (λ (y : ℕ). m * y) (pow-add 2 (2 + (23 + e % 2)) (j + j) ∙ ap₂ (λ (y z : ℕ). y * z) (pow-add 2 2 (23 + e % 2)) (pow-add 2 j j))
      ∙ sym (mul_assoc m (4 * 2 ^ (23 + e % 2)) (2 ^ j * 2 ^ j))
      ∙ ap (λ (y : ℕ). y * (2 ^ j * 2 ^ j)) (sym (mul_assoc m 4 (2 ^ (23 + e % 2))) ∙ ap (λ (y : ℕ). y * 2 ^ (23 + e % 2)) (mul_comm m 4) ∙ mul_assoc 4 m (2 ^ (23 + e % 2)) ∙ ap (λ (y : ℕ). 4 * y) (sym ia))

  bounded : n < 4 ^ 213
  bounded = lt_of_lt_of_le (mul-lt-mul_of_pos_right hi (pow_pos (e + 23))) (le_trans (le_of_eq (sym (pow-add 2 24 (e + 23)))) (le_trans (pow_mono (let g : 24 + (e + 23) ≤ 426 = omega arith in g)) (lit≤ tt)))

  abbrev q : ℕ
  q = isqrt 25 (4 * a)

  q-floor : Floor (4 * a) q
  q-floor = isqrt-floor 25 (4 * a) (let g : a ≤ 2 ^ 48 - 2 ^ 24 = a-le in omega arith)

  q-ge : 2 ^ 24 ≤ q
  q-ge = le-root (4 * a) q q-floor (2 ^ 24) (let g : 2 ^ 46 ≤ a = a-ge in omega arith)

  q-lt : q < 2 ^ 25
  q-lt = lt-root (4 * a) q q-floor (2 ^ 25) (let g : a ≤ 2 ^ 48 - 2 ^ 24 = a-le in omega arith)

  shift_two : (j : ℕ) → max 2 (1 - j) ≡ 2
  shift_two j = omega arith

  pub root-bits : of_bits binary32 (e / 2 * 2 ^ 23 + r) ≡ root_of n
  root-bits =
      let j = e / 2 - 1 in
      let x = q * 2 + flag (4 * a - q * q) in
      let b : flag (4 * a - q * q) ≤ 1 = flag-le (4 * a - q * q) in
      let l : 2 ^ 24 ≤ q = q-ge in
      let u : q < 2 ^ 25 = q-lt in
      let c : 2 ^ 23 ≤ r = root_ge a r N a-ge in
      let d : r < 2 ^ 24 = root-lt a r N a-le in
      let k : j + 2 - 1 ≡ e / 2 = omega arith in
      let v : packed false (e / 2) r ≡ e / 2 * 2 ^ 23 + r = omega arith in
      sym
      (opened n
      ∙ leading n (4 * a) j (isqrt 213 n) q split_places (isqrt-floor 213 n bounded) q-floor l
      ∙ finished false x j 2 1 (omega arith) (omega arith)
      ∙ ap (λ (y : ℕ). of_bits binary32 (packed false (j + y - 1) (closest x (2 ^ y)))) (shift_two j)
      ∙ ap₂ (λ (y z : ℕ). of_bits binary32 (packed false y z)) k (nearest-four a r q N q-floor (omega arith))
      ∙ ap (λ (y : ℕ). of_bits binary32 y) v)
