-- A product of two `f32` and its sum with a third, in `f64`: the product is exact, so that the sum is rounded from the same number as `fma` is. Assumes nothing.
use Rattle.std.proofs.Common.{◌≡◌, ℕ, ◌+◌, ◌-◌, ◌*◌, ◌/◌, ◌%◌, ◌^◌, ◌<◌, ◌≤◌, Bool, true, false, cond, not, ◌&&◌, T, eqb, ltb, ◌⊎◌, sym, refl, ap, ◌∙◌, subst, ap₂, inl, inr, ⊎_elim, lt_of_lt_of_le, lt_of_le_of_lt, le_of_lt, mul_assoc, mul_comm, add-mul, mul-le-mul, mul-pos, zero-mul, mul_left_comm, arith, lit<, pow_pos, pow_mono, pow-add, shl_lt}
use mathlib.Core.Bool.{beq, false≢true}
use native.Mathlib.Nat.{mul-mul-mul_comm}
use lib.Ieee.{Float, nan, inf, fin, Format, binary32, binary64, unlike, up, down, round, sum, add, mul, eq, to_bits, of_bits, fits, is_nan}
use lib.Ieee.Fits.{and_i, fits_widens, down_pos}
use lib.Ieee.Exact.{HasValue, round_exact}
use lib.Ieee.Scale.{round_same, finite}
use Rattle.arith.specs.Pattern.{sig_of, exp_of, worth}
use Rattle.arith.specs.Parts.{Narrows, Exact, narrow}
use Rattle.arith.specs.Fused.{fma}
use Rattle.arith.proofs.Values.{sign, held, sig-lt, sub-mul, sum_same, fma-at}
use Rattle.arith.proofs.Twice.{told-untied, told-exact, told-zero}

pub equals_itself : (x : Float) → eq x x ≡ true → T (not (is_nan x))
unfolding eq is_nan
equals_itself nan e = absurd (false≢true e)
equals_itself (inf s) e = tt
equals_itself (fin s m d) e = tt

-- what an `f64` may be made of
pub widens : (x : Float) → T (fits binary32 x) → T (not (is_nan x)) → T (fits binary64 x && not (is_nan x))
widens x f n = and_i (fits binary64 x) (not (is_nan x)) (fits_widens x f) n

-- ---- a product and a sum by the fractions that their operands equal
mul_at : (f : Format) (x y : Float) (s t : Bool) (a b l : ℕ) → 0 < l → HasValue x s a l → HasValue y t b l → mul f x y ≡ round f (unlike s t) (a * b) (l * l)
unfolding mul
mul_at f nan y s t a b l L p q = absurd p
mul_at f (inf v) y s t a b l L p q = absurd p
mul_at f (fin s' m e) nan s t a b l L p q = absurd q
mul_at f (fin s' m e) (inf v) s t a b l L p q = absurd q
mul_at f (fin s' m e) (fin t' n d) s t a b l L p q =
    ap₂ (λ (v w : Bool). round f (unlike v w) (m * up e * (n * up d)) (down e * down d)) p.0 q.0
    ∙ round_same f (unlike s t) (m * up e * (n * up d)) (down e * down d) (a * b) (l * l) (mul-pos (down_pos e) (down_pos d)) (mul-pos L L)
    (mul-mul-mul_comm (m * up e) (n * up d) l l ∙ ap₂ (λ (v w : ℕ). v * w) p.1 q.1 ∙ mul-mul-mul_comm a (down e) b (down d))

first-cross : (m a b l x k : ℕ) → m * l ≡ x * a → m * b * (l * k) ≡ x * k * (a * b)
first-cross m a b l x k h = mul-mul-mul_comm m b l k ∙ ap (λ (v : ℕ). v * (b * k)) h ∙ simp (mul_assoc, mul_comm, mul_left_comm)

add_at : (f : Format) (x y : Float) (s t : Bool) (a b l k : ℕ) → 0 < l → 0 < k → HasValue x s a l → HasValue y t b k → add f x y ≡ sum f s (a * k) t (b * l) (l * k)
unfolding add
add_at f nan y s t a b l k L K p q = absurd p
add_at f (inf v) y s t a b l k L K p q = absurd p
add_at f (fin s' m e) nan s t a b l k L K p q = absurd q
add_at f (fin s' m e) (inf v) s t a b l k L K p q = absurd q
add_at f (fin s' m e) (fin t' n d) s t a b l k L K p q =
    ap₂ (λ (v w : Bool). sum f v (m * up e * down d) w (n * up d * down e) (down e * down d)) p.0 q.0
    ∙ sum_same f s t (m * up e * down d) (n * up d * down e) (down e * down d) (a * k) (b * l) (l * k) (mul-pos (down_pos e) (down_pos d)) (mul-pos L K)
    (first-cross (m * up e) (down e) (down d) l a k p.1)
    (ap (λ (v : ℕ). n * up d * down e * v) (mul_comm l k) ∙ first-cross (n * up d) (down d) (down e) k b l q.1 ∙ ap (λ (v : ℕ). b * l * v) (mul_comm (down d) (down e)))

-- ---- a sum is one fraction with one sign, whatever the format, and has what divides both parts
abbrev Divided : ℕ → ℕ → ℕ → Type 0
Divided a b n = (d x y : ℕ) → a ≡ x * d → b ≡ y * d → (z : ℕ) × (n ≡ z * d)

taken : (a b d x y : ℕ) → a ≡ x * d → b ≡ y * d → a - b ≡ (x - y) * d
taken a b d x y p q = ap₂ (λ (v w : ℕ). v - w) p q ∙ sub-mul x y d

sum-rounds : (s t : Bool) (a b c : ℕ) → (g : Bool) × (n : ℕ) × ((f : Format) → sum f s a t b c ≡ round f g n c) × Divided a b n
unfolding sum
sum-rounds s t a b c = go (beq s t) (ltb a b)
  where
    go : (x y : Bool) → (g : Bool) × (n : ℕ) × ((f : Format) → cond x (round f s (a + b) c) (cond y (round f t (b - a) c) (round f (s && ltb b a) (a - b) c)) ≡ round f g n c) × Divided a b n
    go true y = (s, a + b, λ f. refl, λ d x y p q. (x + y, ap₂ (λ (v w : ℕ). v + w) p q ∙ sym (add-mul x y d)))
    go false true = (t, b - a, λ f. refl, λ d x y p q. (y - x, taken b a d y x q p))
    go false false = (s && ltb b a, a - b, λ f. refl, λ d x y p q. (x - y, taken a b d x y p q))

-- ---- two numbers of 24 digits: their product has 48, and an `f64` holds it
product_value : (x y : Float) (s t : Bool) (m i n j : ℕ) → m < 2 ^ 24 → n < 2 ^ 24 → i ≤ 255 → j ≤ 255 → HasValue x s (m * 2 ^ i) (2 ^ 149) → HasValue y t (n * 2 ^ j) (2 ^ 149)
    → HasValue (mul binary64 x y) (unlike s t) (m * 2 ^ i * (n * 2 ^ j)) (2 ^ 298)
product_value x y s t m i n j hm hn hi hj p q =
    let small : m * n < 2 ^ 49 = lt_of_le_of_lt (mul-le-mul (le_of_lt hm) (le_of_lt hn)) (lit< tt) in
    let e : m * 2 ^ i * (n * 2 ^ j) ≡ m * n * 2 ^ (i + j) = mul-mul-mul_comm m (2 ^ i) n (2 ^ j) ∙ ap (λ (v : ℕ). m * n * v) (sym (pow-add 2 i j)) in
    subst (λ (v : Float). HasValue v (unlike s t) (m * 2 ^ i * (n * 2 ^ j)) (2 ^ 298)) (sym (mul_at binary64 x y s t (m * 2 ^ i) (n * 2 ^ j) (2 ^ 149) (pow_pos 149) p q))
    (round_exact binary64 (unlike s t) (m * 2 ^ i * (n * 2 ^ j)) (2 ^ 298) (m * n) (i + j + 776) (pow_pos 298) (lt_of_lt_of_le small (pow_mono (let g : 49 ≤ 53 = omega arith in g)))
    (lt_of_lt_of_le (shl_lt 49 (i + j + 776) small) (pow_mono (let g : 49 + (i + j + 776) ≤ 2098 = omega arith in g)))
    (ap (λ (v : ℕ). v * 2 ^ 1074) e ∙ ap (λ (v : ℕ). m * n * 2 ^ (i + j) * v) (pow-add 2 776 298) ∙ regroup (m * n) (2 ^ (i + j)) (2 ^ 776) (2 ^ 298) ∙ ap (λ (v : ℕ). m * n * v * 2 ^ 298) (sym (pow-add 2 (i + j) 776))))
  where
    regroup : (a b c d : ℕ) → a * b * (c * d) ≡ a * (b * c) * d
    regroup a b c d = simp (mul_assoc, mul_comm, mul_left_comm)

exp-le : (b : ℕ) → exp_of (b % 2 ^ 31) ≤ 255
exp-le b = omega arith

-- ---- nothing finite comes of what is not
mul-finite : (f : Format) (x y : Float) → T (finite (mul f x y)) → T (finite x) × T (finite y)
unfolding mul
mul-finite f nan y h = absurd h
mul-finite f (inf s) nan h = absurd h
mul-finite f (inf s) (inf t) h = absurd h
mul-finite f (inf s) (fin t n d) h = absurd (either (eqb n 0) h)
  where
    either : (b : Bool) → T (finite (cond b nan (inf (unlike s t)))) → ⊥
    either true k = k
    either false k = k
mul-finite f (fin s m e) nan h = absurd h
mul-finite f (fin s m e) (inf t) h = absurd (either (eqb m 0) h)
  where
    either : (b : Bool) → T (finite (cond b nan (inf (unlike s t)))) → ⊥
    either true k = k
    either false k = k
mul-finite f (fin s m e) (fin t n d) h = (tt, tt)

add-finite : (f : Format) (x y : Float) → T (finite (add f x y)) → T (finite x) × T (finite y)
unfolding add
add-finite f nan y h = absurd h
add-finite f (inf s) nan h = absurd h
add-finite f (inf s) (inf t) h = absurd (either (beq s t) h)
  where
    either : (b : Bool) → T (finite (cond b (inf s) nan)) → ⊥
    either true k = k
    either false k = k
add-finite f (inf s) (fin t n d) h = absurd h
add-finite f (fin s m e) nan h = absurd h
add-finite f (fin s m e) (inf t) h = absurd h
add-finite f (fin s m e) (fin t n d) h = (tt, tt)

finite-of : (v : Float) → T (not (is_nan v)) → to_bits binary64 v % 2 ^ 63 < 1150 * 2 ^ 52 → T (finite v)
unfolding is_nan to_bits
finite-of nan h l = absurd h
finite-of (inf true) h l = absurd (let g : (2 ^ 63 + 2047 * 2 ^ 52) % 2 ^ 63 < 1150 * 2 ^ 52 = l in omega arith)
finite-of (inf false) h l = absurd (let g : (0 + 2047 * 2 ^ 52) % 2 ^ 63 < 1150 * 2 ^ 52 = l in omega arith)
finite-of (fin s m e) h l = tt

-- ---- the sum in `f64` and `fma`, rounded from one number of units of 2 ^ -1074
-- the last places of the product and of the addend, in units of 2 ^ -298
split : (m i j : ℕ) → j ≤ i → m * 2 ^ i ≡ m * 2 ^ (i - j) * 2 ^ j
split m i j h = ap (λ (x : ℕ). m * 2 ^ x) (let e : i ≡ i - j + j = omega arith in e) ∙ ap (λ (x : ℕ). m * x) (pow-add 2 (i - j) j) ∙ sym (mul_assoc m (2 ^ (i - j)) (2 ^ j))

product-split : (m i n l j : ℕ) → j ≤ i + l → m * 2 ^ i * (n * 2 ^ l) ≡ m * n * 2 ^ (i + l - j) * 2 ^ j
product-split m i n l j h = mul-mul-mul_comm m (2 ^ i) n (2 ^ l) ∙ ap (λ (v : ℕ). m * n * v) (sym (pow-add 2 i l)) ∙ split (m * n) (i + l) j h

addend-split : (m i j : ℕ) → j ≤ i + 149 → m * 2 ^ i * 2 ^ 149 ≡ m * 2 ^ (i + 149 - j) * 2 ^ j
addend-split m i j h = mul_assoc m (2 ^ i) (2 ^ 149) ∙ ap (λ (v : ℕ). m * v) (sym (pow-add 2 i 149)) ∙ split m (i + 149) j h

no-addend : (z : ℕ) → z % 2 ^ 31 ≡ 0 → worth z ≡ 0
no-addend z e = ap (λ (x : ℕ). sig_of x * 2 ^ exp_of x) e

-- n is a multiple of 2 ^ (j + 776) where no digit of the two stands lower
abbrev Placed : ℕ → ℕ → ℕ → ℕ → Type 0
Placed x y z n = (j : ℕ) → j ≤ exp_of (x % 2 ^ 31) + exp_of (y % 2 ^ 31) → (z % 2 ^ 31 ≡ 0) ⊎ (j ≤ exp_of (z % 2 ^ 31) + 149) → (h : ℕ) × (n ≡ h * 2 ^ (j + 776))

placed_at : (x y z n : ℕ) → Divided (worth x * worth y) (worth z * 2 ^ 149) n → Placed x y z (n * 2 ^ 776)
placed_at x y z n D j hp ha =
    let X = x % 2 ^ 31 in
    let Y = y % 2 ^ 31 in
    let Z = z % 2 ^ 31 in
    let P = sig_of X * sig_of Y * 2 ^ (exp_of X + exp_of Y - j) in
    let p : worth x * worth y ≡ P * 2 ^ j = product-split (sig_of X) (exp_of X) (sig_of Y) (exp_of Y) j hp in
    elim ha [
      | inl e ↦ raised (D (2 ^ j) P 0 p (ap (λ (v : ℕ). v * 2 ^ 149) (no-addend z e) ∙ sym (zero-mul (2 ^ j))))
      | inr l ↦ raised (D (2 ^ j) P (sig_of Z * 2 ^ (exp_of Z + 149 - j)) p (addend-split (sig_of Z) (exp_of Z) j l))
    ]
  where
    raised : (h : ℕ) × (n ≡ h * 2 ^ j) → (h : ℕ) × (n * 2 ^ 776 ≡ h * 2 ^ (j + 776))
    raised (h, e) = (h, ap (λ (v : ℕ). v * 2 ^ 776) e ∙ mul_assoc h (2 ^ j) (2 ^ 776) ∙ ap (λ (v : ℕ). h * v) (sym (pow-add 2 j 776)))

one_number : (a b c : Float) → T (fits binary32 a) → T (fits binary32 b) → T (fits binary32 c) → T (finite a) → T (finite b) → T (finite c)
    → (g : Bool) × (n : ℕ) × (add binary64 (mul binary64 a b) c ≡ round binary64 g n (2 ^ 1074)) × (fma a b c ≡ round binary32 g n (2 ^ 1074)) × Placed (to_bits binary32 a) (to_bits binary32 b) (to_bits binary32 c) n
one_number a b c fa fb fc ha hb hc =
    let i = to_bits binary32 a in
    let j = to_bits binary32 b in
    let o = to_bits binary32 c in
    let va = held a fa ha in
    let vb = held b fb hb in
    let vc = held c fc hc in
    let p = product_value a b (sign a) (sign b) (sig_of (i % 2 ^ 31)) (exp_of (i % 2 ^ 31)) (sig_of (j % 2 ^ 31)) (exp_of (j % 2 ^ 31)) (sig-lt (i % 2 ^ 31)) (sig-lt (j % 2 ^ 31)) (exp-le i) (exp-le j) va vb in
    let S = sum-rounds (unlike (sign a) (sign b)) (sign c) (worth i * worth j) (worth o * 2 ^ 149) (2 ^ 298) in
    let g = S.0 in
    let n = S.1 in
    let up_to : (f : Format) → round f g n (2 ^ 298) ≡ round f g (n * 2 ^ 776) (2 ^ 1074) = λ f. round_same f g n (2 ^ 298) (n * 2 ^ 776) (2 ^ 1074) (pow_pos 298) (pow_pos 1074) (ap (λ (v : ℕ). n * v) (pow-add 2 776 298) ∙ sym (mul_assoc n (2 ^ 776) (2 ^ 298))) in (
      g,
      n * 2 ^ 776,
      add_at binary64 (mul binary64 a b) c (unlike (sign a) (sign b)) (sign c) (worth i * worth j) (worth o) (2 ^ 298) (2 ^ 149) (pow_pos 298) (pow_pos 149) p vc
          ∙ sum_same binary64 (unlike (sign a) (sign b)) (sign c) (worth i * worth j * 2 ^ 149) (worth o * 2 ^ 298) (2 ^ 298 * 2 ^ 149) (worth i * worth j) (worth o * 2 ^ 149) (2 ^ 298) (mul-pos (pow_pos 298) (pow_pos 149)) (pow_pos 298)
          (less (worth i * worth j) (2 ^ 149) (2 ^ 298))
          (lesser (worth o) (2 ^ 149) (2 ^ 298) refl)
          ∙ S.2 binary64
          ∙ up_to binary64,
      fma-at a b c (sign a) (sign b) (sign c) (worth i) (worth j) (worth o) (2 ^ 149) (pow_pos 149) va vb vc ∙ S.2 binary32 ∙ up_to binary32,
      placed_at i j o n S.3,
    )
  where
    less : (x l k : ℕ) → x * l * k ≡ x * (k * l)
    less x l k = mul_assoc x l k ∙ ap (λ (v : ℕ). x * v) (mul_comm l k)

    lesser : (x l k : ℕ) → k ≡ l * l → x * k * k ≡ x * l * (k * l)
    lesser x l k e = subst (λ (v : ℕ). x * v * v ≡ x * l * (v * l)) (sym e) (simp (mul_assoc, mul_comm, mul_left_comm))

-- ---- three `f32` whose sum in `f64` is finite
pub told-most : (x y z bits : ℕ) → (bits % 2 ^ 63 ≡ 0) ⊎ Exact x y z bits → bits % 2 ^ 63 < 1150 * 2 ^ 52
told-most x y z bits (inl e) = omega arith
told-most x y z bits (inr w) = w.most

module _ (a b c : Float) (fa : T (fits binary32 a)) (fb : T (fits binary32 b)) (fc : T (fits binary32 c)) where
  abbrev s : Float
  s = add binary64 (mul binary64 a b) c

  abbrev Told : Type 0
  Told = of_bits binary32 (narrow (to_bits binary64 s)) ≡ fma a b c

  abbrev Number : Type 0
  Number = (g : Bool) × (n : ℕ) × (s ≡ round binary64 g n (2 ^ 1074)) × (fma a b c ≡ round binary32 g n (2 ^ 1074)) × Placed (to_bits binary32 a) (to_bits binary32 b) (to_bits binary32 c) n

  number : T (finite s) → Number
  number fine =
      let parts = add-finite binary64 (mul binary64 a b) c fine in
      let factors = mul-finite binary64 a b parts.0 in
      one_number a b c fa fb fc factors.0 factors.1 parts.1

  -- from what is known of the rounded number's pattern
  from : (N : Number) → round binary32 N.0 N.1 (2 ^ 1074) ≡ of_bits binary32 (narrow (to_bits binary64 (round binary64 N.0 N.1 (2 ^ 1074)))) → Told
  from N h = ap (λ (v : Float). of_bits binary32 (narrow (to_bits binary64 v))) N.2 ∙ sym h ∙ sym N.3

  pub by-double : T (not (is_nan s)) → Narrows (to_bits binary64 s) → Told
  by-double h w =
      let fine = finite-of s h w.most in
      let N = number fine in
      from N (told-untied N.0 N.1 (subst (λ (v : Float). T (finite v)) N.2 fine) (subst (λ (v : Float). Narrows (to_bits binary64 v)) N.2 w))

  pub by-exact : T (not (is_nan s)) → (to_bits binary64 s % 2 ^ 63 ≡ 0) ⊎ Exact (to_bits binary32 a) (to_bits binary32 b) (to_bits binary32 c) (to_bits binary64 s) → Told
  by-exact h (inl z) =
      let fine = finite-of s h (told-most 0 0 0 (to_bits binary64 s) (inl z)) in
      let N = number fine in
      from N (told-zero N.0 N.1 (subst (λ (v : Float). T (finite v)) N.2 fine) (subst (λ (v : Float). to_bits binary64 v % 2 ^ 63 ≡ 0) N.2 z))
  by-exact h (inr w) =
      let fine = finite-of s h w.most in
      let N = number fine in
      let lo : 898 * 2 ^ 52 ≤ to_bits binary64 s % 2 ^ 63 = w.least in
      let p : to_bits binary64 s % 2 ^ 63 / 2 ^ 52 ≤ exp_of (to_bits binary32 a % 2 ^ 31) + exp_of (to_bits binary32 b % 2 ^ 31) + 777 = w.product in
      let j = to_bits binary64 s % 2 ^ 63 / 2 ^ 52 - 777 in
      let H = N.4 j (omega arith) (⊎_elim (λ z. inl z) (λ l. inr (addend-le (to_bits binary64 s % 2 ^ 63 / 2 ^ 52) (exp_of (to_bits binary32 c % 2 ^ 31)) l)) w.addend) in
      let bound : to_bits binary64 s % 2 ^ 63 / 2 ^ 52 ≤ j + 776 + 1 = omega arith in
      from N
      (subst (λ (v : Float). 898 * 2 ^ 52 ≤ to_bits binary64 v % 2 ^ 63 → to_bits binary64 v % 2 ^ 63 < 1150 * 2 ^ 52 → to_bits binary64 v % 2 ^ 63 / 2 ^ 52 ≤ j + 776 + 1 → round binary32 N.0 N.1 (2 ^ 1074) ≡ of_bits binary32 (narrow (to_bits binary64 (round binary64 N.0 N.1 (2 ^ 1074))))) (sym N.2)
      (told-exact N.0 N.1 (subst (λ (v : Float). T (finite v)) N.2 fine) H.0 (j + 776) H.1)
      lo w.most bound)
    where
      addend-le : (x e : ℕ) → x ≤ e + 926 → x - 777 ≤ e + 149
      addend-le x e l = omega arith
