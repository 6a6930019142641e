-- The steps of `combine` on plain numbers: two operands that are ready, each jammed to the greater exponent, and their sum. Assumes nothing.
use Rattle.std.proofs.Common.{◌≡◌, ℕ, ◌+◌, ◌-◌, ◌*◌, ◌/◌, ◌%◌, ◌^◌, ◌<◌, ◌≤◌, max, Bool, true, false, cond, not, ◌&&◌, T, ltb, ◌⊎◌, sym, refl, ap, ◌∙◌, subst, ap₂, inl, inr, le_trans, le_of_eq, le_of_lt, add-mul, arith, ltb→lt, nltb→le, pow-add, shr-shr}
use native.Mathlib.Nat.{zero-mod, mod-mod_of_dvd, dvd-mul_right}
use mathlib.Core.Bool.{beq}
use lib.Pow.{shr_le}
use lib.Ieee.{Float, binary32, round, sum}
use Rattle.arith.specs.Digit.{jam}
use Rattle.arith.specs.Parts.{Ready, Summed, sum_sign, sum_size}
use Rattle.arith.proofs.Jamming.{jam-up, jam-le, jam_none, jam-zero, far, whole}
use Rattle.arith.proofs.Values.{cross-test, sub-mul, sum_comm}

-- ---- the second operand, of the lower exponent, jammed to the first's
cut : (b d i : ℕ) → i ≤ d + 1 → b / 2 ^ (d + 1) ≤ b / 2 ^ i
cut b d i h =
    let x : i + (d + 1 - i) ≡ d + 1 = omega arith in
    subst (λ (y : ℕ). b / 2 ^ y ≤ b / 2 ^ i) x (le_trans (le_of_eq (sym (shr-shr b i (d + 1 - i)))) (shr_le (b / 2 ^ i) (d + 1 - i)))

-- fourteen zeros at the end are zeros wherever fewer digits are cut
fewer-zeros : (b i : ℕ) → i ≤ 14 → b % 2 ^ 14 ≡ 0 → b % 2 ^ i ≡ 0
fewer-zeros b i h z =
    let x : i + (14 - i) ≡ 14 = omega arith in
    let y : 2 ^ i * 2 ^ (14 - i) ≡ 2 ^ 14 = sym (pow-add 2 i (14 - i)) ∙ ap (λ (k : ℕ). 2 ^ k) x in
    sym (mod-mod_of_dvd (2 ^ i) b (dvd-mul_right (2 ^ i) (2 ^ (14 - i)))) ∙ ap (λ (k : ℕ). b % k % 2 ^ i) y ∙ ap (λ (k : ℕ). k % 2 ^ i) z ∙ zero-mod (2 ^ i)

abbrev Sum : Bool → Bool → ℕ → ℕ → Float
Sum s t x y = sum binary32 s x t y (2 ^ 426)

module _ (s t : Bool) (a ex b ey : ℕ) (ra : Ready a ex) (rb : Ready b ey) (le : ey ≤ ex) where
  abbrev d : ℕ
  d = ex - ey

  abbrev h : ℕ
  h = a / 2

  a-is : h * 2 ≡ a
  a-is = let e : a % 2 ^ 14 ≡ 0 = ra.zeros in omega arith

  exp-is : d + ey ≡ ex
  exp-is = omega arith

  from : Sum s t (h * 2 * 2 ^ (d + ey)) (b * 2 ^ ey) ≡ Sum s t (h * 2 * 2 ^ (d + ey)) (jam b d * 2 ^ (d + ey))
      → Sum s t (a * 2 ^ ex) (b * 2 ^ ey) ≡ Sum s t (a * 2 ^ ex) (jam b d * 2 ^ ex)
  from g =
      subst (λ (y : ℕ). Sum s t (a * 2 ^ y) (b * 2 ^ ey) ≡ Sum s t (a * 2 ^ y) (jam b d * 2 ^ y)) exp-is
      (subst (λ (y : ℕ). Sum s t (y * 2 ^ (d + ey)) (b * 2 ^ ey) ≡ Sum s t (y * 2 ^ (d + ey)) (jam b d * 2 ^ (d + ey))) a-is g)

  big : 14 ≤ d → 2 ^ 60 ≤ a
  big l = elim ra.lead [ inl z ↦ absurd (let e : ex ≡ 0 = z.1 in omega arith) | inr p ↦ p.0 ]

  lower-jammed : Sum s t (a * 2 ^ ex) (b * 2 ^ ey) ≡ Sum s t (a * 2 ^ ex) (jam b d * 2 ^ ex)
  lower-jammed = go (ltb d 14) (ltb→lt d 14) (nltb→le d 14)
    where
      go : (x : Bool) → (T x → d < 14) → (T (not x) → 14 ≤ d) → Sum s t (a * 2 ^ ex) (b * 2 ^ ey) ≡ Sum s t (a * 2 ^ ex) (jam b d * 2 ^ ex)
      go true p q = from (whole binary32 s t h b d ey 277 (fewer-zeros b (d + 1) (let l : d < 14 = p tt in omega arith) rb.zeros))
      go false p q =
          let l : 14 ≤ d = q tt in
          let g : 2 ^ 60 ≤ a = big l in
          let u : jam b d ≤ b / 2 ^ (d + 1) * 2 + 1 = jam-up b d in
          let v : b / 2 ^ (d + 1) ≤ b / 2 ^ 15 = cut b d 15 (omega arith) in
          let w : b < 2 ^ 62 = rb.small in
          let e : h * 2 ≡ a = a-is in
          from (far binary32 s t h b d ey 277 (omega arith))

-- ---- both jammed to the greater exponent: the one that has it stays as it is
module _ (s t : Bool) (a ex b ey : ℕ) (ra : Ready a ex) (rb : Ready b ey) where
  abbrev E : ℕ
  E = max ex ey

  same : (x i k : ℕ) → i ≡ k → x ≡ jam x (k - i)
  same x i k e = sym (ap (λ (y : ℕ). jam x y) (let g : k - i ≡ 0 = omega arith in g) ∙ jam_none x)

  pub both-jammed : Sum s t (a * 2 ^ ex) (b * 2 ^ ey) ≡ Sum s t (jam a (E - ex) * 2 ^ E) (jam b (E - ey) * 2 ^ E)
  both-jammed = go (ltb ex ey) (ltb→lt ex ey) (nltb→le ex ey)
    where
      first : ey ≤ ex → ex ≡ E → Sum s t (a * 2 ^ ex) (b * 2 ^ ey) ≡ Sum s t (jam a (E - ex) * 2 ^ E) (jam b (E - ey) * 2 ^ E)
      first l e =
          lower-jammed s t a ex b ey ra rb l
          ∙ ap (λ (y : ℕ). Sum s t (a * 2 ^ y) (jam b (y - ey) * 2 ^ y)) e
          ∙ ap (λ (y : ℕ). Sum s t (y * 2 ^ E) (jam b (E - ey) * 2 ^ E)) (same a ex E e)

      second : ex ≤ ey → ey ≡ E → Sum s t (a * 2 ^ ex) (b * 2 ^ ey) ≡ Sum s t (jam a (E - ex) * 2 ^ E) (jam b (E - ey) * 2 ^ E)
      second l e =
          sum_comm binary32 s t (a * 2 ^ ex) (b * 2 ^ ey) (2 ^ 426)
          ∙ lower-jammed t s b ey a ex rb ra l
          ∙ ap (λ (y : ℕ). Sum t s (b * 2 ^ y) (jam a (y - ex) * 2 ^ y)) e
          ∙ ap (λ (y : ℕ). Sum t s (y * 2 ^ E) (jam a (E - ex) * 2 ^ E)) (same b ey E e)
          ∙ sum_comm binary32 t s (jam b (E - ey) * 2 ^ E) (jam a (E - ex) * 2 ^ E) (2 ^ 426)

      go : (x : Bool) → (T x → ex < ey) → (T (not x) → ey ≤ ex) → Sum s t (a * 2 ^ ex) (b * 2 ^ ey) ≡ Sum s t (jam a (E - ex) * 2 ^ E) (jam b (E - ey) * 2 ^ E)
      go true p q = let l : ex < ey = p tt in second (le_of_lt l) (omega arith)
      go false p q = let l : ey ≤ ex = q tt in first l (omega arith)

  lead-of : ((a ≡ 0) × (b ≡ 0)) ⊎ (64 ≤ E)
  lead-of = elim ra.lead [
    | inl z ↦ elim rb.lead [
      | inl y ↦ inl (z.0, y.0)
      | inr p ↦ inr (let g : 64 ≤ ey = p.1 in omega arith)
    ]
    | inr p ↦ inr (let g : 64 ≤ ex = p.1 in omega arith)
  ]

  zero-jam : (x i : ℕ) → x ≡ 0 → jam x i ≡ 0
  zero-jam x i e = ap (λ (y : ℕ). jam y i) e ∙ jam-zero i

  -- what is left of the two: any number up to their sum
  pub summed : (r : ℕ) → r ≤ jam a (E - ex) + jam b (E - ey) → Summed r E
  summed r l =
      let x : jam a (E - ex) ≤ a + 1 = jam-le a (E - ex) in
      let y : jam b (E - ey) ≤ b + 1 = jam-le b (E - ey) in
      let e : a % 2 ^ 14 ≡ 0 = ra.zeros in
      let f : b % 2 ^ 14 ≡ 0 = rb.zeros in
      let g : a < 2 ^ 62 = ra.small in
      let k : b < 2 ^ 62 = rb.small in
      let i : ex ≤ 1000 = ra.high in
      let j : ey ≤ 1000 = rb.high in
      record {
        small = omega arith;
        high = omega arith;
        lead = elim lead-of [ inl z ↦ inl (let u : jam a (E - ex) ≡ 0 = zero-jam a (E - ex) z.0 in let v : jam b (E - ey) ≡ 0 = zero-jam b (E - ey) z.1 in omega arith) | inr p ↦ inr p ];
      }

-- ---- the sum of a and b in units of p, by its sign and its size
module _ (a b p : ℕ) (pp : 0 < p) where
  scaled : (u v : ℕ) → ltb (u * p) (v * p) ≡ ltb u v
  scaled u v = cross-test (u * p) (v * p) p u v 1 pp (omega arith) (omega arith) (omega arith)

  -- equal signs: whichever part is larger, its sign is the same
  one-sign : (x y s : Bool) → cond x s (cond y s s) ≡ s
  one-sign true y s = refl
  one-sign false true s = refl
  one-sign false false s = refl

  -- unlike signs, by the two tests
  gap : (s t x y : Bool) → (s && t) ≡ false → ltb a b ≡ x → ltb b a ≡ y
      → cond (ltb (a * p) (b * p)) (round binary32 t (b * p - a * p) (2 ^ 426)) (round binary32 (s && ltb (b * p) (a * p)) (a * p - b * p) (2 ^ 426))
      ≡ round binary32 (cond x t (cond y s (s && t))) (cond x (b - a) (a - b) * p) (2 ^ 426)
  gap s t x y n ex ey =
      ap₂ (λ (u v : Bool). cond u (round binary32 t (b * p - a * p) (2 ^ 426)) (round binary32 (s && v) (a * p - b * p) (2 ^ 426))) (scaled a b ∙ ex) (scaled b a ∙ ey)
      ∙ go x y s n
    where
      go : (x y s : Bool) → (s && t) ≡ false
          → cond x (round binary32 t (b * p - a * p) (2 ^ 426)) (round binary32 (s && y) (a * p - b * p) (2 ^ 426)) ≡ round binary32 (cond x t (cond y s (s && t))) (cond x (b - a) (a - b) * p) (2 ^ 426)
      go true y s n = ap (λ (k : ℕ). round binary32 t k (2 ^ 426)) (sub-mul b a p)
      go false true true n = ap (λ (k : ℕ). round binary32 true k (2 ^ 426)) (sub-mul a b p)
      go false true false n = ap (λ (k : ℕ). round binary32 false k (2 ^ 426)) (sub-mul a b p)
      go false false true n = ap₂ (λ (q : Bool) (k : ℕ). round binary32 q k (2 ^ 426)) (sym n) (sub-mul a b p)
      go false false false n = ap (λ (k : ℕ). round binary32 false k (2 ^ 426)) (sub-mul a b p)

  pub settled : (s t : Bool) → Sum s t (a * p) (b * p) ≡ round binary32 (sum_sign s a t b) (sum_size s a t b * p) (2 ^ 426)
  unfolding sum
  settled true true = ap₂ (λ (q : Bool) (k : ℕ). round binary32 q k (2 ^ 426)) (sym (one-sign (ltb a b) (ltb b a) true)) (sym (add-mul a b p))
  settled false false = ap₂ (λ (q : Bool) (k : ℕ). round binary32 q k (2 ^ 426)) (sym (one-sign (ltb a b) (ltb b a) false)) (sym (add-mul a b p))
  settled true false = gap true false (ltb a b) (ltb b a) refl refl refl
  settled false true = gap false true (ltb a b) (ltb b a) refl refl refl

pub size-le : (s t : Bool) (a b : ℕ) → sum_size s a t b ≤ a + b
size-le s t a b = go (beq s t) (ltb a b)
  where
    go : (x y : Bool) → cond x (a + b) (cond y (b - a) (a - b)) ≤ a + b
    go true y = omega arith
    go false true = omega arith
    go false false = omega arith
