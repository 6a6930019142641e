-- A number rounded to 53 digits and then to 24 of them is the number rounded to 24 at once, unless the first step leaves a tie. Assumes nothing.
use Rattle.std.proofs.Common.{◌≡◌, ℕ, zero, suc, ◌+◌, ◌-◌, ◌*◌, ◌/◌, ◌%◌, ◌^◌, ◌<◌, ◌≤◌, min, Bool, true, false, cond, not, T, ltb, leb, ◌⊎◌, sym, refl, ap, ◌∙◌, subst, ap₂, inl, inr, le_trans, le_of_eq, lt_of_lt_of_le, lt_of_le_of_lt, add_assoc, mul-le-mul_right, mod-lt, mul_assoc, mul_comm, div-add-mod', le-div_iff_mul-le, zero-add, mul-one, div-one, arith, ltb→lt, pow_pos, pow_mono, pow-add, le-leb}
use Prim.Native.Nat.{compare, Ordering}
use native.Mathlib.Nat.{mul-mod_left}
use lib.Arith.{le→nltb}
use lib.Pow.{shl-shr}
use lib.Ieee.{Float, inf, Format, binary32, binary64, prec, emax, low, size, nearest, odd, units, round, to_bits, of_bits, nan_bits}
use lib.Ieee.Digits.{size-lt, size_reaches}
use lib.Ieee.Fits.{kept-lt, nearest-le}
use lib.Ieee.Bits.{nan_bits_above}
use lib.Ieee.Exact.{units_val}
use lib.Ieee.Nearest.{closest, closest_same, nearest-ge}
use lib.Ieee.Scale.{finite}
use borrow.Author.Tests.{lt-leb}
use Rattle.arith.specs.Digit.{flag}
use Rattle.arith.specs.Pattern.{packed}
use Rattle.arith.specs.Parts.{Narrows, narrow, shift_of}
use Rattle.arith.proofs.Digits.{pow_lt_back}
use Rattle.arith.proofs.Rounding.{three, cmp-lt, cmp-gt, closest-lt, closest-eq, closest-gt, flag-le, flag-pos, by_flag, round-pow}
use Rattle.arith.proofs.Packing.{written, fields, finished}

-- ---- w and a rest r of c: rounded to a whole number, and then to a multiple of 2 ^ 29
module _ (w r c : ℕ) (h : r < c) where
  -- the first step goes down, or up from a rest that is not zero
  abbrev Step : ℕ → Type 0
  Step q = (q ≡ w) ⊎ ((q ≡ suc w) × (flag r ≡ 1))

  second : (q : ℕ) → Step q → (q % 2 ^ 29 ≡ 2 ^ 28 → ⊥) → nearest (w / 2 ^ 29) (compare (w % 2 ^ 29 * 2 + flag r) (2 ^ 29)) ≡ (q + 2 ^ 28) / 2 ^ 29
  second q (inl e) n = elim (three (w % 2 ^ 29) (2 ^ 28)) [
    | inl l ↦
        let f : flag r ≤ 1 = flag-le r in
        ap (λ (o : Ordering). nearest (w / 2 ^ 29) o) (cmp-lt (w % 2 ^ 29 * 2 + flag r) (2 ^ 29) (omega arith)) ∙ (let g : w / 2 ^ 29 ≡ (q + 2 ^ 28) / 2 ^ 29 = omega arith in g)
    | inr (inl g) ↦ absurd (n (ap (λ (x : ℕ). x % 2 ^ 29) e ∙ g))
    | inr (inr l) ↦
        ap (λ (o : Ordering). nearest (w / 2 ^ 29) o) (cmp-gt (w % 2 ^ 29 * 2 + flag r) (2 ^ 29) (omega arith)) ∙ (let g : suc (w / 2 ^ 29) ≡ (q + 2 ^ 28) / 2 ^ 29 = omega arith in g)
  ]
  second q (inr (e, f)) n = elim (three (w % 2 ^ 29) (2 ^ 28 - 1)) [
    | inl l ↦
        ap (λ (o : Ordering). nearest (w / 2 ^ 29) o) (cmp-lt (w % 2 ^ 29 * 2 + flag r) (2 ^ 29) (omega arith)) ∙ (let g : w / 2 ^ 29 ≡ (q + 2 ^ 28) / 2 ^ 29 = omega arith in g)
    | inr (inl g) ↦ absurd (n (omega arith))
    | inr (inr l) ↦
        ap (λ (o : Ordering). nearest (w / 2 ^ 29) o) (cmp-gt (w % 2 ^ 29 * 2 + flag r) (2 ^ 29) (omega arith)) ∙ (let g : suc (w / 2 ^ 29) ≡ (q + 2 ^ 28) / 2 ^ 29 = omega arith in g)
  ]

first : (n c w r : ℕ) → 0 < c → n / c ≡ w → n % c ≡ r → (closest n c ≡ w) ⊎ ((closest n c ≡ suc w) × (flag r ≡ 1))
first n c w r C iw ir = elim (three (r * 2) c) [
  | inl l ↦ inl (closest-lt n c w r iw ir l)
  | inr (inl e) ↦ even (w % 2) refl e
  | inr (inr g) ↦ inr (closest-gt n c w r iw ir g, flag-pos r (omega arith))
]
  where
    even : (p : ℕ) → w % 2 ≡ p → r * 2 ≡ c → (closest n c ≡ w) ⊎ ((closest n c ≡ suc w) × (flag r ≡ 1))
    even zero e f = inl (closest-eq n c w r iw ir f ∙ (let g : w + w % 2 ≡ w = omega arith in g))
    even (suc p) e f = inr (closest-eq n c w r iw ir f ∙ (let g : w + w % 2 ≡ suc w = omega arith in g), flag-pos r (omega arith))

-- the law: q is n in units of 2 ^ k, and no tie in units of 2 ^ (k + 29)
pub twice : (n k : ℕ) → (closest n (2 ^ k) % 2 ^ 29 ≡ 2 ^ 28 → ⊥) → closest n (2 ^ (k + 29)) ≡ (closest n (2 ^ k) + 2 ^ 28) / 2 ^ 29
twice n k h =
    let c = 2 ^ k in
    let C : 0 < c = pow_pos k in
    let w = n / c in
    let r = n % c in
    let l : r < c = mod-lt n C in
    let u : 2 ^ (k + 29) ≡ 2 ^ 28 * 2 * c = pow-add 2 k 29 ∙ mul_comm c (2 ^ 29) in
    ap₂ (λ (x y : ℕ). closest x y) (sym (div-add-mod' n c)) u
    ∙ by_flag w r c (2 ^ 28) l (pow_pos 28)
    ∙ second w r c l (closest n c) (first n c w r C refl refl) h

-- ---- the pattern of n units of 2 ^ -1074, rounded to an `f64`
units-bound : (f : Format) (s : Bool) (q k : ℕ) → T (finite (units f s q k)) → q * 2 ^ k < 2 ^ (low f + suc (emax f))
unfolding units
units-bound f s q k = go (ltb (q * 2 ^ k) (2 ^ (low f + suc (emax f)))) (ltb→lt (q * 2 ^ k) (2 ^ (low f + suc (emax f))))
  where
    go : (b : Bool) → (T b → q * 2 ^ k < 2 ^ (low f + suc (emax f))) → T (finite (cond b (odd (suc (prec f)) s q k (low f)) (inf s))) → q * 2 ^ k < 2 ^ (low f + suc (emax f))
    go true h t = h tt
    go false h t = absurd t

module _ (g : Bool) (n : ℕ) where
  abbrev k : ℕ
  k = size n - 53

  abbrev q : ℕ
  q = closest n (2 ^ k)

  rounded : round binary64 g n (2 ^ 1074) ≡ units binary64 g q k
  rounded =
      round-pow binary64 g n 0
      ∙ ap (λ (x : ℕ). units binary64 g (closest n (2 ^ (0 + (size x - 53)))) (size x - 53)) (div-one n)
      ∙ ap (λ (x : ℕ). units binary64 g (closest n (2 ^ x)) k) (zero-add k)

  q-le : q ≤ 2 ^ 53
  q-le = le_trans (nearest-le (n / 2 ^ k) (compare (n % 2 ^ k * 2) (2 ^ k))) (kept-lt 53 n)

  lead : 0 < k → 2 ^ (52 + k) ≤ n
  lead h = size_reaches n (52 + k) (let l : 52 + k < size n = omega arith in l)

  normal : (k ≡ 0) ⊎ (2 ^ 52 ≤ q)
  normal = elim (three 0 k) [
    | inl h ↦ inr (le_trans ((le-div_iff_mul-le (pow_pos k)).1 (le_trans (le_of_eq (sym (pow-add 2 52 k))) (lead h))) (nearest-ge (n / 2 ^ k) (compare (n % 2 ^ k * 2) (2 ^ k))))
    | inr (inl e) ↦ inl (sym e)
    | inr (inr h) ↦ absurd (omega arith)
  ]

  module _ (fine : T (finite (round binary64 g n (2 ^ 1074)))) where
    below : q * 2 ^ k < 2 ^ 2098
    below = units-bound binary64 g q k (subst (λ (v : Float). T (finite v)) rounded fine)

    in-range : k * 2 ^ 52 + q < 2 ^ 63
    in-range = go normal
      where
        go : (k ≡ 0) ⊎ (2 ^ 52 ≤ q) → k * 2 ^ 52 + q < 2 ^ 63
        go (inl z) = let l : q ≤ 2 ^ 53 = q-le in omega arith
        go (inr m) =
            let l : q ≤ 2 ^ 53 = q-le in
            let j : 52 + k < 2098 = pow_lt_back (52 + k) 2098 (lt_of_le_of_lt (le_trans (le_of_eq (pow-add 2 52 k)) (mul-le-mul_right (2 ^ k) m)) below) in
            omega arith

    bits_are : to_bits binary64 (round binary64 g n (2 ^ 1074)) ≡ cond g (2 ^ 63) 0 + (k * 2 ^ 52 + q)
    bits_are =
        ap (λ (v : Float). to_bits binary64 v) rounded
        ∙ written binary64 (units binary64 g q k) g (q * 2 ^ k) (units_val binary64 g q k below)
        ∙ add_assoc (cond g (2 ^ 63) 0) ((size (q * 2 ^ k) - 53) * 2 ^ 52) (q * 2 ^ k / 2 ^ (size (q * 2 ^ k) - 53))
        ∙ ap (λ (x : ℕ). cond g (2 ^ 63) 0 + x) (fields 52 q k q-le normal)

-- ---- a pattern that narrows: rounded from there, n is rounded as from the start
pub near_le : (x : ℕ) → x < 1150 * 2 ^ 52 → closest x (2 ^ 29) ≤ 1150 * 2 ^ 23
near_le x h = le_trans (nearest-le (x / 2 ^ 29) (compare (x % 2 ^ 29 * 2) (2 ^ 29))) (let l : x / 2 ^ 29 < 1150 * 2 ^ 23 = omega arith in l)

module _ (g : Bool) (m : ℕ) (h : m < 2 ^ 63) where
  sign-is : leb (2 ^ 63) (cond g (2 ^ 63) 0 + m) ≡ g
  sign-is = go g
    where
      go : (b : Bool) → leb (2 ^ 63) (cond b (2 ^ 63) 0 + m) ≡ b
      go true = le-leb (2 ^ 63) (2 ^ 63 + m) (omega arith)
      go false = lt-leb (2 ^ 63) (0 + m) (omega arith)

  size_is : (cond g (2 ^ 63) 0 + m) % 2 ^ 63 ≡ m
  size_is = go g
    where
      go : (b : Bool) → (cond b (2 ^ 63) 0 + m) % 2 ^ 63 ≡ m
      go true = omega arith
      go false = omega arith

  rest-is : (cond g (2 ^ 63) 0 + m) % 2 ^ 29 ≡ m % 2 ^ 29
  rest-is = go g
    where
      go : (b : Bool) → (cond b (2 ^ 63) 0 + m) % 2 ^ 29 ≡ m % 2 ^ 29
      go true = omega arith
      go false = omega arith

-- whole units of 2 ^ 30 more, by as many units of 2 ^ 29
shifted : (d q : ℕ) → closest (d * 2 ^ 30 + q) (2 ^ 29) ≡ d * 2 + closest q (2 ^ 29)
shifted d q =
    let w = q / 2 ^ 29 in
    let r = q % 2 ^ 29 in
    let iw : (d * 2 ^ 30 + q) / 2 ^ 29 ≡ d * 2 + w = omega arith in
    let ir : (d * 2 ^ 30 + q) % 2 ^ 29 ≡ r = omega arith in
    elim (three (r * 2) (2 ^ 29)) [
      | inl l ↦ closest-lt (d * 2 ^ 30 + q) (2 ^ 29) (d * 2 + w) r iw ir l ∙ ap (λ (x : ℕ). d * 2 + x) (sym (closest-lt q (2 ^ 29) w r refl refl l))
      | inr (inl e) ↦
          closest-eq (d * 2 ^ 30 + q) (2 ^ 29) (d * 2 + w) r iw ir e
          ∙ (let g : d * 2 + w + (d * 2 + w) % 2 ≡ d * 2 + (w + w % 2) = omega arith in g)
          ∙ ap (λ (x : ℕ). d * 2 + x) (sym (closest-eq q (2 ^ 29) w r refl refl e))
      | inr (inr l) ↦
          closest-gt (d * 2 ^ 30 + q) (2 ^ 29) (d * 2 + w) r iw ir l
          ∙ (let g : suc (d * 2 + w) ≡ d * 2 + suc w = omega arith in g)
          ∙ ap (λ (x : ℕ). d * 2 + x) (sym (closest-gt q (2 ^ 29) w r refl refl l))
    ]

-- no tie: half a unit more, cut off
untied-is : (x : ℕ) → (x % 2 ^ 29 ≡ 2 ^ 28 → ⊥) → (x + 2 ^ 28) / 2 ^ 29 ≡ closest x (2 ^ 29)
untied-is x h = elim (three (x % 2 ^ 29) (2 ^ 28)) [
  | inl l ↦ (let g : (x + 2 ^ 28) / 2 ^ 29 ≡ x / 2 ^ 29 = omega arith in g) ∙ sym (closest-lt x (2 ^ 29) (x / 2 ^ 29) (x % 2 ^ 29) refl refl (omega arith))
  | inr (inl e) ↦ absurd (h e)
  | inr (inr l) ↦ (let g : (x + 2 ^ 28) / 2 ^ 29 ≡ suc (x / 2 ^ 29) = omega arith in g) ∙ sym (closest-gt x (2 ^ 29) (x / 2 ^ 29) (x % 2 ^ 29) refl refl (omega arith))
]

none : (b : Bool) → round binary32 b 0 (2 ^ 1074) ≡ of_bits binary32 (cond b (2 ^ 31) 0 + 0)
unfolding round of_bits
none true = refl
none false = refl

-- a number of whole units of 2 ^ k
whole-units : (n h k : ℕ) → n ≡ h * 2 ^ k → closest n (2 ^ k) ≡ h
whole-units n h k e = closest-lt n (2 ^ k) h 0 (ap (λ (x : ℕ). x / 2 ^ k) e ∙ shl-shr h k) (ap (λ (x : ℕ). x % 2 ^ k) e ∙ mul-mod_left h (2 ^ k)) (pow_pos k)

module _ (g : Bool) (n : ℕ) (fine : T (finite (round binary64 g n (2 ^ 1074)))) where
  abbrev bits : ℕ
  bits = cond g (2 ^ 63) 0 + (k g n * 2 ^ 52 + q g n)

  mag_is : bits % 2 ^ 63 ≡ k g n * 2 ^ 52 + q g n
  mag_is = size_is g (k g n * 2 ^ 52 + q g n) (in-range g n fine)

  signed : (x : ℕ) → cond g (2 ^ 31) 0 + x ≡ cond (leb (2 ^ 63) bits) (2 ^ 31) 0 + x
  signed x = ap (λ (b : Bool). cond b (2 ^ 31) 0 + x) (sym (sign-is g (k g n * 2 ^ 52 + q g n) (in-range g n fine)))

  -- where the rounded number rounds as n does
  narrow_bits : 898 * 2 ^ 52 ≤ bits % 2 ^ 63 → bits % 2 ^ 63 < 1150 * 2 ^ 52 → closest n (2 ^ (k g n + 29)) ≡ closest (q g n) (2 ^ 29) → round binary32 g n (2 ^ 1074) ≡ of_bits binary32 (narrow bits)
  narrow_bits lo hi law =
      let K = k g n in
      let Q = q g n in
      let R = closest Q (2 ^ 29) in
      let u : Q ≤ 2 ^ 53 = q-le g n in
      let e : bits % 2 ^ 63 ≡ K * 2 ^ 52 + Q = mag_is in
      let big : 896 ≤ K = omega arith in
      let t = size n - 24 in
      let a : 2 ^ (23 + t) ≤ n = size_reaches n (23 + t) (let i : 23 + t < size n = omega arith in i) in
      let b : n < 2 ^ (24 + t) = lt_of_lt_of_le (size-lt n) (pow_mono (let i : size n ≤ 24 + t = omega arith in i)) in
      let sh : shift_of t 925 0 ≡ K + 29 = omega arith in
      let near : closest (bits % 2 ^ 63) (2 ^ 29) ≡ K * 2 ^ 22 * 2 + R = ap (λ (x : ℕ). closest x (2 ^ 29)) (e ∙ (let i : K * 2 ^ 52 + Q ≡ K * 2 ^ 22 * 2 ^ 30 + Q = omega arith in i)) ∙ shifted (K * 2 ^ 22) Q in
      let top : closest (bits % 2 ^ 63) (2 ^ 29) ≤ 1150 * 2 ^ 23 = near_le (bits % 2 ^ 63) hi in
      ap (λ (x : ℕ). round binary32 g x (2 ^ 1074)) (sym (mul-one n))
      ∙ finished g n 0 t 925 a b
      ∙ ap (λ (x : ℕ). of_bits binary32 (packed g (0 + x - 925) (closest n (2 ^ x)))) sh
      ∙ ap (λ (x : ℕ). of_bits binary32 (packed g (0 + (K + 29) - 925) x)) law
      ∙ ap (λ (x : ℕ). of_bits binary32 (cond g (2 ^ 31) 0 + x)) (let i : min ((0 + (K + 29) - 925) * 2 ^ 23 + R) (255 * 2 ^ 23) ≡ closest (bits % 2 ^ 63) (2 ^ 29) - 896 * 2 ^ 23 = omega arith in i)
      ∙ ap (λ (x : ℕ). of_bits binary32 x) (signed (closest (bits % 2 ^ 63) (2 ^ 29) - 896 * 2 ^ 23))

  untied-bits : Narrows bits → round binary32 g n (2 ^ 1074) ≡ of_bits binary32 (narrow bits)
  untied-bits w =
      let r : bits % 2 ^ 29 ≡ q g n % 2 ^ 29 = rest-is g (k g n * 2 ^ 52 + q g n) (in-range g n fine) ∙ (let i : (k g n * 2 ^ 52 + q g n) % 2 ^ 29 ≡ q g n % 2 ^ 29 = omega arith in i) in
      let no_tie : q g n % 2 ^ 29 ≡ 2 ^ 28 → ⊥ = λ z. w.untied (r ∙ z) in
      narrow_bits w.least w.most (twice n (k g n) no_tie ∙ untied-is (q g n) no_tie)

  -- nothing is lost where n has no digit below the last place that the pattern tells
  exact-bits : (h j : ℕ) → n ≡ h * 2 ^ j → 898 * 2 ^ 52 ≤ bits % 2 ^ 63 → bits % 2 ^ 63 < 1150 * 2 ^ 52 → bits % 2 ^ 63 / 2 ^ 52 ≤ j + 1 → round binary32 g n (2 ^ 1074) ≡ of_bits binary32 (narrow bits)
  exact-bits h j e lo hi l =
      let K = k g n in
      let Q = q g n in
      let u : Q ≤ 2 ^ 53 = q-le g n in
      let m : bits % 2 ^ 63 ≡ K * 2 ^ 52 + Q = mag_is in
      let big : 896 ≤ K = omega arith in
      let lead : 2 ^ 52 ≤ Q = elim (normal g n) [ inl z ↦ absurd (omega arith) | inr p ↦ p ] in
      let i : j - K + K ≡ j = (let below : K ≤ j = omega arith in omega arith) in
      let v : n ≡ h * 2 ^ (j - K) * 2 ^ K = e ∙ ap (λ (x : ℕ). h * 2 ^ x) (sym i) ∙ ap (λ (x : ℕ). h * x) (pow-add 2 (j - K) K) ∙ sym (mul_assoc h (2 ^ (j - K)) (2 ^ K)) in
      let w : n ≡ Q * 2 ^ K = v ∙ ap (λ (x : ℕ). x * 2 ^ K) (sym (whole-units n (h * 2 ^ (j - K)) K v)) in
      narrow_bits lo hi (closest_same n (2 ^ (K + 29)) Q (2 ^ 29) (pow_pos (K + 29)) (pow_pos 29) (ap (λ (x : ℕ). x * 2 ^ 29) w ∙ mul_assoc Q (2 ^ K) (2 ^ 29) ∙ ap (λ (x : ℕ). Q * x) (sym (pow-add 2 K 29))))

  zero_bits : bits % 2 ^ 63 ≡ 0 → round binary32 g n (2 ^ 1074) ≡ of_bits binary32 (narrow bits)
  zero_bits z =
      let m : bits % 2 ^ 63 ≡ k g n * 2 ^ 52 + q g n = mag_is in
      let k0 : k g n ≡ 0 = omega arith in
      let q0 : q g n ≡ 0 = omega arith in
      let n0 : n ≡ 0 = sym (whole-units n n 0 (sym (mul-one n))) ∙ ap (λ (x : ℕ). closest n (2 ^ x)) (sym k0) ∙ q0 in
      ap (λ (x : ℕ). round binary32 g x (2 ^ 1074)) n0
      ∙ none g
      ∙ ap (λ (x : ℕ). of_bits binary32 x) (signed 0 ∙ ap (λ (x : ℕ). cond (leb (2 ^ 63) bits) (2 ^ 31) 0 + (closest x (2 ^ 29) - 896 * 2 ^ 23)) (sym z))

-- ---- and so for the pattern of n, rounded to an `f64`
module _ (g : Bool) (n : ℕ) (fine : T (finite (round binary64 g n (2 ^ 1074)))) where
  abbrev wide : ℕ
  wide = to_bits binary64 (round binary64 g n (2 ^ 1074))

  abbrev Told : ℕ → Type 0
  Told x = round binary32 g n (2 ^ 1074) ≡ of_bits binary32 (narrow x)

  pub told-untied : Narrows wide → Told wide
  told-untied = subst (λ (x : ℕ). Narrows x → Told x) (sym (bits_are g n fine)) (untied-bits g n fine)

  pub told-exact : (h j : ℕ) → n ≡ h * 2 ^ j → 898 * 2 ^ 52 ≤ wide % 2 ^ 63 → wide % 2 ^ 63 < 1150 * 2 ^ 52 → wide % 2 ^ 63 / 2 ^ 52 ≤ j + 1 → Told wide
  told-exact h j e = subst (λ (x : ℕ). 898 * 2 ^ 52 ≤ x % 2 ^ 63 → x % 2 ^ 63 < 1150 * 2 ^ 52 → x % 2 ^ 63 / 2 ^ 52 ≤ j + 1 → Told x) (sym (bits_are g n fine)) (exact-bits g n fine h j e)

  pub told-zero : wide % 2 ^ 63 ≡ 0 → Told wide
  told-zero = subst (λ (x : ℕ). x % 2 ^ 63 ≡ 0 → Told x) (sym (bits_are g n fine)) (zero_bits g n fine)

pub narrow-no-nan : (bits : ℕ) → bits % 2 ^ 63 < 1150 * 2 ^ 52 → T (not (nan_bits binary32 (narrow bits)))
narrow-no-nan bits h = subst (λ (b : Bool). T (not b)) (sym (nan_bits_above binary32 (narrow bits))) (le→nltb (255 * 2 ^ 23) (narrow bits % 2 ^ 31) (go (leb (2 ^ 63) bits)))
  where
    go : (b : Bool) → (cond b (2 ^ 31) 0 + (closest (bits % 2 ^ 63) (2 ^ 29) - 896 * 2 ^ 23)) % 2 ^ 31 ≤ 255 * 2 ^ 23
    go true = let l : closest (bits % 2 ^ 63) (2 ^ 29) ≤ 1150 * 2 ^ 23 = near_le (bits % 2 ^ 63) h in omega arith
    go false = let l : closest (bits % 2 ^ 63) (2 ^ 29) ≤ 1150 * 2 ^ 23 = near_le (bits % 2 ^ 63) h in omega arith

-- the steps of `narrowed`
pub cut_off : (bits : ℕ) → Narrows bits → (bits % 2 ^ 63 + 2 ^ 28) / 2 ^ 29 ≡ closest (bits % 2 ^ 63) (2 ^ 29)
cut_off bits w = untied-is (bits % 2 ^ 63) (λ z. w.untied ((let e : bits % 2 ^ 29 ≡ bits % 2 ^ 63 % 2 ^ 29 = omega arith in e) ∙ z))
