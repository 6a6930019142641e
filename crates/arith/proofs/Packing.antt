-- A number rounded to 24 digits, and the pattern that is packed from them. Assumes nothing.
use Rattle.std.proofs.Common.{◌≡◌, ℕ, ◌+◌, ◌-◌, ◌*◌, ◌/◌, ◌%◌, ◌^◌, ◌<◌, ◌≤◌, min, Bool, true, false, cond, not, T, ltb, ◌⊎◌, sym, refl, ap, ◌∙◌, subst, ap₂, inl, inr, le_trans, le_of_eq, le_refl, lt_of_lt_of_le, lt_of_le_of_lt, add_assoc, mul-le-mul_right, mul_assoc, mul_comm, add-mul, eq-or-lt_of_le, zero-mul, mul-one, not-le_of_lt, mul-div_cancel, arith, ltb→lt, nltb→le, pow_pos, pow_mono, pow-add, shl_lt, shr_lt}
use Prim.Native.Nat.{compare}
use lib.Pow.{pow-lt, shl-shr, shr_mono}
use lib.Ieee.{Float, nan, inf, fin, Format, binary32, prec, low, hid, top, up, down, size, odd, units, round, of_bits, to_bits, fits, nan_bits}
use lib.Ieee.Digits.{size-le}
use lib.Ieee.Fits.{down_pos, round-fits, nearest-le}
use lib.Ieee.Exact.{HasValue, units_val}
use lib.Ieee.Nearest.{closest, closest_same, nearest-ge}
use lib.Ieee.Bits.{of_bits-to_bits, nan_bits_above}
use lib.Arith.{le→nltb}
use Rattle.arith.specs.Pattern.{packed}
use Rattle.arith.specs.Parts.{shift_of}
use Rattle.arith.proofs.Digits.{pow_lt_back, pow_le_back, size-shl, size-shr}
use Rattle.arith.proofs.Rounding.{dropped, round-pow}

-- ---- the pattern of a finite value of n units
pub written : (f : Format) (v : Float) (s : Bool) (n : ℕ) → HasValue v s n (2 ^ low f) → to_bits f v ≡ cond s (top f) 0 + (size n - prec f) * hid f + n / 2 ^ (size n - prec f)
unfolding to_bits
written f nan s n h = absurd h
written f (inf t) s n h = absurd h
written f (fin t m e) s n h =
    let q : m * up e * 2 ^ low f / down e ≡ n = ap (λ (x : ℕ). x / down e) h.1 ∙ mul-div_cancel n (down_pos e) in
    ap₂ (λ (b : Bool) (x : ℕ). cond b (top f) 0 + (size x - prec f) * hid f + x / 2 ^ (size x - prec f)) h.0 q

-- the two fields of q * 2 ^ k units, where the digits' field has h places
abbrev pub Fields : ℕ → ℕ → ℕ → Type 0
Fields h q k = (size (q * 2 ^ k) - (h + 1)) * 2 ^ h + q * 2 ^ k / 2 ^ (size (q * 2 ^ k) - (h + 1)) ≡ k * 2 ^ h + q

module _ (h q k : ℕ) where
  fields_at : (j : ℕ) → size (q * 2 ^ k) - (h + 1) ≡ j → j * 2 ^ h + q * 2 ^ k / 2 ^ j ≡ k * 2 ^ h + q → Fields h q k
  fields_at j e g = subst (λ (x : ℕ). x * 2 ^ h + q * 2 ^ k / 2 ^ x ≡ k * 2 ^ h + q) (sym e) g

  fields-normal : 2 ^ h ≤ q → q < 2 ^ (h + 1) → Fields h q k
  fields-normal l g =
      let e : size (q * 2 ^ k) ≡ h + 1 + k = size-shl q h k l g in
      fields_at k (omega arith) (ap (λ (x : ℕ). k * 2 ^ h + x) (shl-shr q k))

  fields-carry : q ≡ 2 ^ (h + 1) → Fields h q k
  fields-carry e =
      let p : 2 ^ (h + 1) ≡ 2 ^ h * 2 = pow-add 2 h 1 in
      let z : size (q * 2 ^ k) ≡ h + 1 + 1 + k = ap (λ (x : ℕ). size (x * 2 ^ k)) e ∙ size-shl (2 ^ (h + 1)) (h + 1) k (le_refl (2 ^ (h + 1))) (pow-lt (let g : h + 1 < h + 1 + 1 = omega arith in g)) in
      let v : q * 2 ^ k ≡ 2 ^ h * 2 ^ (k + 1) =
      ap (λ (x : ℕ). x * 2 ^ k) (e ∙ p) ∙ mul_assoc (2 ^ h) 2 (2 ^ k) ∙ ap (λ (x : ℕ). 2 ^ h * x) (mul_comm 2 (2 ^ k) ∙ sym (pow-add 2 k 1)) in
      let d : q * 2 ^ k / 2 ^ (k + 1) ≡ 2 ^ h = ap (λ (x : ℕ). x / 2 ^ (k + 1)) v ∙ shl-shr (2 ^ h) (k + 1) in
      let m : (k + 1) * 2 ^ h ≡ k * 2 ^ h + 1 * 2 ^ h = add-mul k 1 (2 ^ h) in
      fields_at (k + 1) (omega arith) (omega arith)

fields-low : (h q : ℕ) → q < 2 ^ (h + 1) → Fields h q 0
fields-low h q l =
    let e : q * 2 ^ 0 ≡ q = mul-one q in
    let z : size (q * 2 ^ 0) ≤ h + 1 = size-le (q * 2 ^ 0) (h + 1) (subst (λ (x : ℕ). x < 2 ^ (h + 1)) (sym e) l) in
    fields_at h q 0 0 (omega arith) (ap (λ (x : ℕ). 0 * 2 ^ h + x) (shl-shr q 0))

pub fields : (h q k : ℕ) → q ≤ 2 ^ (h + 1) → (k ≡ 0) ⊎ (2 ^ h ≤ q) → Fields h q k
fields h q k g c = go (eq-or-lt_of_le g) c
  where
    go : (q ≡ 2 ^ (h + 1)) ⊎ (q < 2 ^ (h + 1)) → (k ≡ 0) ⊎ (2 ^ h ≤ q) → Fields h q k
    go (inl e) c = fields-carry h q k e
    go (inr l) (inl z) = subst (λ (x : ℕ). Fields h q x) (sym z) (fields-low h q l)
    go (inr l) (inr n) = fields-normal h q k n l

-- ---- q * 2 ^ k units, as rounding leaves them: 24 digits, or a carry, or the least exponent
module _ (q k : ℕ) (h : q ≤ 2 ^ 24) (c : (k ≡ 0) ⊎ (2 ^ 23 ≤ q)) where
  in-range : q * 2 ^ k < 2 ^ 277 → k * 2 ^ 23 + q < 255 * 2 ^ 23
  in-range g = go c (eq-or-lt_of_le h)
    where
      go : (k ≡ 0) ⊎ (2 ^ 23 ≤ q) → (q ≡ 2 ^ 24) ⊎ (q < 2 ^ 24) → k * 2 ^ 23 + q < 255 * 2 ^ 23
      go (inl z) a = omega arith
      go (inr n) (inl e) =
          let l : 24 + k < 277 = pow_lt_back (24 + k) 277 (lt_of_le_of_lt (le_of_eq (pow-add 2 24 k ∙ ap (λ (x : ℕ). x * 2 ^ k) (sym e))) g) in
          omega arith
      go (inr n) (inr l) =
          let m : 23 + k < 277 = pow_lt_back (23 + k) 277 (lt_of_le_of_lt (le_trans (le_of_eq (pow-add 2 23 k)) (mul-le-mul_right (2 ^ k) n)) g) in
          omega arith

  out_of_range : 2 ^ 277 ≤ q * 2 ^ k → 255 * 2 ^ 23 ≤ k * 2 ^ 23 + q
  out_of_range g =
      let l : 277 ≤ 24 + k = pow_le_back 277 (24 + k) (le_trans g (le_trans (mul-le-mul_right (2 ^ k) h) (le_of_eq (sym (pow-add 2 24 k))))) in
      go c (eq-or-lt_of_le h) (eq-or-lt_of_le l)
    where
      go : (k ≡ 0) ⊎ (2 ^ 23 ≤ q) → (q ≡ 2 ^ 24) ⊎ (q < 2 ^ 24) → (277 ≡ 24 + k) ⊎ (277 < 24 + k) → 255 * 2 ^ 23 ≤ k * 2 ^ 23 + q
      go (inl z) a (inl b) = omega arith
      go (inl z) a (inr b) = omega arith
      go (inr n) (inl e) (inl b) = omega arith
      go (inr n) (inr l) (inl b) = absurd (not-le_of_lt (subst (λ (x : ℕ). q * 2 ^ k < 2 ^ x) (sym b) (shl_lt 24 k l)) g)
      go (inr n) a (inr b) = omega arith

-- ---- the pattern
capped : (a c : ℕ) → a < c → min a c ≡ a
capped a c h = omega arith

full : (a c : ℕ) → c ≤ a → min a c ≡ c
full a c h = omega arith

inf_bits : (s : Bool) → to_bits binary32 (inf s) ≡ cond s (2 ^ 31) 0 + 255 * 2 ^ 23
unfolding to_bits
inf_bits s = refl

inf-units : (s : Bool) (q k : ℕ) → 2 ^ 277 ≤ q * 2 ^ k → units binary32 s q k ≡ inf s
unfolding units
inf-units s q k h = go (ltb (q * 2 ^ k) (2 ^ 277)) (ltb→lt (q * 2 ^ k) (2 ^ 277))
  where
    go : (b : Bool) → (T b → q * 2 ^ k < 2 ^ 277) → cond b (odd 25 s q k 149) (inf s) ≡ inf s
    go true l = absurd (not-le_of_lt (l tt) h)
    go false l = refl

packs : (s : Bool) (q k : ℕ) → q ≤ 2 ^ 24 → (k ≡ 0) ⊎ (2 ^ 23 ≤ q) → to_bits binary32 (units binary32 s q k) ≡ packed s k q
packs s q k h c = go (ltb (q * 2 ^ k) (2 ^ 277)) (ltb→lt (q * 2 ^ k) (2 ^ 277)) (nltb→le (q * 2 ^ k) (2 ^ 277))
  where
    go : (b : Bool) → (T b → q * 2 ^ k < 2 ^ 277) → (T (not b) → 2 ^ 277 ≤ q * 2 ^ k) → to_bits binary32 (units binary32 s q k) ≡ packed s k q
    go true l g =
        written binary32 (units binary32 s q k) s (q * 2 ^ k) (units_val binary32 s q k (l tt))
        ∙ add_assoc (cond s (2 ^ 31) 0) ((size (q * 2 ^ k) - 24) * 2 ^ 23) (q * 2 ^ k / 2 ^ (size (q * 2 ^ k) - 24))
        ∙ ap (λ (x : ℕ). cond s (2 ^ 31) 0 + x) (fields 23 q k h c ∙ sym (capped (k * 2 ^ 23 + q) (255 * 2 ^ 23) (in-range q k h c (l tt))))
    go false l g =
        ap (λ (v : Float). to_bits binary32 v) (inf-units s q k (g tt))
        ∙ inf_bits s
        ∙ ap (λ (x : ℕ). cond s (2 ^ 31) 0 + x) (sym (full (k * 2 ^ 23 + q) (255 * 2 ^ 23) (out_of_range q k h c (g tt))))

pub packed-no-nan : (s : Bool) (k q : ℕ) → T (not (nan_bits binary32 (packed s k q)))
packed-no-nan s k q = subst (λ (b : Bool). T (not b)) (sym (nan_bits_above binary32 (packed s k q))) (le→nltb (255 * 2 ^ 23) (packed s k q % 2 ^ 31) (bound s (min (k * 2 ^ 23 + q) (255 * 2 ^ 23)) (omega arith)))
  where
    bound : (s : Bool) (a : ℕ) → a ≤ 255 * 2 ^ 23 → (cond s (2 ^ 31) 0 + a) % 2 ^ 31 ≤ 255 * 2 ^ 23
    bound true a h = omega arith
    bound false a h = omega arith

-- ---- p, of 24 + t digits, times 2 ^ e, in units of 2 ^ -(149 + w)
module _ (s : Bool) (p e t w : ℕ) (lo : 2 ^ (23 + t) ≤ p) (hi : p < 2 ^ (24 + t)) where
  abbrev sh : ℕ
  sh = shift_of t w e

  abbrev k : ℕ
  k = e + sh - w

  abbrev q : ℕ
  q = closest p (2 ^ sh)

  drops : dropped binary32 w (p * 2 ^ e) ≡ k
  drops =
      let z : size (p * 2 ^ e / 2 ^ w) ≡ size (p * 2 ^ e) - w = size-shr (p * 2 ^ e) w in
      let x : 23 + t + 1 ≡ 24 + t = omega arith in
      let y : size (p * 2 ^ e) ≡ 23 + t + 1 + e = size-shl p (23 + t) e lo (subst (λ (i : ℕ). p < 2 ^ i) (sym x) hi) in
      omega arith

  place : w + k ≡ e + sh
  place = omega arith

  kept : closest (p * 2 ^ e) (2 ^ (w + k)) ≡ q
  kept =
      ap (λ (x : ℕ). closest (p * 2 ^ e) (2 ^ x)) place
      ∙ closest_same (p * 2 ^ e) (2 ^ (e + sh)) p (2 ^ sh) (pow_pos (e + sh)) (pow_pos sh) (mul_assoc p (2 ^ e) (2 ^ sh) ∙ ap (λ (x : ℕ). p * x) (sym (pow-add 2 e sh)))

  rounded : round binary32 s (p * 2 ^ e) (2 ^ (149 + w)) ≡ units binary32 s q k
  rounded =
      round-pow binary32 s (p * 2 ^ e) w
      ∙ ap (λ (x : ℕ). units binary32 s (closest (p * 2 ^ e) (2 ^ (w + x))) x) drops
      ∙ ap (λ (x : ℕ). units binary32 s x k) kept

  enough : 24 + t ≤ 24 + sh
  enough = omega arith

  pub q-le : q ≤ 2 ^ 24
  q-le = le_trans (nearest-le (p / 2 ^ sh) (compare (p % 2 ^ sh * 2) (2 ^ sh))) (shr_lt 24 sh (lt_of_lt_of_le hi (pow_mono enough)))

  normal : sh ≡ t → 2 ^ 23 ≤ q
  normal z =
      le_trans
      (subst (λ (x : ℕ). 2 ^ 23 ≤ p / 2 ^ x) (sym z) (le_trans (le_of_eq (sym (shl-shr (2 ^ 23) t))) (shr_mono t (le_trans (le_of_eq (sym (pow-add 2 23 t))) lo))))
      (nearest-ge (p / 2 ^ sh) (compare (p % 2 ^ sh * 2) (2 ^ sh)))

  either : (k ≡ 0) ⊎ (2 ^ 23 ≤ q)
  either = go (ltb t (w - e)) (ltb→lt t (w - e)) (nltb→le t (w - e))
    where
      go : (b : Bool) → (T b → t < w - e) → (T (not b) → w - e ≤ t) → (k ≡ 0) ⊎ (2 ^ 23 ≤ q)
      go true l g = inl (let h : t < w - e = l tt in omega arith)
      go false l g = inr (normal (let h : w - e ≤ t = g tt in omega arith))

  pub finished : round binary32 s (p * 2 ^ e) (2 ^ (149 + w)) ≡ of_bits binary32 (packed s k q)
  finished =
      rounded
      ∙ sym (of_bits-to_bits binary32 (units binary32 s q k) (subst (λ (x : Float). T (fits binary32 x)) rounded (round-fits binary32 s (p * 2 ^ e) (2 ^ (149 + w)))))
      ∙ ap (λ (x : ℕ). of_bits binary32 x) (packs s q k q-le either)

pub zeroed : (s : Bool) (e : ℕ) → round binary32 s (0 * 2 ^ e) (2 ^ 426) ≡ of_bits binary32 (packed s 0 0)
unfolding round of_bits
zeroed true e = ap (λ (x : ℕ). round binary32 true x (2 ^ 426)) (zero-mul (2 ^ e))
zeroed false e = ap (λ (x : ℕ). round binary32 false x (2 ^ 426)) (zero-mul (2 ^ e))
