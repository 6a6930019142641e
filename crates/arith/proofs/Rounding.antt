-- The one law of rounding: a number rounds by its leading digits and by whether anything follows them. So one digit, `flag`, stands for all that is dropped.
-- Assumes nothing.
use Rattle.std.proofs.Common.{◌≡◌, ℕ, zero, suc, ◌+◌, ◌-◌, ◌*◌, ◌/◌, ◌%◌, ◌^◌, ◌<◌, ◌≤◌, Bool, true, false, not, T, eqb, ltb, ◌⊎◌, sym, refl, ap, ◌∙◌, subst, inl, inr, le_trans, le_of_eq, le_of_lt, mul-le-mul_right, mod-lt, zero-lt-suc, mul_assoc, suc-mul, mul_comm, add-mul, mul-pos, one-mul, div-add-mod', zero-mul, mul_right_comm, not-le_of_lt, mul_left_comm, arith, le→leb, eqb→eq, ltb→lt, leb→le, nltb→le, pow_pos, pow-add}
use Prim.Native.Nat.{compare, Ordering}
use native.Mathlib.Nat.{div-div-eq-div-mul, mul-div-mul_right}
use lib.Dec.{is_le, compare_is_eq, eqb_refl}
use lib.Arith.{digits_div, digits_mod, mod-mul}
use lib.Ieee.{Format, prec, low, size, nearest, units, round}
use lib.Ieee.Fits.{round_is}
use lib.Ieee.Nearest.{closest, closest_same}
use Rattle.arith.specs.Digit.{flag, jam}
use Rattle.arith.proofs.Digits.{size-gt, size-shr}

-- ---- what `compare` answers
ord-lt : (o : Ordering) → T (is_le o) → (T (compare_is_eq o) → ⊥) → o ≡ Ordering.lt
ord-lt Ordering.lt p q = refl
ord-lt Ordering.eq p q = absurd (q tt)
ord-lt Ordering.gt p q = absurd p

ord-eq : (o : Ordering) → T (compare_is_eq o) → o ≡ Ordering.eq
ord-eq Ordering.lt p = absurd p
ord-eq Ordering.eq p = refl
ord-eq Ordering.gt p = absurd p

ord-gt : (o : Ordering) → (T (is_le o) → ⊥) → o ≡ Ordering.gt
ord-gt Ordering.lt p = absurd (p tt)
ord-gt Ordering.eq p = absurd (p tt)
ord-gt Ordering.gt p = refl

lt-ne : (a b : ℕ) → a < b → a ≡ b → ⊥
lt-ne a b h e = omega arith

pub cmp-lt : (a b : ℕ) → a < b → compare a b ≡ Ordering.lt
cmp-lt a b h = ord-lt (compare a b) (le→leb a b (le_of_lt h)) (λ t. lt-ne a b h (eqb→eq a b t))

pub cmp-eq : (a b : ℕ) → a ≡ b → compare a b ≡ Ordering.eq
cmp-eq a b e = ord-eq (compare a b) (subst (λ (x : ℕ). T (eqb a x)) e (eqb_refl a))

pub cmp-gt : (a b : ℕ) → b < a → compare a b ≡ Ordering.gt
cmp-gt a b h = ord-gt (compare a b) (λ t. not-le_of_lt h (leb→le a b t))

pub three : (a b : ℕ) → (a < b) ⊎ ((a ≡ b) ⊎ (b < a))
three a b = go (ltb a b) (ltb→lt a b) (nltb→le a b)
  where
    last : (x : Bool) → b ≤ a → (T x → b < a) → (T (not x) → a ≤ b) → (a < b) ⊎ ((a ≡ b) ⊎ (b < a))
    last true g p q = inr (inr (p tt))
    last false g p q = inr (inl (let h : a ≤ b = q tt in omega arith))

    go : (x : Bool) → (T x → a < b) → (T (not x) → b ≤ a) → (a < b) ⊎ ((a ≡ b) ⊎ (b < a))
    go true p q = inl (p tt)
    go false p q = last (ltb b a) (q tt) (ltb→lt b a) (nltb→le b a)

-- ---- `closest` by how twice the remainder r compares with the divisor
module _ (x b q r : ℕ) (iq : x / b ≡ q) (ir : x % b ≡ r) where
  at : (o : Ordering) → compare (r * 2) b ≡ o → closest x b ≡ nearest q o
  at o e = ap (λ (y : ℕ). nearest y (compare (x % b * 2) b)) iq ∙ ap (λ (y : ℕ). nearest q (compare (y * 2) b)) ir ∙ ap (λ (p : Ordering). nearest q p) e

  pub closest-lt : r * 2 < b → closest x b ≡ q
  closest-lt h = at Ordering.lt (cmp-lt (r * 2) b h)

  pub closest-eq : r * 2 ≡ b → closest x b ≡ q + q % 2
  closest-eq h = at Ordering.eq (cmp-eq (r * 2) b h)

  pub closest-gt : b < r * 2 → closest x b ≡ suc q
  closest-gt h = at Ordering.gt (cmp-gt (r * 2) b h)

-- ---- the digit
pub flag-le : (r : ℕ) → flag r ≤ 1
flag-le zero = le_of_lt (zero-lt-suc 0)
flag-le (suc r) = zero-lt-suc 0

pub flag-pos : (x : ℕ) → 0 < x → flag x ≡ 1
flag-pos zero h = absurd (not-le_of_lt h (le_of_eq refl))
flag-pos (suc x) h = refl

pub flag-scale : (r e : ℕ) → flag (r * 2 ^ e) ≡ flag r
flag-scale zero e = ap flag (zero-mul (2 ^ e))
flag-scale (suc r) e = flag-pos (suc r * 2 ^ e) (mul-pos (zero-lt-suc r) (pow_pos e))

pub flag-flag : (r : ℕ) → flag (flag r) ≡ flag r
flag-flag zero = refl
flag-flag (suc r) = refl

-- ---- twice b * c + r against v * 2 * c, for an r below c
cmp-same : (b r c v : ℕ) → r < c → compare ((b * c + r) * 2) (v * 2 * c) ≡ compare (b * 2 + flag r) (v * 2)
cmp-same b r c v h =
    let e : v * 2 * c ≡ v * c * 2 = mul_right_comm v 2 c in
    elim (three b v) [
      | inl l ↦
          let p : b * c + c ≤ v * c = subst (λ (x : ℕ). x ≤ v * c) (suc-mul b c) (mul-le-mul_right c l) in
          let f : flag r ≤ 1 = flag-le r in
          cmp-lt ((b * c + r) * 2) (v * 2 * c) (omega arith) ∙ sym (cmp-lt (b * 2 + flag r) (v * 2) (omega arith))
      | inr (inl q) ↦ at-half r h q
      | inr (inr l) ↦
          let p : v * c + c ≤ b * c = subst (λ (x : ℕ). x ≤ b * c) (suc-mul v c) (mul-le-mul_right c l) in
          cmp-gt ((b * c + r) * 2) (v * 2 * c) (omega arith) ∙ sym (cmp-gt (b * 2 + flag r) (v * 2) (omega arith))
    ]
  where
    at-half : (r : ℕ) → r < c → b ≡ v → compare ((b * c + r) * 2) (v * 2 * c) ≡ compare (b * 2 + flag r) (v * 2)
    at-half zero h q =
        let e : v * 2 * c ≡ v * c * 2 = mul_right_comm v 2 c in
        let f : b * c ≡ v * c = ap (λ (x : ℕ). x * c) q in
        cmp-eq ((b * c + 0) * 2) (v * 2 * c) (omega arith) ∙ sym (cmp-eq (b * 2 + 0) (v * 2) (omega arith))
    at-half (suc r) h q =
        let e : v * 2 * c ≡ v * c * 2 = mul_right_comm v 2 c in
        let f : b * c ≡ v * c = ap (λ (x : ℕ). x * c) q in
        cmp-gt ((b * c + suc r) * 2) (v * 2 * c) (omega arith) ∙ sym (cmp-gt (b * 2 + 1) (v * 2) (omega arith))

-- ---- a number of leading digits a and a rest r below c, rounded to a multiple of v * 2 of those digits
pub by_flag : (a r c v : ℕ) → r < c → 0 < v → closest (a * c + r) (v * 2 * c) ≡ nearest (a / (v * 2)) (compare (a % (v * 2) * 2 + flag r) (v * 2))
by_flag a r c v h vp =
    let n = a * c + r in
    let u = v * 2 * c in
    let C : 0 < c = omega arith in
    let q : n / u ≡ a / (v * 2) = ap (λ (x : ℕ). n / x) (mul_comm (v * 2) c) ∙ sym (div-div-eq-div-mul n c (v * 2)) ∙ ap (λ (x : ℕ). x / (v * 2)) (digits_div a h) in
    let m : n % u ≡ a % (v * 2) * c + r =
    mod-mul n (mul-pos vp (zero-lt-suc 1)) C ∙ ap (λ (x : ℕ). x % (v * 2) * c + n % c) (digits_div a h) ∙ ap (λ (x : ℕ). a % (v * 2) * c + x) (digits_mod a h) in
    ap (λ (x : ℕ). nearest x (compare (n % u * 2) u)) q
    ∙ ap (λ (x : ℕ). nearest (a / (v * 2)) (compare (x * 2) u)) m
    ∙ ap (λ (o : Ordering). nearest (a / (v * 2)) o) (cmp-same (a % (v * 2)) r c v h)

same_rest : (a r t c v : ℕ) → r < c → t < c → flag r ≡ flag t → 0 < v → closest (a * c + r) (v * 2 * c) ≡ closest (a * c + t) (v * 2 * c)
same_rest a r t c v h k e vp =
    by_flag a r c v h vp
    ∙ ap (λ (x : ℕ). nearest (a / (v * 2)) (compare (a % (v * 2) * 2 + x) (v * 2))) e
    ∙ sym (by_flag a t c v k vp)

-- ---- n counted in units of 2 ^ -(low + w), rounded
abbrev pub dropped : Format → ℕ → ℕ → ℕ
dropped f w n = size (n / 2 ^ w) - prec f

pub round-pow : (f : Format) (s : Bool) (n w : ℕ) → round f s n (2 ^ (low f + w)) ≡ units f s (closest n (2 ^ (w + dropped f w n))) (dropped f w n)
round-pow f s n w =
    let l = low f in
    let e : n * 2 ^ l / 2 ^ (l + w) ≡ n / 2 ^ w = ap (λ (x : ℕ). n * 2 ^ l / x) (pow-add 2 l w ∙ mul_comm (2 ^ l) (2 ^ w)) ∙ mul-div-mul_right n (2 ^ w) (pow_pos l) in
    let k = dropped f w n in
    round_is f s n (2 ^ (l + w))
    ∙ ap (λ (x : ℕ). units f s (closest (n * 2 ^ l) (2 ^ (l + w) * 2 ^ (size x - prec f))) (size x - prec f)) e
    ∙ ap (λ (x : ℕ). units f s x k)
    (closest_same (n * 2 ^ l) (2 ^ (l + w) * 2 ^ k) n (2 ^ (w + k)) (mul-pos (pow_pos (l + w)) (pow_pos k)) (pow_pos (w + k))
    (simp (pow-add, mul_assoc, mul_comm, mul_left_comm)))

-- ---- the law: two numbers with the same digits a above the d + 1 lowest, and a rest that is zero in both or in neither, where a is longer than the format keeps
module _ (f : Format) (s : Bool) (w d a r t : ℕ) (hr : r < 2 ^ (d + 1)) (ht : t < 2 ^ (d + 1)) (same : flag r ≡ flag t) (long : 2 ^ prec f ≤ a) where
  abbrev n : ℕ
  n = a * 2 ^ (d + 1) + r

  abbrev m : ℕ
  m = a * 2 ^ (d + 1) + t

  count : (z x : ℕ) → size x - (d + 1) ≡ z → prec f < z → size x ≡ z + (d + 1)
  count z x e h = omega arith

  whole : (x : ℕ) → x < 2 ^ (d + 1) → size (a * 2 ^ (d + 1) + x) ≡ size a + (d + 1)
  whole x h = count (size a) (a * 2 ^ (d + 1) + x) (sym (size-shr (a * 2 ^ (d + 1) + x) (d + 1)) ∙ ap size (digits_div a h)) (size-gt a (prec f) long)

  drops : dropped f w n ≡ dropped f w m
  drops = ap (λ (x : ℕ). x - prec f) (size-shr n w ∙ ap (λ (x : ℕ). x - w) (whole r hr ∙ sym (whole t ht)) ∙ sym (size-shr m w))

  room : (z za : ℕ) → z ≡ za + (d + 1) → prec f < za → d + 2 ≤ w + (z - w - prec f)
  room z za e h = omega arith

  above : d + 2 ≤ w + dropped f w n
  above = subst (λ (x : ℕ). d + 2 ≤ w + (x - prec f)) (sym (size-shr n w)) (room (size n) (size a) (whole r hr) (size-gt a (prec f) long))

  split : (x : ℕ) → d + 2 ≤ x → 2 ^ x ≡ 2 ^ (x - (d + 2)) * 2 * 2 ^ (d + 1)
  split x h =
      let i = x - (d + 2) in
      let e : x ≡ i + 1 + (d + 1) = omega arith in
      ap (λ (y : ℕ). 2 ^ y) e ∙ pow-add 2 (i + 1) (d + 1) ∙ ap (λ (y : ℕ). y * 2 ^ (d + 1)) (pow-add 2 i 1)

  pub alike : round f s n (2 ^ (low f + w)) ≡ round f s m (2 ^ (low f + w))
  alike =
      let k = dropped f w n in
      let i = w + k - (d + 2) in
      let q : 2 ^ (w + k) ≡ 2 ^ i * 2 * 2 ^ (d + 1) = split (w + k) above in
      let c : closest n (2 ^ (w + k)) ≡ closest m (2 ^ (w + k)) =
      ap (λ (u : ℕ). closest n u) q ∙ same_rest a r t (2 ^ (d + 1)) (2 ^ i) hr ht same (pow_pos i) ∙ ap (λ (u : ℕ). closest m u) (sym q) in
      round-pow f s n w
      ∙ ap (λ (x : ℕ). units f s x k) c
      ∙ ap (λ (x : ℕ). units f s (closest m (2 ^ (w + x))) x) drops
      ∙ sym (round-pow f s m w)

-- ---- the digit in the place of the rest: leading digits a and a rest r round as (a * 2 + flag r) * 2 ^ d does
flag_small : (r d : ℕ) → flag r * 2 ^ d < 2 ^ (d + 1)
flag_small zero d = subst (λ (x : ℕ). x < 2 ^ (d + 1)) (sym (zero-mul (2 ^ d))) (pow_pos (d + 1))
flag_small (suc r) d = let p : 0 < 2 ^ d = pow_pos d in let e : 2 ^ (d + 1) ≡ 2 ^ d * 2 = pow-add 2 d 1 in let g : 1 * 2 ^ d ≡ 2 ^ d = one-mul (2 ^ d) in omega arith

pub in_place : (a x d : ℕ) → (a * 2 + x) * 2 ^ d ≡ a * 2 ^ (d + 1) + x * 2 ^ d
in_place a x d = add-mul (a * 2) x (2 ^ d) ∙ ap (λ (y : ℕ). y + x * 2 ^ d) (mul_assoc a 2 (2 ^ d) ∙ ap (λ (y : ℕ). a * y) (mul_comm 2 (2 ^ d) ∙ sym (pow-add 2 d 1)))

pub one-digit : (f : Format) (s : Bool) (w d a r : ℕ) → r < 2 ^ (d + 1) → 2 ^ prec f ≤ a
    → round f s (a * 2 ^ (d + 1) + r) (2 ^ (low f + w)) ≡ round f s ((a * 2 + flag r) * 2 ^ d) (2 ^ (low f + w))
one-digit f s w d a r h long =
    alike f s w d a r (flag r * 2 ^ d) h (flag_small r d) (sym (flag-scale (flag r) d ∙ flag-flag r)) long
    ∙ ap (λ (x : ℕ). round f s x (2 ^ (low f + w))) (sym (in_place a (flag r) d))

-- ---- and so for `jam`
halved : (p a x : ℕ) → 2 * p ≤ a * 2 + x → x ≤ 1 → p ≤ a
halved p a x h k = omega arith

jam-long : (f : Format) (n d : ℕ) → 2 ^ (prec f + 1) ≤ jam n d → 2 ^ prec f ≤ n / 2 ^ (d + 1)
unfolding jam
jam-long f n d h =
    halved (2 ^ prec f) (n / 2 ^ (d + 1)) (flag (n % 2 ^ (d + 1))) (le_trans (le_of_eq (mul_comm 2 (2 ^ prec f) ∙ sym (pow-add 2 (prec f) 1))) h) (flag-le (n % 2 ^ (d + 1)))

pub jammed : (f : Format) (s : Bool) (w n d : ℕ) → 2 ^ (prec f + 1) ≤ jam n d → round f s n (2 ^ (low f + w)) ≡ round f s (jam n d * 2 ^ d) (2 ^ (low f + w))
unfolding jam
jammed f s w n d h =
    let c = 2 ^ (d + 1) in
    ap (λ (x : ℕ). round f s x (2 ^ (low f + w))) (sym (div-add-mod' n c))
    ∙ one-digit f s w d (n / c) (n % c) (mod-lt n (pow_pos (d + 1))) (jam-long f n d h)
