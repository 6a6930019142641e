-- The values that bit patterns stand for; `sum` and `fma` by the fractions that their operands equal. Assumes nothing.
use Rattle.std.proofs.Common.{◌≡◌, ℕ, zero, suc, ◌+◌, ◌-◌, ◌*◌, ◌/◌, ◌%◌, ◌^◌, ◌<◌, ◌≤◌, Bool, true, false, cond, not, ◌&&◌, T, eqb, ltb, leb, ◌⊎◌, sym, refl, ap, ◌∙◌, subst, ap₂, inl, inr, true≢false, mul_assoc, mul_comm, add-mul, add_comm, lt_of_mul-lt-mul_right, mul-lt-mul_of_pos_right, mul-pos, zero-add, mul_left_comm, arith, ltb→lt, lt→ltb, nltb→le, pow_pos}
use native.Mathlib.Nat.{mul-sub, mod-mod_of_dvd, dvd-mul_right}
use mathlib.Core.Bool.{beq}
use lib.Ieee.{Float, nan, inf, fin, Format, binary32, unlike, up, down, odd, round, sum, add, mul, of_fields, of_bits, to_bits, fits, is_nan}
use lib.Ieee.Fits.{down_pos}
use lib.Ieee.Bits.{of_bits-to_bits}
use lib.Ieee.Exact.{HasValue, odd_sign}
use lib.Ieee.Scale.{round_same, finite}
use Rattle.arith.specs.Pattern.{lead, sig_of, worth}
use Rattle.arith.specs.Fused.{fma}

-- ---- a pattern of a finite value
fields_value : (s : Bool) (x t : ℕ) → T (finite (of_fields binary32 s x t)) → HasValue (of_fields binary32 s x t) s ((lead x + t) * 2 ^ (x - 1)) (2 ^ 149)
unfolding of_fields
fields_value s zero t h = subst (λ (y : ℕ). HasValue (odd 24 s t 0 149) s (y * 1) (2 ^ 149)) (sym (zero-add t)) (odd_sign 24 s t 0 149)
fields_value s (suc x) t h = go (eqb (suc x) 255) h
  where
    less : suc x - 1 ≡ x
    less = omega arith

    special : (b : Bool) → T (finite (cond b (inf s) nan)) → ⊥
    special true k = k
    special false k = k

    go : (b : Bool) → T (finite (cond b (cond (eqb t 0) (inf s) nan) (odd 24 s (2 ^ 23 + t) x 149)))
        → HasValue (cond b (cond (eqb t 0) (inf s) nan) (odd 24 s (2 ^ 23 + t) x 149)) s ((2 ^ 23 + t) * 2 ^ (suc x - 1)) (2 ^ 149)
    go true k = absurd (special (eqb t 0) k)
    go false k = subst (λ (y : ℕ). HasValue (odd 24 s (2 ^ 23 + t) x 149) s ((2 ^ 23 + t) * 2 ^ y) (2 ^ 149)) (sym less) (odd_sign 24 s (2 ^ 23 + t) x 149)

pub bits-fields : (b : ℕ) → of_bits binary32 b ≡ of_fields binary32 (leb (2 ^ 31) b) (b % 2 ^ 31 / 2 ^ 23) (b % 2 ^ 31 % 2 ^ 23)
unfolding of_bits
bits-fields b = ap (λ (t : ℕ). of_fields binary32 (leb (2 ^ 31) b) (b % 2 ^ 31 / 2 ^ 23) t) (sym (mod-mod_of_dvd (2 ^ 23) b (dvd-mul_right (2 ^ 23) 256)))

value : (b : ℕ) → T (finite (of_bits binary32 b)) → HasValue (of_bits binary32 b) (leb (2 ^ 31) b) (worth b) (2 ^ 149)
value b h =
    let mag = b % 2 ^ 31 in
    let s = leb (2 ^ 31) b in
    subst (λ (v : Float). HasValue v s (worth b) (2 ^ 149)) (sym (bits-fields b))
    (fields_value s (mag / 2 ^ 23) (mag % 2 ^ 23) (subst (λ (v : Float). T (finite v)) (bits-fields b) h))

-- ---- an `f32` by its own pattern
abbrev pub sign : Float → Bool
sign x = leb (2 ^ 31) (to_bits binary32 x)

pub held : (x : Float) → T (fits binary32 x) → T (finite x) → HasValue x (sign x) (worth (to_bits binary32 x)) (2 ^ 149)
held x t h =
    let e : of_bits binary32 (to_bits binary32 x) ≡ x = of_bits-to_bits binary32 x t in
    subst (λ (v : Float). HasValue v (sign x) (worth (to_bits binary32 x)) (2 ^ 149)) e (value (to_bits binary32 x) (subst (λ (v : Float). T (finite v)) (sym e) h))

pub no_nan : (x : Float) → T (finite x) → T (not (is_nan x))
unfolding is_nan
no_nan nan h = absurd h
no_nan (inf s) h = tt
no_nan (fin s m e) h = tt

pub sig-lt : (m : ℕ) → sig_of m < 2 ^ 24
sig-lt m = go (m / 2 ^ 23)
  where
    go : (x : ℕ) → lead x + m % 2 ^ 23 < 2 ^ 24
    go zero = omega arith
    go (suc x) = omega arith

-- ---- `sum` sees only the values of its fractions
same_test : (a b : Bool) → (T a → T b) → (T b → T a) → a ≡ b
same_test true true p q = refl
same_test true false p q = absurd (p tt)
same_test false true p q = absurd (q tt)
same_test false false p q = refl

cross-lt : (a b c a' b' c' : ℕ) → 0 < c' → a * c' ≡ a' * c → b * c' ≡ b' * c → a < b → a' < b'
cross-lt a b c a' b' c' C p q h =
    let l : a * c' < b * c' = mul-lt-mul_of_pos_right h C in
    let g : a' * c < b' * c = omega arith in
    lt_of_mul-lt-mul_right c g

pub cross-test : (a b c a' b' c' : ℕ) → 0 < c → 0 < c' → a * c' ≡ a' * c → b * c' ≡ b' * c → ltb a b ≡ ltb a' b'
cross-test a b c a' b' c' C C' p q =
    same_test (ltb a b) (ltb a' b')
    (λ t. lt→ltb a' b' (cross-lt a b c a' b' c' C' p q (ltb→lt a b t)))
    (λ t. lt→ltb a b (cross-lt a' b' c' a b c C (sym p) (sym q) (ltb→lt a' b' t)))

pub sub-mul : (u v k : ℕ) → u * k - v * k ≡ (u - v) * k
sub-mul u v k = ap₂ (λ (y z : ℕ). y - z) (mul_comm u k) (mul_comm v k) ∙ sym (mul-sub k u v) ∙ mul_comm k (u - v)

cross-sub : (a b c a' b' c' : ℕ) → a * c' ≡ a' * c → b * c' ≡ b' * c → (a - b) * c' ≡ (a' - b') * c
cross-sub a b c a' b' c' p q = sym (sub-mul a b c') ∙ ap₂ (λ (x y : ℕ). x - y) p q ∙ sub-mul a' b' c

cross-add : (a b c a' b' c' : ℕ) → a * c' ≡ a' * c → b * c' ≡ b' * c → (a + b) * c' ≡ (a' + b') * c
cross-add a b c a' b' c' p q = add-mul a b c' ∙ ap₂ (λ (x y : ℕ). x + y) p q ∙ sym (add-mul a' b' c)

pub sum_same : (f : Format) (s t : Bool) (a b c a' b' c' : ℕ) → 0 < c → 0 < c' → a * c' ≡ a' * c → b * c' ≡ b' * c → sum f s a t b c ≡ sum f s a' t b' c'
unfolding sum
sum_same f s t a b c a' b' c' C C' p q =
    ap₂ (λ (x y : Float). cond (beq s t) x y)
    (round_same f s (a + b) c (a' + b') c' C C' (cross-add a b c a' b' c' p q))
    (ap₂ (λ (x y : Float). cond (ltb a b) x y)
    (round_same f t (b - a) c (b' - a') c' C C' (cross-sub b a c b' a' c' q p))
    (round_same f (s && ltb b a) (a - b) c (a' - b') c' C C' (cross-sub a b c a' b' c' p q)
    ∙ ap (λ (x : Bool). round f (s && x) (a' - b') c') (cross-test b a c b' a' c' C C' q p))
    ∙ ap (λ (x : Bool). cond x (round f t (b' - a') c') (round f (s && ltb b' a') (a' - b') c')) (cross-test a b c a' b' c' C C' p q))

-- ---- and is the same the other way round
turned : (f : Format) (a b c : ℕ) → cond (ltb a b) (round f false (b - a) c) (round f (ltb b a) (a - b) c) ≡ cond (ltb b a) (round f true (a - b) c) (round f false (b - a) c)
turned f a b c = go (ltb a b) (ltb b a) (ltb→lt a b) (nltb→le a b) (ltb→lt b a) (nltb→le b a)
  where
    go : (x y : Bool) → (T x → a < b) → (T (not x) → b ≤ a) → (T y → b < a) → (T (not y) → a ≤ b)
        → cond x (round f false (b - a) c) (round f y (a - b) c) ≡ cond y (round f true (a - b) c) (round f false (b - a) c)
    go true true p p' q q' = absurd (let h : a < b = p tt in let g : b < a = q tt in omega arith)
    go true false p p' q q' = refl
    go false true p p' q q' = refl
    go false false p p' q q' = ap (λ (x : ℕ). round f false x c) (let h : b ≤ a = p' tt in let g : a ≤ b = q' tt in omega arith)

pub sum_comm : (f : Format) (s t : Bool) (a b c : ℕ) → sum f s a t b c ≡ sum f t b s a c
unfolding sum
sum_comm f true true a b c = ap (λ (x : ℕ). round f true x c) (add_comm a b)
sum_comm f false false a b c = ap (λ (x : ℕ). round f false x c) (add_comm a b)
sum_comm f true false a b c = turned f a b c
sum_comm f false true a b c = sym (turned f b a c)

-- ---- the product and the addend by their fractions
product-cross : (m n g l x y a b : ℕ) → m * l ≡ x * a → n * l ≡ y * b → m * n * g * (l * l) ≡ x * y * (a * b * g)
product-cross m n g l x y a b p q =
    let e : m * n * g * (l * l) ≡ m * l * (n * l) * g = simp (mul_assoc, mul_comm, mul_left_comm) in
    e ∙ ap₂ (λ (u v : ℕ). u * v * g) p q ∙ simp (mul_assoc, mul_comm, mul_left_comm)

addend-cross : (p g l z a b : ℕ) → p * l ≡ z * g → p * (a * b) * (l * l) ≡ z * l * (a * b * g)
addend-cross p g l z a b h =
    let e : p * (a * b) * (l * l) ≡ p * l * (a * b * l) = simp (mul_assoc, mul_comm, mul_left_comm) in
    e ∙ ap (λ (u : ℕ). u * (a * b * l)) h ∙ simp (mul_assoc, mul_comm, mul_left_comm)

pub fma-at : (x y z : Float) (s t u : Bool) (a b c l : ℕ) → 0 < l → HasValue x s a l → HasValue y t b l → HasValue z u c l
    → fma x y z ≡ sum binary32 (unlike s t) (a * b) u (c * l) (l * l)
unfolding fma
fma-at nan y z s t u a b c l L p q r = absurd p
fma-at (inf v) y z s t u a b c l L p q r = absurd p
fma-at (fin s' m e) nan z s t u a b c l L p q r = absurd q
fma-at (fin s' m e) (inf v) z s t u a b c l L p q r = absurd q
fma-at (fin s' m e) (fin t' n d) nan s t u a b c l L p q r = absurd r
fma-at (fin s' m e) (fin t' n d) (inf v) s t u a b c l L p q r = absurd r
fma-at (fin s' m e) (fin t' n d) (fin u' o g) s t u a b c l L p q r =
    sum_same binary32 (unlike s' t') u' (m * up e * (n * up d) * down g) (o * up g * (down e * down d)) (down e * down d * down g) (a * b) (c * l) (l * l)
    (mul-pos (mul-pos (down_pos e) (down_pos d)) (down_pos g)) (mul-pos L L)
    (product-cross (m * up e) (n * up d) (down g) l a b (down e) (down d) p.1 q.1)
    (addend-cross (o * up g) (down g) l c (down e) (down d) r.1)
    ∙ ap (λ (v : Bool). sum binary32 (unlike v t') (a * b) u' (c * l) (l * l)) p.0
    ∙ ap (λ (v : Bool). sum binary32 (unlike s v) (a * b) u' (c * l) (l * l)) q.0
    ∙ ap (λ (v : Bool). sum binary32 (unlike s t) (a * b) v (c * l) (l * l)) r.0

-- three finite values, the product p and the addend z in units of 2 ^ -426
pub exactly : (a b c : Float) → T (fits binary32 a) → T (fits binary32 b) → T (fits binary32 c) → T (finite a) → T (finite b) → T (finite c) → (p z : ℕ)
    → p ≡ worth (to_bits binary32 a) * worth (to_bits binary32 b) * 2 ^ 128 → z ≡ worth (to_bits binary32 c) * 2 ^ 277
    → sum binary32 (unlike (sign a) (sign b)) p (sign c) z (2 ^ 426) ≡ fma a b c
exactly a b c fa fb fc ha hb hc p z ep ez =
    let x = worth (to_bits binary32 a) in
    let y = worth (to_bits binary32 b) in
    let w = worth (to_bits binary32 c) in
    sum_same binary32 (unlike (sign a) (sign b)) (sign c) p z (2 ^ 426) (x * y) (w * 2 ^ 149) (2 ^ 298) (pow_pos 426) (pow_pos 298)
    (ap (λ (v : ℕ). v * 2 ^ 298) ep ∙ mul_assoc (x * y) (2 ^ 128) (2 ^ 298))
    (ap (λ (v : ℕ). v * 2 ^ 298) ez ∙ mul_assoc w (2 ^ 277) (2 ^ 298) ∙ sym (mul_assoc w (2 ^ 149) (2 ^ 426)))
    ∙ sym (fma-at a b c (sign a) (sign b) (sign c) x y w (2 ^ 149) (pow_pos 149) (held a fa ha) (held b fb hb) (held c fc hc))

-- ---- where not all three are finite
pub addend-only : (a b c : Float) → T (finite a) → T (finite b) → finite c ≡ false → c ≡ fma a b c
unfolding fma
addend-only nan b c ha hb e = absurd ha
addend-only (inf s) b c ha hb e = absurd ha
addend-only (fin s m d) nan c ha hb e = absurd hb
addend-only (fin s m d) (inf t) c ha hb e = absurd hb
addend-only (fin s m d) (fin t n g) nan ha hb e = refl
addend-only (fin s m d) (fin t n g) (inf u) ha hb e = refl
addend-only (fin s m d) (fin t n g) (fin u o h) ha hb e = absurd (true≢false e)

pub in-steps : (a b c : Float) → (finite a ≡ false) ⊎ (finite b ≡ false) → add binary32 (mul binary32 a b) c ≡ fma a b c
unfolding fma
in-steps nan b c h = refl
in-steps (inf s) b c h = refl
in-steps (fin s m e) nan c h = refl
in-steps (fin s m e) (inf t) c h = refl
in-steps (fin s m e) (fin t n d) c (inl h) = absurd (true≢false h)
in-steps (fin s m e) (fin t n d) c (inr h) = absurd (true≢false h)
