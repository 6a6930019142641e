-- `root` of the value that a bit pattern stands for, by the patterns that the code tells apart. Assumes nothing.
use Rattle.std.proofs.Common.{◌≡◌, ℕ, zero, suc, ◌+◌, ◌*◌, ◌/◌, ◌%◌, ◌^◌, ◌<◌, ◌≤◌, Bool, true, false, cond, not, ◌&&◌, ◌||◌, T, eqb, leb, sym, refl, ap, ◌∙◌, subst, ap₂, true≢false, le_of_lt, lt_irrefl, mod-eq_of_lt, mul_assoc, mul-pos, zero-mul, mul_right_comm, not-le_of_lt, mul-div_cancel, arith, le→leb, eqb→eq, leb→le, pow_pos}
use mathlib.Core.Bool.{beq, false≢true}
use lib.Dec.{not_T, eqb_refl}
use lib.Ieee.{Float, nan, inf, fin, up, down, binary32, odd, of_fields, of_bits, to_bits, fits, is_nan, ne, eq, level}
use lib.Ieee.Bits.{is_true, is_false, of_bits-to_bits}
use lib.Ieee.Fits.{down_pos}
use lib.Ieee.Exact.{HasValue, odd_sign}
use lib.Ieee.Scale.{finite}
use Rattle.arith.specs.Pattern.{lead, sig_of, exp_of, worth}
use Rattle.arith.specs.Root.{root, root_of}
use Rattle.arith.proofs.Values.{bits-fields, held, sign}

-- ---- by the value
no_zero : (a d c : ℕ) → 0 < a → 0 < d → 0 * c ≡ a * d → ⊥
no_zero a d c p q e = lt_irrefl 0 (subst (λ (x : ℕ). 0 < x) (sym e ∙ zero-mul c) (mul-pos p q))

root-neg : (z : Float) (a c : ℕ) → HasValue z true a c → 0 < a → root z ≡ nan
unfolding root
root-neg nan a c h p = absurd h
root-neg (inf s) a c h p = absurd h
root-neg (fin false m e) a c h p = absurd (false≢true h.0)
root-neg (fin true zero e) a c h p = absurd (no_zero a (down e) c p (down_pos e) (ap (λ (x : ℕ). x * c) (sym (zero-mul (up e))) ∙ h.1))
root-neg (fin true (suc m) e) a c h p = refl

scale : (u d a : ℕ) → 0 < d → u * 2 ^ 149 ≡ a * d → u * 2 ^ 298 / d ≡ a * 2 ^ 149
scale u d a p h =
    ap (λ (x : ℕ). x / d) (sym (mul_assoc u (2 ^ 149) (2 ^ 149)) ∙ ap (λ (x : ℕ). x * 2 ^ 149) h ∙ mul_right_comm a d (2 ^ 149))
    ∙ mul-div_cancel (a * 2 ^ 149) p

pub root-pos : (z : Float) (a : ℕ) → HasValue z false a (2 ^ 149) → 0 < a → root z ≡ root_of (a * 2 ^ 149)
unfolding root
root-pos nan a h p = absurd h
root-pos (inf s) a h p = absurd h
root-pos (fin true m e) a h p = absurd (true≢false h.0)
root-pos (fin false zero e) a h p = absurd (no_zero a (down e) (2 ^ 149) p (down_pos e) (ap (λ (x : ℕ). x * 2 ^ 149) (sym (zero-mul (up e))) ∙ h.1))
root-pos (fin false (suc m) e) a h p = ap root_of (scale (suc m * up e) (down e) a (down_pos e) h.1)

-- ---- by the pattern
finite-odd : (d : ℕ) (s : Bool) (q k l : ℕ) → T (finite (odd d s q k l))
unfolding odd
finite-odd d s zero k l = tt
finite-odd d s (suc q) k l = tt

finite-fields : (s : Bool) (x t : ℕ) → x < 255 → T (finite (of_fields binary32 s x t))
unfolding of_fields
finite-fields s zero t h = finite-odd 24 s t 0 149
finite-fields s (suc x) t h = go (eqb (suc x) 255) (eqb→eq (suc x) 255)
  where
    go : (b : Bool) → (T b → suc x ≡ 255) → T (finite (cond b (cond (eqb t 0) (inf s) nan) (odd 24 s (2 ^ 23 + t) x 149)))
    go true e = absurd (let g : suc x ≡ 255 = e tt in omega arith)
    go false e = finite-odd 24 s (2 ^ 23 + t) x 149

finite-bits : (b : ℕ) → b < 255 * 2 ^ 23 → T (finite (of_bits binary32 b))
finite-bits b h = subst (λ (v : Float). T (finite v)) (sym (bits-fields b)) (finite-fields (leb (2 ^ 31) b) (b % 2 ^ 31 / 2 ^ 23) (b % 2 ^ 31 % 2 ^ 23) (omega arith))

pub sig-pos : (b : ℕ) → 0 < b → 0 < sig_of b
sig-pos b h = go (b / 2 ^ 23) refl
  where
    go : (x : ℕ) → b / 2 ^ 23 ≡ x → 0 < lead x + b % 2 ^ 23
    go zero e = omega arith
    go (suc x) e = omega arith

-- a value that is no less than zero
pub above-value : (x : Float) (b : ℕ) → T (fits binary32 x) → to_bits binary32 x ≡ b → b < 255 * 2 ^ 23 → HasValue x false (sig_of b * 2 ^ exp_of b) (2 ^ 149)
above-value x b f e u =
    subst (λ (v : ℕ). HasValue x false v (2 ^ 149)) worth-is (subst (λ (s : Bool). HasValue x s (worth (to_bits binary32 x)) (2 ^ 149)) clear (held x f fin-x))
  where
    fin-x : T (finite x)
    fin-x = subst (λ (v : Float). T (finite v)) (of_bits-to_bits binary32 x f) (finite-bits (to_bits binary32 x) (subst (λ (y : ℕ). y < 255 * 2 ^ 23) (sym e) u))

    clear : sign x ≡ false
    clear = is_false (sign x) (not_T (sign x) (λ (t : T (sign x)). not-le_of_lt (let g : to_bits binary32 x < 2 ^ 31 = omega arith in g) (leb→le (2 ^ 31) (to_bits binary32 x) t)))

    worth-is : worth (to_bits binary32 x) ≡ sig_of b * 2 ^ exp_of b
    worth-is = ap (λ (y : ℕ). sig_of y * 2 ^ exp_of y) (ap (λ (y : ℕ). y % 2 ^ 31) e ∙ mod-eq_of_lt (let g : b < 2 ^ 31 = omega arith in g))

pub above : (x : Float) (b : ℕ) → T (fits binary32 x) → to_bits binary32 x ≡ b → 0 < b → b < 255 * 2 ^ 23 → root x ≡ root_of (sig_of b * 2 ^ exp_of b * 2 ^ 149)
above x b f e p u = root-pos x (sig_of b * 2 ^ exp_of b) (above-value x b f e u) (mul-pos (sig-pos b p) (pow_pos (exp_of b)))

fields_neg : (x t : ℕ) → 0 < x + t → root (of_fields binary32 true x t) ≡ nan
unfolding of_fields root
fields_neg zero t p = root-neg (odd 24 true t 0 149) (t * 2 ^ 0) (2 ^ 149) (odd_sign 24 true t 0 149) (omega arith)
fields_neg (suc x) t p = go (eqb (suc x) 255) (eqb t 0)
  where
    go : (a b : Bool) → root (cond a (cond b (inf true) nan) (odd 24 true (8388608 + t) x 149)) ≡ nan
    go true true = refl
    go true false = refl
    go false b = root-neg (odd 24 true (8388608 + t) x 149) ((8388608 + t) * 2 ^ x) (2 ^ 149) (odd_sign 24 true (8388608 + t) x 149) (mul-pos {m = 8388608 + t} (omega arith) (pow_pos x))

pub below : (b : ℕ) → 2 ^ 31 < b → b < 2 ^ 32 → root (of_bits binary32 b) ≡ nan
below b h k =
    ap root (bits-fields b ∙ ap (λ (s : Bool). of_fields binary32 s (b % 2 ^ 31 / 2 ^ 23) (b % 2 ^ 31 % 2 ^ 23)) (is_true (leb (2 ^ 31) b) (le→leb (2 ^ 31) b (le_of_lt h))))
    ∙ fields_neg (b % 2 ^ 31 / 2 ^ 23) (b % 2 ^ 31 % 2 ^ 23) (omega arith)

plus-zero : root (of_bits binary32 0) ≡ of_bits binary32 0
unfolding root of_bits
plus-zero = refl

minus-zero : root (of_bits binary32 (2 ^ 31)) ≡ of_bits binary32 (2 ^ 31)
unfolding root of_bits
minus-zero = refl

top_field : (t : ℕ) → root (of_fields binary32 false 255 t) ≡ of_fields binary32 false 255 t
unfolding of_fields root
top_field t = go (eqb t 0)
  where
    go : (b : Bool) → root (cond b (inf false) nan) ≡ cond b (inf false) nan
    go true = refl
    go false = refl

-- the greatest field: its own root
topmost : (b : ℕ) → 255 * 2 ^ 23 ≤ b → b < 2 ^ 31 → root (of_bits binary32 b) ≡ of_bits binary32 b
topmost b l u =
    let e : of_bits binary32 b ≡ of_fields binary32 false 255 (b % 2 ^ 31 % 2 ^ 23) =
    bits-fields b
    ∙ ap₂ (λ (s : Bool) (x : ℕ). of_fields binary32 s x (b % 2 ^ 31 % 2 ^ 23)) (is_false (leb (2 ^ 31) b) (not_T (leb (2 ^ 31) b) (λ (t : T (leb (2 ^ 31) b)). not-le_of_lt u (leb→le (2 ^ 31) b t)))) (omega arith) in
    ap root e ∙ top_field (b % 2 ^ 31 % 2 ^ 23) ∙ sym e

-- what is shown of a pattern holds of x
own : (x : Float) (b : ℕ) → T (fits binary32 x) → to_bits binary32 x ≡ b → root (of_bits binary32 b) ≡ of_bits binary32 b → x ≡ root x
own x b f e h =
    let p : of_bits binary32 b ≡ x = ap (of_bits binary32) (sym e) ∙ of_bits-to_bits binary32 x f in
    sym p ∙ sym h ∙ ap root p

pub own-zero : (x : Float) → T (fits binary32 x) → to_bits binary32 x ≡ 0 → x ≡ root x
own-zero x f e = own x 0 f e plus-zero

pub own-top : (x : Float) → T (fits binary32 x) → 255 * 2 ^ 23 ≤ to_bits binary32 x → to_bits binary32 x ≤ 2 ^ 31 → x ≡ root x
own-top x f l u = go (leb (2 ^ 31) (to_bits binary32 x)) (leb→le (2 ^ 31) (to_bits binary32 x)) (le→leb (2 ^ 31) (to_bits binary32 x))
  where
    go : (b : Bool) → (T b → 2 ^ 31 ≤ to_bits binary32 x) → (2 ^ 31 ≤ to_bits binary32 x → T b) → x ≡ root x
    go true h k = own x (2 ^ 31) f (let g : 2 ^ 31 ≤ to_bits binary32 x = h tt in omega arith) minus-zero
    go false h k = own x (to_bits binary32 x) f refl (topmost (to_bits binary32 x) l (lt_of (to_bits binary32 x) k))
      where
        lt_of : (y : ℕ) → (2 ^ 31 ≤ y → ⊥) → y < 2 ^ 31
        lt_of y n = omega arith

-- ---- the test of x itself
beq_same : (s : Bool) → beq s s ≡ true
beq_same true = refl
beq_same false = refl

level-same : (s : Bool) (a : ℕ) → level s a s a ≡ true
level-same s a = ap (λ (b : Bool). b && (beq s s || eqb a 0)) (is_true (eqb a a) (eqb_refl a)) ∙ ap (λ (b : Bool). b || eqb a 0) (beq_same s)

-- `x != x` is the test for a NaN
pub differs : (x : Float) → ne x x ≡ true → x ≡ root x
unfolding ne eq root
differs nan h = refl
differs (inf s) h = absurd (false≢true (ap not (sym (beq_same s)) ∙ h))
differs (fin s m e) h = absurd (false≢true (ap not (sym (level-same s (m * up e * down e))) ∙ h))

pub same : (x : Float) → ne x x ≡ false → T (not (is_nan x))
unfolding ne eq is_nan
same nan h = absurd (true≢false h)
same (inf s) h = tt
same (fin s m e) h = tt
