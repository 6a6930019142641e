-- What callers cite of `fma` and `root`: the factors commute, a factor of one leaves an addition, a factor of zero needs no fusing, and a NaN gives a NaN. Assumes nothing.
use Rattle.std.proofs.Common.{◌≡◌, ℕ, zero, suc, ◌*◌, ◌<◌, Bool, true, false, cond, ◌&&◌, ◌||◌, T, eqb, ℤ, pos, sym, refl, ap, ◌∙◌, subst, ap₂, mul_assoc, mul_comm, mul-pos, mul-zero, zero-mul, mul_left_comm, arith, eqb→eq}
use mathlib.Core.Bool.{beq, false≢true}
use lib.Dec.{eqb-suc-zero}
use lib.Ieee.{Float, nan, inf, fin, binary32, unlike, up, down, round, sum, add, mul, eq, of_bits}
use lib.Ieee.Fits.{down_pos}
use lib.Ieee.Scale.{round_same}
use Rattle.arith.specs.Fused.{fma}
use Rattle.arith.specs.Root.{root}
use Rattle.arith.proofs.Values.{sum_same}

-- ---- the factors commute
unlike-comm : (s t : Bool) → unlike s t ≡ unlike t s
unlike-comm true true = refl
unlike-comm true false = refl
unlike-comm false true = refl
unlike-comm false false = refl

pub fma-comm : (x y z : Float) → fma x y z ≡ fma y x z
unfolding fma add mul
fma-comm nan nan z = refl
fma-comm nan (inf t) z = refl
fma-comm nan (fin t n d) z = refl
fma-comm (inf s) nan z = refl
fma-comm (inf s) (inf t) z = ap (λ (b : Bool). add binary32 (inf b) z) (unlike-comm s t)
fma-comm (inf s) (fin t n d) z = ap (λ (b : Bool). add binary32 (cond (eqb n 0) nan (inf b)) z) (unlike-comm s t)
fma-comm (fin s m e) nan z = refl
fma-comm (fin s m e) (inf t) z = ap (λ (b : Bool). add binary32 (cond (eqb m 0) nan (inf b)) z) (unlike-comm s t)
fma-comm (fin s m e) (fin t n d) nan = refl
fma-comm (fin s m e) (fin t n d) (inf u) = refl
fma-comm (fin s m e) (fin t n d) (fin u p g) =
    ap₂ (λ (b : Bool) (a : ℕ). sum binary32 b (a * down g) u (p * up g * (down e * down d)) (down e * down d * down g)) (unlike-comm s t) (mul_comm (m * up e) (n * up d))
    ∙ ap (λ (c : ℕ). sum binary32 (unlike t s) (n * up d * (m * up e) * down g) u (p * up g * c) (c * down g)) (mul_comm (down e) (down d))

-- ---- a factor that `==` finds equal to one, or to a zero of either sign: the product is exact
abbrev pub one : Float
one = of_bits binary32 0x3f80_0000

abbrev pub nought : Float
nought = of_bits binary32 0

unlike-plus : (s : Bool) → unlike s false ≡ s
unlike-plus true = refl
unlike-plus false = refl

pub split : (a b : Bool) → a && b ≡ true → T a × T b
split true true h = (tt, tt)
split true false h = absurd (false≢true h)
split false b h = absurd (false≢true h)

is_one : (t : Bool) (n : ℕ) (d : ℤ) → eq (fin t n d) one ≡ true → (t ≡ false) × (n * up d ≡ down d)
unfolding eq of_bits
is_one t n d h =
    let k : T (eqb (n * up d * 1) (1 * 1 * down d)) × T (beq t false || eqb (n * up d * 1) 0) = split (eqb (n * up d * 1) (1 * 1 * down d)) (beq t false || eqb (n * up d * 1) 0) h in
    let v : n * up d * 1 ≡ 1 * 1 * down d = eqb→eq (n * up d * 1) (1 * 1 * down d) k.0 in
    let e : n * up d ≡ down d = omega arith in
    (sign t (subst (λ (x : ℕ). 0 < x) (sym v) (let p : 0 < down d = down_pos d in omega arith)) k.1, e)
  where
    sign : (t : Bool) → 0 < n * up d * 1 → T (beq t false || eqb (n * up d * 1) 0) → t ≡ false
    sign false p h = refl
    sign true p h = absurd (let e : n * up d * 1 ≡ 0 = eqb→eq (n * up d * 1) 0 h in omega arith)

is_zero : (t : Bool) (n : ℕ) (d : ℤ) → eq (fin t n d) nought ≡ true → n * up d ≡ 0
unfolding eq of_bits
is_zero t n d h =
    let k : T (eqb (n * up d * 1) (0 * down d)) × T (beq t false || eqb (n * up d * 1) 0) = split (eqb (n * up d * 1) (0 * down d)) (beq t false || eqb (n * up d * 1) 0) h in
    let v : n * up d * 1 ≡ 0 * down d = eqb→eq (n * up d * 1) (0 * down d) k.0 in
    omega arith

-- one leaves the other factor as it is
one-sum : (s t u : Bool) (m a b n p q : ℕ) → 0 < a → 0 < b → 0 < q → t ≡ false → n ≡ b
    → sum binary32 (unlike s t) (m * n * q) u (p * (a * b)) (a * b * q) ≡ sum binary32 s (m * q) u (p * a) (a * q)
one-sum s t u m a b n p q A B Q t0 nb =
    ap₂ (λ (x : Bool) (y : ℕ). sum binary32 (unlike s x) (m * y * q) u (p * (a * b)) (a * b * q)) t0 nb
    ∙ ap (λ (x : Bool). sum binary32 x (m * b * q) u (p * (a * b)) (a * b * q)) (unlike-plus s)
    ∙ sum_same binary32 s u (m * b * q) (p * (a * b)) (a * b * q) (m * q) (p * a) (a * q)
    (mul-pos (mul-pos A B) Q) (mul-pos A Q)
    (simp (mul_assoc, mul_comm, mul_left_comm))
    (simp (mul_assoc, mul_comm, mul_left_comm))

one-inf : (s t : Bool) (n b u : ℕ) → 0 < b → t ≡ false → n * u ≡ b → cond (eqb n 0) nan (inf (unlike s t)) ≡ inf s
one-inf s t zero b u B t0 e = absurd (omega arith)
one-inf s t (suc n) b u B t0 e =
    ap₂ (λ (x y : Bool). cond x nan (inf (unlike s y))) (eqb-suc-zero n) t0 ∙ ap (λ (x : Bool). inf x) (unlike-plus s)

pub fma-of-one : (x y z : Float) → eq y one ≡ true → fma x y z ≡ add binary32 x z
unfolding fma add mul eq of_bits
fma-of-one x nan z h = absurd (false≢true h)
fma-of-one x (inf t) z h = absurd (false≢true h)
fma-of-one nan (fin t n d) z h = refl
fma-of-one (inf s) (fin t n d) z h =
    let i = is_one t n d h in
    ap (λ (x : Float). add binary32 x z) (one-inf s t n (down d) (up d) (down_pos d) i.0 i.1)
fma-of-one (fin s m e) (fin t n d) nan h = refl
fma-of-one (fin s m e) (fin t n d) (inf u) h = refl
fma-of-one (fin s m e) (fin t n d) (fin u p g) h =
    let i = is_one t n d h in
    one-sum s t u (m * up e) (down e) (down d) (n * up d) (p * up g) (down g) (down_pos e) (down_pos d) (down_pos g) i.0 i.1

pub one-of-fma : (x y z : Float) → eq x one ≡ true → fma x y z ≡ add binary32 y z
one-of-fma x y z h = fma-comm x y z ∙ fma-of-one y x z h

one-is : eq one one ≡ true
unfolding eq of_bits
one-is = refl

pub fma-one : (x z : Float) → fma x one z ≡ add binary32 x z
fma-one x z = fma-of-one x one z one-is

pub one-fma : (y z : Float) → fma one y z ≡ add binary32 y z
one-fma y z = one-of-fma one y z one-is

-- a zero leaves a zero, and adding that rounds once
pub none : (s : Bool) → round binary32 s 0 1 ≡ fin s 0 (pos 0)
unfolding round
none s = refl

no-product : (s : Bool) (m n c : ℕ) → 0 < c → n ≡ 0 → round binary32 s (m * n) c ≡ fin s 0 (pos 0)
no-product s m n c C e = ap (λ (x : ℕ). round binary32 s (m * x) c) e ∙ ap (λ (x : ℕ). round binary32 s x c) (mul-zero m) ∙ round_same binary32 s 0 c 0 1 C (omega arith) (omega arith) ∙ none s

zero-sum : (s u : Bool) (m n c p q : ℕ) → 0 < c → 0 < q → n ≡ 0 → sum binary32 s (m * n * q) u (p * c) (c * q) ≡ sum binary32 s (0 * q) u (p * 1) (1 * q)
zero-sum s u m n c p q C Q e =
    sum_same binary32 s u (m * n * q) (p * c) (c * q) (0 * q) (p * 1) (1 * q) (mul-pos C Q) (omega arith) (rw (e, mul-zero, zero-mul, zero-mul, zero-mul)) (simp (mul_assoc, mul_comm, mul_left_comm))

pub fma-of-zero : (x y z : Float) → eq y nought ≡ true → fma x y z ≡ add binary32 (mul binary32 x y) z
unfolding fma add mul
fma-of-zero nan y z h = refl
fma-of-zero (inf s) y z h = refl
fma-of-zero (fin s m e) nan z h = refl
fma-of-zero (fin s m e) (inf t) z h = refl
fma-of-zero (fin s m e) (fin t n d) z h = plain z ∙ ap (λ (x : Float). add binary32 x z) (sym (no-product (unlike s t) (m * up e) (n * up d) (down e * down d) below (is_zero t n d h)))
  where
    below : 0 < down e * down d
    below = mul-pos (down_pos e) (down_pos d)

    plain : (z : Float) → fma (fin s m e) (fin t n d) z ≡ add binary32 (fin (unlike s t) 0 (pos 0)) z
    plain nan = refl
    plain (inf u) = refl
    plain (fin u p g) = zero-sum (unlike s t) u (m * up e) (n * up d) (down e * down d) (p * up g) (down g) below (down_pos g) (is_zero t n d h)

-- ---- a NaN operand gives a NaN
pub fma-nan-first : (y z : Float) → fma nan y z ≡ nan
unfolding fma
fma-nan-first y z = refl

pub fma-nan-second : (x z : Float) → fma x nan z ≡ nan
fma-nan-second x z = fma-comm x nan z ∙ fma-nan-first x z

add-nan : (x : Float) → add binary32 x nan ≡ nan
unfolding add
add-nan nan = refl
add-nan (inf s) = refl
add-nan (fin s m e) = refl

pub fma-nan-addend : (x y : Float) → fma x y nan ≡ nan
unfolding fma
fma-nan-addend nan y = refl
fma-nan-addend (inf s) y = add-nan (mul binary32 (inf s) y)
fma-nan-addend (fin s m e) nan = refl
fma-nan-addend (fin s m e) (inf t) = add-nan (mul binary32 (fin s m e) (inf t))
fma-nan-addend (fin s m e) (fin t n d) = refl

pub root-nan : root nan ≡ nan
unfolding root
root-nan = refl
