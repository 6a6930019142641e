-- A number and its pattern, and a pattern and its bytes, there and back. Assumes nothing.
use mathlib.Core.Path.{◌≡◌, refl, sym, ap, ◌∙◌, subst}
use mathlib.Core.Bool.{Bool, true, false, not, cond}
use mathlib.Core.List.{◌∷◌, []}
use Prim.Native.Nat.{ℕ, ◌+◌, ◌*◌, ◌/◌, ◌%◌, ◌<◌}
use native.Mathlib.Nat.{div-div-eq-div-mul, mod-eq_of_lt}
use native.Mathlib.Omega.{arith}
use lib.Dec.{T}
use lib.Ieee.{Float, nan, inf, fin, is_nan, fits, to_bits, binary32}
use lib.Ieee.Bits.{of_bits-to_bits, to_bits-lt, of_bits-fits, to_bits-of_bits}
use Rattle.patterns.specs.Patterns.{bits_of, float_of, bytes_of, of_bytes}

-- the logic's own pattern of its one NaN is 7fc00000
pub bits_are : (x : Float) → to_bits binary32 x ≡ bits_of x
unfolding is_nan to_bits
bits_are nan = refl
bits_are (inf s) = refl
bits_are (fin s m e) = refl

-- ---- numbers
module _ (x : Float) (h : T (fits binary32 x)) where
  pub bits_below : bits_of x < 4294967296
  bits_below = subst (λ (n : ℕ). n < 4294967296) (bits_are x) (to_bits-lt binary32 x h)

  pub number-back : float_of (bits_of x) ≡ x
  number-back = ap float_of (sym (bits_are x)) ∙ of_bits-to_bits binary32 x h

pub float_fits : (n : ℕ) → T (fits binary32 (float_of n))
float_fits n = of_bits-fits binary32 n

-- ---- patterns: a NaN's comes back if it is 7fc00000
pub pattern-back : (n : ℕ) → n < 4294967296 → (is_nan (float_of n) ≡ true → n ≡ 0x7fc0_0000) → bits_of (float_of n) ≡ n
pattern-back n h plain = go (is_nan (float_of n)) refl
  where
    go : (b : Bool) → is_nan (float_of n) ≡ b → bits_of (float_of n) ≡ n
    go true e = ap (λ (b : Bool). cond b 0x7fc0_0000 (to_bits binary32 (float_of n))) e ∙ sym (plain e)
    go false e = sym (bits_are (float_of n)) ∙ to_bits-of_bits binary32 n h (subst (λ (b : Bool). T (not b)) (sym e) tt)

-- ---- bytes
joined : (n a b c d k l m : ℕ) → a + 256 * k ≡ n → b + 256 * l ≡ k → c + 256 * m ≡ l → d ≡ m → of_bytes a b c d ≡ n
joined n a b c d k l m p q r s = omega arith

parts : (n : ℕ) → n % 256 + 256 * (n / 256) ≡ n
parts n = omega arith

twice : (n : ℕ) → n / 256 / 256 ≡ n / 65536
twice n = div-div-eq-div-mul n 256 256

thrice : (n : ℕ) → n / 65536 / 256 ≡ n / 16777216
thrice n = div-div-eq-div-mul n 65536 256

pub bytes_back : (n : ℕ) → n < 4294967296 → of_bytes (n % 256) (n / 256 % 256) (n / 65536 % 256) (n / 16777216 % 256) ≡ n
bytes_back n h =
    joined n _ _ _ _ (n / 256) (n / 65536) (n / 16777216)
    (parts n)
    (ap (λ (x : ℕ). n / 256 % 256 + 256 * x) (sym (twice n)) ∙ parts (n / 256))
    (ap (λ (x : ℕ). n / 65536 % 256 + 256 * x) (sym (thrice n)) ∙ parts (n / 65536))
    (omega arith)

-- the lowest byte and the rest
last_of : (a k : ℕ) → a < 256 → (a + 256 * k) % 256 ≡ a
last_of a k h = omega arith

rest_of : (a k : ℕ) → a < 256 → (a + 256 * k) / 256 ≡ k
rest_of a k h = omega arith

module _ (a b c d : ℕ) (p : a < 256) (q : b < 256) (r : c < 256) (s : d < 256) where
  pub of-bytes-below : of_bytes a b c d < 4294967296
  of-bytes-below = omega arith

  pub of-bytes-back : bytes_of (of_bytes a b c d) ≡ a ∷ b ∷ c ∷ d ∷ []
  of-bytes-back =
      let n = of_bytes a b c d in
      let e : n ≡ a + 256 * (b + 256 * (c + 256 * d)) = omega arith in
      let k : n / 256 ≡ b + 256 * (c + 256 * d) = ap (λ (x : ℕ). x / 256) e ∙ rest_of a (b + 256 * (c + 256 * d)) p in
      let l : n / 65536 ≡ c + 256 * d = sym (twice n) ∙ ap (λ (x : ℕ). x / 256) k ∙ rest_of b (c + 256 * d) q in
      let m : n / 16777216 ≡ d = sym (thrice n) ∙ ap (λ (x : ℕ). x / 256) l ∙ rest_of c d r in
      let w : n % 256 ≡ a = ap (λ (x : ℕ). x % 256) e ∙ last_of a (b + 256 * (c + 256 * d)) p in
      let x : n / 256 % 256 ≡ b = ap (λ (x : ℕ). x % 256) k ∙ last_of b (c + 256 * d) q in
      let y : n / 65536 % 256 ≡ c = ap (λ (x : ℕ). x % 256) l ∙ last_of c d r in
      let z : n / 16777216 % 256 ≡ d = ap (λ (x : ℕ). x % 256) m ∙ mod-eq_of_lt s in
      rw (w, x, y, z)
