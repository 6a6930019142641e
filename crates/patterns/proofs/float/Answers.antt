-- `float`: a pattern whose digits below the sign are above infinity's is a NaN's, and there is one NaN. Assumes nothing.
use mathlib.Core.Path.{◌≡◌, refl, sym, subst, ◌∙◌}
use mathlib.Core.Bool.{Bool, true, not, false≢true}
use Prim.Native.Nat.{ℕ, ◌*◌, ◌%◌, ◌^◌, ◌<◌}
use native.Mathlib.Omega.{arith}
use lib.Dec.{T}
use lib.Arith.{le→nltb}
use lib.Ieee.{Float, nan, inf, fin, binary32, div, of_bits, is_nan}
use lib.Ieee.Bits.{nan_bits_above, nan_bits_is}
use borrow.Author.Tests.{lt-ltb}
use Rattle.patterns.proofs.float.Goals as goal

only : (x : Float) → is_nan x ≡ true → nan ≡ x
unfolding is_nan
only nan h = refl
only (inf s) h = absurd (false≢true h)
only (fin s m e) h = absurd (false≢true h)

no_number : div binary32 (of_bits binary32 0) (of_bits binary32 0) ≡ nan
unfolding div of_bits
no_number = refl

above : (b : ℕ) → 255 * 2 ^ 23 < b % 2 ^ 31 → nan ≡ of_bits binary32 b
above b h = only (of_bits binary32 b) (sym (nan_bits_is binary32 b) ∙ nan_bits_above binary32 b ∙ lt-ltb (255 * 2 ^ 23) (b % 2 ^ 31) h)

pub returns-then-bits-gt2139095040 : goal.returns-then-bits-gt2139095040
returns-then-bits-gt2139095040 c = no_number ∙ above _ (omega arith)

pub float_from_bits-result : goal.float_from_bits-result
float_from_bits-result c = let b = c.args.bits in
    subst (λ (t : Bool). T (not t)) (sym (nan_bits_above binary32 b)) (le→nltb (255 * 2 ^ 23) (b % 2 ^ 31) (omega arith))
