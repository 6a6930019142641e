-- Fused multiply-add of binary32, over whole numbers (IEEE 754-2019, 5.4.1). Definitions only.
use Rattle.std.specs.Prelude.{◌*◌, Float}
use Rattle.std.specs.Float.{nan, inf, fin, binary32}
use Rattle.std.specs.Float.Ieee.{unlike, up, down, sum, add, mul}

-- x * y + z, the product and the sum exact, rounded once to nearest, ties to even (4.3.1).
-- `sum` adds two fractions over one divisor with their signs: an exact zero is +0 unless both signs are minus (6.3).
-- With a factor that is not finite nothing is rounded, and the steps are those of a product and a sum (6.1): infinity times zero, and unlike infinities, give a NaN (7.2 b to d).
-- An infinite addend to a finite product is the sum (6.1), and a NaN operand gives a NaN (6.2).
unfoldable pub fma : Float → Float → Float → Float
unfolding sum add mul
fma nan y z = nan
fma (inf s) y z = add binary32 (mul binary32 (inf s) y) z
fma (fin s m e) nan z = nan
fma (fin s m e) (inf t) z = add binary32 (mul binary32 (fin s m e) (inf t)) z
fma (fin s m e) (fin t n d) nan = nan
fma (fin s m e) (fin t n d) (inf u) = inf u
fma (fin s m e) (fin t n d) (fin u p g) =
    sum binary32 (unlike s t) (m * up e * (n * up d) * down g) u (p * up g * (down e * down d)) (down e * down d * down g)
