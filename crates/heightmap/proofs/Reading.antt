-- What no number is, and the range of the heights once all cells are seen. Assumes nothing.
use mathlib.Core.Path.{◌≡◌, refl}
use mathlib.Core.Bool.{false}
use mathlib.Core.List.{List}
use Prim.Native.Nat.{ℕ}
use lib.Dec.{eqb}
use lib.Ieee.{Float, nan, binary32, of_bits}
use Rattle.heightmap.specs.declared.HeightRange.TheVariants as heights
use Rattle.heightmap.specs.declared.Span.{Span}
use Rattle.heightmap.specs.Grid.{cells_in, height_at, lower, higher, kept, span_by}

-- the bits of `f32::NAN`
pub no_number : of_bits binary32 2143289344 ≡ nan
unfolding of_bits
no_number = refl

-- the range of the heights, once all cells are seen
pub span-done : (cs : List Float) (min max : Float) (k : ℕ) → eqb (cells_in cs) 0 ≡ false → k ≡ cells_in cs → min ≡ kept lower (height_at cs 0) (height_at cs) k → max ≡ kept higher (height_at cs 0) (height_at cs) k
    → ◌≡◌ {A = Span} (record { min = min; max = max }) (span_by heights.OfAll cs)
span-done cs min max k z e p q = rw (z, p, q, e)
