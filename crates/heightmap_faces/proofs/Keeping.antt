-- What is kept is what the number asks for. Assumes nothing.
use mathlib.Core.Path.{◌≡◌, refl}
use mathlib.Core.List.{List}
use Prim.Native.Nat.{ℕ}
use lib.Ieee.{Float}
use Rattle.placement.specs.declared.options.Choice.{Choice}
use Rattle.placement.specs.declared.options.Choice.TheVariants as option
use Rattle.placement.specs.Options.{option_at, option_for}
use Rattle.heightmap_faces.specs.Kept.{number_in}

-- the option of a choice is that of its number
pub number_is : (ns : List Float) (ms : List ℕ) (c : Choice) → option_for ns ms c ≡ option_at ns ms (number_in c)
number_is ns ms option.Absent = refl
number_is ns ms (option.With k) = refl
