-- What was last made of an option, beside the option's number: speed alone asks for it. Definitions only.
use Rattle.std.specs.Prelude.{ℕ, List, Float}
use Rattle.placement.specs.declared.options.Choice.{Choice}
use Rattle.placement.specs.declared.options.Choice.TheVariants as option
use Rattle.placement.specs.Options.{option_at}
use Rattle.heightmap.specs.declared.Span.{Span}
use Rattle.heightmap_faces.specs.declared.kept.KeptLevel.{KeptLevel}
use Rattle.heightmap_faces.specs.declared.kept.KeptTop.{KeptTop}
use Rattle.heightmap_faces.specs.Speed.{skin_of, level_of, top_of}

-- 255 is the default, which an absent choice has too
abbrev pub number_in : Choice → ℕ
number_in option.Absent = 255
number_in (option.With k) = k

abbrev pub level_by : Span → Float → List Float → List ℕ → ℕ → KeptLevel
level_by s h ns ms n = record { number = n; level = level_of (skin_of (option_at ns ms n) s) h }

abbrev pub top_by : List Float → List Float → List ℕ → ℕ → KeptTop
top_by l ns ms n = record { number = n; top = top_of l (option_at ns ms n) }
