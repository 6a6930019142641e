-- The counts of a column without a walk over its parts: speed alone asks for them, and proofs/Counts.antt says that they
-- are the sums over its faces (R16). Definitions only.
use Rattle.std.specs.Prelude.{ℕ, ◌*◌, List, Float}
use Rattle.face.specs.declared.triangle.Counts.{Counts}
use Rattle.face.specs.Triangles.{counts, inset_counts}
use Rattle.placement.specs.declared.options.Choice.{Choice}
use Rattle.placement.specs.declared.options.Choice.TheVariants as option
use Rattle.placement.specs.Options.{option_at}
use Rattle.buffers.specs.Mesh.{none, also, summed}
use Rattle.column.specs.declared.Side.{Side}
use Rattle.column.specs.declared.Column.{Column}
use Rattle.column.specs.Column.{parts_of, side_at}

abbrev pub many : ℕ → Counts → Counts
many n c = counts (n * c.vertices.0) (n * c.indices.0)

abbrev pub side_counts : List Float → List ℕ → ℕ → Choice → Counts
side_counts ns ms s option.Absent = none
side_counts ns ms s (option.With k) = many s (inset_counts (option_at ns ms k).inset 4 2)

abbrev pub cap_counts : List Float → List ℕ → Choice → Counts
cap_counts ns ms option.Absent = none
cap_counts ns ms (option.With k) = inset_counts (option_at ns ms k).inset 6 4

abbrev pub sides_counts : List Float → List ℕ → ℕ → List Side → ℕ → Counts
sides_counts ns ms s ss = summed (λ d. side_counts ns ms s (side_at ss d))

abbrev pub column_counts : Column → List Float → List ℕ → Counts
column_counts job ns ms =
    also (sides_counts ns ms (parts_of job.subdivisions) job.sides 6) (also (cap_counts ns ms job.top) (cap_counts ns ms job.bottom))
