-- The counts of a height map by its names alone, in one pass over the cells: speed alone asks for them, and
-- proofs/Counts.antt says that they are the sums over its faces (R16). Definitions only.
use Rattle.std.specs.Prelude.{ℕ, cond}
use Rattle.face.specs.declared.triangle.Counts.{Counts}
use Rattle.face.specs.Triangles.{inset_counts}
use Rattle.placement.specs.declared.options.Choice.{Choice}
use Rattle.placement.specs.declared.options.Choice.TheVariants as option
use Rattle.buffers.specs.Mesh.{none, also, summed}
use Rattle.heightmap.specs.declared.Name.{Name}
use Rattle.heightmap.specs.declared.Name.TheVariants.{Cap, Side}
use Rattle.heightmap.specs.declared.HeightMap.{HeightMap}
use Rattle.heightmap.specs.Grid.{cells_in, wall, present}
use Rattle.heightmap.specs.HeightMap.{Lists, option_of}

-- I5, I9: the counts of a name
abbrev pub size_by : HeightMap → Lists → Name → Counts
size_by job ls (Cap k) = inset_counts (option_of job ls (Cap k)).inset 6 4
size_by job ls (Side k d) = inset_counts (option_of job ls (Side k d)).inset 4 2

abbrev pub if_on : Choice → Counts → Counts
if_on option.Absent c = none
if_on (option.With o) c = c

abbrev pub cap_counts : HeightMap → Lists → ℕ → Counts
cap_counts job ls k = if_on job.caps (size_by job ls (Cap k))

abbrev pub side_counts : HeightMap → Lists → ℕ → ℕ → Counts
side_counts job ls k d = cond (present (wall job ls.grid k d)) (size_by job ls (Side k d)) none

abbrev pub cell_counts : HeightMap → Lists → ℕ → Counts
cell_counts job ls k = also (cap_counts job ls k) (summed (side_counts job ls k) 6)

-- where the faces of a cell start
abbrev pub cell_start : HeightMap → Lists → ℕ → Counts
cell_start job ls k = summed (cell_counts job ls) k

abbrev pub map_counts : HeightMap → Lists → Counts
map_counts job ls = cell_start job ls (cells_in ls.grid.cells)
