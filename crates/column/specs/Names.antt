-- Which face a number is, where it starts and what it takes, without a walk over the parts; B2, I5 and R16 are rows of docs/TRACE.md. Definitions only.
use Rattle.std.specs.Prelude.{ℕ, cond, List, ◌==◌, slice_index_or, Float}
use Rattle.face.specs.declared.triangle.Counts.{Counts}
use Rattle.face.specs.Triangles.{inset_counts}
use Rattle.placement.specs.declared.options.Choice.{Choice}
use Rattle.placement.specs.declared.options.Choice.TheVariants as option
use Rattle.placement.specs.Options.{option_for}
use Rattle.buffers.specs.Mesh.{also}
use Rattle.column.specs.declared.Column.{Column}
use Rattle.column.specs.declared.Name.{Name}
use Rattle.column.specs.declared.Name.TheVariants.{OfSide, Top, Bottom}
use Rattle.column.specs.declared.names.Piece.{Piece}
use Rattle.column.specs.declared.names.Piece.TheVariants.{Part, Cap}
use Rattle.column.specs.Column.{parts_of, side_at, column_names, top_stand, bottom_stand}
use Rattle.column.specs.Counts.{many, cap_counts, sides_counts}

-- B2: the name of a number; past the last it is the bottom's
abbrev pub name_at : Column → ℕ → Name
name_at job k = slice_index_or (column_names job) k Bottom

-- how many faces a side has, or a cap, which is a side of one part
abbrev pub side_faces : Choice → ℕ → ℕ
side_faces option.Absent s = 0
side_faces (option.With k) s = s

-- after the sides: the top where there is one, then the bottom
abbrev pub cap_name : Choice → ℕ → Name
cap_name option.Absent x = Bottom
cap_name (option.With k) x = cond (x == 0) Top Bottom

-- what is laid of a face, whichever it is
abbrev pub piece_of : Column → Name → Piece
piece_of job (OfSide d p) = Part d p
piece_of job Top = Cap (top_stand job) job.top
piece_of job Bottom = Cap (bottom_stand job) job.bottom

-- R16: what lies before a face, in closed form
abbrev pub start_by : Column → List Float → List ℕ → Name → Counts
start_by job ns ms (OfSide d p) =
    also (sides_counts ns ms (parts_of job.subdivisions) job.sides d) (many p (inset_counts (option_for ns ms (side_at job.sides d)).inset 4 2))
start_by job ns ms Top = sides_counts ns ms (parts_of job.subdivisions) job.sides 6
start_by job ns ms Bottom = also (sides_counts ns ms (parts_of job.subdivisions) job.sides 6) (cap_counts ns ms job.top)

-- I5, I9: the counts of a face
abbrev pub size_by : Column → List Float → List ℕ → Name → Counts
size_by job ns ms (OfSide d p) = inset_counts (option_for ns ms (side_at job.sides d)).inset 4 2
size_by job ns ms Top = inset_counts (option_for ns ms job.top).inset 6 4
size_by job ns ms Bottom = inset_counts (option_for ns ms job.bottom).inset 6 4
