-- A column (column_builder.rs); B1 to B19 are rows of docs/TRACE.md. Definitions only.
use Rattle.std.specs.Prelude.{ℕ, ◌+◌, ◌*◌, Bool, true, false, cond, ◌&&◌, List, [], ◌∷◌, ◌++◌, map, length, pos, ◌==◌, slice_index_or, Float, Result}
use Rattle.std.specs.Float.{binary32}
use Rattle.std.specs.Float.Ieee.{of_int}
use Rattle.face.specs.declared.vec.Vec3.{Vec3}
use Rattle.face.specs.declared.face.Quad.{Quad}
use Rattle.face.specs.Lists.{each, chain}
use Rattle.face.specs.Vec.{v3, f0, plus, times, over, plus3, zero3}
use Rattle.face.specs.Face.{quad_of, altered_quad}
use Rattle.answer.specs.declared.answer.Refusal.{Refusal}
use Rattle.answer.specs.declared.answer.Refusal.TheVariants.{Shape, Range}
use Rattle.answer.specs.Answers.{Answer}
use Rattle.answer.specs.Answers.{given}
use Rattle.answer.specs.Checks.{every, in_range, in_range2, all_in_range, exactly}
use Rattle.placement.specs.declared.options.Choice.{Choice}
use Rattle.placement.specs.declared.options.Choice.TheVariants as option
use Rattle.placement.specs.declared.placement.Choice3.TheVariants as choice
use Rattle.placement.specs.declared.placement.Stand.{Stand}
use Rattle.placement.specs.Options.{entry_count, is_table, option_at, choice_names, option_for}
use Rattle.placement.specs.Placing.{stand_by, settled, placement_in_range}
use Rattle.buffers.specs.Mesh.{Mesh}
use Rattle.buffers.specs.Lent.{Shown}
use Rattle.buffers.specs.Faces.{wall_mesh}
use Rattle.mesh.specs.Stored.{uv_from}
use Rattle.mesh.specs.declared.windows.Faces.{Faces}
use Rattle.mesh.specs.declared.windows.Window.{Window}
use Rattle.mesh.specs.Jobs.{planned_of, faces_of, window_of}
use Rattle.plane_builder.specs.Cap.{cap_mesh}
use Rattle.column.specs.declared.Subdivisions.{Subdivisions}
use Rattle.column.specs.declared.Subdivisions.TheVariants as subdivisions
use Rattle.column.specs.declared.Side.{Side}
use Rattle.column.specs.declared.Column.{Column}
use Rattle.column.specs.declared.Name.{Name}
use Rattle.column.specs.declared.Name.TheVariants.{OfSide, Top, Bottom}

-- what is lent beside a column: its sides' ends, its cap corners, and the table of options
pub record Lists : Type 0 where
  pub pairs : List Float
  pub corners : List Float
  pub numbers : List Float
  pub marks : List ℕ

abbrev pub lists : List Float → List Float → List Float → List ℕ → Lists
lists ps cs ns ms = record { pairs = ps; corners = cs; numbers = ns; marks = ms }

-- what the lists hold when a call is entered
abbrev pub lent : Shown Float → Shown Float → Shown Float → Shown ℕ → Lists
lent p c n m = lists p.entry.now c.entry.now n.entry.now m.entry.now

-- the same for a side, which has no use for the cap corners
abbrev pub lent_for_sides : Shown Float → Shown Float → Shown ℕ → Lists
lent_for_sides p n m = lists p.entry.now [] n.entry.now m.entry.now

-- and for a cap, which has none for the sides' ends
abbrev pub lent_for_caps : Shown Float → Shown Float → Shown ℕ → Lists
lent_for_caps c n m = lists [] c.entry.now n.entry.now m.entry.now

-- ---- B1: the parts of a side, and how high one is
abbrev pub parts_of : Subdivisions → ℕ
parts_of subdivisions.Absent = 1
parts_of (subdivisions.Of n) = cond (n == 0) 1 n

abbrev pub float : ℕ → Float
float n = of_int binary32 (pos n)

abbrev pub delta : Column → Float
delta job = over job.height (float (parts_of job.subdivisions))

-- ---- B2: which faces, by name
abbrev pub no_side : Side
no_side = record { option = option.Absent }

abbrev pub side_at : List Side → ℕ → Choice
side_at ss d = (slice_index_or ss d no_side).option

abbrev pub cap_names : Choice → Name → List Name
cap_names option.Absent n = []
cap_names (option.With k) n = n ∷ []

-- B4: an absent side has no parts
abbrev pub part_names : Choice → ℕ → ℕ → List Name
part_names option.Absent s d = []
part_names (option.With k) s d = each (OfSide d) s

abbrev pub side_names : Column → ℕ → List Name
side_names job d = part_names (side_at job.sides d) (parts_of job.subdivisions) d

unfoldable pub column_names : Column → List Name
column_names job = chain (side_names job) 6 ++ (cap_names job.top Top ++ cap_names job.bottom Bottom)

-- ---- each face
-- B3: a part stands on delta times its number, and rises by delta
abbrev pub part_quad : Column → List Float → ℕ → ℕ → Quad
part_quad job ps d p =
    let foot = times (delta job) (float p) in
    quad_of (uv_from ps (4 * d)) (uv_from ps (4 * d + 2)) foot (plus foot (delta job))

abbrev pub wall_stand : Column → Stand
wall_stand job = stand_by choice.Absent false (settled job.placement job.position)

-- B6, B8: a cap is about (+0, +0) and has a first offset of its own; the top's is added to zero
abbrev pub top_offset : Float → Vec3
top_offset h = plus3 zero3 (v3 (times f0 h) h (times f0 h))

abbrev pub top_stand : Column → Stand
top_stand job = stand_by (choice.With (top_offset job.height)) false (settled job.placement job.position)

-- B9: the bottom adds +0 and is then turned
abbrev pub bottom_stand : Column → Stand
bottom_stand job = stand_by (choice.With zero3) true (settled job.placement job.position)

-- B5: a side is altered before it is inset, a cap after
unfoldable pub mesh_of : Column → Lists → Name → Mesh
mesh_of job ls (OfSide d p) =
    let o = option_for ls.numbers ls.marks (side_at job.sides d) in
    wall_mesh (wall_stand job) o.inset (altered_quad o.uv (part_quad job ls.pairs d p))
mesh_of job ls Top = cap_mesh (top_stand job) ls.corners (option_for ls.numbers ls.marks job.top)
mesh_of job ls Bottom = cap_mesh (bottom_stand job) ls.corners (option_for ls.numbers ls.marks job.bottom)

-- a cap that may be absent
abbrev pub cap_faces : Stand → Lists → Choice → List Mesh
cap_faces t ls option.Absent = []
cap_faces t ls (option.With k) = cap_mesh t ls.corners (option_at ls.numbers ls.marks k) ∷ []

abbrev pub sides_faces : Column → Lists → List Mesh
sides_faces job ls = map (mesh_of job ls) (chain (side_names job) 6)

abbrev pub column_faces : Column → Lists → List Mesh
column_faces job ls = map (mesh_of job ls) (column_names job)

-- ---- R1: lengths, the table, and every option number, used or not
abbrev pub all_named : Column → ℕ → Bool
all_named job entries =
    every (λ x. choice_names x.option entries) job.sides && (choice_names job.top entries && choice_names job.bottom entries)

abbrev pub shape_of : Column → Lists → Bool
shape_of job ls =
    exactly (length ls.pairs) 6 4
    && (exactly (length ls.corners) 6 2
    && (is_table ls.numbers ls.marks
    && all_named job (entry_count ls.marks)))

-- R2: every number that is lent or supplied
abbrev pub place_of : Column → Bool
place_of job = in_range job.height && (in_range2 job.position && placement_in_range job.placement)

abbrev pub range_of : Column → Lists → Bool
range_of job ls = all_in_range ls.pairs && (all_in_range ls.corners && (all_in_range ls.numbers && place_of job))

abbrev pub checked : Column → Lists → Answer → Answer
checked job ls rest = given (shape_of job ls) Shape (given (range_of job ls) Range rest)

abbrev pub planned : Column → Lists → Answer
planned job ls = planned_of (checked job ls) (column_faces job ls)

abbrev pub faces_told : Column → Lists → Result Faces Refusal
faces_told job ls = faces_of (checked job ls) (column_faces job ls)

abbrev pub window_told : Column → Lists → ℕ → Result Window Refusal
window_told job ls = window_of (checked job ls) (column_faces job ls)
