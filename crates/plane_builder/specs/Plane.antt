-- A plane, a job of one face (plane_builder.rs); B5 to R17 are rows of docs/TRACE.md. Definitions only.
use Rattle.std.specs.Prelude.{ℕ, Bool, false, ◌&&◌, List, [], ◌∷◌, length, Float, Result}
use Rattle.answer.specs.declared.answer.Refusal.TheVariants.{Shape, Range}
use Rattle.answer.specs.declared.answer.Refusal.{Refusal}
use Rattle.answer.specs.Answers.{Answer, given, after}
use Rattle.answer.specs.Checks.{in_range2, all_in_range, exactly, names_option}
use Rattle.placement.specs.declared.options.FaceOptions.{FaceOptions}
use Rattle.placement.specs.declared.placement.Choice3.TheVariants.{Absent}
use Rattle.placement.specs.declared.placement.Stand.{Stand}
use Rattle.placement.specs.Options.{entry_count, is_table, option_at}
use Rattle.placement.specs.Placing.{stand_by, settled, placement_in_range}
use Rattle.buffers.specs.Mesh.{Mesh, none}
use Rattle.buffers.specs.Laying.{Buffers, laid_if_fits}
use Rattle.buffers.specs.Lent.{Shown}
use Rattle.mesh.specs.declared.windows.Faces.{Faces}
use Rattle.mesh.specs.declared.windows.Window.{Window}
use Rattle.mesh.specs.Jobs.{planned_of, whole_of, one_of, built_of, faced_of, faces_of, window_of}
use Rattle.plane_builder.specs.declared.Plane.{Plane}
use Rattle.plane_builder.specs.Cap.{cap_mesh}

-- what is lent beside a plane: its corners, and the table of options
pub record Lists : Type 0 where
  pub corners : List Float
  pub numbers : List Float
  pub marks : List ℕ

abbrev pub lists : List Float → List Float → List ℕ → Lists
lists cs ns ms = record { corners = cs; numbers = ns; marks = ms }

-- what those lists hold when a call is entered
abbrev pub lent : Shown Float → Shown Float → Shown ℕ → Lists
lent c n m = lists c.entry.now n.entry.now m.entry.now

-- B7, B18: how it stands: by its placement, at its position
abbrev pub stand_of : Plane → Stand
stand_of job = stand_by Absent false (settled job.placement job.position)

abbrev pub options_of : Plane → Lists → FaceOptions
options_of job ls = option_at ls.numbers ls.marks job.option

abbrev pub plane_mesh : Plane → Lists → Mesh
plane_mesh job ls = cap_mesh (stand_of job) ls.corners (options_of job ls)

-- R10: a mesh laid where it fits, if the answer is done
abbrev pub laid_if_done : Answer → Mesh → Buffers → Buffers
laid_if_done a m B = after a B (laid_if_fits m none B)

-- R15
abbrev pub plane_faces : Plane → Lists → List Mesh
plane_faces job ls = plane_mesh job ls ∷ []

-- R1: six corners, a table of options, an option that names one
abbrev pub shape_of : Plane → Lists → Bool
shape_of job ls = exactly (length ls.corners) 6 2 && (is_table ls.numbers ls.marks && names_option job.option (entry_count ls.marks))

-- R2: every number that is lent or supplied
abbrev pub place_of : Plane → Bool
place_of job = in_range2 job.position && placement_in_range job.placement

abbrev pub range_of : Plane → Lists → Bool
range_of job ls = all_in_range ls.corners && (all_in_range ls.numbers && place_of job)

-- R11: 1, then 2; it has no neighbour, so no 3
abbrev pub checked : Plane → Lists → Answer → Answer
checked job ls rest = given (shape_of job ls) Shape (given (range_of job ls) Range rest)

abbrev pub planned : Plane → Lists → Answer
planned job ls = planned_of (checked job ls) (plane_faces job ls)

abbrev pub whole_answer : Plane → Lists → Buffers → Answer
whole_answer job ls = whole_of (checked job ls) (plane_faces job ls)

-- R12
abbrev pub face_answer : Plane → Lists → ℕ → Buffers → Answer
face_answer job ls = one_of (checked job ls) (plane_faces job ls)

-- R16
abbrev pub built : Plane → Lists → Buffers → Buffers
built job ls = built_of (checked job ls) (plane_faces job ls)

-- R17
abbrev pub faced : Plane → Lists → ℕ → Buffers → Buffers
faced job ls = faced_of (checked job ls) (plane_faces job ls)

abbrev pub faces_told : Plane → Lists → Result Faces Refusal
faces_told job ls = faces_of (checked job ls) (plane_faces job ls)

abbrev pub window_told : Plane → Lists → ℕ → Result Window Refusal
window_told job ls = window_of (checked job ls) (plane_faces job ls)
