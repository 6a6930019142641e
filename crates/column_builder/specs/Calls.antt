-- What a whole build and a face call of a column answer and leave; R11 to R17 are rows of docs/TRACE.md. Definitions only.
use Rattle.std.specs.Prelude.{ℕ}
use Rattle.face.specs.declared.triangle.Counts.{Counts}
use Rattle.answer.specs.Answers.{Answer}
use Rattle.placement.specs.declared.options.Choice.{Choice}
use Rattle.placement.specs.declared.placement.Stand.{Stand}
use Rattle.buffers.specs.Mesh.{none}
use Rattle.buffers.specs.Laying.{Buffers, laid_if_fits, lay_each}
use Rattle.mesh.specs.Jobs.{whole_of, one_of, built_of, faced_of}
use Rattle.column.specs.declared.Column.{Column}
use Rattle.column.specs.declared.Name.{Name}
use Rattle.column.specs.Column.{Lists, mesh_of, cap_faces, sides_faces, column_faces, checked}

-- ---- faces laid where they fit: one by its name, all the sides, a cap that may be absent, all of them
abbrev pub name_laid : Column → Lists → Name → Counts → Buffers → Buffers
name_laid job ls n at B = laid_if_fits (mesh_of job ls n) at B

abbrev pub sides_laid : Column → Lists → Buffers → Buffers
sides_laid job ls B = lay_each (sides_faces job ls) none B

abbrev pub cap_laid : Stand → Lists → Choice → Counts → Buffers → Buffers
cap_laid t ls c at B = lay_each (cap_faces t ls c) at B

abbrev pub all_laid : Column → Lists → Buffers → Buffers
all_laid job ls B = lay_each (column_faces job ls) none B

-- ---- R11
abbrev pub whole_answer : Column → Lists → Buffers → Answer
whole_answer job ls = whole_of (checked job ls) (column_faces job ls)

-- R12
abbrev pub face_answer : Column → Lists → ℕ → Buffers → Answer
face_answer job ls = one_of (checked job ls) (column_faces job ls)

-- R16: every face
abbrev pub built : Column → Lists → Buffers → Buffers
built job ls = built_of (checked job ls) (column_faces job ls)

-- R17: the k-th alone
abbrev pub faced : Column → Lists → ℕ → Buffers → Buffers
faced job ls = faced_of (checked job ls) (column_faces job ls)
