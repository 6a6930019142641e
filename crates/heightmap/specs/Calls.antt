-- What a whole build and a face call of a height map answer and leave, and what is told of its faces; R11 to R17 are rows of docs/TRACE.md. Definitions only.
use Rattle.std.specs.Prelude.{ℕ, Result}
use Rattle.answer.specs.declared.answer.Refusal.{Refusal}
use Rattle.answer.specs.Answers.{Answer}
use Rattle.buffers.specs.Laying.{Buffers}
use Rattle.mesh.specs.declared.windows.Faces.{Faces}
use Rattle.mesh.specs.declared.windows.Window.{Window}
use Rattle.mesh.specs.Jobs.{whole_of, one_of, built_of, faced_of, faces_of, window_of}
use Rattle.heightmap.specs.declared.HeightMap.{HeightMap}
use Rattle.heightmap.specs.HeightMap.{Lists, map_faces}
use Rattle.heightmap.specs.Tests.{checked}

-- R11
abbrev pub whole_answer : HeightMap → Lists → Buffers → Answer
whole_answer job ls = whole_of (checked job ls) (map_faces job ls)

-- R12
abbrev pub face_answer : HeightMap → Lists → ℕ → Buffers → Answer
face_answer job ls = one_of (checked job ls) (map_faces job ls)

-- R16: every face
abbrev pub built : HeightMap → Lists → Buffers → Buffers
built job ls = built_of (checked job ls) (map_faces job ls)

-- R17: the k-th alone
abbrev pub faced : HeightMap → Lists → ℕ → Buffers → Buffers
faced job ls = faced_of (checked job ls) (map_faces job ls)

-- R16: how many faces there are
abbrev pub faces_told : HeightMap → Lists → Result Faces Refusal
faces_told job ls = faces_of (checked job ls) (map_faces job ls)

-- R12, R16: the places of the k-th
abbrev pub window_told : HeightMap → Lists → ℕ → Result Window Refusal
window_told job ls = window_of (checked job ls) (map_faces job ls)
