-- A job of any kind: its tests before the limit, and its faces. What the three calls answer and leave, and what is told
-- of its faces without a buffer, is said here once for every kind; R10 to R18 and L1a to L1c are rows of docs/TRACE.md.
-- Definitions only.
use Rattle.std.specs.Prelude.{◌≡◌, ℕ, List, [], ◌∷◌, length, Result, Ok, Err}
use Rattle.face.specs.declared.triangle.Counts.{Counts}
use Rattle.answer.specs.declared.answer.Buffer.{Buffer}
use Rattle.answer.specs.declared.answer.Refusal.{Refusal}
use Rattle.answer.specs.declared.answer.Refusal.TheVariants.{Room}
use Rattle.answer.specs.Answers.{Answer}
use Rattle.answer.specs.Answers.{limited, named, roomed, after, lengths, need_for, Roomy, Short, FirstShort}
use Rattle.buffers.specs.Mesh.{Mesh, none, size_of, measure, start_of}
use Rattle.buffers.specs.Laying.{Buffers, lay_all, lay_one}
use Rattle.buffers.specs.Steps.{Step, Lays, Refuses}
use Rattle.buffers.specs.Windows.{face_at}
use Rattle.mesh.specs.declared.windows.Faces.{Faces}
use Rattle.mesh.specs.declared.windows.Window.{Window}

-- R11, R18: 1, 2, 3, which the job's own tests give, then 4; no buffer is lent
abbrev pub planned_of : (Answer → Answer) → List Mesh → Answer
planned_of checked fs = checked (limited (measure fs))

-- R5: the buffers hold counts, all four of them; and one of them does not
abbrev pub RoomIn : Counts → Buffers → Type 0
RoomIn c B = Roomy c (length B.vertices) (length B.normals) (length B.uvs) (length B.indices)

abbrev pub ShortIn : Counts → Buffers → Type 0
ShortIn c B = Short c (length B.vertices) (length B.normals) (length B.uvs) (length B.indices)

abbrev pub roomed_in : Buffers → Answer → Answer
roomed_in B a = roomed a (length B.vertices) (length B.normals) (length B.uvs) (length B.indices)

-- L1: the length of each buffer
abbrev pub length_in : Buffers → Buffer → ℕ
length_in B = lengths (length B.vertices) (length B.normals) (length B.uvs) (length B.indices)

-- L1: a refusal for the first buffer that is too short, with its need
pub record RefusedRoom (c : Counts) (B : Buffers) (a : Answer) : Type 0 where
  pub buffer : Buffer
  pub first : FirstShort c (length_in B) buffer
  pub refused : a ≡ Err (Room buffer (need_for buffer c))

-- R11: .. then 51 to 54
abbrev pub whole_of : (Answer → Answer) → List Mesh → Buffers → Answer
whole_of checked fs B = roomed_in B (planned_of checked fs)

-- R12: .. then 6, then 51 to 54, for the room of the whole plan
abbrev pub one_of : (Answer → Answer) → List Mesh → ℕ → Buffers → Answer
one_of checked fs k B = roomed_in B (named (planned_of checked fs) k (length fs))

-- R16: all faces, end to end
abbrev pub built_of : (Answer → Answer) → List Mesh → Buffers → Buffers
built_of checked fs B = after (whole_of checked fs B) B (lay_all fs none B)

-- R17: the k-th alone
abbrev pub faced_of : (Answer → Answer) → List Mesh → ℕ → Buffers → Buffers
faced_of checked fs k B = after (one_of checked fs k B) B (lay_one fs k none B)

-- ---- what is told of the faces beside the counts; a refusal tells nothing more (R10)
abbrev pub faces_by : Answer → ℕ → Result Faces Refusal
faces_by (Ok c) n = Ok (record { counts = c; faces = n })
faces_by (Err e) n = Err e

abbrev pub window_by : Answer → Counts → Counts → Result Window Refusal
window_by (Ok c) at size = Ok (record { counts = c; start = at; size = size })
window_by (Err e) at size = Err e

-- how many faces there are, with the plan's answer
abbrev pub faces_of : (Answer → Answer) → List Mesh → Result Faces Refusal
faces_of checked fs = faces_by (planned_of checked fs) (length fs)

-- R12, R16: where the k-th face starts and how many vertices and indices it has: the plan's refusals, then 6; no room is asked
abbrev pub window_of : (Answer → Answer) → List Mesh → ℕ → Result Window Refusal
window_of checked fs k = window_by (named (planned_of checked fs) k (length fs)) (start_of fs k) (size_of (face_at fs k))

-- ---- X5: a run of calls on the same buffers: faces of the job, and refused calls of any kind and any job
abbrev pub called : (Answer → Answer) → List Mesh → Step → Buffers → Buffers
called checked fs (Lays k) B = faced_of checked fs k B
called checked fs Refuses B = B

unfoldable pub calls : (Answer → Answer) → List Mesh → List Step → Buffers → Buffers
calls checked fs [] B = B
calls checked fs (s ∷ ss) B = calls checked fs ss (called checked fs s B)
