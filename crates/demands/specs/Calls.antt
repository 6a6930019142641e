-- Builds, face calls, merges and stored-mesh calls that are lent four buffers, and runs of them on the same buffers; R10
-- and X5 are rows of docs/TRACE.md. Definitions only.
use Rattle.std.specs.Prelude.{◌≡◌, ◌⊎◌, List, [], ◌∷◌, ◌++◌, ℕ, take, drop}
use Rattle.face.specs.declared.vec.Vec2.{Vec2}
use Rattle.face.specs.declared.vec.Vec3.{Vec3}
use Rattle.face.specs.declared.triangle.Counts.{Counts}
use Rattle.answer.specs.declared.answer.Refusal.{Refusal}
use Rattle.answer.specs.Answers.{Answer}
use Rattle.std.specs.Prelude.{Err}
use Rattle.buffers.specs.Laying.{Buffers, four}
use Rattle.mesh.specs.Stored as stored
use Rattle.merge.specs.Merge.{merge_answer, merged}
use Rattle.demands.specs.Job.{Job, whole_answer, face_answer, built, faced}

pub data Call : Type 0 where
  Build : Job → Call
  Face : Job → ℕ → Call
  -- a source with its counts, and the counts of the mesh that the buffers hold
  Merge : Counts → Buffers → Counts → Call
  -- of the stored mesh of such counts
  Scale : Counts → Vec3 → Call
  Offset : Counts → Vec3 → Call
  TextureScale : Counts → Vec2 → Call
  Centroid : Counts → Call
  UvCentroid : Counts → Call

-- what it answers in such buffers
abbrev pub answer_of : Call → Buffers → Answer
answer_of (Build job) B = whole_answer job B
answer_of (Face job k) B = face_answer job k B
answer_of (Merge s S t) B = merge_answer s S t B
answer_of (Scale c by) B = stored.scale_answer c by B
answer_of (Offset c by) B = stored.offset_answer c by B
answer_of (TextureScale c by) B = stored.texture_scale_answer c by B
answer_of (Centroid c) B = stored.centroid_answer c B
answer_of (UvCentroid c) B = stored.centroid_answer c B

-- and what it leaves in them; to a centroid they are lent to be read alone
abbrev pub leaves : Call → Buffers → Buffers
leaves (Build job) B = built job B
leaves (Face job k) B = faced job k B
leaves (Merge s S t) B = merged s S t B
leaves (Scale c by) B = stored.scaled c by B
leaves (Offset c by) B = stored.shifted c by B
leaves (TextureScale c by) B = stored.texture_scaled c by B
leaves (Centroid c) B = B
leaves (UvCentroid c) B = B

-- ---- a call that is lent the first so many places of each buffer
pub record Lengths : Type 0 where
  pub vertices : ℕ
  pub normals : ℕ
  pub uvs : ℕ
  pub indices : ℕ

abbrev pub first : Lengths → Buffers → Buffers
first n B = four (take n.vertices B.vertices) (take n.normals B.normals) (take n.uvs B.uvs) (take n.indices B.indices)

-- the first places as they are now, and the others as they were
abbrev pub before : Lengths → Buffers → Buffers → Buffers
before n C B =
    four (C.vertices ++ drop n.vertices B.vertices) (C.normals ++ drop n.normals B.normals) (C.uvs ++ drop n.uvs B.uvs) (C.indices ++ drop n.indices B.indices)

abbrev pub leaves_first : Lengths → Call → Buffers → Buffers
leaves_first n c B = before n (leaves c (first n B)) B

-- ---- X5: a run for a job: its own face calls, lent the buffers whole, and any calls between, lent the first places of each
pub data InRun : Type 0 where
  OwnFace : ℕ → InRun
  Other : Lengths → Call → InRun

abbrev pub stepped : Job → InRun → Buffers → Buffers
stepped job (OwnFace k) B = faced job k B
stepped job (Other n c) B = leaves_first n c B

unfoldable pub run : Job → List InRun → Buffers → Buffers
run job [] B = B
run job (s ∷ ss) B = run job ss (stepped job s B)

-- R10: an answer that is some refusal
pub record IsRefused (a : Answer) : Type 0 where
  pub why : Refusal
  pub so : a ≡ Err why

-- the calls between are refused in the buffers that the run begins with; an answer goes by their lengths, which no call
-- of the run changes
abbrev pub RefusedThere : Buffers → InRun → Type 0
RefusedThere B (OwnFace k) = Unit {0}
RefusedThere B (Other n c) = IsRefused (answer_of c (first n B))

abbrev pub OthersRefused : Buffers → List InRun → Type 0
OthersRefused B [] = Unit {0}
OthersRefused B (s ∷ ss) = RefusedThere B s × OthersRefused B ss

-- some call is of the job's face k
abbrev pub Among : ℕ → List InRun → Type 0
Among k [] = ⊥
Among k (s ∷ ss) = (s ≡ OwnFace k) ⊎ Among k ss
