-- What a caller may conclude from the number that it is told. Assumes nothing.
use mathlib.Core.Path.{◌≡◌, refl}
use Prim.Native.Nat.{ℕ, ◌+◌, ◌*◌, ◌≤◌, ◌<◌}
use native.Mathlib.Omega.{arith}
use mathlib.Core.List.{[], ◌∷◌}
use lib.Ieee.{nan}
use Rattle.std.specs.Prelude.{Ok, Err}
use Rattle.face.specs.declared.triangle.Counts.{Counts}
use Rattle.face.specs.declared.vec.Vec2.{Vec2}
use Rattle.face.specs.declared.vec.Vec3.{Vec3}
use Rattle.face.specs.Triangles.{counts}
use Rattle.face.specs.Vec.{zero3, middle2, middle3}
use Rattle.answer.specs.declared.answer.Refusal.TheVariants.{Empty}
use Rattle.answer.specs.Answers.{Answer, code, after, value_of, value_of2, value_of3}
use Rattle.answer.proofs.Laws as laws
use Rattle.buffers.specs.Mesh.{none}
use Rattle.buffers.specs.Laying.{Buffers, four}
use Rattle.mesh.specs.Jobs.{faces_by, window_by}
use Rattle.mesh.specs.Stored.{points_of, uvs_of, middle_by, centroid_answer, centroid_of, uv_centroid_of}
use Rattle.stl_writing.specs.Writing.{filed_by, file_answer, write_answer, triangles_of}
use Rattle.boundary.specs.ToC.{answer_to_c, point_to_c, point3_to_c, centroid_to_c, uv_centroid_to_c, faces_to_c, window_to_c, file_to_c}

-- 0: the call is done, with the counts that are told
pub done : (a : Answer) → (answer_to_c a).number ≡ 0 → a ≡ Ok (counts (answer_to_c a).vertices (answer_to_c a).indices)
done (Ok c) z = refl
done (Err e) z = absurd (let g : 1 ≤ code e = (laws.coded e).0 in let h : code e ≡ 0 = z in omega arith)

-- any other number: both counts are 0, what is lent is as it was, and a value beside the answer is +0
pub refused : {A : Type 0} (a : Answer) (old new : A) → 1 ≤ (answer_to_c a).number → ((answer_to_c a).vertices ≡ 0) × ((answer_to_c a).indices ≡ 0) × (after a old new ≡ old)
refused (Ok c) old new h = absurd (let g : 1 ≤ 0 = h in omega arith)
refused (Err e) old new h = (refl, refl, refl)

pub without-value : {A : Type 0} (zero x : A) (a : Answer) → 1 ≤ (answer_to_c a).number → value_of zero a x ≡ zero
without-value zero x (Ok c) h = absurd (let g : 1 ≤ 0 = h in omega arith)
without-value zero x (Err e) h = refl

-- R10: each value that C is told beside an answer is that of `value_of`: what was worked out, or 0 and +0 beside a refusal
pub told-centroid : (c : Counts) (B : Buffers) → centroid_to_c (centroid_of c B) ≡ record { answer = answer_to_c (centroid_answer c B); centroid = point3_to_c (value_of3 (centroid_answer c B) (middle3 (points_of c.vertices.0 B.vertices))) }
told-centroid c B = by (centroid_answer c B) (middle3 (points_of c.vertices.0 B.vertices))
  where
    by : (a : Answer) (p : Vec3) → centroid_to_c (middle_by a p) ≡ record { answer = answer_to_c a; centroid = point3_to_c (value_of3 a p) }
    by (Ok d) p = refl
    by (Err e) p = refl

pub told-uv-centroid : (c : Counts) (B : Buffers) → uv_centroid_to_c (uv_centroid_of c B) ≡ record { answer = answer_to_c (centroid_answer c B); centroid = point_to_c (value_of2 (centroid_answer c B) (middle2 (uvs_of c.vertices.0 B.uvs))) }
told-uv-centroid c B = by (centroid_answer c B) (middle2 (uvs_of c.vertices.0 B.uvs))
  where
    by : (a : Answer) (p : Vec2) → uv_centroid_to_c (middle_by a p) ≡ record { answer = answer_to_c a; centroid = point_to_c (value_of2 a p) }
    by (Ok d) p = refl
    by (Err e) p = refl

pub told-faces : (a : Answer) (n : ℕ) → faces_to_c (faces_by a n) ≡ record { answer = answer_to_c a; faces = value_of 0 a n }
told-faces (Ok c) n = refl
told-faces (Err e) n = refl

pub told-window : (a : Answer) (at size : Counts) → window_to_c (window_by a at size) ≡ record { answer = answer_to_c a; first_vertex = (value_of none a at).vertices.0; first_index = (value_of none a at).indices.0; vertices = (value_of none a size).vertices.0; indices = (value_of none a size).indices.0 }
told-window (Ok c) at size = refl
told-window (Err e) at size = refl

pub told-file : (c : Counts) (B : Buffers) (l : ℕ) → file_to_c (file_answer c B l) ≡ record { answer = answer_to_c (write_answer c B l); bytes = value_of 0 (write_answer c B l) (84 + 50 * triangles_of c) }
told-file c B l = by (write_answer c B l) (84 + 50 * triangles_of c)
  where
    by : (a : Answer) (n : ℕ) → file_to_c (filed_by a n) ≡ record { answer = answer_to_c a; bytes = value_of 0 a n }
    by (Ok d) n = refl
    by (Err e) n = refl

-- R8, R10: no vertices have no middle, and what comes beside the refusal is +0
pub told-no-middle : centroid_to_c (centroid_of (counts 0 0) (four (nan ∷ []) [] [] [])) ≡ record { answer = answer_to_c (Err Empty); centroid = point3_to_c zero3 }
told-no-middle = refl

-- L1: a number below 51 is no refusal for room, and its need is 0
pub without-need : (a : Answer) → (answer_to_c a).number < 51 → (answer_to_c a).need ≡ 0
without-need = laws.without-need
