-- What is done to a stored mesh; M5 to R19 are rows of docs/TRACE.md. Definitions only.
use Rattle.std.specs.Prelude.{ℕ, ◌+◌, ◌*◌, Bool, true, ◌&&◌, List, length, pos, nat_le, nat_lt, slice_index_or, Float, Result, Ok, Err}
use Rattle.std.specs.Float.{nan, binary32}
use Rattle.std.specs.Float.Ieee.{of_int}
use Rattle.face.specs.declared.vec.Vec2.{Vec2}
use Rattle.face.specs.declared.vec.Vec3.{Vec3}
use Rattle.face.specs.declared.triangle.Counts.{Counts}
use Rattle.face.specs.Lists.{each, chain}
use Rattle.face.specs.Vec.{v2, v3, times, plus3, over2, over3, middle2, middle3}
use Rattle.answer.specs.declared.answer.Refusal.{Refusal}
use Rattle.answer.specs.declared.answer.Refusal.TheVariants.{Shape, Range, Empty}
use Rattle.answer.specs.Answers.{Answer}
use Rattle.answer.specs.Answers.{given, limited, after}
use Rattle.answer.specs.Checks.{in_range2, in_range3}
use Rattle.buffers.specs.Laying.{Buffers, four, three, two, laid}
use Rattle.mesh.specs.declared.stored.Middle.{Middle}

-- R1: lists of these lengths hold what the counts say; they may hold more
abbrev pub holds_counts : Counts → ℕ → ℕ → ℕ → ℕ → Bool
holds_counts c v n t i = nat_le (3 * c.vertices.0) v && (nat_le (3 * c.vertices.0) n && (nat_le (2 * c.vertices.0) t && nat_le c.indices.0 i))

-- R14: 1, 2, 4; whether the parameter is in range is told
abbrev pub stored_answer : Counts → Bool → ℕ → ℕ → ℕ → ℕ → Answer
stored_answer c good v n t i = given (holds_counts c v n t i) Shape (given good Range (limited c))

abbrev pub answer_of : Counts → Bool → Buffers → Answer
answer_of c good B = stored_answer c good (length B.vertices) (length B.normals) (length B.uvs) (length B.indices)

-- R8, after what stands before it
abbrev pub not_empty : Answer → Answer
not_empty (Err e) = Err e
not_empty (Ok c) = given (nat_lt 0 c.vertices.0) Empty (Ok c)

-- ---- the points and uvs of a buffer, by the place of their first number

abbrev pub point_from : List Float → ℕ → Vec3
point_from l at = v3 (slice_index_or l at nan) (slice_index_or l (at + 1) nan) (slice_index_or l (at + 2) nan)

abbrev pub uv_from : List Float → ℕ → Vec2
uv_from l at = v2 (slice_index_or l at nan) (slice_index_or l (at + 1) nan)

-- the corners of a hexagon in a list of twelve numbers
abbrev pub corner_from : List Float → ℕ → Vec2
corner_from l k = uv_from l (2 * k)

abbrev pub points_of : ℕ → List Float → List Vec3
points_of m l = each (λ k. point_from l (3 * k)) m

abbrev pub uvs_of : ℕ → List Float → List Vec2
uvs_of m l = each (λ k. uv_from l (2 * k)) m

-- the first m of them moved, each by itself
abbrev pub moved_points : (Vec3 → Vec3) → ℕ → List Float → List Float
moved_points f m l = laid l 0 (chain (λ k. three (f (point_from l (3 * k)))) m)

abbrev pub moved_uvs : (Vec2 → Vec2) → ℕ → List Float → List Float
moved_uvs f m l = laid l 0 (chain (λ k. two (f (uv_from l (2 * k)))) m)

-- component by component
abbrev pub stretched3 : Vec3 → Vec3 → Vec3
stretched3 by p = v3 (times p.x by.x) (times p.y by.y) (times p.z by.z)

abbrev pub stretched2 : Vec2 → Vec2 → Vec2
stretched2 by p = v2 (times p.x by.x) (times p.y by.y)

-- ---- M5: scale

abbrev pub scale_answer : Counts → Vec3 → Buffers → Answer
scale_answer c by B = answer_of c (in_range3 by) B

abbrev pub scaled : Counts → Vec3 → Buffers → Buffers
scaled c by B = after (scale_answer c by B) B (four (moved_points (stretched3 by) c.vertices.0 B.vertices) B.normals B.uvs B.indices)

-- ---- M6: offset

abbrev pub offset_answer : Counts → Vec3 → Buffers → Answer
offset_answer c by B = answer_of c (in_range3 by) B

abbrev pub shifted : Counts → Vec3 → Buffers → Buffers
shifted c by B = after (offset_answer c by B) B (four (moved_points (λ p. plus3 p by) c.vertices.0 B.vertices) B.normals B.uvs B.indices)

-- ---- M7: texture scale

abbrev pub texture_scale_answer : Counts → Vec2 → Buffers → Answer
texture_scale_answer c by B = answer_of c (in_range2 by) B

abbrev pub texture_scaled : Counts → Vec2 → Buffers → Buffers
texture_scaled c by B = after (texture_scale_answer c by B) B (four B.vertices B.normals (moved_uvs (stretched2 by) c.vertices.0 B.uvs) B.indices)

-- ---- M8, M9: the centroids; they have no parameter, so no 2

abbrev pub centroid_answer : Counts → Buffers → Answer
centroid_answer c B = not_empty (answer_of c true B)

-- the middle that a done answer has
abbrev pub middle_by : {P : Type 0} → Answer → P → Result (Middle P) Refusal
middle_by (Ok c) p = Ok (record { counts = c; centroid = p })
middle_by (Err e) p = Err e

abbrev pub centroid_of : Counts → Buffers → Result (Middle Vec3) Refusal
centroid_of c B = middle_by (centroid_answer c B) (middle3 (points_of c.vertices.0 B.vertices))

abbrev pub uv_centroid_of : Counts → Buffers → Result (Middle Vec2) Refusal
uv_centroid_of c B = middle_by (centroid_answer c B) (middle2 (uvs_of c.vertices.0 B.uvs))
