-- Worked facts, by computation: the limit of a merge, and each refusal before those that come after it. Assumes nothing.
use mathlib.Core.Path.{◌≡◌, refl}
use mathlib.Core.List.{[], ◌∷◌}
use Rattle.face.specs.Triangles.{counts}
use Rattle.answer.specs.declared.answer.Buffer.TheVariants.{Vertices, Normals, Uvs, Indices}
use Rattle.answer.specs.declared.answer.Refusal.TheVariants.{Shape, Limit, Room, Index}
use Rattle.std.specs.Prelude.{Ok, Err}
use Rattle.merge.specs.Merge.{merge_tested}

-- ---- M4: at the limit
pub last-vertex : merge_tested (counts 1 1) 3 3 2 (0 ∷ []) (counts 65535 0) 196608 196608 131072 1 ≡ Ok (counts 65536 1)
last-vertex = refl

pub empty-onto-full : merge_tested (counts 0 0) 0 0 0 [] (counts 65536 0) 196608 196608 131072 0 ≡ Ok (counts 65536 0)
empty-onto-full = refl

pub one-too-many : merge_tested (counts 1 1) 3 3 2 (0 ∷ []) (counts 65536 0) 200000 200000 200000 1 ≡ Err Limit
one-too-many = refl

-- more indices than a build can have
pub many-indices : merge_tested (counts 1 1) 3 3 2 (0 ∷ []) (counts 1 9000000000) 6 6 4 9000000001 ≡ Ok (counts 2 9000000001)
many-indices = refl

-- ---- R13: 1 before 7, 7 before 4, 4 before 51 to 54; a target shorter than its own counts is 1
pub shape-before-index : merge_tested (counts 1 1) 2 3 2 (1 ∷ []) (counts 65536 0) 196608 196608 131072 0 ≡ Err Shape
shape-before-index = refl

pub target-shape : merge_tested (counts 1 1) 3 3 2 (1 ∷ []) (counts 65536 0) 196608 196608 131071 0 ≡ Err Shape
target-shape = refl

pub index-before-limit : merge_tested (counts 1 1) 3 3 2 (1 ∷ []) (counts 65536 0) 196608 196608 131072 0 ≡ Err Index
index-before-limit = refl

pub limit-before-room : merge_tested (counts 1 1) 3 3 2 (0 ∷ []) (counts 65536 0) 196608 196608 131072 0 ≡ Err Limit
limit-before-room = refl

-- L1: the first short buffer, with the numbers that both meshes need in it
pub short-vertices : merge_tested (counts 1 1) 3 3 2 (0 ∷ []) (counts 1 1) 5 5 3 1 ≡ Err (Room Vertices 6)
short-vertices = refl

pub short-normals : merge_tested (counts 1 1) 3 3 2 (0 ∷ []) (counts 1 1) 6 5 3 1 ≡ Err (Room Normals 6)
short-normals = refl

pub short-uvs : merge_tested (counts 1 1) 3 3 2 (0 ∷ []) (counts 1 1) 6 6 3 1 ≡ Err (Room Uvs 4)
short-uvs = refl

pub short-indices : merge_tested (counts 1 1) 3 3 2 (0 ∷ []) (counts 1 1) 6 6 4 1 ≡ Err (Room Indices 2)
short-indices = refl

-- a need above 32 bits
pub great-need : merge_tested (counts 1 1) 3 3 2 (0 ∷ []) (counts 1 9000000000) 6 6 4 9000000000 ≡ Err (Room Indices 9000000001)
great-need = refl
