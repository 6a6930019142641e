-- Worked facts, by computation: each refusal of a stored mesh before those that come after it; the windows of two faces.
-- Assumes nothing.
use Rattle.std.proofs.Common.{◌≡◌, ℕ, true, false, List, [], ◌∷◌, refl}
use lib.Ieee.{nan}
use Rattle.face.specs.Lists.{each}
use Rattle.face.specs.Vec.{zero2, zero3}
use Rattle.face.specs.Triangles.{counts, no_triangle}
use Rattle.answer.specs.declared.answer.Refusal.TheVariants.{Shape, Range, Limit, NoFace, Empty}
use Rattle.std.specs.Prelude.{Ok, Err}
use Rattle.answer.specs.Answers.{limited, named}
use Rattle.buffers.specs.Mesh.{Mesh, none}
use Rattle.buffers.specs.Laying.{four}
use Rattle.mesh.specs.Jobs.{faces_of, window_by, window_of}
use Rattle.mesh.specs.Stored.{stored_answer, centroid_of}

-- ---- R14: 1 before 2, 2 before 4, 4, 8
pub shape-before-range : stored_answer (counts 65537 0) false 0 0 0 0 ≡ Err Shape
shape-before-range = refl

pub range-before-limit : stored_answer (counts 65537 0) false 196611 196611 131074 0 ≡ Err Range
range-before-limit = refl

pub past-the-limit : stored_answer (counts 65537 0) true 196611 196611 131074 0 ≡ Err Limit
past-the-limit = refl

pub at-the-limit : stored_answer (counts 65536 5) true 196608 196608 131072 9 ≡ Ok (counts 65536 5)
at-the-limit = refl

-- R8: no vertices have no middle
pub no_middle : centroid_of (counts 0 0) (four (nan ∷ []) [] [] []) ≡ Err Empty
no_middle = refl

-- ---- a face of four vertices and two triangles, then one of six and four: end to end, then 6
abbrev face_with : ℕ → ℕ → Mesh
face_with v t = record { vertices = each (λ k. record { position = zero3; normal = zero3; uv = zero2 }) v; triangles = each (λ k. no_triangle) t }

abbrev two : List Mesh
two = face_with 4 2 ∷ face_with 6 4 ∷ []

pub two-windows :
    (faces_of (λ a. a) two ≡ Ok (record { counts = (counts 10 18); faces = 2 }))
    × (window_of (λ a. a) two 0 ≡ Ok (record { counts = (counts 10 18); start = counts 0 0; size = counts 4 6 }))
    × (window_of (λ a. a) two 1 ≡ Ok (record { counts = (counts 10 18); start = counts 4 6; size = counts 6 12 }))
    × (window_of (λ a. a) two 2 ≡ Err NoFace)
two-windows = (refl, refl, refl, refl)

-- the plan's refusals come before 6, and no face is counted beside one
pub plan-before-face :
    (faces_of (λ a. Err Range) two ≡ Err Range)
    × (window_of (λ a. Err Range) two 2 ≡ Err Range)
    × (window_by (named (limited (counts 65537 0)) 2 2) (counts 10 18) (counts 4 6) ≡ Err Limit)
plan-before-face = (refl, refl, refl)
