-- A triangle of a file as its twelve numbers, in the order of their bytes. Assumes nothing.
use mathlib.Core.Path.{◌≡◌, ap}
use mathlib.Core.List.{List, [], ◌++◌}
use Prim.Native.Nat.{ℕ, zero, suc, ◌+◌, ◌*◌}
use native.Mathlib.Nat.{add_assoc, add-zero}
use lib.Ieee.{Float, fits}
use Rattle.face.specs.Lists.{each}
use Rattle.buffers.specs.Laying.{Buffers, three}
use Rattle.mesh.specs.Stored.{point_from}
use Rattle.stl.specs.declared.Facet.{Facet}
use Rattle.stl.specs.File.{facet, file_length, filed_number, filed_point, filed_facet}
use Rattle.stl_writing.specs.Writing.{corner_of, facet_of}
use Rattle.stl_law.specs.Law.{AllFloats}

abbrev pub numbers_of : Facet → List Float
numbers_of f = three f.normal ++ (three f.first ++ (three f.second ++ three f.third))

abbrev of_numbers : List Float → Facet
of_numbers l = facet (point_from l 0) (point_from l 3) (point_from l 6) (point_from l 9)

-- they make it
pub same-facet : (f g : Facet) → numbers_of f ≡ numbers_of g → f ≡ g
same-facet f g e = ap of_numbers e

-- number j of the triangle whose bytes start at p starts at p + 4 j
from : (file : List ℕ) (p : ℕ)
    → numbers_of (facet (filed_point file p) (filed_point file (p + 12)) (filed_point file (p + 24)) (filed_point file (p + 36))) ≡ each (λ j. filed_number file (p + 4 * j)) 12
from file p = simp (add_assoc, add-zero)

pub filed-numbers : (file : List ℕ) (k : ℕ) → numbers_of (filed_facet file k) ≡ each (λ j. filed_number file (file_length k + 4 * j)) 12
filed-numbers file k = from file (file_length k)

-- ---- the numbers of a mesh's triangle are among its lists', so they are of 32 bits
none : AllFloats []
unfolding fits
none k = tt

one_more_lem : (l : List Float) (p : ℕ) (r : List Float) → AllFloats l → AllFloats r → AllFloats (three (point_from l p) ++ r)
one_more_lem l p r h g zero = h p
one_more_lem l p r h g (suc zero) = h (p + 1)
one_more_lem l p r h g (suc (suc zero)) = h (p + 2)
one_more_lem l p r h g (suc (suc (suc k))) = g k

pub facet-floats : (B : Buffers) → AllFloats B.vertices → AllFloats B.normals → (k : ℕ) → AllFloats (numbers_of (facet_of B k))
facet-floats B v n k =
    let at : ℕ → ℕ = λ j. 3 * corner_of B.indices k j in
    let corner : ℕ → List Float = λ j. three (point_from B.vertices (at j)) in
    one_more_lem B.normals (at 0) (corner 0 ++ (corner 1 ++ corner 2)) n
    (one_more_lem B.vertices (at 0) (corner 1 ++ corner 2) v
    (one_more_lem B.vertices (at 1) (corner 2) v
    (one_more_lem B.vertices (at 2) [] v none)))
