-- Worked files and refusals of the reader, by computation. Assumes nothing.
use mathlib.Core.Path.{◌≡◌, refl}
use mathlib.Core.List.{List, [], ◌∷◌, ◌++◌, map}
use Prim.Native.Nat.{ℕ}
use lib.ListN.{replicate}
use lib.Ieee.{Float, nan, of_bits}
use Rattle.patterns.specs.Patterns.{float_of}
use Rattle.face.specs.Triangles.{counts}
use Rattle.face.specs.Vec.{v3, f0}
use Rattle.answer.specs.declared.answer.Buffer.TheVariants.{Vertices, Normals, Uvs, Indices}
use Rattle.answer.specs.declared.answer.Refusal.TheVariants.{Limit, Room, File}
use Rattle.answer.specs.Answers.{Answer}
use Rattle.std.specs.Prelude.{Ok, Err}
use Rattle.answer.specs.Answers.{limited, roomed}
use Rattle.buffers.specs.Laying.{Buffers, four, laid}
use Rattle.stl.specs.File.{facet, filed_number}
use Rattle.stl_reading.specs.Reading.{unshared, read_tested, read_answer, read_back, unpacked}

-- 84 bytes with a count, and so many more
abbrev file : List ℕ → ℕ → List ℕ
file count more = replicate 80 0 ++ (count ++ replicate more 0)

abbrev none : Buffers
none = four [] [] [] []

-- no triangles: 84 bytes are a file, 83 and 85 are none
pub empty-file : read_answer (file (0 ∷ 0 ∷ 0 ∷ 0 ∷ []) 0) none ≡ Ok (counts 0 0)
empty-file = refl

pub wrong-lengths : map (λ f. read_answer f none) (replicate 83 0 ∷ replicate 85 0 ∷ file (2 ∷ 0 ∷ 0 ∷ 0 ∷ []) 50 ∷ file (255 ∷ 255 ∷ 255 ∷ 255 ∷ []) 50 ∷ [] ∷ []) ≡ Err File ∷ Err File ∷ Err File ∷ Err File ∷ Err File ∷ []
wrong-lengths = refl

-- one triangle: 9, 9, 6 and 3 numbers, in that order
abbrev answered : ℕ → ℕ → ℕ → ℕ → Answer
answered = read_tested (file (1 ∷ 0 ∷ 0 ∷ 0 ∷ []) 50)

pub rooms : (answered 8 0 0 0 ≡ Err (Room Vertices 9)) × (answered 9 8 0 0 ≡ Err (Room Normals 9)) × (answered 9 9 5 0 ≡ Err (Room Uvs 6)) × (answered 9 9 6 2 ≡ Err (Room Indices 3)) × (answered 9 9 6 3 ≡ Ok (counts 3 3))
rooms = (refl, refl, refl, refl, refl)

-- a triangle of zeros is read over what was there, and into a list that is one short nothing is
pub read-in : read_back (file (1 ∷ 0 ∷ 0 ∷ 0 ∷ []) 50) (four (replicate 9 nan) (replicate 9 nan) (replicate 6 nan) (replicate 3 9)) ≡ four (replicate 9 f0) (replicate 9 f0) (replicate 6 f0) (0 ∷ 1 ∷ 2 ∷ [])
unfolding laid
read-in = refl

pub not-read : read_back (file (1 ∷ 0 ∷ 0 ∷ 0 ∷ []) 50) (four (replicate 9 nan) (replicate 9 nan) (replicate 5 nan) (replicate 3 9)) ≡ four (replicate 9 nan) (replicate 9 nan) (replicate 5 nan) (replicate 3 9)
not-read = refl

-- 21,845 triangles have 65,535 vertices, and one more would have 65,538
pub most-triangles : (limited (unshared 21845) ≡ Ok (counts 65535 65535)) × (roomed (limited (unshared 21846)) 0 0 0 0 ≡ Err Limit)
most-triangles = (refl, refl)

-- every NaN's pattern is read as the one NaN; -0 stays
pub numbers : map (λ f. filed_number f 0) ((1 ∷ 0 ∷ 0x80 ∷ 0x7f ∷ []) ∷ (0xff ∷ 0xff ∷ 0xff ∷ 0xff ∷ []) ∷ (0 ∷ 0 ∷ 0 ∷ 0x80 ∷ []) ∷ []) ≡ nan ∷ nan ∷ float_of 0x8000_0000 ∷ []
unfolding of_bits
numbers = refl

-- a triangle over what was there: its corners, its normal three times, uvs of +0, and the places past them as they were
pub one-triangle : (x y z n : Float) → unpacked (λ k. facet (v3 n n n) (v3 x x x) (v3 y y y) (v3 z z z)) 1 (four (replicate 10 nan) (replicate 9 nan) (replicate 7 nan) (replicate 4 9)) ≡
    four
    (x ∷ x ∷ x ∷ y ∷ y ∷ y ∷ z ∷ z ∷ z ∷ nan ∷ [])
    (replicate 9 n)
    (replicate 6 f0 ++ (nan ∷ []))
    (0 ∷ 1 ∷ 2 ∷ 9 ∷ [])
unfolding laid
one-triangle x y z n = refl
