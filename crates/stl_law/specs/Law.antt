-- What is said of a file that was written and then read, and the other way round; L2e and L2f are rows of docs/TRACE.md.
-- Definitions only.
use Rattle.std.specs.Prelude.{◌≡◌, true, List, ℕ, ◌+◌, ◌*◌, ◌<◌, T, get_or, take, drop, Float}
use Rattle.std.specs.Float.{nan, binary32}
use Rattle.std.specs.Float.Ieee.{is_nan, fits}
use Rattle.face.specs.declared.triangle.Counts.{Counts}
use Rattle.std.specs.Prelude.{Ok}
use Rattle.buffers.specs.Laying.{Buffers}
use Rattle.stl.specs.File.{file_length, filed_pattern, filed_number, filed_count, filed_facet}
use Rattle.stl_writing.specs.Writing.{facet_of, triangles_of}
use Rattle.stl_reading.specs.Reading.{unshared, read_answer, unpacked, read_back}

-- each number is an f32, of any pattern; of a list that is lent this holds
abbrev pub AllFloats : List Float → Type 0
AllFloats xs = (k : ℕ) → T (fits binary32 (get_or xs k nan))

abbrev pub AllBytes : List ℕ → Type 0
AllBytes file = (k : ℕ) → get_or file k 0 < 256

-- the bytes of a mesh's file, at the start of a buffer that holds it
abbrev pub file_in : Counts → List ℕ → List ℕ
file_in c bytes = take (file_length (triangles_of c)) bytes

-- L2e: read into R, a file has a mesh's triangles in order, and so has the mesh that is read: corners and first vertex's normal
pub record ReadAs (c : Counts) (B : Buffers) (file : List ℕ) (R : Buffers) : Type 0 where
  pub answer : read_answer file R ≡ Ok (unshared (triangles_of c))
  pub triangles : (k : ℕ) → k < triangles_of c → filed_facet file k ≡ facet_of B k
  pub buffers : read_back file R ≡ unpacked (facet_of B) (triangles_of c) R
  pub mesh : (k : ℕ) → k < triangles_of c → facet_of (read_back file R) k ≡ facet_of B k

-- L2f: attribute bytes are zero, and every NaN has the pattern that is written
pub record Plain (file : List ℕ) : Type 0 where
  pub attributes : (k : ℕ) → k < filed_count file → (get_or file (file_length k + 48) 0 ≡ 0) × (get_or file (file_length k + 49) 0 ≡ 0)
  pub nans : (k j : ℕ) → k < filed_count file → j < 12 → is_nan (filed_number file (file_length k + 4 * j)) ≡ true → filed_pattern file (file_length k + 4 * j) ≡ 0x7fc0_0000

-- L2f: the same bytes from 80 on
abbrev pub SameFrom80 : List ℕ → List ℕ → Type 0
SameFrom80 a b = drop 80 a ≡ drop 80 b
