-- Worked files and refusals of the writer, by computation. Assumes nothing.
use mathlib.Core.Path.{◌≡◌, refl}
use mathlib.Core.Bool.{true, false}
use mathlib.Core.List.{[], ◌∷◌, ◌++◌, map}
use Prim.Native.Nat.{ℕ, ◌*◌}
use lib.ListN.{take, drop, replicate}
use lib.Ieee.{nan, is_nan, of_bits, to_bits}
use Rattle.patterns.specs.Patterns.{float_of}
use Rattle.face.specs.Triangles.{counts}
use Rattle.answer.specs.declared.answer.Refusal.TheVariants.{Shape, Limit, Index, Triangles, Bytes}
use Rattle.std.specs.Prelude.{Ok, Err}
use Rattle.buffers.specs.Laying.{Buffers, four, laid}
use Rattle.stl.specs.File.{number_bytes, file_bytes}
use Rattle.stl_writing.specs.Writing.{facet_of, whole_triangles, write_tested, write_answer, file_answer, written}

abbrev one : ℕ
one = 0x3f80_0000

abbrev two : ℕ
two = 0x4000_0000

abbrev minus_one : ℕ
minus_one = 0xbf80_0000

-- the column of the sheet's whole case
abbrev sheet : Buffers
sheet =
    four
    (map float_of (one ∷ 0 ∷ minus_one ∷ one ∷ two ∷ minus_one ∷ one ∷ two ∷ one ∷ one ∷ 0 ∷ one ∷ []))
    (map float_of (one ∷ 0 ∷ 0 ∷ one ∷ 0 ∷ 0 ∷ one ∷ 0 ∷ 0 ∷ one ∷ 0 ∷ 0 ∷ []))
    (map float_of (one ∷ 0 ∷ one ∷ one ∷ 0 ∷ one ∷ 0 ∷ 0 ∷ []))
    (2 ∷ 1 ∷ 0 ∷ 0 ∷ 3 ∷ 2 ∷ [])

-- its file from byte 80 on: the count, and the two triangles with their zeros
pub sheet-file : drop 80 (file_bytes (facet_of sheet) 2) ≡
    2 ∷ 0 ∷ 0 ∷ 0
    ∷ 0 ∷ 0 ∷ 0x80 ∷ 0x3f ∷ 0 ∷ 0 ∷ 0 ∷ 0 ∷ 0 ∷ 0 ∷ 0 ∷ 0
    ∷ 0 ∷ 0 ∷ 0x80 ∷ 0x3f ∷ 0 ∷ 0 ∷ 0 ∷ 0x40 ∷ 0 ∷ 0 ∷ 0x80 ∷ 0x3f
    ∷ 0 ∷ 0 ∷ 0x80 ∷ 0x3f ∷ 0 ∷ 0 ∷ 0 ∷ 0x40 ∷ 0 ∷ 0 ∷ 0x80 ∷ 0xbf
    ∷ 0 ∷ 0 ∷ 0x80 ∷ 0x3f ∷ 0 ∷ 0 ∷ 0 ∷ 0 ∷ 0 ∷ 0 ∷ 0x80 ∷ 0xbf ∷ 0 ∷ 0
    ∷ 0 ∷ 0 ∷ 0x80 ∷ 0x3f ∷ 0 ∷ 0 ∷ 0 ∷ 0 ∷ 0 ∷ 0 ∷ 0 ∷ 0
    ∷ 0 ∷ 0 ∷ 0x80 ∷ 0x3f ∷ 0 ∷ 0 ∷ 0 ∷ 0 ∷ 0 ∷ 0 ∷ 0x80 ∷ 0xbf
    ∷ 0 ∷ 0 ∷ 0x80 ∷ 0x3f ∷ 0 ∷ 0 ∷ 0 ∷ 0 ∷ 0 ∷ 0 ∷ 0x80 ∷ 0x3f
    ∷ 0 ∷ 0 ∷ 0x80 ∷ 0x3f ∷ 0 ∷ 0 ∷ 0 ∷ 0x40 ∷ 0 ∷ 0 ∷ 0x80 ∷ 0x3f ∷ 0 ∷ 0 ∷ []
unfolding of_bits to_bits is_nan
sheet-file = refl

pub sheet-head : take 80 (file_bytes (facet_of sheet) 2) ≡ replicate 80 0
sheet-head = refl

-- 184 bytes are enough for it, and 183 are not
pub sheet-answers : map (write_answer (counts 4 6) sheet) (184 ∷ 185 ∷ 183 ∷ 0 ∷ []) ≡ Ok (counts 4 6) ∷ Ok (counts 4 6) ∷ Err (Bytes 184) ∷ Err (Bytes 184) ∷ []
sheet-answers = refl

-- what is told of it: its length beside the counts; and bytes that are too few stay as they were
pub sheet-told : map (file_answer (counts 4 6) sheet) (184 ∷ 183 ∷ []) ≡ Ok (record { counts = counts 4 6; bytes = 184 }) ∷ Err (Bytes 184) ∷ []
sheet-told = refl

pub sheet-kept : written (counts 4 6) sheet (replicate 183 9) ≡ replicate 183 9
sheet-kept = refl

-- bytes past the file stay
pub empty-written : written (counts 0 0) (four [] [] [] []) (replicate 86 9) ≡ replicate 84 0 ++ (9 ∷ 9 ∷ [])
unfolding laid
empty-written = refl

-- no triangles: the head alone
pub empty-file : (B : Buffers) → file_bytes (facet_of B) 0 ≡ replicate 84 0
empty-file B = refl

-- the pattern of every NaN, -0, an infinity, the least number above 0
pub number-bytes : map number_bytes (nan ∷ map float_of (0xffff_ffff ∷ 0x8000_0000 ∷ 0xff80_0000 ∷ 1 ∷ [])) ≡ (0 ∷ 0 ∷ 0xc0 ∷ 0x7f ∷ []) ∷ (0 ∷ 0 ∷ 0xc0 ∷ 0x7f ∷ []) ∷ (0 ∷ 0 ∷ 0 ∷ 0x80 ∷ []) ∷ (0 ∷ 0 ∷ 0x80 ∷ 0xff ∷ []) ∷ (1 ∷ 0 ∷ 0 ∷ 0 ∷ []) ∷ []
unfolding of_bits to_bits is_nan
number-bytes = refl

-- ---- each refusal with all later faults present
-- a list of uvs that is short, though no uv is written
pub shape-first : write_tested (counts 65537 2) 196611 196611 131073 (0 ∷ 65535 ∷ []) 0 ≡ Err Shape
shape-first = refl

-- no index of 16 bits is past so many vertices, but a definition may be asked
pub limit-second : write_tested (counts 65537 2) 196611 196611 131074 (0 ∷ 65537 ∷ []) 0 ≡ Err Limit
limit-second = refl

pub index-third : write_tested (counts 1 2) 3 3 2 (0 ∷ 1 ∷ []) 0 ≡ Err Index
index-third = refl

pub triangles-fourth : write_tested (counts 2 2) 6 6 4 (0 ∷ 1 ∷ []) 0 ≡ Err Triangles
triangles-fourth = refl

-- the greatest count of 32 bits, one more, and an index left over
pub whole-triangles : map whole_triangles (3 * 4294967295 ∷ 3 * 4294967296 ∷ 1 ∷ 2 ∷ 0 ∷ []) ≡ true ∷ false ∷ false ∷ false ∷ true ∷ []
whole-triangles = refl
