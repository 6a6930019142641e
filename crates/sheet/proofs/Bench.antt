-- The scope's whole case, read, answered and written, and the ends of each format, by computation; P1 to P9 are rows of docs/TRACE.md. Assumes nothing.
use mathlib.Core.Path.{◌≡◌, refl, sym, ap, ◌∙◌}
use mathlib.Core.List.{List, [], ◌∷◌, ◌++◌, map}
use Prim.Native.Nat.{ℕ}
use native.Mathlib.Omega.{arith}
use lib.ListN.{take, replicate}
use lib.Ieee.{Float, nan, binary32, of_bits, to_bits, is_nan, add, sub, mul, div, lt, le, neg, of_int}
use Rattle.arith.specs.Fused.{fma}
use Rattle.arith.specs.Root.{root}
use Rattle.face.specs.Triangles.{counts}
use Rattle.buffers.specs.Laying.{four}
use Rattle.buffers.specs.Faces.{quad_mesh, hexagon_mesh}
use Rattle.column.specs.Column.{column_names, mesh_of}
use Rattle.std.specs.Prelude.{false, Some, None}
use Rattle.sheet.specs.declared.reading.Sheet.{Sheet}
use Rattle.patterns.specs.Digits.{digit_value}
use Rattle.sheet.specs.Digits.{bytes, hex_digits, decimal, digits, digit_count, divisions}
use Rattle.sheet.specs.Sheets.{numbers_text, sheet_text, Lawful}
use Rattle.sheet.specs.Readers.{mark_of, word_of, digit_at, hex_from, decimal_from, decimal_of, count_of, section_of, numbers_from, numbers_of, block_of, head_of, sheet_of, reading}
use Rattle.patterns.specs.Patterns.{bits_of}
use Rattle.sheet.specs.Meshes.{float_lines, index_lines, mesh_text, refusal_text}
use Rattle.sheet.specs.Answering.{column_of, lists_of, column_text, reading_text, answer_text}
use Rattle.sheet.proofs.Exact.{complete}

-- ---- P1: the sheet of height 2, with one side and no caps
abbrev pub wall : Sheet
wall =
    record {
      height = 0x4000_0000;
      subdivisions = 1;
      sides = 1;
      pairs = 0x3f80_0000 ∷ 0x3f80_0000 ∷ 0x3f80_0000 ∷ 0xbf80_0000 ∷ replicate 20 0;
      caps = false;
      corners = replicate 12 0;
    }

abbrev pub wall_text : List ℕ
wall_text = bytes "column 1\n40000000 1\nsides 1\n3f800000 3f800000 3f800000 bf800000\ncaps 0\n"

pub wall-text : sheet_text wall ≡ wall_text
unfolding digits digit_count divisions numbers_text
wall-text = refl

pub wall-lawful : Lawful wall
wall-lawful =
    record {
      height = omega arith;
      subdivisions = omega arith;
      sides = omega arith;
      pairs = record { long = refl; small = (omega arith, (omega arith, (omega arith, (omega arith, tt)))); unused = refl };
      corners = record { long = refl; small = tt; unused = refl };
    }

pub wall-read : reading wall_text ≡ Some wall
wall-read = ap reading (sym wall-text) ∙ complete wall wall-lawful

-- the last newline missing, a byte after it, a leading zero in a count, a carriage return
pub near-misses :
    map reading
    (take 70 wall_text
    ∷ (wall_text ++ (10 ∷ []))
    ∷ bytes "column 01\n40000000 1\nsides 0\ncaps 0\n"
    ∷ bytes "column 1\r\n40000000 1\nsides 0\ncaps 0\n"
    ∷ [])
    ≡ None ∷ None ∷ None ∷ None ∷ []
unfolding digit_value mark_of word_of digit_at hex_from decimal_from decimal_of count_of section_of numbers_from numbers_of block_of head_of sheet_of reading
near-misses = refl

-- ---- P9: its mesh
abbrev floats : List ℕ → List Float
floats = map (of_bits binary32)

abbrev vertices : List Float
vertices = floats (0x3f80_0000 ∷ 0 ∷ 0xbf80_0000 ∷ 0x3f80_0000 ∷ 0x4000_0000 ∷ 0xbf80_0000 ∷ 0x3f80_0000 ∷ 0x4000_0000 ∷ 0x3f80_0000 ∷ 0x3f80_0000 ∷ 0 ∷ 0x3f80_0000 ∷ [])

abbrev normals : List Float
normals = floats (0x3f80_0000 ∷ 0 ∷ 0 ∷ 0x3f80_0000 ∷ 0 ∷ 0 ∷ 0x3f80_0000 ∷ 0 ∷ 0 ∷ 0x3f80_0000 ∷ 0 ∷ 0 ∷ [])

abbrev uvs : List Float
uvs = floats (0x3f80_0000 ∷ 0 ∷ 0x3f80_0000 ∷ 0x3f80_0000 ∷ 0 ∷ 0x3f80_0000 ∷ 0 ∷ 0 ∷ [])

abbrev pub wall_mesh : List ℕ
wall_mesh =
    bytes "vertices 4\n3f800000 00000000 bf800000\n3f800000 40000000 bf800000\n3f800000 40000000 3f800000\n3f800000 00000000 3f800000\n"
    ++ (bytes "normals 4\n3f800000 00000000 00000000\n3f800000 00000000 00000000\n3f800000 00000000 00000000\n3f800000 00000000 00000000\n"
    ++ (bytes "uvs 4\n3f800000 00000000\n3f800000 3f800000\n00000000 3f800000\n00000000 00000000\n"
    ++ bytes "indices 6\n2 1 0\n0 3 2\n"))

pub mesh-case : mesh_text (four vertices normals uvs (2 ∷ 1 ∷ 0 ∷ 0 ∷ 3 ∷ 2 ∷ [])) (counts 4 6) ≡ wall_mesh
unfolding mesh_text float_lines index_lines digits digit_count divisions to_bits of_bits is_nan
mesh-case = refl

pub no-faces : mesh_text (four [] [] [] []) (counts 0 0) ≡ bytes "vertices 0\nnormals 0\nuvs 0\nindices 0\n"
unfolding mesh_text float_lines index_lines digits digit_count divisions
no-faces = refl

-- P8
pub refusals : map refusal_text (1 ∷ 9 ∷ 51 ∷ []) ≡ bytes "refused 1\n" ∷ bytes "refused 9\n" ∷ bytes "refused 51\n" ∷ []
unfolding refusal_text digits digit_count divisions
refusals = refl

-- P2
pub decimals : map decimal (0 ∷ 9 ∷ 10 ∷ 99 ∷ 100 ∷ 65535 ∷ 262144 ∷ 4294967295 ∷ []) ≡ map bytes ("0" ∷ "9" ∷ "10" ∷ "99" ∷ "100" ∷ "65535" ∷ "262144" ∷ "4294967295" ∷ [])
unfolding digits digit_count divisions
decimals = refl

pub patterns : map hex_digits (0 ∷ 0x89ab_cdef ∷ 0xffff_ffff ∷ bits_of nan ∷ []) ≡ map bytes ("00000000" ∷ "89abcdef" ∷ "ffffffff" ∷ "7fc00000" ∷ [])
unfolding digits is_nan
patterns = refl

-- ---- P9: from its bytes to its bytes
wall-mesh : column_text (column_of wall) (lists_of wall) ≡ wall_mesh
unfolding column_text column_names mesh_of quad_mesh hexagon_mesh mesh_text float_lines index_lines digits divisions digit_count refusal_text root fma add sub mul div lt le neg of_int of_bits to_bits is_nan
wall-mesh = refl

pub whole-case : answer_text wall_text ≡ wall_mesh
unfolding answer_text
whole-case = ap reading_text wall-read ∙ wall-mesh
