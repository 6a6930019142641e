-- A mesh and a refusal as the bytes that are printed of them; P2 to P9 are rows of docs/TRACE.md. Definitions only.
use Rattle.std.specs.Prelude.{◌≡◌, ℕ, ◌+◌, ◌*◌, ◌%◌, Bool, ◌&&◌, cond, List, [], ◌∷◌, ◌++◌, length, get_or, drop, leb, eqb, Float}
use Rattle.std.specs.Float.{nan}
use Rattle.patterns.specs.Patterns.{bits_of}
use Rattle.face.specs.declared.triangle.Counts.{Counts}
use Rattle.face.specs.Lists.{chain}
use Rattle.buffers.specs.Laying.{Buffers}
use Rattle.sheet.specs.Digits.{bytes, hex_digits, decimal, digit_count, gap, heading}

abbrev pub vertices_word : List ℕ
vertices_word = bytes "vertices "

abbrev pub normals_word : List ℕ
normals_word = bytes "normals "

abbrev pub uvs_word : List ℕ
uvs_word = bytes "uvs "

abbrev pub indices_word : List ℕ
indices_word = bytes "indices "

abbrev pub refused_word : List ℕ
refused_word = bytes "refused "

-- number k of a list as its word, with what follows it; d stands past the list's end
abbrev pub word_at : {A : Type 0} → (A → List ℕ) → A → List A → ℕ → ℕ → List ℕ
word_at word d xs width k = word (get_or xs k d) ++ (gap width k ∷ [])

-- the first n numbers of a list, so many to a line
abbrev pub lines : {A : Type 0} → (A → List ℕ) → A → List A → ℕ → ℕ → List ℕ
lines word d xs width n = chain (word_at word d xs width) n

-- P2: a float as its pattern
abbrev pub float_text : Float → List ℕ
float_text x = hex_digits (bits_of x)

abbrev pub float_word : List Float → ℕ → ℕ → List ℕ
float_word = word_at float_text nan

abbrev pub index_word : List ℕ → ℕ → List ℕ
index_word is k = word_at decimal 0 is 3 k

unfoldable pub float_lines : List Float → ℕ → ℕ → List ℕ
float_lines xs width n = lines float_text nan xs width n

unfoldable pub index_lines : List ℕ → ℕ → List ℕ
index_lines is n = lines decimal 0 is 3 n

-- a part with its count: a line for each of v vertices
abbrev pub floats_text : List ℕ → List Float → ℕ → ℕ → List ℕ
floats_text word xs width v = heading word v ++ float_lines xs width (width * v)

abbrev pub indices_text : List ℕ → ℕ → List ℕ
indices_text is n = heading indices_word n ++ index_lines is n

-- P9: four parts
unfoldable pub mesh_text : Buffers → Counts → List ℕ
mesh_text B c =
    floats_text vertices_word B.vertices 3 c.vertices.0
    ++ (floats_text normals_word B.normals 3 c.vertices.0
    ++ (floats_text uvs_word B.uvs 2 c.vertices.0
    ++ indices_text B.indices c.indices.0))

-- how long that is: eight numbers of nine bytes a vertex, the headings with 33 bytes beside their numbers, and the indices
abbrev pub text_length : ℕ → ℕ → List ℕ → ℕ
text_length v i is = 72 * v + ((33 + 3 * digit_count v + digit_count i) + length (index_lines is i))

-- P8
unfoldable pub refusal_text : ℕ → List ℕ
refusal_text n = heading refused_word n

-- lists of these lengths reach as far as the counts say, and every triangle is whole
unfoldable pub is_whole : ℕ → ℕ → ℕ → ℕ → ℕ → ℕ → Bool
is_whole v i vs ns ts is = leb (3 * v) vs && (leb (3 * v) ns && (leb (2 * v) ts && (leb i is && eqb (i % 3) 0)))

abbrev pub whole_in : Buffers → Counts → Bool
whole_in B c = is_whole c.vertices.0 c.indices.0 (length B.vertices) (length B.normals) (length B.uvs) (length B.indices)

-- a text at the start of a buffer, with its length as the answer; or nothing written, and 0
pub record Written (ok : Bool) (text old new : List ℕ) (r : ℕ) : Type 0 where
  pub buffer : new ≡ cond ok (text ++ drop (length text) old) old
  pub count : r ≡ cond ok (length text) 0

-- a text is written where there is room for it
abbrev pub TextWritten : List ℕ → List ℕ → List ℕ → ℕ → Type 0
TextWritten text old = Written (leb (length text) (length old)) text old

-- a mesh, where it is whole besides
abbrev pub MeshWritten : Buffers → Counts → List ℕ → List ℕ → ℕ → Type 0
MeshWritten B c old = Written (whole_in B c && leb (length (mesh_text B c)) (length old)) (mesh_text B c) old
