-- The mesh of a file, and when there is one; L2c and L2d are rows of docs/TRACE.md. Definitions only.
use Rattle.std.specs.Prelude.{ℕ, ◌*◌, ◌≤◌, Bool, ◌&&◌, List, ◌++◌, length, leb, eqb, Float}
use Rattle.face.specs.declared.vec.Vec3.{Vec3}
use Rattle.face.specs.declared.triangle.Counts.{Counts}
use Rattle.face.specs.Lists.{each, chain}
use Rattle.face.specs.Vec.{f0}
use Rattle.face.specs.Triangles.{counts}
use Rattle.answer.specs.declared.answer.Refusal.TheVariants.{File}
use Rattle.answer.specs.Answers.{Answer}
use Rattle.answer.specs.Answers.{given, limited, roomed, after}
use Rattle.buffers.specs.Laying.{Buffers, four, three, laid}
use Rattle.stl.specs.declared.Facet.{Facet}
use Rattle.stl.specs.File.{file_length, filed_count, filed_facet}

-- L2d: a file is as long as its count asks; in whole numbers, so nothing wraps
abbrev pub is_file : List ℕ → Bool
is_file file = leb 84 (length file) && eqb (length file) (file_length (filed_count file))

-- L2c: no two triangles share a vertex
abbrev pub unshared : ℕ → Counts
unshared t = counts (3 * t) (3 * t)

-- L2d: 11, 4, then 51 to 54, from the lengths of the buffers
abbrev pub read_tested : List ℕ → ℕ → ℕ → ℕ → ℕ → Answer
read_tested file v n u i = given (is_file file) File (roomed (limited (unshared (filed_count file))) v n u i)

abbrev pub read_answer : List ℕ → Buffers → Answer
read_answer file B = read_tested file (length B.vertices) (length B.normals) (length B.uvs) (length B.indices)

-- three points, as they lie in a buffer
abbrev pub nine : Vec3 → Vec3 → Vec3 → List Float
nine a b c = three a ++ (three b ++ three c)

abbrev pub corners_of : Facet → List Float
corners_of f = nine f.first f.second f.third

abbrev pub normals_of : Facet → List Float
normals_of f = nine f.normal f.normal f.normal

-- L2c: t triangles: corners in order, the normal for each of the three, uvs of +0, indices 0, 1, 2 and so on
abbrev pub unpacked : (ℕ → Facet) → ℕ → Buffers → Buffers
unpacked f t B =
    four
    (laid B.vertices 0 (chain (λ k. corners_of (f k)) t))
    (laid B.normals 0 (chain (λ k. normals_of (f k)) t))
    (laid B.uvs 0 (each (λ k. f0) (6 * t)))
    (laid B.indices 0 (each (λ k. k) (3 * t)))

-- L2c: the triangles of a file; all buffers as they were where it is refused
abbrev pub read_back : List ℕ → Buffers → Buffers
read_back file B = after (read_answer file B) B (unpacked (filed_facet file) (filed_count file) B)

-- what the parts of the code ask: a file of t triangles, whose corners can be numbered, and buffers that hold them
pub record HoldsFile (bytes : List ℕ) (t : ℕ) (B : Buffers) : Type 0 where
  pub file : file_length t ≤ length bytes
  pub limit : 3 * t ≤ 65536
  pub vertices : 9 * t ≤ length B.vertices
  pub normals : 9 * t ≤ length B.normals
  pub uvs : 6 * t ≤ length B.uvs
  pub indices : 3 * t ≤ length B.indices
