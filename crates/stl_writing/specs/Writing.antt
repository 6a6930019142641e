-- The file of a mesh, and when there is one; L2a and L2b are rows of docs/TRACE.md. Definitions only.
use Rattle.std.specs.Prelude.{ℕ, ◌+◌, ◌*◌, ◌/◌, ◌%◌, ◌≤◌, ◌<◌, ◌≡◌, Bool, ◌&&◌, List, length, take, get_or, leb, eqb, Float, Result, Ok, Err}
use Rattle.face.specs.declared.triangle.Counts.{Counts}
use Rattle.answer.specs.declared.answer.Refusal.{Refusal}
use Rattle.answer.specs.declared.answer.Refusal.TheVariants.{Shape, Limit, Index, Triangles, Bytes}
use Rattle.answer.specs.Answers.{Answer, Roomy, given, after}
use Rattle.answer.specs.Checks.{every, below}
use Rattle.buffers.specs.Laying.{Buffers, laid}
use Rattle.buffers.specs.Lent.{Shown}
use Rattle.mesh.specs.Stored.{holds_counts, point_from}
use Rattle.stl.specs.declared.Facet.{Facet}
use Rattle.stl.specs.File.{facet, file_length, file_bytes}
use Rattle.stl_writing.specs.declared.Filed.{Filed}

-- the vertex that the k-th triangle names at a corner
abbrev pub corner_of : List ℕ → ℕ → ℕ → ℕ
corner_of is k j = get_or is (3 * k + j) 0

-- L2a: the k-th triangle: the normal of its first vertex, the positions of its three
abbrev pub facet_from : List Float → List Float → List ℕ → ℕ → Facet
facet_from vs ns is k =
    facet
    (point_from ns (3 * corner_of is k 0))
    (point_from vs (3 * corner_of is k 0))
    (point_from vs (3 * corner_of is k 1))
    (point_from vs (3 * corner_of is k 2))

-- of lists that are lent, when the call is entered
abbrev pub facet_in : Shown Float → Shown Float → Shown ℕ → ℕ → Facet
facet_in v n i = facet_from v.entry.now n.entry.now i.entry.now

abbrev pub facet_of : Buffers → ℕ → Facet
facet_of B = facet_from B.vertices B.normals B.indices

abbrev pub triangles_of : Counts → ℕ
triangles_of c = c.indices.0 / 3

-- L2b: so many indices are whole triangles, and 32 bits count them
abbrev pub whole_triangles : ℕ → Bool
whole_triangles i = eqb (i % 3) 0 && leb (i / 3) 4294967295

-- L2b: 10 and 55, the last two tests
abbrev pub length_tested : Counts → ℕ → Answer
length_tested c l =
    given (whole_triangles c.indices.0) Triangles
    (given (leb (file_length (triangles_of c)) l) (Bytes (file_length (triangles_of c))) (Ok c))

-- L2b: 1, 4, 7, 10, 55, from the lengths of the lists, the indices and the length of the byte buffer
abbrev pub write_tested : Counts → ℕ → ℕ → ℕ → List ℕ → ℕ → Answer
write_tested c v n t is l =
    given (holds_counts c v n t (length is)) Shape
    (given (leb c.vertices.0 65536) Limit
    (given (every (below c.vertices.0) (take c.indices.0 is)) Index
    (length_tested c l)))

abbrev pub write_answer : Counts → Buffers → ℕ → Answer
write_answer c B l = write_tested c (length B.vertices) (length B.normals) (length B.uvs) B.indices l

-- L2b: the mesh's counts and the length of its file
abbrev pub filed_by : Answer → ℕ → Result Filed Refusal
filed_by (Ok c) n = Ok (record { counts = c; bytes = n })
filed_by (Err e) n = Err e

abbrev pub file_answer : Counts → Buffers → ℕ → Result Filed Refusal
file_answer c B l = filed_by (write_answer c B l) (file_length (triangles_of c))

-- L2a: the file at the start of the byte buffer; bytes past it, and all of them where refused, as they were
abbrev pub written : Counts → Buffers → List ℕ → List ℕ
written c B old = after (write_answer c B (length old)) old (laid old 0 (file_bytes (facet_of B) (triangles_of c)))

-- L2b: what passes all five
pub record Writes (c : Counts) (v n t : ℕ) (is : List ℕ) (l : ℕ) : Type 0 where
  pub room : Roomy c v n t (length is)
  pub limit : c.vertices.0 ≤ 65536
  pub own : (p : ℕ) → p < c.indices.0 → get_or is p 0 < c.vertices.0
  pub whole : c.indices.0 % 3 ≡ 0
  pub few : triangles_of c ≤ 4294967295
  pub fits : file_length (triangles_of c) ≤ l

-- what the parts of the code ask: the lists hold every vertex that the first t triangles name
pub record HoldsNamed (vs ns : List Float) (is : List ℕ) (t : ℕ) : Type 0 where
  pub indices : 3 * t ≤ length is
  pub vertices : (p : ℕ) → p < 3 * t → 3 * get_or is p 0 + 3 ≤ length vs
  pub normals : (p : ℕ) → p < 3 * t → 3 * get_or is p 0 + 3 ≤ length ns
