-- A mesh, the sum of many, and many as one; S4 to X8 are rows of docs/TRACE.md. Definitions only.
use Rattle.std.specs.Prelude.{ℕ, zero, suc, ◌+◌, ◌*◌, List, [], ◌∷◌, ◌++◌, map, length, take}
use Rattle.face.specs.declared.vec.Vec2.{Vec2}
use Rattle.face.specs.declared.vec.Vec3.{Vec3}
use Rattle.face.specs.declared.triangle.Triangle.{Triangle}
use Rattle.face.specs.declared.triangle.Counts.{Counts}
use Rattle.face.specs.Triangles.{shifted, counts}

pub record Vertex : Type 0 where
  pub position : Vec3
  pub normal : Vec3
  pub uv : Vec2

-- a triangle names vertices of its own mesh, counted from 0; so does one of a face, which is a mesh by itself
pub record Mesh : Type 0 where
  pub vertices : List Vertex
  pub triangles : List Triangle

-- counts are a place too: after so many vertices and so many indices the next ones lie
abbrev pub none : Counts
none = counts 0 0

abbrev pub also : Counts → Counts → Counts
also a b = counts (a.vertices.0 + b.vertices.0) (a.indices.0 + b.indices.0)

abbrev pub size_of : Mesh → Counts
size_of m = counts (length m.vertices) (3 * length m.triangles)

-- R16: the counts of a list of faces are the sums over them
abbrev pub measure : List Mesh → Counts
measure [] = none
measure (f ∷ fs) = also (size_of f) (measure fs)

-- R16: where the k-th face starts, after those before it
abbrev pub start_of : List Mesh → ℕ → Counts
start_of fs k = measure (take k fs)

-- one mesh of a list of faces, after b vertices
abbrev pub triangles_from : ℕ → List Mesh → List Triangle
triangles_from b [] = []
triangles_from b (f ∷ fs) = map (shifted b) f.triangles ++ triangles_from (b + length f.vertices) fs

abbrev pub vertices_of : List Mesh → List Vertex
vertices_of [] = []
vertices_of (f ∷ fs) = f.vertices ++ vertices_of fs

abbrev pub joined : List Mesh → Mesh
joined fs = record { vertices = vertices_of fs; triangles = triangles_from 0 fs }

-- c 0 and c 1 and so on up to c (n - 1), counted together
abbrev pub summed : (ℕ → Counts) → ℕ → Counts
summed c zero = none
summed c (suc n) = also (summed c n) (c n)
