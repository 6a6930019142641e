-- Four lent buffers, and what it is to lay a mesh into them; S4 to R17 are rows of docs/TRACE.md. Definitions only.
use Rattle.std.specs.Prelude.{ℕ, zero, suc, ◌*◌, Bool, ◌&&◌, cond, List, [], ◌∷◌, ◌++◌, length, set, get_or, leb, Float}
use Rattle.face.specs.declared.vec.Vec2.{Vec2}
use Rattle.face.specs.declared.vec.Vec3.{Vec3}
use Rattle.face.specs.declared.triangle.Triangle.{Triangle}
use Rattle.face.specs.declared.triangle.Counts.{Counts}
use Rattle.face.specs.Lists.{chain}
use Rattle.face.specs.Triangles.{no_triangle, shifted}
use Rattle.buffers.specs.Mesh.{Mesh, size_of, also}

-- S4
pub record Buffers : Type 0 where
  pub vertices : List Float
  pub normals : List Float
  pub uvs : List Float
  pub indices : List ℕ

abbrev pub four : List Float → List Float → List Float → List ℕ → Buffers
four v n t i = record { vertices = v; normals = n; uvs = t; indices = i }

-- the numbers of one thing, as they lie in a buffer
abbrev pub three : Vec3 → List Float
three p = p.x ∷ p.y ∷ p.z ∷ []

abbrev pub two : Vec2 → List Float
two p = p.x ∷ p.y ∷ []

abbrev pub numbers_of : Triangle → List ℕ
numbers_of t = t.0.0 ∷ t.1.0 ∷ t.2.0 ∷ []

-- a triangle whose mesh lies after b vertices
abbrev pub corners : ℕ → Triangle → List ℕ
corners b t = numbers_of (shifted b t)

-- the first m triangles of such a mesh
abbrev pub first_corners : ℕ → List Triangle → ℕ → List ℕ
first_corners b ts m = chain (λ k. corners b (get_or ts k no_triangle)) m

-- the numbers of many, end to end
abbrev pub spread : {A B : Type 0} → (A → List B) → List A → List B
spread f [] = []
spread f (x ∷ xs) = f x ++ spread f xs

-- a buffer with xs written from a place on; what would lie past its end is lost, and its length stays
unfoldable pub laid : {A : Type 0} → List A → ℕ → List A → List A
laid l at [] = l
laid l at (x ∷ xs) = laid (set l at x) (suc at) xs

-- a mesh laid at a place: after so many vertices and so many indices
unfoldable pub lay : Mesh → Counts → Buffers → Buffers
lay m at B =
    four
    (laid B.vertices (3 * at.vertices.0) (spread (λ w. three w.position) m.vertices))
    (laid B.normals (3 * at.vertices.0) (spread (λ w. three w.normal) m.vertices))
    (laid B.uvs (2 * at.vertices.0) (spread (λ w. two w.uv) m.vertices))
    (laid B.indices at.indices.0 (spread (corners at.vertices.0) m.triangles))

-- R16: faces laid end to end from a place on
unfoldable pub lay_all : List Mesh → Counts → Buffers → Buffers
lay_all [] at B = B
lay_all (f ∷ fs) at B = lay_all fs (also at (size_of f)) (lay f at B)

-- R17: the k-th of them alone, where it lies among them; nothing where there is no k-th
unfoldable pub lay_one : List Mesh → ℕ → Counts → Buffers → Buffers
lay_one [] k at B = B
lay_one (f ∷ fs) zero at B = lay f at B
lay_one (f ∷ fs) (suc k) at B = lay_one fs k (also at (size_of f)) B

-- N4, S4: the vertices up to a place can be numbered, and buffers of these lengths reach to it
abbrev pub reaches_floats : ℕ → ℕ → ℕ → ℕ → Bool
reaches_floats m v n t = leb (3 * m) v && (leb (3 * m) n && leb (2 * m) t)

unfoldable pub reaches : Counts → ℕ → ℕ → ℕ → ℕ → Bool
reaches c v n t i = leb c.vertices.0 65536 && (leb c.indices.0 i && reaches_floats c.vertices.0 v n t)

abbrev pub fits : Counts → Counts → Buffers → Bool
fits at size B = reaches (also at size) (length B.vertices) (length B.normals) (length B.uvs) (length B.indices)

-- a mesh laid where it fits, and nothing written where it does not
abbrev pub laid_if_fits : Mesh → Counts → Buffers → Buffers
laid_if_fits m at B = cond (fits at (size_of m) B) (lay m at B) B

-- faces end to end from a place on, each where it fits
unfoldable pub lay_each : List Mesh → Counts → Buffers → Buffers
lay_each [] at B = B
lay_each (f ∷ fs) at B = lay_each fs (also at (size_of f)) (laid_if_fits f at B)
