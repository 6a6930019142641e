-- Where each face of a list lies; R16 to X8 are rows of docs/TRACE.md. Definitions only.
use Rattle.std.specs.Prelude.{◌≡◌, ◌⊎◌, List, [], ℕ, suc, ◌+◌, ◌*◌, ◌<◌, ◌≤◌, length, get_or, Float}
use Rattle.face.specs.declared.triangle.Triangle.{Triangle}
use Rattle.face.specs.declared.triangle.Counts.{Counts}
use Rattle.face.specs.Triangles.{no_triangle}
use Rattle.buffers.specs.Mesh.{Mesh, start_of, joined}
use Rattle.buffers.specs.Laying.{Buffers, three, two, corners, spread}

-- what a list of faces has past its end
abbrev pub no_face : Mesh
no_face = record { vertices = []; triangles = [] }

abbrev pub face_at : List Mesh → ℕ → Mesh
face_at fs k = get_or fs k no_face

-- a number lies from a on and before b
abbrev pub Between : ℕ → ℕ → ℕ → Type 0
Between a b x = (a ≤ x) × (x < b)

-- a place of a buffer before a window from a to b, or after it
abbrev pub Beside : ℕ → ℕ → ℕ → Type 0
Beside a b p = (p < a) ⊎ (b ≤ p)

-- R17, X6: two sets of buffers that agree at every place outside the window from a to b
pub record AlikeOutside (a b : Counts) (B C : Buffers) : Type 0 where
  pub vertices : (p : ℕ) (d : Float) → Beside (3 * a.vertices.0) (3 * b.vertices.0) p → get_or C.vertices p d ≡ get_or B.vertices p d
  pub normals : (p : ℕ) (d : Float) → Beside (3 * a.vertices.0) (3 * b.vertices.0) p → get_or C.normals p d ≡ get_or B.normals p d
  pub uvs : (p : ℕ) (d : Float) → Beside (2 * a.vertices.0) (2 * b.vertices.0) p → get_or C.uvs p d ≡ get_or B.uvs p d
  pub indices : (p : ℕ) (d : ℕ) → Beside a.indices.0 b.indices.0 p → get_or C.indices p d ≡ get_or B.indices p d

-- R17: the window of a face laid at a place holds the face's numbers, as far as the buffers reach
pub record Holds (f : Mesh) (at : Counts) (B : Buffers) : Type 0 where
  pub vertices : (i : ℕ) (d : Float) → i < 3 * length f.vertices → 3 * at.vertices.0 + i < length B.vertices → get_or B.vertices (3 * at.vertices.0 + i) d ≡ get_or (spread (λ w. three w.position) f.vertices) i d
  pub normals : (i : ℕ) (d : Float) → i < 3 * length f.vertices → 3 * at.vertices.0 + i < length B.normals → get_or B.normals (3 * at.vertices.0 + i) d ≡ get_or (spread (λ w. three w.normal) f.vertices) i d
  pub uvs : (i : ℕ) (d : Float) → i < 2 * length f.vertices → 2 * at.vertices.0 + i < length B.uvs → get_or B.uvs (2 * at.vertices.0 + i) d ≡ get_or (spread (λ w. two w.uv) f.vertices) i d
  pub indices : (i : ℕ) (d : ℕ) → i < 3 * length f.triangles → at.indices.0 + i < length B.indices → get_or B.indices (at.indices.0 + i) d ≡ get_or (spread (corners at.vertices.0) f.triangles) i d

-- no buffer grows or shrinks
pub record SameLengths (B C : Buffers) : Type 0 where
  pub vertices : length C.vertices ≡ length B.vertices
  pub normals : length C.normals ≡ length B.normals
  pub uvs : length C.uvs ≡ length B.uvs
  pub indices : length C.indices ≡ length B.indices

-- R16: the face whose window, from where it starts to where the next one does, has a number
pub record Within (start : ℕ → ℕ) (n p : ℕ) : Type 0 where
  pub face : ℕ
  pub there : face < n
  pub lies : Between (start face) (start (suc face)) p

-- X8: a triangle's three vertices lie between two vertex numbers
abbrev pub Corners : ℕ → ℕ → Triangle → Type 0
Corners a b t = Between a b t.0.0 × Between a b t.1.0 × Between a b t.2.0

-- a face whose triangles name its own vertices
abbrev pub Own : Mesh → Type 0
Own f = (i : ℕ) → i < length f.triangles → Corners 0 (length f.vertices) (get_or f.triangles i no_triangle)

abbrev pub AllOwn : List Mesh → Type 0
AllOwn fs = (k : ℕ) → k < length fs → Own (face_at fs k)

-- the i-th triangle of the joined mesh, with the face that it is of
pub record OfFace (fs : List Mesh) (i : ℕ) : Type 0 where
  pub face : ℕ
  pub there : face < length fs
  pub mine : Between (start_of fs face).indices.0 (start_of fs (suc face)).indices.0 (3 * i)
  pub own : Corners (start_of fs face).vertices.0 (start_of fs (suc face)).vertices.0 (get_or (joined fs).triangles i no_triangle)

-- X8: three places of an index buffer, the i-th triangle's, with the face whose window has them: what they hold are vertices of it
pub record InFace (fs : List Mesh) (l : List ℕ) (i : ℕ) : Type 0 where
  pub face : ℕ
  pub there : face < length fs
  pub mine : (j : ℕ) → j < 3 → Between (start_of fs face).indices.0 (start_of fs (suc face)).indices.0 (3 * i + j)
  pub own : (j d : ℕ) → j < 3 → Between (start_of fs face).vertices.0 (start_of fs (suc face)).vertices.0 (get_or l (3 * i + j) d)
