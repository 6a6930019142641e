-- The cheap column, a job of one face; M1 to R18 are rows of docs/TRACE.md. Definitions only.
use Rattle.std.specs.Prelude.{ℕ, ◌≤◌, Bool, ◌&&◌, List, [], ◌∷◌, ◌++◌, map, length, Float, Result}
use Rattle.face.specs.declared.vec.Vec2.{Vec2}
use Rattle.face.specs.declared.vec.Vec3.{Vec3}
use Rattle.face.specs.declared.triangle.Triangle.{Triangle}
use Rattle.face.specs.Lists.{each}
use Rattle.face.specs.Vec.{f0, minus3, upright}
use Rattle.face.specs.Texture.{wrapped}
use Rattle.face.specs.Triangles.{tri}
use Rattle.answer.specs.declared.answer.Refusal.{Refusal}
use Rattle.answer.specs.declared.answer.Refusal.TheVariants.{Shape, Range}
use Rattle.answer.specs.Answers.{Answer, given}
use Rattle.answer.specs.Checks.{in_range, in_range2, all_in_range, exactly}
use Rattle.buffers.specs.Mesh.{Vertex, Mesh}
use Rattle.buffers.specs.Laying.{Buffers}
use Rattle.cheap_column.specs.declared.CheapColumn.{CheapColumn}
use Rattle.mesh.specs.declared.windows.Faces.{Faces}
use Rattle.mesh.specs.declared.windows.Window.{Window}
use Rattle.mesh.specs.Jobs.{planned_of, whole_of, one_of, built_of, faced_of, faces_of, window_of}
use Rattle.mesh.specs.Stored.{corner_from}

-- M3: from the middle of the top to a corner of it
abbrev pub outward : CheapColumn → Vec2 → Vec3
outward job p = minus3 (upright p job.height) (upright job.centre job.height)

-- M2, M3: a vertex over or under a corner; both have the corner's uv and the top's normal
abbrev pub vertex_over : CheapColumn → Float → Vec2 → Vertex
vertex_over job y p = record { position = upright p y; normal = outward job p; uv = wrapped p }

-- M1: the top, then two triangles a side
abbrev pub cheap_triangles : List Triangle
cheap_triangles =
    tri 0 2 1 ∷ tri 3 5 4 ∷ tri 0 5 3 ∷ tri 3 2 0
    ∷ tri 0 1 7 ∷ tri 7 6 0 ∷ tri 1 2 8 ∷ tri 8 7 1 ∷ tri 2 3 9 ∷ tri 9 8 2
    ∷ tri 3 4 10 ∷ tri 10 9 3 ∷ tri 4 5 11 ∷ tri 11 10 4 ∷ tri 5 0 6 ∷ tri 6 11 5 ∷ []

-- M1: six vertices of the top, six at height +0
abbrev pub mesh_over : CheapColumn → List Vec2 → Mesh
mesh_over job cs =
    record { vertices = map (vertex_over job job.height) cs ++ map (vertex_over job f0) cs; triangles = cheap_triangles }

abbrev pub cheap_mesh : CheapColumn → List Float → Mesh
cheap_mesh job l = mesh_over job (each (corner_from l) 6)

-- R15
abbrev pub cheap_faces : CheapColumn → List Float → List Mesh
cheap_faces job l = cheap_mesh job l ∷ []

abbrev pub range_of : CheapColumn → List Float → Bool
range_of job l = all_in_range l && (in_range2 job.centre && in_range job.height)

-- R11: 1, then 2; it has no neighbour, so no 3
abbrev pub checked : CheapColumn → List Float → Answer → Answer
checked job l rest = given (exactly (length l) 6 2) Shape (given (range_of job l) Range rest)

abbrev pub planned : CheapColumn → List Float → Answer
planned job l = planned_of (checked job l) (cheap_faces job l)

abbrev pub whole_answer : CheapColumn → List Float → Buffers → Answer
whole_answer job l = whole_of (checked job l) (cheap_faces job l)

abbrev pub face_answer : CheapColumn → List Float → ℕ → Buffers → Answer
face_answer job l = one_of (checked job l) (cheap_faces job l)

abbrev pub built : CheapColumn → List Float → Buffers → Buffers
built job l = built_of (checked job l) (cheap_faces job l)

abbrev pub faced : CheapColumn → List Float → ℕ → Buffers → Buffers
faced job l = faced_of (checked job l) (cheap_faces job l)

abbrev pub faces_told : CheapColumn → List Float → Result Faces Refusal
faces_told job l = faces_of (checked job l) (cheap_faces job l)

abbrev pub window_told : CheapColumn → List Float → ℕ → Result Window Refusal
window_told job l = window_of (checked job l) (cheap_faces job l)

-- room for all that is laid
abbrev pub Roomed : Buffers → Type 0
Roomed B = (36 ≤ length B.vertices) × (36 ≤ length B.normals) × (24 ≤ length B.uvs) × (48 ≤ length B.indices)
