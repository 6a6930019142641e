-- The faces of crate `face` as meshes: what is laid of a quad and of a hexagon. Definitions only.
use Rattle.std.specs.Prelude.{ℕ, List, map, get_or}
use Rattle.face.specs.declared.vec.Vec2.{Vec2}
use Rattle.face.specs.declared.vec.Vec3.{Vec3}
use Rattle.face.specs.declared.face.Quad.{Quad}
use Rattle.face.specs.declared.inset.Inset.{Inset}
use Rattle.face.specs.declared.inset.InsetQuad.{InsetQuad}
use Rattle.face.specs.declared.inset.InsetHexagon.{InsetHexagon}
use Rattle.face.specs.declared.triangle.Triangle.{Triangle}
use Rattle.face.specs.Lists.{each}
use Rattle.face.specs.Vec.{off2, off3}
use Rattle.face.specs.Inset.{inset_quad_of}
use Rattle.face.specs.Triangles.{inset_triangles, inset_counts, quad_triangles, hexagon_triangles}
use Rattle.placement.specs.declared.placement.Stand.{Stand}
use Rattle.placement.specs.Placing.{stood, stood_normal}
use Rattle.buffers.specs.Mesh.{Vertex, Mesh}

abbrev pub vertex_at : List Vec3 → Vec3 → List Vec2 → ℕ → Vertex
vertex_at ps n ts k = record { position = get_or ps k off3; normal = n; uv = get_or ts k off2 }

-- the first m points with their uvs, each with the face's one normal
abbrev pub face_of : ℕ → List Vec3 → Vec3 → List Vec2 → List Triangle → Mesh
face_of m ps n ts tris = record { vertices = each (vertex_at ps n ts) m; triangles = tris }

-- a face of m points that has the triangles tris, with its inset
abbrev pub inset_mesh : Inset → ℕ → ℕ → List Triangle → List Vec3 → Vec3 → List Vec2 → Mesh
inset_mesh how m n tris ps normal ts = face_of (inset_counts how m n).vertices.0 ps normal ts (inset_triangles how m tris)

-- I5: four vertices, or eight with an inset
unfoldable pub quad_mesh : Inset → InsetQuad → Mesh
quad_mesh how q = face_of (inset_counts how 4 2).vertices.0 q.positions q.normal q.uvs (inset_triangles how 4 quad_triangles)

-- six vertices, or twelve
unfoldable pub hexagon_mesh : Inset → InsetHexagon → Mesh
hexagon_mesh how h = face_of (inset_counts how 6 4).vertices.0 h.positions h.normal h.uvs (inset_triangles how 6 hexagon_triangles)

-- B6 to B9, B18: a mesh where it comes to stand; its uvs stay
abbrev pub stood_vertex : Stand → Vertex → Vertex
stood_vertex t w = record { position = stood t w.position; normal = stood_normal t w.normal; uv = w.uv }

abbrev pub standing : Stand → Mesh → Mesh
standing t m = record { vertices = map (stood_vertex t) m.vertices; triangles = m.triangles }

-- B5: of a wall, the part that is inset and then placed
abbrev pub wall_mesh : Stand → Inset → Quad → Mesh
wall_mesh t how q = standing t (quad_mesh how (inset_quad_of how q))
