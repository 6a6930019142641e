-- A face without an inset, by value where it stands, which speed alone asks for: proofs/PlainFaces.antt says that it is the
-- face of Faces.antt. Definitions only.
use Rattle.std.specs.Prelude.{ℕ, ◌%◌, cond, List, ◌++◌, eqb, length, get_or}
use Rattle.face.specs.declared.vec.Vec2.{Vec2}
use Rattle.face.specs.declared.vec.Vec3.{Vec3}
use Rattle.face.specs.declared.face.Quad.{Quad}
use Rattle.face.specs.declared.inset.InsetHexagon.{InsetHexagon}
use Rattle.face.specs.declared.triangle.Triangle.{Triangle}
use Rattle.face.specs.Lists.{each}
use Rattle.face.specs.Vec.{off2, off3}
use Rattle.face.specs.Triangles.{quad_triangles, hexagon_triangles}
use Rattle.placement.specs.declared.placement.Stand.{Stand}
use Rattle.placement.specs.Placing.{stood, stood_normal}
use Rattle.placement.specs.Speed.{shift_of}
use Rattle.buffers.specs.declared.plain.Plain.{Plain}
use Rattle.buffers.specs.Mesh.{Mesh}
use Rattle.buffers.specs.Faces.{face_of}

-- the first six points as g leaves them, and the first six uvs
abbrev pub points_by : (Vec3 → Vec3) → List Vec3 → List Vec3
points_by g ps = each (λ k. g (get_or ps k off3)) 6

abbrev pub uvs_of : List Vec2 → List Vec2
uvs_of ts = each (λ k. get_or ts k off2) 6

-- the first six of a list, or all of a shorter one and then its first ones again
abbrev pub six_of : {A : Type 0} → A → List A → List A
six_of off l = each (λ k. get_or l (k % length l) off) 6

abbrev pub plain_of : (Vec3 → Vec3) → List Vec3 → Vec3 → List Vec2 → Plain
plain_of g ps n ts = record { positions = points_by g ps; normal = n; uvs = uvs_of ts }

-- a quad's points, and then its first two again
abbrev pub shifted_quad : Stand → Quad → Plain
shifted_quad t q = plain_of (shift_of t) (q.positions ++ q.positions) q.normal (q.uvs ++ q.uvs)

abbrev pub stood_quad : Stand → Quad → Plain
stood_quad t q = plain_of (stood t) (q.positions ++ q.positions) (stood_normal t q.normal) (q.uvs ++ q.uvs)

abbrev pub stood_hexagon : Stand → InsetHexagon → Plain
stood_hexagon t h = plain_of (stood t) h.positions (stood_normal t h.normal) h.uvs

-- F3, F5: the triangles of m points
abbrev pub plain_triangles : ℕ → List Triangle
plain_triangles m = cond (eqb m 4) quad_triangles hexagon_triangles

-- what is laid of it
abbrev pub plain_mesh : ℕ → Plain → Mesh
plain_mesh m f = face_of m f.positions f.normal f.uvs (plain_triangles m)
