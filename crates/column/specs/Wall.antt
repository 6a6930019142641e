-- What the parts of a side share, so that it is worked out once a side; B3 and B5 are rows of docs/TRACE.md. Definitions only.
use Rattle.std.specs.Prelude.{ℕ, ◌+◌, ◌*◌, List, [], ◌∷◌, map, Float}
use Rattle.face.specs.declared.face.Quad.{Quad}
use Rattle.face.specs.Vec.{plus, times, upright}
use Rattle.face.specs.Texture.{altered}
use Rattle.placement.specs.declared.options.FaceOptions.{FaceOptions}
use Rattle.buffers.specs.Mesh.{Mesh}
use Rattle.buffers.specs.Faces.{wall_mesh}
use Rattle.mesh.specs.Stored.{uv_from}
use Rattle.column.specs.declared.Column.{Column}
use Rattle.column.specs.declared.wall.Wall.{Wall}
use Rattle.column.specs.Column.{float, delta, part_quad, wall_stand}

-- B5: the uvs are altered before the inset; they and the normal are the same at every height
abbrev pub wall_of : Column → List Float → FaceOptions → ℕ → Wall
wall_of job ps o d =
    record {
      left = uv_from ps (4 * d);
      right = uv_from ps (4 * d + 2);
      delta = delta job;
      normal = (part_quad job ps d 0).normal;
      uvs = map (altered o.uv) (part_quad job ps d 0).uvs;
      inset = o.inset;
      stand = wall_stand job;
    }

-- B3: one of the parts
abbrev pub part_at : Wall → ℕ → Quad
part_at w p =
    let foot = times w.delta (float p) in
    let head = plus foot w.delta in
    record {
      positions = upright w.right foot ∷ upright w.right head ∷ upright w.left head ∷ upright w.left foot ∷ [];
      normal = w.normal;
      uvs = w.uvs;
    }

abbrev pub part_mesh : Wall → ℕ → Mesh
part_mesh w p = wall_mesh w.stand w.inset (part_at w p)
