-- A hexagon as planes and the caps of columns have it (plane_builder.rs); B5 and B6 are rows of docs/TRACE.md. Definitions only.
use Rattle.std.specs.Prelude.{List, map, Float}
use Rattle.face.specs.declared.vec.Vec2.{Vec2}
use Rattle.face.specs.declared.face.Hexagon.{Hexagon}
use Rattle.face.specs.declared.inset.InsetHexagon.{InsetHexagon}
use Rattle.face.specs.declared.uv_mapping.UvOptions.{UvOptions}
use Rattle.face.specs.Lists.{each}
use Rattle.face.specs.Texture.{altered}
use Rattle.face.specs.Face.{hexagon_of}
use Rattle.face.specs.Inset.{inset_hexagon_of}
use Rattle.placement.specs.declared.options.FaceOptions.{FaceOptions}
use Rattle.placement.specs.declared.placement.Stand.{Stand}
use Rattle.buffers.specs.Mesh.{Mesh}
use Rattle.buffers.specs.Faces.{hexagon_mesh, standing}
use Rattle.mesh.specs.Stored.{corner_from}

-- the six corners, NaN past the end of the list
abbrev pub corners_of : List Float → List Vec2
corners_of l = each (corner_from l) 6

-- uvs altered, without an inset
abbrev pub altered_outer : UvOptions → Hexagon → Hexagon
altered_outer o h = record { positions = h.positions; normal = h.normal; uvs = map (altered o) h.uvs }

-- and with it, those of the outer and of the inner points
abbrev pub altered_hexagon : UvOptions → InsetHexagon → InsetHexagon
altered_hexagon o h = record { positions = h.positions; normal = h.normal; uvs = map (altered o) h.uvs }

-- B5: the uvs are altered after the inset
abbrev pub cap_hexagon : List Float → FaceOptions → InsetHexagon
cap_hexagon l o = altered_hexagon o.uv (inset_hexagon_of o.inset (hexagon_of (corners_of l)))

abbrev pub cap_mesh : Stand → List Float → FaceOptions → Mesh
cap_mesh t l o = standing t (hexagon_mesh o.inset (cap_hexagon l o))
