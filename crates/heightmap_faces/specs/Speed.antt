-- What the faces of a map share, so that it is worked out once: speed alone asks for it, and proofs/Plain.antt says that
-- the faces are those of crate `heightmap`; B5, B8 and B17 are rows of docs/TRACE.md. Definitions only.
use Rattle.std.specs.Prelude.{List, [], ◌∷◌, Float}
use Rattle.face.specs.declared.vec.Vec2.{Vec2}
use Rattle.face.specs.declared.vec.Vec3.{Vec3}
use Rattle.face.specs.declared.face.Quad.{Quad}
use Rattle.face.specs.Vec.{v2, f0, f1, diff, over}
use Rattle.face.specs.Face.{quad_of}
use Rattle.face.specs.Texture.{altered}
use Rattle.placement.specs.declared.placement.Choice3.TheVariants as choice
use Rattle.placement.specs.declared.options.FaceOptions.{FaceOptions}
use Rattle.placement.specs.declared.placement.Stand.{Stand}
use Rattle.plane_builder.specs.Cap.{cap_hexagon}
use Rattle.heightmap.specs.declared.Span.{Span}
use Rattle.heightmap_faces.specs.declared.Skin.{Skin}
use Rattle.heightmap_faces.specs.declared.Level.{Level}
use Rattle.heightmap_faces.specs.declared.Top.{Top}

-- the u of the left ends is that of 0, the u of the right ends that of 1
abbrev pub skin_of : FaceOptions → Span → Skin
skin_of o s =
    record {
      inset = o.inset;
      uv = o.uv;
      left = (altered o.uv (v2 f0 f0)).x;
      right = (altered o.uv (v2 f1 f0)).x;
      min = s.min;
      width = diff s.max s.min;
    }

-- the v of a height
abbrev pub up_of : Skin → Float → Float
up_of s h = (altered s.uv (v2 f0 (over (diff h s.min) s.width))).y

abbrev pub level_of : Skin → Float → Level
level_of s h = record { skin = s; top = h; high = up_of s h }

abbrev pub level_quad : Level → Vec2 → Vec2 → Float → Quad
level_quad v l r foot =
    let s = v.skin in
    record {
      positions = (quad_of l r foot v.top).positions;
      normal = (quad_of l r foot v.top).normal;
      uvs = v2 s.right (up_of s foot) ∷ v2 s.right v.high ∷ v2 s.left v.high ∷ v2 s.left (up_of s foot) ∷ [];
    }

abbrev pub top_of : List Float → FaceOptions → Top
top_of l o = record { inset = o.inset; whole = cap_hexagon l o }

-- moved first by an offset, and then as before
abbrev pub lifted : Stand → Vec3 → Stand
lifted t v =
    record {
      first = choice.With v;
      half = t.half;
      scale = t.scale;
      turn = t.turn;
      offset = t.offset;
      origin = t.origin;
    }
