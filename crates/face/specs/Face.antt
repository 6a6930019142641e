-- Quads and hexagons (face.rs); F1 to F5 are rows of docs/TRACE.md. Definitions only.
use Rattle.std.specs.Prelude.{List, [], ◌∷◌, map, Float}
use Rattle.face.specs.declared.vec.Vec2.{Vec2}
use Rattle.face.specs.declared.face.Quad.{Quad}
use Rattle.face.specs.declared.face.Hexagon.{Hexagon}
use Rattle.face.specs.declared.uv_mapping.UvOptions.{UvOptions}
use Rattle.face.specs.Vec.{v2, f0, f1, diff, over, plus2, unit2, upright, flat, upward}
use Rattle.face.specs.Texture.{altered, wrapped}

-- F1 to F3: a quad that goes round from its right bottom, with the v of its bottom and of its top. Its
-- normal is the direction of the sum of the two corners, level.
abbrev pub quad_with : Vec2 → Vec2 → Float → Float → Float → Float → Quad
quad_with l r bottom top bv tv =
    record {
      positions = upright r bottom ∷ upright r top ∷ upright l top ∷ upright l bottom ∷ [];
      normal = flat (unit2 (plus2 l r));
      uvs = v2 f1 bv ∷ v2 f1 tv ∷ v2 f0 tv ∷ v2 f0 bv ∷ [];
    }

abbrev pub quad_of : Vec2 → Vec2 → Float → Float → Quad
quad_of l r bottom top = quad_with l r bottom top f0 f1

-- F4: which share of the range a height has reached
abbrev pub reached : Float → Float → Float → Float
reached min max h = over (diff h min) (diff max min)

abbrev pub bounded_quad_of : Vec2 → Vec2 → Float → Float → Float → Float → Quad
bounded_quad_of l r bottom top min max = quad_with l r bottom top (reached min max bottom) (reached min max top)

-- B5: a side's uvs, altered before it is inset
abbrev pub altered_quad : UvOptions → Quad → Quad
altered_quad o q = record { positions = q.positions; normal = q.normal; uvs = map (altered o) q.uvs }

-- F5: the corners laid flat in their order, facing up
abbrev pub hexagon_of : List Vec2 → Hexagon
hexagon_of cs = record { positions = map flat cs; normal = upward; uvs = map wrapped cs }
