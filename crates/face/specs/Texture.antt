-- Texture options (uv_mapping.rs); T1 to T4 are rows of docs/TRACE.md. Definitions only.
use Rattle.std.specs.Prelude.{Bool, false, cond, Float}
use Rattle.arith.specs.Fused.{fma}
use Rattle.face.specs.declared.vec.Vec2.{Vec2}
use Rattle.face.specs.declared.uv_mapping.UvOptions.{UvOptions}
use Rattle.face.specs.Vec.{v2, f0, f1, f2, half, plus, diff, times, over, times2, length2, reciprocal, serves}

-- what a fresh option does: scale 1, offset 0, the whole rectangle, no flip
abbrev pub plain : UvOptions
plain = record { scale = v2 f1 f1; offset = v2 f0 f0; min = v2 f0 f0; max = v2 f1 f1; flip = record { u = false; v = false } }

-- T1 to T3: one component mirrored, scaled and moved, a rounding each, and laid into the rectangle in one
abbrev pub component : Bool → Float → Float → Float → Float → Float → Float
component flip scale offset min max u = fma (diff max min) (plus (times (cond flip (diff f1 u) u) scale) offset) min

abbrev pub altered : UvOptions → Vec2 → Vec2
altered o t =
    v2 (component o.flip.u o.scale.x o.offset.x o.min.x o.max.x t.x)
    (component o.flip.v o.scale.y o.offset.y o.min.y o.max.y t.y)

-- the direction of p by its reciprocal length k, or p itself where k does not serve
abbrev pub unit_or : Vec2 → Float → Vec2
unit_or p k = cond (serves k) (times2 p k) p

-- halved, about the middle of the texture
abbrev pub halved : Vec2 → Vec2
halved q = v2 (plus (over q.x f2) half) (plus (over q.y f2) half)

-- T4: the direction of a corner, or the corner where it has none, about the middle
abbrev pub wrapped : Vec2 → Vec2
wrapped p = halved (unit_or p (reciprocal (length2 p)))
