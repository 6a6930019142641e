-- Insets, over a face of any number of points; I1 to I5 are rows of docs/TRACE.md. Definitions only.
use Rattle.std.specs.Prelude.{Bool, true, false, cond, ℕ, ◌+◌, ◌-◌, ◌%◌, List, ◌++◌, map, length, get_or, Float}
use Rattle.std.specs.Float.Ieee.{lt, ne}
use Rattle.face.specs.declared.vec.Vec2.{Vec2}
use Rattle.face.specs.declared.vec.Vec3.{Vec3}
use Rattle.face.specs.declared.inset.Inset.{Inset}
use Rattle.face.specs.declared.inset.Inset.TheVariants.{None, Centroid, SmallestEdge}
use Rattle.face.specs.declared.inset.InsetQuad.{InsetQuad}
use Rattle.face.specs.declared.inset.InsetHexagon.{InsetHexagon}
use Rattle.face.specs.declared.face.Quad.{Quad}
use Rattle.face.specs.declared.face.Hexagon.{Hexagon}
use Rattle.face.specs.Lists.{each}
use Rattle.face.specs.Vec.{times, over, plus2, minus2, times2, plus3, minus3, times3, off2, off3, length3, unit3, middle2, middle3}

-- ---- I2: toward the middle of the points, and uvs toward the middle of the uvs

abbrev pub toward3 : Vec3 → Float → Vec3 → Vec3
toward3 c k p = plus3 p (times3 (minus3 c p) k)

abbrev pub toward2 : Vec2 → Float → Vec2 → Vec2
toward2 c k p = plus2 p (times2 (minus2 c p) k)

abbrev pub shrunk3 : Float → List Vec3 → List Vec3
shrunk3 k ps = map (toward3 (middle3 ps) k) ps

abbrev pub shrunk2 : Float → List Vec2 → List Vec2
shrunk2 k ps = map (toward2 (middle2 ps) k) ps

-- ---- I3, I4: toward both neighbours, by a share of the shorter of the two edges

-- the shorter of two lengths, as the crate's `min` has it by run: where one is a NaN, the other
abbrev pub shorter : Float → Float → Float
shorter a b = cond (lt b a) b (cond (ne a a) b a)

-- how far a point moves whose edges are lp long to the previous one, and ln to the next
abbrev pub reach : Float → Float → Float → Float
reach k lp ln = times (shorter lp ln) k

-- dist along the direction of d, which is l long
abbrev pub along : Vec3 → Float → Float → Vec3
along d l dist = times3 (unit3 d l) dist

-- I3: to the next neighbour first, which the bits show
abbrev pub edge_point : Float → Float → Float → Vec3 → Vec3 → Vec3 → Vec3
edge_point k lp ln p prev next =
    let dist = reach k lp ln in
    plus3 (plus3 p (along (minus3 next p) ln dist)) (along (minus3 prev p) lp dist)

-- I4: on each of the two edges, the share of it that the point has gone
abbrev pub edge_uv : Float → Float → Float → Vec2 → Vec2 → Vec2 → Vec2
edge_uv k lp ln t tprev tnext =
    let dist = reach k lp ln in
    plus2 (plus2 t (times2 (minus2 tnext t) (over dist ln))) (times2 (minus2 tprev t) (over dist lp))

-- the neighbours of v among m in a ring
abbrev pub previous_of : ℕ → ℕ → ℕ
previous_of m v = (v + (m - 1)) % m

abbrev pub next_of : ℕ → ℕ → ℕ
next_of m v = (v + 1) % m

-- how long the edge from v to w is, and so what each point and each uv becomes
abbrev pub edge : List Vec3 → ℕ → ℕ → Float
edge ps v w = length3 (minus3 (get_or ps w off3) (get_or ps v off3))

abbrev pub point_at : Float → List Vec3 → ℕ → ℕ → Vec3
point_at k ps m v =
    edge_point k (edge ps v (previous_of m v)) (edge ps v (next_of m v)) (get_or ps v off3) (get_or ps (previous_of m v) off3) (get_or ps (next_of m v) off3)

abbrev pub uv_at : Float → List Vec3 → List Vec2 → ℕ → ℕ → Vec2
uv_at k ps ts m v =
    edge_uv k (edge ps v (previous_of m v)) (edge ps v (next_of m v)) (get_or ts v off2) (get_or ts (previous_of m v) off2) (get_or ts (next_of m v) off2)

abbrev pub edged3 : Float → List Vec3 → List Vec3
edged3 k ps = each (point_at k ps (length ps)) (length ps)

abbrev pub edged2 : Float → List Vec3 → List Vec2 → List Vec2
edged2 k ps ts = each (uv_at k ps ts (length ps)) (length ps)

abbrev pub is_none : Inset → Bool
is_none None = true
is_none (Centroid k keep) = false
is_none (SmallestEdge k keep) = false

-- ---- I1: the inner face; with no inset it is the face itself, and is not laid

abbrev pub inner_points : Inset → List Vec3 → List Vec3
inner_points None ps = ps
inner_points (Centroid k keep) ps = shrunk3 k ps
inner_points (SmallestEdge k keep) ps = edged3 k ps

abbrev pub inner_uvs : Inset → List Vec3 → List Vec2 → List Vec2
inner_uvs None ps ts = ts
inner_uvs (Centroid k keep) ps ts = shrunk2 k ts
inner_uvs (SmallestEdge k keep) ps ts = edged2 k ps ts

-- ---- I5: both faces as one, the outer first

abbrev pub inset_quad_of : Inset → Quad → InsetQuad
inset_quad_of how q =
    record {
      positions = q.positions ++ inner_points how q.positions;
      normal = q.normal;
      uvs = q.uvs ++ inner_uvs how q.positions q.uvs;
    }

abbrev pub inset_hexagon_of : Inset → Hexagon → InsetHexagon
inset_hexagon_of how h =
    record {
      positions = h.positions ++ inner_points how h.positions;
      normal = h.normal;
      uvs = h.uvs ++ inner_uvs how h.positions h.uvs;
    }
