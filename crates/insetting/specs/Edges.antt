-- Insets of points of the plane and of space alike, and the smallest edge inset with the length of each edge worked out once, which speed alone asks for; `Lengths.antt` of the proofs has it equal to that of `Inset.antt`. Definitions only.
use Rattle.std.specs.Prelude.{ℕ, List, ◌++◌, length, get_or, Float}
use Rattle.std.specs.Float.{nan}
use Rattle.face.specs.declared.vec.Vec2.{Vec2}
use Rattle.face.specs.declared.vec.Vec3.{Vec3}
use Rattle.face.specs.declared.inset.InsetQuad.{InsetQuad}
use Rattle.face.specs.declared.inset.InsetHexagon.{InsetHexagon}
use Rattle.face.specs.declared.face.Quad.{Quad}
use Rattle.face.specs.declared.face.Hexagon.{Hexagon}
use Rattle.face.specs.Lists.{each}
use Rattle.face.specs.Vec.{over, times2, off2, off3}
use Rattle.face.specs.Inset.{edge_point, edge_uv, reach, previous_of, next_of, edge}

-- I2 by the steps of either kind of point
abbrev pub toward : {A : Type 0} → (A → A → A) → (A → A → A) → (A → Float → A) → A → Float → A → A
toward plus minus times c k p = plus p (times (minus c p) k)

-- I3 and I4 by its steps, where `along` goes a way along an edge
abbrev pub edge_step : {A : Type 0} → (A → A → A) → (A → A → A) → (A → Float → Float → A) → Float → Float → Float → A → A → A → A
edge_step plus minus along k lp ln p prev next =
    let dist = reach k lp ln in
    plus (plus p (along (minus next p) ln dist)) (along (minus prev p) lp dist)

-- I4: the share of the edge d, l long
abbrev pub along2 : Vec2 → Float → Float → Vec2
along2 d l dist = times2 d (over dist l)

-- each edge, from a point to its next
abbrev pub edge_at : List Vec3 → ℕ → ℕ → Float
edge_at ps m v = edge ps v (next_of m v)

abbrev pub edges : List Vec3 → List Float
edges ps = each (edge_at ps (length ps)) (length ps)

-- the point v among m that goes by f, which is given the lengths at hand of its edges, and its neighbours; and all of them: there are as many edges
abbrev pub moved_at : {A : Type 0} → (Float → Float → A → A → A → A) → A → List Float → List A → ℕ → ℕ → A
moved_at f off ls ps m v = f (get_or ls (previous_of m v) nan) (get_or ls v nan) (get_or ps v off) (get_or ps (previous_of m v) off) (get_or ps (next_of m v) off)

abbrev pub moved : {A : Type 0} → (Float → Float → A → A → A → A) → A → List Float → List A → List A
moved f off ls ps = each (moved_at f off ls ps (length ls)) (length ls)

-- I3 and I4 so
abbrev pub points_by : Float → List Float → List Vec3 → List Vec3
points_by k = moved (edge_point k) off3

abbrev pub uvs_by : Float → List Float → List Vec2 → List Vec2
uvs_by k = moved (edge_uv k) off2

-- I5 of given inner points and uvs
abbrev pub quad_around : Quad → List Vec3 → List Vec2 → InsetQuad
quad_around q ps ts = record { positions = q.positions ++ ps; normal = q.normal; uvs = q.uvs ++ ts }

abbrev pub hexagon_around : Hexagon → List Vec3 → List Vec2 → InsetHexagon
hexagon_around h ps ts = record { positions = h.positions ++ ps; normal = h.normal; uvs = h.uvs ++ ts }
