-- Where a face stands; B6 to B9 and B18 to B20 are rows of docs/TRACE.md. Definitions only.
use Rattle.std.specs.Prelude.{Bool, true, ◌&&◌, cond, Float}
use Rattle.std.specs.Float.Ieee.{neg}
use Rattle.face.specs.declared.vec.Vec2.{Vec2}
use Rattle.face.specs.declared.vec.Vec3.{Vec3}
use Rattle.face.specs.Vec.{v3, plus, times, plus3, flat}
use Rattle.answer.specs.Checks.{in_range3}
use Rattle.placement.specs.declared.placement.Choice3.{Choice3}
use Rattle.placement.specs.declared.placement.Choice3.TheVariants as choice
use Rattle.placement.specs.declared.placement.Turn.{Turn}
use Rattle.placement.specs.declared.placement.Turn.TheVariants as turn
use Rattle.placement.specs.declared.placement.Placement.{Placement}
use Rattle.placement.specs.declared.placement.Stand.{Stand}

-- ---- B18: each step, if it is supplied
abbrev pub scaled : Choice3 → Vec3 → Vec3
scaled choice.Absent p = p
scaled (choice.With by) p = v3 (times p.x by.x) (times p.y by.y) (times p.z by.z)

-- B20: a row's three products, added from left to right
abbrev pub dot : Vec3 → Vec3 → Float
dot r p = plus (plus (times r.x p.x) (times r.y p.y)) (times r.z p.z)

abbrev pub turned : Turn → Vec3 → Vec3
turned turn.Absent p = p
turned (turn.Rows a b c) p = v3 (dot a p) (dot b p) (dot c p)

abbrev pub moved : Choice3 → Vec3 → Vec3
moved choice.Absent p = p
moved (choice.With by) p = plus3 p by

-- B9: x and y change their sign, of a zero too
abbrev pub half_turned : Bool → Vec3 → Vec3
half_turned half p = cond half (v3 (neg p.x) (neg p.y) p.z) p

-- ---- B6 to B9, B18: a position is moved by a first offset, turned by half, scaled, turned and moved, each if so
abbrev pub placed : Stand → Vec3 → Vec3
placed t p = moved t.offset (turned t.turn (scaled t.scale (half_turned t.half (moved t.first p))))

-- B19: and moved by an origin last; a normal takes the two turns alone
abbrev pub stood : Stand → Vec3 → Vec3
stood t p = moved t.origin (placed t p)

abbrev pub stood_normal : Stand → Vec3 → Vec3
stood_normal t n = turned t.turn (half_turned t.half n)

-- how a face stands by a job's placement, after a first offset and a half turn of its own, and before an origin
abbrev pub stand_from : Choice3 → Choice3 → Bool → Placement → Stand
stand_from origin first half s =
    record {
      first = first;
      half = half;
      scale = s.scale;
      turn = s.turn;
      offset = s.offset;
      origin = origin;
    }

-- planes and columns have none
abbrev pub stand_by : Choice3 → Bool → Placement → Stand
stand_by = stand_from choice.Absent

-- B7, B19: the position, at height +0, is always added; a supplied offset joins it first
abbrev pub settled : Placement → Vec2 → Placement
settled s at = record { scale = s.scale; turn = s.turn; offset = choice.With (moved s.offset (flat at)) }

-- ---- R2: every number that is supplied is in range
abbrev pub choice_in_range : Choice3 → Bool
choice_in_range choice.Absent = true
choice_in_range (choice.With p) = in_range3 p

abbrev pub turn_in_range : Turn → Bool
turn_in_range turn.Absent = true
turn_in_range (turn.Rows a b c) = in_range3 a && (in_range3 b && in_range3 c)

abbrev pub placement_in_range : Placement → Bool
placement_in_range s = choice_in_range s.scale && (turn_in_range s.turn && choice_in_range s.offset)
