-- What a caller from C hands over, as the crates below take it. Definitions only.
use Rattle.std.specs.Prelude.{ℕ, Bool, false, ◌||◌, cond, List, get_or, eqb, Result, Ok, Err}
use Rattle.answer.specs.declared.answer.Refusal.{Refusal}
use Rattle.answer.specs.declared.answer.Refusal.TheVariants.{Shape}
use Rattle.face.specs.declared.vec.Vec2.{Vec2}
use Rattle.face.specs.declared.vec.Vec3.{Vec3}
use Rattle.face.specs.declared.triangle.Counts.{Counts}
use Rattle.face.specs.declared.uv_mapping.UvOptions.{UvOptions}
use Rattle.face.specs.Lists.{each}
use Rattle.face.specs.Vec.{v2, v3}
use Rattle.face.specs.Triangles.{counts}
use Rattle.placement.specs.declared.options.Choice.{Choice}
use Rattle.placement.specs.declared.options.Choice.TheVariants as option
use Rattle.placement.specs.declared.placement.Choice3.{Choice3}
use Rattle.placement.specs.declared.placement.Choice3.TheVariants as choice3
use Rattle.placement.specs.declared.placement.Turn.{Turn}
use Rattle.placement.specs.declared.placement.Turn.TheVariants as turn
use Rattle.placement.specs.declared.placement.Placement.{Placement}
use Rattle.cheap_column.specs.declared.CheapColumn.{CheapColumn}
use Rattle.plane_builder.specs.declared.Plane.{Plane}
use Rattle.column.specs.declared.Subdivisions.{Subdivisions}
use Rattle.column.specs.declared.Subdivisions.TheVariants as subdivisions
use Rattle.column.specs.declared.Side.{Side}
use Rattle.column.specs.declared.Column.{Column}
use Rattle.heightmap.specs.declared.Fringe.{Fringe}
use Rattle.heightmap.specs.declared.Fringe.TheVariants as fringe
use Rattle.heightmap.specs.declared.Customs.{Customs}
use Rattle.heightmap.specs.declared.Customs.TheVariants as customs
use Rattle.heightmap.specs.declared.HeightRange.{HeightRange}
use Rattle.heightmap.specs.declared.HeightRange.TheVariants as heights
use Rattle.heightmap.specs.declared.Origin.{Origin}
use Rattle.heightmap.specs.declared.Origin.TheVariants as origin
use Rattle.heightmap.specs.declared.HeightMap.{HeightMap}
use Rattle.boundary.specs.declared.from_c.CVec2.{CVec2}
use Rattle.boundary.specs.declared.from_c.CVec3.{CVec3}
use Rattle.boundary.specs.declared.from_c.CCounts.{CCounts}
use Rattle.boundary.specs.declared.from_c.CChoice3.{CChoice3}
use Rattle.boundary.specs.declared.from_c.CTurn.{CTurn}
use Rattle.boundary.specs.declared.from_c.CPlacement.{CPlacement}
use Rattle.boundary.specs.declared.jobs.CPlane.{CPlane}
use Rattle.boundary.specs.declared.jobs.CChoice.{CChoice}
use Rattle.boundary.specs.declared.jobs.CSubdivisions.{CSubdivisions}
use Rattle.boundary.specs.declared.jobs.CColumn.{CColumn}
use Rattle.boundary.specs.declared.jobs.CCheapColumn.{CCheapColumn}
use Rattle.boundary.specs.declared.jobs.CRange.{CRange}
use Rattle.boundary.specs.declared.jobs.COrigin.{COrigin}
use Rattle.boundary.specs.declared.jobs.CHeightMap.{CHeightMap}
use Rattle.boundary.specs.declared.from_c.CUvOptions.{CUvOptions}

abbrev pub vec2_of : CVec2 → Vec2
vec2_of p = v2 p.x p.y

abbrev pub vec3_of : CVec3 → Vec3
vec3_of p = v3 p.x p.y p.z

abbrev pub counts_in : CCounts → Counts
counts_in c = counts c.vertices c.indices

-- ---- a choice is there where its bool says so
abbrev pub choice3_of : CChoice3 → Choice3
choice3_of c = cond c.given (choice3.With (vec3_of c.value)) choice3.Absent

abbrev pub turn_of : CTurn → Turn
turn_of t = cond t.given (turn.Rows (vec3_of t.first) (vec3_of t.second) (vec3_of t.third)) turn.Absent

abbrev pub placement_of : CPlacement → Placement
placement_of s = record { scale = choice3_of s.scale; turn = turn_of s.turn; offset = choice3_of s.offset }

abbrev pub choice_of : CChoice → Choice
choice_of c = cond c.given (option.With c.option) option.Absent

abbrev pub subdivisions_of : CSubdivisions → Subdivisions
subdivisions_of s = cond s.given (subdivisions.Of s.number) subdivisions.Absent

-- ---- jobs
abbrev pub plane_of : CPlane → Plane
plane_of job = record { position = vec2_of job.position; option = job.option; placement = placement_of job.placement }

abbrev pub cheap_column_of : CCheapColumn → CheapColumn
cheap_column_of job = record { centre = vec2_of job.centre; height = job.height }

abbrev pub no_choice : CChoice
no_choice = record { given = false; option = 0 }

abbrev pub side_of : CChoice → Side
side_of c = record { option = choice_of c }

abbrev pub sides_of : List CChoice → List Side
sides_of ss = each (λ d. side_of (get_or ss d no_choice)) 6

abbrev pub column_of : CColumn → Column
column_of job =
    record {
      height = job.height;
      subdivisions = subdivisions_of job.subdivisions;
      sides = sides_of job.sides;
      top = choice_of job.top;
      bottom = choice_of job.bottom;
      position = vec2_of job.position;
      placement = placement_of job.placement;
    }

abbrev pub range_of : CRange → HeightRange
range_of r = cond r.given (heights.Of r.min r.max) heights.OfAll

abbrev pub origin_of : COrigin → Origin
origin_of o = cond o.given (origin.At (vec2_of o.at)) origin.Centred

-- a fringe is 1, none, or 2, listed; another number means nothing, and the job is refused
abbrev pub is_fringe : ℕ → Bool
is_fringe mark = eqb mark 1 || eqb mark 2

abbrev pub fringe_of : ℕ → Fringe
fringe_of mark = cond (eqb mark 2) fringe.Listed fringe.Bare

abbrev pub customs_of : Bool → Customs
customs_of listed = cond listed customs.Listed customs.Absent

abbrev pub height_map_of : CHeightMap → HeightMap
height_map_of job =
    record {
      caps = choice_of job.caps;
      sides = choice_of job.sides;
      range = range_of job.range;
      fringe = fringe_of job.fringe;
      customs = customs_of job.customs;
      placement = placement_of job.placement;
      origin = origin_of job.origin;
    }

abbrev pub height_map_told : CHeightMap → Result HeightMap Refusal
height_map_told job = cond (is_fringe job.fringe) (Ok (height_map_of job)) (Err Shape)

-- ---- texture options
abbrev pub uv_options_of : CUvOptions → UvOptions
uv_options_of o =
    record {
      scale = vec2_of o.scale;
      offset = vec2_of o.offset;
      min = vec2_of o.min;
      max = vec2_of o.max;
      flip = record { u = o.flip.u; v = o.flip.v };
    }
