-- The faces of a height map (heightmap_builder.rs); B5 to B19 are rows of docs/TRACE.md. Definitions only.
use Rattle.std.specs.Prelude.{ℕ, ◌+◌, ◌*◌, false, cond, List, [], ◌∷◌, ◌++◌, map, get_or, eqb, Float}
use Rattle.face.specs.declared.vec.Vec2.{Vec2}
use Rattle.face.specs.declared.vec.Vec3.{Vec3}
use Rattle.face.specs.declared.face.Quad.{Quad}
use Rattle.face.specs.Lists.{chain}
use Rattle.face.specs.Vec.{v3, f0, times, plus3, flat}
use Rattle.face.specs.Face.{bounded_quad_of, altered_quad}
use Rattle.placement.specs.declared.options.Choice.{Choice}
use Rattle.placement.specs.declared.options.Choice.TheVariants as option
use Rattle.placement.specs.declared.options.FaceOptions.{FaceOptions}
use Rattle.placement.specs.declared.placement.Choice3.{Choice3}
use Rattle.placement.specs.declared.placement.Choice3.TheVariants as choice
use Rattle.placement.specs.declared.placement.Stand.{Stand}
use Rattle.placement.specs.Options.{option_for}
use Rattle.placement.specs.Placing.{stand_from}
use Rattle.buffers.specs.Mesh.{Mesh}
use Rattle.buffers.specs.Lent.{Shown}
use Rattle.buffers.specs.Faces.{wall_mesh}
use Rattle.plane_builder.specs.Cap.{cap_mesh}
use Rattle.heightmap.specs.declared.Customs.{Customs}
use Rattle.heightmap.specs.declared.Customs.TheVariants as customs
use Rattle.heightmap.specs.declared.Origin.{Origin}
use Rattle.heightmap.specs.declared.Origin.TheVariants as origin
use Rattle.heightmap.specs.declared.Name.{Name}
use Rattle.heightmap.specs.declared.Name.TheVariants.{Cap, Side}
use Rattle.heightmap.specs.declared.HeightMap.{HeightMap}
use Rattle.heightmap.specs.declared.Lists.{Lists as LentLists}
use Rattle.heightmap.specs.Grid.{Grid, lent_grid, seen_grid, cells_in, height_at, position_at, left_at, right_at, span_of, wall, present, foot_of}

-- what is lent beside a map: its cells, seven option numbers a cell (the cap's, then those of sides 0 to 5), the six
-- corners of every cap, and the table of options
pub record Lists : Type 0 where
  pub grid : Grid
  pub customs : List ℕ
  pub corners : List Float
  pub numbers : List Float
  pub marks : List ℕ

abbrev pub lists : Grid → List ℕ → List Float → List Float → List ℕ → Lists
lists g us cs ns ms = record { grid = g; customs = us; corners = cs; numbers = ns; marks = ms }

-- what those lists hold when a call is entered
abbrev pub lent : Shown Float → Shown ℕ → Shown Float → Shown ℕ → Shown Float → Shown Float → Shown ℕ → Lists
lent c n f u p k m = lists (lent_grid c n f) u.entry.now p.entry.now k.entry.now m.entry.now

-- the same of lists that are lent as one
abbrev pub seen : LentLists → Lists
seen l = lists (seen_grid l.grid) l.customs.now l.corners.now l.numbers.now l.marks.now

-- ---- B10: which faces, by name: cells in the order supplied, of each the cap, then sides 0 to 5
abbrev pub cap_names : Choice → ℕ → List Name
cap_names option.Absent k = []
cap_names (option.With o) k = Cap k ∷ []

-- B13
abbrev pub side_names : HeightMap → Grid → ℕ → ℕ → List Name
side_names job g k d = cond (present (wall job g k d)) (Side k d ∷ []) []

abbrev pub cell_names : HeightMap → Grid → ℕ → List Name
cell_names job g k = cap_names job.caps k ++ chain (side_names job g k) 6

unfoldable pub map_names : HeightMap → Grid → List Name
map_names job g = chain (cell_names job g) (cells_in g.cells)

-- ---- B14: a custom 255, or no custom list, means the job's own option
abbrev pub custom_at : Customs → List ℕ → ℕ → ℕ
custom_at customs.Absent us i = 255
custom_at customs.Listed us i = get_or us i 255

abbrev pub custom_place : Name → ℕ
custom_place (Cap k) = 7 * k
custom_place (Side k d) = 7 * k + (1 + d)

abbrev pub own_choice : HeightMap → Name → Choice
own_choice job (Cap k) = job.caps
own_choice job (Side k d) = job.sides

abbrev pub chosen : Choice → ℕ → Choice
chosen own custom = cond (eqb custom 255) own (option.With custom)

abbrev pub option_of : HeightMap → Lists → Name → FaceOptions
option_of job ls n = option_for ls.numbers ls.marks (chosen (own_choice job n) (custom_at job.customs ls.customs (custom_place n)))

-- ---- each face
-- B19: the origin, at height +0, unless the map is centred
abbrev pub origin_of : Origin → Choice3
origin_of origin.Centred = choice.Absent
origin_of (origin.At p) = choice.With (flat p)

-- B18, B19: scale, turn and offset, each if supplied, and the origin last; a side has no position
abbrev pub side_stand : HeightMap → Stand
side_stand job = stand_from (origin_of job.origin) choice.Absent false job.placement

-- B8: added to the cell's position, so that the -0 of 0 times a height below 0 can stay
abbrev pub cap_offset : Vec2 → Float → Vec3
cap_offset at h = plus3 (flat at) (v3 (times f0 h) h (times f0 h))

abbrev pub cap_stand : HeightMap → Grid → ℕ → Stand
cap_stand job g k =
    stand_from (origin_of job.origin) (choice.With (cap_offset (position_at g.cells k) (height_at g.cells k))) false job.placement

-- B13, B17: from the lower height up to the cell's, its v by the range as it comes
abbrev pub wall_quad : HeightMap → Grid → ℕ → ℕ → Quad
wall_quad job g k d =
    bounded_quad_of (left_at g.cells k d) (right_at g.cells k d) (foot_of (wall job g k d)) (height_at g.cells k) (span_of job g).min (span_of job g).max

-- B5: a cap is altered after it is inset, a side before
unfoldable pub mesh_of : HeightMap → Lists → Name → Mesh
mesh_of job ls (Cap k) = cap_mesh (cap_stand job ls.grid k) ls.corners (option_of job ls (Cap k))
mesh_of job ls (Side k d) =
    let o = option_of job ls (Side k d) in
    wall_mesh (side_stand job) o.inset (altered_quad o.uv (wall_quad job ls.grid k d))

abbrev pub map_faces : HeightMap → Lists → List Mesh
map_faces job ls = map (mesh_of job ls) (map_names job ls.grid)
