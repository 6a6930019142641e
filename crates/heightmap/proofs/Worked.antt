-- Height maps worked out, by computation. Assumes nothing.
use mathlib.Core.Path.{◌≡◌, refl}
use Prim.Native.Nat.{ℕ}
use mathlib.Core.Bool.{cond}
use mathlib.Core.List.{List, [], ◌∷◌, ◌++◌, map}
use lib.Ieee.{Float, binary32, of_bits, to_bits, add, sub, mul, div, neg, lt, le, eq, ne, of_int}
use Rattle.face.specs.declared.vec.Vec2.{Vec2}
use Rattle.face.specs.Lists.{each}
use Rattle.face.specs.Vec.{v2, v3, f0, f1}
use Rattle.face.specs.Triangles.{counts}
use Rattle.answer.specs.declared.answer.Refusal.TheVariants.{Shape, Range, Neighbour, NoFace}
use Rattle.std.specs.Prelude.{Ok, Err}
use Rattle.placement.specs.declared.options.Choice.{Choice}
use Rattle.placement.specs.declared.options.Choice.TheVariants as option
use Rattle.placement.specs.declared.placement.Choice3.TheVariants as choice
use Rattle.placement.specs.declared.placement.Turn.TheVariants as turn
use Rattle.placement.specs.declared.placement.Placement.{Placement}
use Rattle.placement.specs.Placing.{stood}
use Rattle.buffers.specs.Mesh.{Mesh, joined}
use Rattle.buffers.specs.Laying.{three, two, spread}
use Rattle.buffers.specs.Faces as Faces
use Rattle.heightmap.specs.declared.Fringe.{Fringe}
use Rattle.heightmap.specs.declared.Fringe.TheVariants as fringe
use Rattle.heightmap.specs.declared.Customs.{Customs}
use Rattle.heightmap.specs.declared.Customs.TheVariants as customs
use Rattle.heightmap.specs.declared.HeightRange.{HeightRange}
use Rattle.heightmap.specs.declared.HeightRange.TheVariants as heights
use Rattle.heightmap.specs.declared.Origin.{Origin}
use Rattle.heightmap.specs.declared.Origin.TheVariants as origin
use Rattle.heightmap.specs.declared.Wall.TheVariants.{SidesOff, NothingBeyond, AsHigh, Present}
use Rattle.heightmap.specs.declared.Name.TheVariants.{Cap, Side}
use Rattle.heightmap.specs.declared.HeightMap.{HeightMap}
use Rattle.heightmap.specs.Grid.{Grid, grid, nobody, span_by, span_of, wall}
use Rattle.heightmap.specs.HeightMap.{Lists, lists, side_stand, wall_quad, map_names, mesh_of, map_faces}
use Rattle.heightmap.specs.Counts.{cell_start, map_counts}
use Rattle.heightmap.specs.Tests.{tested, planned}
use Rattle.heightmap.specs.Names.{name_at, start_by, number_of}
use Rattle.heightmap.specs.Calls.{faces_told, window_told}

-- all that is computed through
unfoldable pub opened : ℕ
unfolding to_bits of_bits of_int add sub mul div neg lt le eq ne Faces.quad_mesh Faces.hexagon_mesh map_names mesh_of span_of
opened = 0

abbrev pub bits : ℕ → Float
bits = of_bits binary32

abbrev floats : List ℕ → List Float
floats = map bits

-- every NaN is shown by one pattern
abbrev pattern : Float → ℕ
pattern x = cond (eq x x) (to_bits binary32 x) 0x7fc0_0000

abbrev positions : List Mesh → List ℕ
positions fs = map pattern (spread (λ w. three w.position) (joined fs).vertices)

abbrev pairs : List Vec2 → List ℕ
pairs ts = map pattern (spread two ts)

-- ---- jobs: nothing but default caps and sides, and what else is said
abbrev still : Placement
still = record { scale = choice.Absent; turn = turn.Absent; offset = choice.Absent }

abbrev pub default : Choice
default = option.With 255

abbrev pub job_of : Choice → Choice → HeightRange → Fringe → Customs → Origin → HeightMap
job_of caps sides range f u o =
    record { caps = caps; sides = sides; range = range; fringe = f; customs = u; placement = still; origin = o }

abbrev pub bare : HeightMap
bare = job_of default default heights.OfAll fringe.Bare customs.Absent origin.Centred

abbrev pub fringed : HeightMap
fringed = job_of default default heights.OfAll fringe.Listed customs.Absent origin.Centred

abbrev ranged : ℕ → ℕ → HeightMap
ranged a b = job_of default default (heights.Of (bits a) (bits b)) fringe.Bare customs.Absent origin.Centred

abbrev from : Vec2 → HeightMap
from p = job_of default default heights.OfAll fringe.Bare customs.Absent (origin.At p)

abbrev custom : Choice → Choice → HeightMap
custom caps sides = job_of caps sides heights.OfAll fringe.Bare customs.Listed origin.Centred

-- ---- cells: a height, a position, and the ends of six sides about (0, 0)
abbrev ends : List ℕ
ends =
    0x3f80_0000 ∷ 0 ∷ 0x3f00_0000 ∷ 0x3f80_0000 ∷ 0x3f00_0000 ∷ 0x3f80_0000 ∷ 0xbf00_0000 ∷ 0x3f80_0000
    ∷ 0xbf00_0000 ∷ 0x3f80_0000 ∷ 0xbf80_0000 ∷ 0 ∷ 0xbf80_0000 ∷ 0 ∷ 0xbf00_0000 ∷ 0xbf80_0000
    ∷ 0xbf00_0000 ∷ 0xbf80_0000 ∷ 0x3f00_0000 ∷ 0xbf80_0000 ∷ 0x3f00_0000 ∷ 0xbf80_0000 ∷ 0x3f80_0000 ∷ 0 ∷ []

abbrev pub cell : ℕ → ℕ → ℕ → List Float
cell h x z = floats (h ∷ x ∷ z ∷ ends)

-- the corners of every cap, and others with -0 wherever a 0 can stand
abbrev corners : List Float
corners = floats (0x3f80_0000 ∷ 0 ∷ 0x3f00_0000 ∷ 0x3f80_0000 ∷ 0xbf00_0000 ∷ 0x3f80_0000 ∷ 0xbf80_0000 ∷ 0 ∷ 0xbf00_0000 ∷ 0xbf80_0000 ∷ 0x3f00_0000 ∷ 0xbf80_0000 ∷ [])

abbrev minus_corners : List Float
minus_corners = floats (0x3f80_0000 ∷ 0x8000_0000 ∷ 0x3f00_0000 ∷ 0x3f80_0000 ∷ 0x8000_0000 ∷ 0x3f80_0000 ∷ 0xbf80_0000 ∷ 0x8000_0000 ∷ 0xbf00_0000 ∷ 0xbf80_0000 ∷ 0x8000_0000 ∷ 0xbf80_0000 ∷ [])

abbrev alone : List ℕ
alone = each (λ d. nobody) 6

-- two cells, each the other's neighbour at one side
abbrev pub linked : List ℕ
linked = 1 ∷ nobody ∷ nobody ∷ nobody ∷ nobody ∷ nobody ∷ nobody ∷ nobody ∷ nobody ∷ 0 ∷ nobody ∷ nobody ∷ []

abbrev pub pair : ℕ → ℕ → Grid
pair a b = grid (cell a 0 0 ++ cell b 0x3fc0_0000 0x3f40_0000) linked []

abbrev pub plainly : Grid → Lists
plainly g = lists g [] corners [] []

-- ---- C2: equal neighbours make no side, 1 lower makes one
pub equal-neighbours : map_names bare (pair 0x3f80_0000 0x3f80_0000) ≡ Cap 0 ∷ Cap 1 ∷ []
unfolding opened
equal-neighbours = refl

pub one_lower : map_names bare (pair 0x4000_0000 0x3f80_0000) ≡ Cap 0 ∷ Side 0 0 ∷ Cap 1 ∷ []
unfolding opened
one_lower = refl

-- B13: the four cases of a wall
pub four-cases :
    (wall (job_of default option.Absent heights.OfAll fringe.Bare customs.Absent origin.Centred) (pair 0x4000_0000 0x3f80_0000) 0 0 ≡ SidesOff)
    × (wall bare (pair 0x4000_0000 0x3f80_0000) 0 1 ≡ NothingBeyond)
    × (wall bare (pair 0x4000_0000 0x3f80_0000) 1 3 ≡ AsHigh (bits 0x4000_0000))
    × (wall bare (pair 0x4000_0000 0x3f80_0000) 0 0 ≡ Present (bits 0x3f80_0000))
unfolding opened
four-cases = (refl, refl, refl, refl)

-- a cell that neighbours itself has no side
pub its-own-neighbour : map_names bare (grid (cell 0x4040_0000 0 0) (each (λ d. 0) 6) []) ≡ Cap 0 ∷ []
unfolding opened
its-own-neighbour = refl

-- ---- B8: 0 times a height below 0 is -0, and stays; an origin of zeros makes it +0
abbrev sunk : Lists
sunk = lists (grid (cell 0xbf80_0000 0x8000_0000 0x8000_0000) alone []) [] minus_corners [] []

pub minus-zero-stays :
    positions (map_faces bare sunk)
    ≡ 0x3f80_0000 ∷ 0xbf80_0000 ∷ 0x8000_0000 ∷ 0x3f00_0000 ∷ 0xbf80_0000 ∷ 0x3f80_0000 ∷ 0x8000_0000 ∷ 0xbf80_0000 ∷ 0x3f80_0000
    ∷ 0xbf80_0000 ∷ 0xbf80_0000 ∷ 0x8000_0000 ∷ 0xbf00_0000 ∷ 0xbf80_0000 ∷ 0xbf80_0000 ∷ 0x8000_0000 ∷ 0xbf80_0000 ∷ 0xbf80_0000 ∷ []
unfolding opened
minus-zero-stays = refl

pub zero-origin :
    positions (map_faces (from (v2 f0 f0)) sunk)
    ≡ 0x3f80_0000 ∷ 0xbf80_0000 ∷ 0 ∷ 0x3f00_0000 ∷ 0xbf80_0000 ∷ 0x3f80_0000 ∷ 0 ∷ 0xbf80_0000 ∷ 0x3f80_0000
    ∷ 0xbf80_0000 ∷ 0xbf80_0000 ∷ 0 ∷ 0xbf00_0000 ∷ 0xbf80_0000 ∷ 0xbf80_0000 ∷ 0 ∷ 0xbf80_0000 ∷ 0xbf80_0000 ∷ []
unfolding opened
zero-origin = refl

-- B19: 1/64 is lost beside an offset of 524,288, which the origin then takes off; joined first they would keep it
abbrev apart : HeightMap
apart =
    record {
      caps = default;
      sides = default;
      range = heights.OfAll;
      fringe = fringe.Bare;
      customs = customs.Absent;
      placement = record { scale = choice.Absent; turn = turn.Absent; offset = choice.With (v3 (bits 0x4900_0000) f0 f0) };
      origin = origin.At (v2 (bits 0xc900_0000) f0);
    }

pub origin-by-itself : stood (side_stand apart) (v3 (bits 0x3c80_0000) f1 f1) ≡ v3 f0 f1 f1
unfolding opened
origin-by-itself = refl

-- ---- a side stands on the lower height, with no position added
pub side-stands :
    positions (mesh_of bare (plainly (pair 0x4000_0000 0x3f80_0000)) (Side 0 0) ∷ [])
    ≡ 0x3f00_0000 ∷ 0x3f80_0000 ∷ 0x3f80_0000 ∷ 0x3f00_0000 ∷ 0x4000_0000 ∷ 0x3f80_0000
    ∷ 0x3f80_0000 ∷ 0x4000_0000 ∷ 0 ∷ 0x3f80_0000 ∷ 0x3f80_0000 ∷ 0 ∷ []
unfolding opened
side-stands = refl

-- B16, B17: its v by the range of all heights; by a flat one, with NaN and infinity; by one from 2 down to -2
abbrev side_uvs : HeightMap → List ℕ
side_uvs job = pairs (wall_quad job (pair 0x4000_0000 0x3f80_0000) 0 0).uvs

pub ranges :
    (side_uvs bare ≡ 0x3f80_0000 ∷ 0 ∷ 0x3f80_0000 ∷ 0x3f80_0000 ∷ 0 ∷ 0x3f80_0000 ∷ 0 ∷ 0 ∷ [])
    × (side_uvs (ranged 0x3f80_0000 0x3f80_0000) ≡ 0x3f80_0000 ∷ 0x7fc0_0000 ∷ 0x3f80_0000 ∷ 0x7f80_0000 ∷ 0 ∷ 0x7f80_0000 ∷ 0 ∷ 0x7fc0_0000 ∷ [])
    × (side_uvs (ranged 0x4000_0000 0xc000_0000) ≡ 0x3f80_0000 ∷ 0x3e80_0000 ∷ 0x3f80_0000 ∷ 0x8000_0000 ∷ 0 ∷ 0x8000_0000 ∷ 0 ∷ 0x3e80_0000 ∷ [])
unfolding opened
ranges = (refl, refl, refl)

-- B16: of two equal heights the earlier is kept, and 0 stands for those of no cells
pub equal-heights :
    (span_by heights.OfAll (cell 0x8000_0000 0 0 ++ cell 0 0 0) ≡ record { min = bits 0x8000_0000; max = bits 0x8000_0000 })
    × (span_by heights.OfAll (cell 0 0 0 ++ cell 0x8000_0000 0 0) ≡ record { min = f0; max = f0 })
    × (span_by heights.OfAll [] ≡ record { min = f0; max = f0 })
unfolding opened
equal-heights = (refl, refl, refl)

-- ---- a fringe: which sides are there, which numbers they have, and where they start
abbrev edged : Grid
edged =
    grid (cell 0x4000_0000 0 0 ++ cell 0x3f80_0000 0x3fc0_0000 0x3f40_0000) linked
    (floats (0x4110_0000 ∷ 0x3f00_0000 ∷ 0x4000_0000 ∷ 0x4040_0000 ∷ 0xbf80_0000 ∷ 0 ∷ 0x3f80_0000 ∷ 0 ∷ 0x4000_0000 ∷ 0xc110_0000 ∷ 0x3e80_0000 ∷ 0xbf00_0000 ∷ []))

pub fringe-names : map_names fringed edged ≡ Cap 0 ∷ Side 0 0 ∷ Side 0 1 ∷ Side 0 4 ∷ Side 0 5 ∷ Cap 1 ∷ Side 1 1 ∷ Side 1 4 ∷ Side 1 5 ∷ []
unfolding opened
fringe-names = refl

pub numbers-of-names : map (λ i. number_of fringed edged (name_at fringed edged i)) (each (λ i. i) 9) ≡ each (λ i. i) 9
unfolding opened
numbers-of-names = refl

pub starts :
    (start_by fringed (plainly edged) 5 ≡ counts 22 36) × (cell_start fringed (plainly edged) 1 ≡ counts 22 36) × (map_counts fringed (plainly edged) ≡ counts 40 66)
unfolding opened
starts = (refl, refl, refl)

-- the same as a caller is told it: the last side of the first cell, the cap after it, and no tenth face
pub windows :
    (faces_told fringed (plainly edged) ≡ Ok (record { counts = (counts 40 66); faces = 9 }))
    × (window_told fringed (plainly edged) 4 ≡ Ok (record { counts = (counts 40 66); start = counts 18 30; size = counts 4 6 }))
    × (window_told fringed (plainly edged) 5 ≡ Ok (record { counts = (counts 40 66); start = counts 22 36; size = counts 6 12 }))
    × (window_told fringed (plainly edged) 9 ≡ Err NoFace)
unfolding opened
windows = (refl, refl, refl, refl)

-- ---- B14, B15: a custom option never drops a face, nor does one that is off bring one; both are tested
abbrev chosen_for : List ℕ → Lists
chosen_for us =
    lists (pair 0x4000_0000 0x3f80_0000) us corners
    (floats (0x3f40_0000 ∷ 0x4000_0000 ∷ 0x3e00_0000 ∷ 0xbe80_0000 ∷ 0x3e80_0000 ∷ 0x3f00_0000 ∷ 0x3f60_0000 ∷ 0x3f40_0000 ∷ 0x3e00_0000 ∷ []))
    (1 ∷ 0 ∷ 2 ∷ 0 ∷ [])

abbrev seven : ℕ → ℕ → List ℕ
seven c s = c ∷ s ∷ each (λ i. 255) 12

pub customs-chosen :
    (planned (custom default default) (chosen_for (seven 255 0)) ≡ Ok (counts 20 48))
    × (planned (custom option.Absent (option.With 0)) (chosen_for (seven 0 255)) ≡ Ok (counts 8 24))
    × (planned (custom default option.Absent) (chosen_for (seven 0 0)) ≡ Ok (counts 18 48))
    × (planned (custom default option.Absent) (chosen_for (seven 255 1)) ≡ Err Shape)
    × (planned (custom option.Absent default) (chosen_for (seven 1 255)) ≡ Err Shape)
unfolding opened
customs-chosen = (refl, refl, refl, refl, refl)

-- ---- 1, 2, 3 in their order, each with the faults of those behind it; a list that is not given is not read
abbrev pub faulty : ℕ → ℕ → ℕ → List Float → Lists
faulty n h x fs = lists (grid (cell h 0 0) (n ∷ each (λ d. nobody) 5) fs) [] (each (λ i. f0) x) [] []

pub refusals :
    (planned bare (faulty 1 0x4974_2401 11 []) ≡ Err Shape)
    × (planned bare (faulty 1 0x4974_2401 12 []) ≡ Err Range)
    × (planned bare (faulty 1 0x4974_2400 12 []) ≡ Err Neighbour)
    × (planned bare (faulty 0 0x4974_2400 12 (bits 0x4974_2401 ∷ [])) ≡ Ok (counts 6 12))
    × (planned fringed (faulty 0 0x4974_2400 12 (bits 0x4974_2401 ∷ [])) ≡ Err Shape)
    × (planned fringed (faulty 0 0x4974_2400 12 (each (λ d. bits 0x4974_2401) 6)) ≡ Err Range)
unfolding opened
refusals = (refl, refl, refl, refl, refl, refl)

-- no cells: done, with nothing
pub no_cells : (planned bare (plainly (grid [] [] [])) ≡ Ok (counts 0 0)) × (tested bare (plainly (grid [] [] [])) ≡ Ok (counts 0 0))
unfolding opened
no_cells = (refl, refl)
