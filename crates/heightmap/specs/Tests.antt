-- What is tested of a height map before its faces are counted, and its plan; N5, N8, N9, B15, R1 to R3, R11 and R18 are
-- rows of docs/TRACE.md. Definitions only.
use Rattle.std.specs.Prelude.{ℕ, Bool, true, ◌&&◌, List, length, Float}
use Rattle.answer.specs.declared.answer.Refusal.TheVariants.{Shape, Range, Neighbour}
use Rattle.answer.specs.Answers.{Answer}
use Rattle.std.specs.Prelude.{Ok}
use Rattle.answer.specs.Answers.{given}
use Rattle.answer.specs.Checks.{every, in_range, in_range2, all_in_range, exactly, names_option, is_neighbour, cell_count}
use Rattle.placement.specs.Options.{entry_count, is_table, choice_names}
use Rattle.placement.specs.Placing.{placement_in_range}
use Rattle.buffers.specs.Mesh.{measure}
use Rattle.mesh.specs.Jobs.{planned_of}
use Rattle.heightmap.specs.declared.Fringe.{Fringe}
use Rattle.heightmap.specs.declared.Fringe.TheVariants as fringe
use Rattle.heightmap.specs.declared.Customs.{Customs}
use Rattle.heightmap.specs.declared.Customs.TheVariants as customs
use Rattle.heightmap.specs.declared.HeightRange.{HeightRange}
use Rattle.heightmap.specs.declared.HeightRange.TheVariants as heights
use Rattle.heightmap.specs.declared.Origin.{Origin}
use Rattle.heightmap.specs.declared.Origin.TheVariants as origin
use Rattle.heightmap.specs.declared.HeightMap.{HeightMap}
use Rattle.heightmap.specs.Grid.{Grid, cells_in}
use Rattle.heightmap.specs.HeightMap.{Lists, map_faces}

-- ---- R1: the length of every list that is given, the limit on cells, the table, and every option number, used or not
abbrev pub fringe_shape : Fringe → List Float → ℕ → Bool
fringe_shape fringe.Bare fs n = true
fringe_shape fringe.Listed fs n = exactly (length fs) n 6

-- N5
abbrev pub grid_shape : HeightMap → Grid → Bool
grid_shape job g =
    cell_count (cells_in g.cells)
    && (exactly (length g.cells) (cells_in g.cells) 27
    && (exactly (length g.neighbours) (cells_in g.cells) 6
    && fringe_shape job.fringe g.fringe (cells_in g.cells)))

-- B15: the numbers of caps and sides that are off too
abbrev pub customs_shape : Customs → List ℕ → ℕ → ℕ → Bool
customs_shape customs.Absent us n entries = true
customs_shape customs.Listed us n entries = exactly (length us) n 7 && every (λ o. names_option o entries) us

-- N8
abbrev pub all_named : HeightMap → Lists → ℕ → Bool
all_named job ls entries =
    customs_shape job.customs ls.customs (cells_in ls.grid.cells) entries && (choice_names job.caps entries && choice_names job.sides entries)

abbrev pub shape_of : HeightMap → Lists → Bool
shape_of job ls =
    grid_shape job ls.grid
    && (exactly (length ls.corners) 6 2
    && (is_table ls.numbers ls.marks
    && all_named job ls (entry_count ls.marks)))

-- ---- R2: every number that is lent or supplied, used or not
abbrev pub fringe_in_range : Fringe → List Float → Bool
fringe_in_range fringe.Bare fs = true
fringe_in_range fringe.Listed fs = all_in_range fs

abbrev pub heights_in_range : HeightRange → Bool
heights_in_range heights.OfAll = true
heights_in_range (heights.Of a b) = in_range a && in_range b

abbrev pub origin_in_range : Origin → Bool
origin_in_range origin.Centred = true
origin_in_range (origin.At p) = in_range2 p

abbrev pub place_of : HeightMap → Bool
place_of job = heights_in_range job.range && (origin_in_range job.origin && placement_in_range job.placement)

abbrev pub range_of : HeightMap → Lists → Bool
range_of job ls =
    all_in_range ls.grid.cells
    && (fringe_in_range job.fringe ls.grid.fringe
    && (all_in_range ls.corners
    && (all_in_range ls.numbers
    && place_of job)))

-- ---- R3, N9: every neighbour is a cell or none
abbrev pub linked_of : Grid → Bool
linked_of g = every (λ n. is_neighbour n (cells_in g.cells)) g.neighbours

-- ---- R11: 1, 2, 3
abbrev pub checked : HeightMap → Lists → Answer → Answer
checked job ls rest = given (shape_of job ls) Shape (given (range_of job ls) Range (given (linked_of ls.grid) Neighbour rest))

-- the sums over the faces, however great, after 1 to 3 alone
abbrev pub tested : HeightMap → Lists → Answer
tested job ls = checked job ls (Ok (measure (map_faces job ls)))

-- R11, R18: .. then 4
abbrev pub planned : HeightMap → Lists → Answer
planned job ls = planned_of (checked job ls) (map_faces job ls)
