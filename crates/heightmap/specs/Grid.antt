-- The cells of a height map as they are lent, the range of their heights, and why a side is there or is not; B11 to B16
-- are rows of docs/TRACE.md. Definitions only.
use Rattle.std.specs.Prelude.{ℕ, zero, suc, ◌+◌, ◌*◌, ◌/◌, ◌≡◌, ◌⊎◌, Bool, true, false, cond, List, length, get_or, eqb, Float}
use Rattle.std.specs.Float.{nan}
use Rattle.std.specs.Float.Ieee.{lt}
use Rattle.face.specs.declared.vec.Vec2.{Vec2}
use Rattle.face.specs.Vec.{f0}
use Rattle.placement.specs.declared.options.Choice.{Choice}
use Rattle.placement.specs.declared.options.Choice.TheVariants as option
use Rattle.buffers.specs.Lent.{Shown}
use Rattle.mesh.specs.Stored.{uv_from}
use Rattle.heightmap.specs.declared.Fringe.{Fringe}
use Rattle.heightmap.specs.declared.Fringe.TheVariants as fringe
use Rattle.heightmap.specs.declared.HeightRange.{HeightRange}
use Rattle.heightmap.specs.declared.HeightRange.TheVariants as heights
use Rattle.heightmap.specs.declared.Span.{Span}
use Rattle.heightmap.specs.declared.Wall.{Wall}
use Rattle.heightmap.specs.declared.Wall.TheVariants.{SidesOff, NothingBeyond, AsHigh, Present}
use Rattle.heightmap.specs.declared.HeightMap.{HeightMap}
use Rattle.heightmap.specs.declared.grid.Grid.{Grid as LentGrid}

-- B11, B12: what the layout's owner lends: 27 numbers a cell (height, position, of each side the left end and the right),
-- six neighbours a cell, and six heights a cell beyond the edge
pub record Grid : Type 0 where
  pub cells : List Float
  pub neighbours : List ℕ
  pub fringe : List Float

abbrev pub grid : List Float → List ℕ → List Float → Grid
grid cs ns fs = record { cells = cs; neighbours = ns; fringe = fs }

-- what those lists hold when a call is entered
abbrev pub lent_grid : Shown Float → Shown ℕ → Shown Float → Grid
lent_grid c n f = grid c.entry.now n.entry.now f.entry.now

-- the same of a grid that is lent as one
abbrev pub seen_grid : LentGrid → Grid
seen_grid g = grid g.cells.now g.neighbours.now g.fringe.now

-- ---- how the cells are read: NaN past the end of the list
abbrev pub cells_in : List Float → ℕ
cells_in cs = length cs / 27

abbrev pub height_at : List Float → ℕ → Float
height_at cs k = get_or cs (27 * k) nan

abbrev pub position_at : List Float → ℕ → Vec2
position_at cs k = uv_from cs (27 * k + 1)

abbrev pub left_at : List Float → ℕ → ℕ → Vec2
left_at cs k d = uv_from cs (27 * k + 3 + 4 * d)

abbrev pub right_at : List Float → ℕ → ℕ → Vec2
right_at cs k d = uv_from cs (27 * k + 3 + 4 * d + 2)

-- N9: the number that stands for no neighbour; past the end of the list there is none
abbrev pub nobody : ℕ
nobody = 4294967295

abbrev pub neighbour_at : List ℕ → ℕ → ℕ → ℕ
neighbour_at ns k d = get_or ns (6 * k + d) nobody

abbrev pub fringe_at : List Float → ℕ → ℕ → Float
fringe_at fs k d = get_or fs (6 * k + d) nan

-- ---- B16: the range of all heights: of two equal ones the earlier is kept
abbrev pub lower : Float → Float → Float
lower a b = cond (lt b a) b a

abbrev pub higher : Float → Float → Float
higher a b = cond (lt a b) b a

-- x against h 0, h 1 and so on up to h (n - 1)
abbrev pub kept : (Float → Float → Float) → Float → (ℕ → Float) → ℕ → Float
kept f x h zero = x
kept f x h (suc n) = f (kept f x h n) (h n)

-- the first against all, which keeps it against itself; 0 for no cells
abbrev pub extreme : (Float → Float → Float) → List Float → Float
extreme f cs = cond (eqb (cells_in cs) 0) f0 (kept f (height_at cs 0) (height_at cs) (cells_in cs))

abbrev pub span_by : HeightRange → List Float → Span
span_by heights.OfAll cs = record { min = extreme lower cs; max = extreme higher cs }
span_by (heights.Of a b) cs = record { min = a; max = b }

unfoldable pub span_of : HeightMap → Grid → Span
span_of job g = span_by job.range g.cells

-- ---- B13: a side is there where sides are on and the height beyond it, of the neighbour or of the fringe where the
-- neighbour is none, exists and is below the cell's
abbrev pub against : Float → Float → Wall
against beyond own = cond (lt beyond own) (Present beyond) (AsHigh beyond)

-- where the neighbour is none
abbrev pub edge_by : Fringe → Grid → ℕ → ℕ → Wall
edge_by fringe.Bare g k d = NothingBeyond
edge_by fringe.Listed g k d = against (fringe_at g.fringe k d) (height_at g.cells k)

abbrev pub beside_by : Fringe → Grid → ℕ → ℕ → Wall
beside_by f g k d =
    let n = neighbour_at g.neighbours k d in
    cond (eqb n nobody) (edge_by f g k d) (against (height_at g.cells n) (height_at g.cells k))

abbrev pub wall_by : Choice → Fringe → Grid → ℕ → ℕ → Wall
wall_by option.Absent f g k d = SidesOff
wall_by (option.With o) f g k d = beside_by f g k d

abbrev pub wall : HeightMap → Grid → ℕ → ℕ → Wall
wall job = wall_by job.sides job.fringe

abbrev pub present : Wall → Bool
present SidesOff = false
present NothingBeyond = false
present (AsHigh beyond) = false
present (Present beyond) = true

-- the height that a wall stands on; of one that is not there, the height beyond it, or NaN
abbrev pub foot_of : Wall → Float
foot_of SidesOff = nan
foot_of NothingBeyond = nan
foot_of (AsHigh beyond) = beyond
foot_of (Present beyond) = beyond

-- ---- B13 in words
abbrev pub On : Choice → Type 0
On option.Absent = ⊥
On (option.With o) = Unit {0}

-- x is the height beyond a side that has no neighbour, and beyond any side
abbrev pub BeyondEdge : Fringe → Grid → ℕ → ℕ → Float → Type 0
BeyondEdge fringe.Bare g k d x = ⊥
BeyondEdge fringe.Listed g k d x = x ≡ fringe_at g.fringe k d

abbrev pub Beyond : Fringe → Grid → ℕ → ℕ → Float → Type 0
Beyond f g k d x =
    let n = neighbour_at g.neighbours k d in
    ((n ≡ nobody → ⊥) × (x ≡ height_at g.cells n)) ⊎ ((n ≡ nobody) × BeyondEdge f g k d x)

-- sides are on, and the height beyond exists and is below the cell's
pub record Lower (job : HeightMap) (g : Grid) (k d : ℕ) : Type 0 where
  pub on : On job.sides
  pub height : Float
  pub beyond : Beyond job.fringe g k d height
  pub below : lt height (height_at g.cells k) ≡ true
