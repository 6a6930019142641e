-- How a map's faces are counted in one walk over its cells, which also finds a cell: that of a face, or one by its number.
-- Speed alone asks for it, and proofs/Walking.antt says that it comes to the counts and the names. Definitions only.
use Rattle.std.specs.Prelude.{ℕ, zero, suc, ◌+◌, ◌*◌, Bool, false, cond, List, length, get_or, leb, Float}
use Rattle.std.specs.Float.{nan}
use Rattle.std.specs.Float.Ieee.{lt}
use Rattle.face.specs.declared.triangle.Counts.{Counts}
use Rattle.face.specs.Lists.{chain}
use Rattle.face.specs.Triangles.{counts, inset_counts}
use Rattle.answer.specs.Checks.{cell_count}
use Rattle.placement.specs.declared.options.Choice.{Choice}
use Rattle.placement.specs.declared.options.Choice.TheVariants as option
use Rattle.placement.specs.Options.{option_for}
use Rattle.buffers.specs.Mesh.{none, also, summed}
use Rattle.heightmap.specs.declared.Fringe.{Fringe}
use Rattle.heightmap.specs.declared.Fringe.TheVariants as fringe
use Rattle.heightmap.specs.declared.HeightMap.{HeightMap}
use Rattle.heightmap_plan.specs.declared.tally.Goal.{Goal}
use Rattle.heightmap_plan.specs.declared.tally.Goal.TheVariants.{Face, Cell}
use Rattle.heightmap_plan.specs.declared.tally.Tally.{Tally}
use Rattle.heightmap_plan.specs.declared.tally.Walk.{Walk}
use Rattle.heightmap.specs.Grid.{Grid, cells_in, wall_by, present}
use Rattle.heightmap.specs.HeightMap.{Lists, cap_names, side_names, cell_names, map_names}
use Rattle.heightmap.specs.Counts.{cap_counts, side_counts, cell_counts, cell_start, map_counts}
use Rattle.heightmap.specs.Names.{faces_before}

-- ---- how many faces, and what they take
abbrev pub tally_by : ℕ → Counts → Tally
tally_by n c = record { faces = n; counts = c }

abbrev pub both : Tally → Tally → Tally
both a b = tally_by (a.faces + b.faces) (also a.counts b.counts)

abbrev pub cap_tally : HeightMap → Lists → ℕ → Tally
cap_tally job ls k = tally_by (length (cap_names job.caps k)) (cap_counts job ls k)

abbrev pub side_tally : HeightMap → Lists → ℕ → ℕ → Tally
side_tally job ls k d = tally_by (length (side_names job ls.grid k d)) (side_counts job ls k d)

-- the first d sides of a cell
abbrev pub sides_tally : HeightMap → Lists → ℕ → ℕ → Tally
sides_tally job ls k d = tally_by (length (chain (side_names job ls.grid k) d)) (summed (side_counts job ls k) d)

abbrev pub cell_tally : HeightMap → Lists → ℕ → Tally
cell_tally job ls k = tally_by (length (cell_names job ls.grid k)) (cell_counts job ls k)

-- the first k cells
abbrev pub tally_to : HeightMap → Lists → ℕ → Tally
tally_to job ls k = tally_by (faces_before job ls.grid k) (cell_start job ls k)

-- the whole map; nothing where it has too many cells
abbrev pub tally_of : HeightMap → Lists → Tally
tally_of job ls =
    cond (cell_count (cells_in ls.grid.cells)) (tally_by (length (map_names job ls.grid)) (map_counts job ls)) (tally_by 0 none)

-- ---- the walk: all so far, and the last cell at or before what is looked for, with what lies before it
abbrev pub up_to : Goal → ℕ → ℕ → Bool
up_to (Face number) k faces = leb faces number
up_to (Cell cell) k faces = leb k cell

abbrev pub walk_by : {T : Type 0} → T → ℕ → T → Walk T
walk_by all cell before = record { all = all; cell = cell; before = before }

-- at a cell with so many faces before it
abbrev pub marked_at : {T : Type 0} → Walk T → ℕ → ℕ → Goal → Walk T
marked_at w k faces goal = cond (up_to goal k faces) (walk_by w.all k w.all) w

abbrev pub marked : Walk Tally → ℕ → Goal → Walk Tally
marked w k goal = marked_at w k w.all.faces goal

abbrev pub grown : Walk Tally → Tally → Walk Tally
grown w t = walk_by (both w.all t) w.cell w.before

abbrev pub walked : HeightMap → Lists → Goal → ℕ → Walk Tally
walked job ls goal zero = walk_by (tally_by 0 none) 0 (tally_by 0 none)
walked job ls goal (suc k) = grown (marked (walked job ls goal k) k goal) (cell_tally job ls k)

-- ---- where no face has an option of its own, the walls are counted and their counts multiplied
abbrev pub added : (ℕ → ℕ) → ℕ → ℕ
added f zero = 0
added f (suc n) = added f n + f n

abbrev pub one_if : Bool → ℕ
one_if b = cond b 1 0

abbrev pub edge_stands : Fringe → List Float → ℕ → Float → Bool
edge_stands fringe.Bare fs i own = false
edge_stands fringe.Listed fs i own = lt (get_or fs i nan) own

-- how many of the first d sides of a cell stand
abbrev pub walls_to : Choice → Fringe → Grid → ℕ → ℕ → ℕ
walls_to sides how g k = added (λ d. one_if (present (wall_by sides how g k d)))

-- the caps of the first k cells
abbrev pub caps_in : Choice → ℕ → ℕ
caps_in option.Absent k = 0
caps_in (option.With o) k = k

-- a walk that counts walls alone
abbrev pub Walls : Type 0
Walls = Walk ℕ

abbrev pub marked_walls : Choice → Walls → ℕ → Goal → Walls
marked_walls caps w k goal = marked_at w k (caps_in caps k + w.all) goal

abbrev pub grown_walls : Walls → ℕ → Walls
grown_walls w n = walk_by (w.all + n) w.cell w.before

abbrev pub walked_walls : Choice → Choice → Fringe → Grid → Goal → ℕ → Walls
walked_walls caps sides how g goal zero = walk_by 0 0 0
walked_walls caps sides how g goal (suc k) =
    grown_walls (marked_walls caps (walked_walls caps sides how g goal k) k goal) (walls_to sides how g k 6)

abbrev pub many : ℕ → Counts → Counts
many n c = counts (n * c.vertices.0) (n * c.indices.0)

abbrev pub own_cap : HeightMap → Lists → Counts
own_cap job ls = inset_counts (option_for ls.numbers ls.marks job.caps).inset 6 4

abbrev pub own_wall : HeightMap → Lists → Counts
own_wall job ls = inset_counts (option_for ls.numbers ls.marks job.sides).inset 4 2

-- k cells with so many walls
abbrev pub own_tally : HeightMap → Lists → ℕ → ℕ → Tally
own_tally job ls k walls =
    tally_by (caps_in job.caps k + walls) (also (many (caps_in job.caps k) (own_cap job ls)) (many walls (own_wall job ls)))

abbrev pub own_walk : HeightMap → Lists → Walls → ℕ → Walk Tally
own_walk job ls w n = walk_by (own_tally job ls n w.all) w.cell (own_tally job ls w.cell w.before)
