-- A height map whose cells are handed over as a list of records; B12 and O9 are rows of docs/TRACE.md. Definitions only.
use Rattle.std.specs.Prelude.{ℕ, ◌*◌, ◌≡◌, List, [], ◌∷◌, length, take, Float}
use Rattle.heightmap.specs.declared.HeightMap.{HeightMap}
use Rattle.heightmap.specs.Grid.{Grid, grid}
use Rattle.heightmap.specs.HeightMap.{lists}
use Rattle.cells.specs.declared.Cell.{Cell}
use Rattle.cells.specs.Cells.{flat_numbers, flat_neighbours}
use Rattle.demands.specs.Job.{Job, OfMap}

-- the records as flat lists, beside the fringe heights
abbrev pub flat : List Cell → List Float → Grid
flat cs fs = grid (flat_numbers cs) (flat_neighbours cs) fs

-- the job of the records, with its customs, corners and table
abbrev pub of_records : HeightMap → List Cell → List Float → List ℕ → List Float → List Float → List ℕ → Job
of_records job cs fs us ps ks ms = OfMap job (lists (flat cs fs) us ps ks ms)

-- the job that a caller has who lends the first 27 and 6 numbers a cell of two lists
abbrev pub of_parts : HeightMap → ℕ → List Float → List ℕ → List Float → List ℕ → List Float → List Float → List ℕ → Job
of_parts job n l m fs us ps ks ms = OfMap job (lists (grid (take (27 * n) l) (take (6 * n) m) fs) us ps ks ms)

-- a record's arrays have their lengths, as those of every record that is lent have
abbrev pub Whole : Cell → Type 0
Whole c = (length c.ends ≡ 24) × (length c.neighbours ≡ 6)

abbrev pub AllWhole : List Cell → Type 0
AllWhole [] = Unit {0}
AllWhole (c ∷ cs) = Whole c × AllWhole cs
