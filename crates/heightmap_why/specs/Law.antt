-- What each reason says, and which of them is told; L3e is a row of docs/TRACE.md. Definitions only.
use Rattle.std.specs.Prelude.{◌≡◌, false, ℕ, ◌<◌}
use Rattle.std.specs.Float.Ieee.{lt}
use Rattle.placement.specs.declared.options.Choice.TheVariants as option
use Rattle.heightmap.specs.declared.Fringe.TheVariants as fringe
use Rattle.heightmap.specs.declared.Name.TheVariants.{Side}
use Rattle.heightmap.specs.declared.HeightMap.{HeightMap}
use Rattle.heightmap.specs.Grid.{Grid, height_at, nobody, neighbour_at, Beyond}
use Rattle.heightmap.specs.Names.{NamedAt}
use Rattle.heightmap_why.specs.declared.Reason.{Reason}
use Rattle.heightmap_why.specs.declared.Reason.TheVariants.{SidesOff, NothingBeyond, AsHigh, Present}
use Rattle.heightmap_why.specs.Why.{reason_code}

-- L3e: what each reason says, by itself; in a job that is taken, not below is as high or higher (Calls.told-as-high)
abbrev pub Says : HeightMap → Grid → ℕ → ℕ → Reason → Type 0
Says job g k d SidesOff = job.sides ≡ option.Absent
Says job g k d NothingBeyond = (neighbour_at g.neighbours k d ≡ nobody) × (job.fringe ≡ fringe.Bare)
Says job g k d (AsHigh x) = Beyond job.fringe g k d x × (lt x (height_at g.cells k) ≡ false)
Says job g k d (Present i) = NamedAt job g i (Side k d)

-- L3e: the first that holds, in the order of the tests
pub record First (job : HeightMap) (g : Grid) (k d : ℕ) (r : Reason) : Type 0 where
  pub says : Says job g k d r
  pub first : (s : Reason) → reason_code s < reason_code r → Says job g k d s → ⊥
