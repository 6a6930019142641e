-- `cell_tally`: the sides seen so far, and the cap before them. Assumes nothing.
use Prim.Native.Nat.{◌≤◌}
use mathlib.Core.Path.{◌≡◌}
use Rattle.heightmap.specs.HeightMap.{seen}
use Rattle.heightmap_plan.specs.Walking.{sides_tally}
use Rattle.heightmap_plan.proofs.tally.cell_tally.Given as goal

abbrev pub invariant-loop-d : goal.invariant-loop-d
invariant-loop-d l = (l.d ≤ 6) × (l.t ≡ sides_tally l.job (seen l.lists) l.k l.d)
