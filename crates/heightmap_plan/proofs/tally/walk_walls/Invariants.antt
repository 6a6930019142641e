-- `walk_walls`: the walls of the cells seen so far. Assumes nothing.
use Prim.Native.Nat.{◌≤◌}
use mathlib.Core.Path.{◌≡◌}
use Rattle.heightmap.specs.Grid.{seen_grid}
use Rattle.heightmap_plan.specs.Walking.{walked_walls}
use Rattle.heightmap_plan.proofs.tally.walk_walls.Given as goal

abbrev pub invariant-loop-k : goal.invariant-loop-k
invariant-loop-k l = (l.k ≤ l.n) × (l.w ≡ walked_walls l.job.caps l.job.sides l.job.fringe (seen_grid l.grid) l.goal l.k)
