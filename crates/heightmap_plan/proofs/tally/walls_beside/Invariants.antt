-- `walls_beside`: of the sides seen so far, those that stand. Assumes nothing.
use Prim.Native.Nat.{◌≤◌}
use mathlib.Core.Path.{◌≡◌}
use Rattle.placement.specs.declared.options.Choice.TheVariants as option
use Rattle.heightmap.specs.Grid.{seen_grid}
use Rattle.heightmap_plan.specs.Walking.{walls_to}
use Rattle.heightmap_plan.proofs.tally.walls_beside.Given as goal

abbrev pub invariant-loop-d : goal.invariant-loop-d
invariant-loop-d l = (l.d ≤ l.n) × (l.t ≡ walls_to (option.With 0) l.how (seen_grid l.grid) l.k l.d)
