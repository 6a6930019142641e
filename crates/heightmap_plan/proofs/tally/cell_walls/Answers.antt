-- `cell_walls`: none where sides are off. Assumes nothing.
use mathlib.Core.Path.{sym}
use native.Mathlib.Omega.{arith}
use Rattle.heightmap.specs.Grid.{seen_grid}
use Rattle.heightmap_plan.proofs.Walking.{no-walls}
use Rattle.heightmap_plan.proofs.tally.cell_walls.Goals as goal

pub returns-in-Absent : goal.returns-in-Absent
returns-in-Absent c = let a = c.args in let g = seen_grid a.grid in record { sum = rw c.in-Absent.is (sym (no-walls a.job.fringe g a.k a.n)); small = omega arith }
