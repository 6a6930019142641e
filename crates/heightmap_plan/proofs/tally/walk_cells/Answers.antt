-- `walk_cells`: the walls alone, where no face has an option of its own. Assumes nothing.
use mathlib.Core.Path.{◌∙◌}
use native.Mathlib.Omega.{arith}
use Rattle.heightmap.specs.HeightMap.{seen}
use Rattle.heightmap_plan.proofs.Walking.{walls-few, own-walk}
use Rattle.heightmap_plan.proofs.tally.walk_cells.Goals as goal

pub walk_own-requires : goal.walk_own-requires
walk_own-requires c = let a = c.args in let g = (seen a.lists).grid in let h = walls-few a.job.caps a.job.sides a.job.fringe g a.goal a.n in let b = c.requires in record { n_bound = rw c.walk_walls.ensures (b, omega arith); cell_bound = rw c.walk_walls.ensures (omega arith, omega arith) }

pub returns-in-Absent : goal.returns-in-Absent
returns-in-Absent c = let a = c.args in let ls = seen a.lists in (rw c.walk_walls.ensures at c.walk_own.ensures) ∙ own-walk a.job ls c.in-Absent.is a.goal a.n
