use native.Mathlib.Omega.{arith}
use Rattle.heightmap.specs.Grid.{seen_grid}
use Rattle.heightmap_plan.specs.Walking.{walked_walls}
use Rattle.heightmap_plan.proofs.Walking.{caps-most, marked-few, walls-few}
use Rattle.heightmap_plan.proofs.tally.walk_walls.Goals as goal

pub overflow_add-caps_in : goal.overflow_add-caps_in
overflow_add-caps_in c = let a = c.args in let g = seen_grid a.grid in let i = c.loop-k in let h = walls-few a.job.caps a.job.sides a.job.fringe g a.goal i.k in rw i.invariant.1 (omega (arith, c.requires, i.invariant.0, h.all, c.caps_in.ensures, caps-most a.job.caps i.k))

pub overflow_add-w : goal.overflow_add-w
overflow_add-w c = let a = c.args in let g = seen_grid a.grid in let i = c.loop-k in let v = walked_walls a.job.caps a.job.sides a.job.fringe g a.goal i.k in let h = marked-few a.job.caps v i.k a.goal (walls-few a.job.caps a.job.sides a.job.fringe g a.goal i.k) in rw (c.mark-m.ensures, c.caps_in.ensures, i.invariant.1) (omega (arith, c.requires, i.invariant.0, h.all, c.cell_walls.ensures.small))
