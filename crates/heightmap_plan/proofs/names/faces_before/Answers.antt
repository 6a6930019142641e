-- `faces_before`: the caps and the walls before it. Assumes nothing.
use Prim.Native.Nat.{◌*◌, ◌≤◌}
use mathlib.Core.Path.{sym}
use native.Mathlib.Omega.{arith}
use Rattle.heightmap.specs.Grid.{seen_grid}
use Rattle.heightmap_plan.specs.declared.tally.Goal.TheVariants.{Cell}
use Rattle.heightmap_plan.proofs.Walking.{caps-most, walls-few}
use Rattle.heightmap_plan.proofs.Finding.{faces-walked}
use Rattle.heightmap_plan.proofs.names.faces_before.Goals as goal

pub overflow_add-result : goal.overflow_add-result
overflow_add-result c = let a = c.args in let g = seen_grid a.grid in let w = walls-few a.job.caps a.job.sides a.job.fringe g (Cell 0) a.k in let h : c.walk_walls-w.result.all ≤ 6 * a.k = rw c.walk_walls-w.ensures w.all in let m = caps-most a.job.caps a.k in let b = c.requires in omega (arith, c.caps_in.ensures)

pub returns : goal.returns
returns c = let a = c.args in let g = seen_grid a.grid in let w = walls-few a.job.caps a.job.sides a.job.fringe g (Cell 0) a.k in let h : c.walk_walls-w.result.all ≤ 6 * a.k = rw c.walk_walls-w.ensures w.all in let m = caps-most a.job.caps a.k in let b = c.requires in record { sum = rw (c.caps_in.ensures, c.walk_walls-w.ensures) (sym (faces-walked a.job g (Cell 0) a.k)); small = omega (arith, c.caps_in.ensures) }
