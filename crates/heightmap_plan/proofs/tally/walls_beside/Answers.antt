use Prim.Native.Nat.{suc}
use mathlib.Core.Path.{◌≡◌, ap, ◌∙◌}
use native.Mathlib.Omega.{arith}
use Rattle.placement.specs.declared.options.Choice.TheVariants as option
use Rattle.heightmap.specs.Grid.{seen_grid}
use Rattle.heightmap_plan.specs.Walking.{walls_to}
use Rattle.heightmap_plan.proofs.Walking.{walls-most, byte-is}
use Rattle.heightmap_plan.proofs.tally.walls_beside.Goals as goal

pub overflow_add-t : goal.overflow_add-t
overflow_add-t c = let a = c.args in let i = c.loop-d in rw (i.invariant.1, c.stands.ensures, byte-is) (omega (arith, walls-most (option.With 0) a.how (seen_grid a.grid) a.k (suc i.d)))

pub returns : goal.returns
returns c = let a = c.args in let i = c.loop-d in let g = seen_grid a.grid in let e : i.d ≡ a.n = omega arith in let r = i.invariant.1 ∙ ap (walls_to (option.With 0) a.how g a.k) e in record { sum = r; small = rw r (walls-most (option.With 0) a.how g a.k a.n) }
