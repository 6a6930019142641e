-- `cell_start`: the walk over the cells before it. Assumes nothing.
use mathlib.Core.Path.{sym, ap, ◌∙◌}
use Rattle.heightmap_plan.specs.declared.tally.Tally.{Tally}
use Rattle.heightmap_plan.specs.declared.tally.Goal.TheVariants.{Cell}
use Rattle.heightmap.specs.HeightMap.{seen}
use Rattle.heightmap_plan.proofs.Walking.{walk-counted}
use Rattle.heightmap_plan.proofs.tally.cell_start.Goals as goal

pub returns-then-is_cell_count : goal.returns-then-is_cell_count
returns-then-is_cell_count c = let a = c.args in let ls = seen a.lists in rw (sym c.is_cell_count.ensures ∙ c.if-is_cell_count.true) (ap (λ (t : Tally). t.counts) (walk-counted a.job ls (Cell 0) a.k _ c.walk_cells.ensures))
