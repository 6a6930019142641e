-- `tally_all`: the walk over all cells. Assumes nothing.
use mathlib.Core.Path.{sym, ◌∙◌}
use Rattle.heightmap_plan.specs.declared.tally.Goal.TheVariants.{Cell}
use Rattle.heightmap.specs.HeightMap.{seen}
use Rattle.heightmap_plan.proofs.Walking.{map-counted}
use Rattle.heightmap_plan.proofs.tally.tally_all.Goals as goal

pub returns-then-is_cell_count : goal.returns-then-is_cell_count
returns-then-is_cell_count c = let a = c.args in let ls = seen a.lists in rw (sym (rw c.cell_count-n.ensures at c.is_cell_count.ensures) ∙ c.if-is_cell_count.true) (map-counted a.job ls (Cell 0) _ _ c.walk_cells.ensures c.cell_count-n.ensures)
