-- `face_count`: all lie before the cell after the last. Assumes nothing.
use mathlib.Core.Path.{sym, ◌∙◌}
use Rattle.heightmap.specs.Grid.{seen_grid}
use Rattle.heightmap_plan.proofs.Finding.{map-faces}
use Rattle.heightmap_plan.proofs.names.face_count.Goals as goal

pub returns-then-is_cell_count : goal.returns-then-is_cell_count
returns-then-is_cell_count c = let a = c.args in let g = seen_grid a.grid in rw (sym (rw c.cell_count-n.ensures at c.is_cell_count.ensures) ∙ c.if-is_cell_count.true) (c.faces_before.ensures.sum ∙ map-faces a.job g _ c.cell_count-n.ensures)
