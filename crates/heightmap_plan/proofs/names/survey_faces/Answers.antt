-- `survey_faces`: the cell that the walk finds, and the face in it. Assumes nothing.
use mathlib.Core.Path.{sym, ap₂, ◌∙◌}
use borrow.Author.Tests.{leb-true}
use Rattle.heightmap.specs.HeightMap.{seen}
use Rattle.heightmap_plan.specs.declared.tally.Goal.TheVariants.{Face}
use Rattle.heightmap_plan.specs.Finding.{survey_by}
use Rattle.heightmap_plan.proofs.Walking.{map-counted}
use Rattle.heightmap_plan.proofs.Finding.{not-before, before_small, none_found, left_in, map_found}
use Rattle.heightmap_plan.proofs.names.survey_faces.Goals as goal

pub overflow_sub-left : goal.overflow_sub-left
overflow_sub-left c = let a = c.args in let ls = seen a.lists in not-before a.job ls a.number _ _ c.walk_cells-w.ensures c.cell_count-n.ensures

pub find_in_cell-found-requires : goal.find_in_cell-found-requires
find_in_cell-found-requires c = let a = c.args in let ls = seen a.lists in record { left_in_bounds = left_in a.job ls a.number _ _ c.walk_cells-w.ensures c.cell_count-n.ensures c.if-number-all.true; vertices_bound = before_small a.job ls a.number _ _ c.walk_cells-w.ensures c.cell_count-n.ensures (leb-true _ _ (sym c.is_cell_count.ensures ∙ c.if-not-is_cell_count.false)) }

pub returns-then-number-all : goal.returns-then-number-all
returns-then-number-all c = let a = c.args in let ls = seen a.lists in rw (sym (rw c.cell_count-n.ensures at c.is_cell_count.ensures) ∙ c.if-not-is_cell_count.false) (ap₂ survey_by (map-counted a.job ls (Face a.number) _ _ c.walk_cells-w.ensures c.cell_count-n.ensures) (c.find_in_cell-found.ensures ∙ map_found a.job ls a.number _ _ c.walk_cells-w.ensures c.cell_count-n.ensures c.if-number-all.true))

pub returns : goal.returns
returns c = let a = c.args in let ls = seen a.lists in rw (sym (rw c.cell_count-n.ensures at c.is_cell_count.ensures) ∙ c.if-not-is_cell_count.false) (c.no_face-2.ensures ∙ ap₂ survey_by (map-counted a.job ls (Face a.number) _ _ c.walk_cells-w.ensures c.cell_count-n.ensures) (none_found a.job ls a.number _ _ c.walk_cells-w.ensures c.cell_count-n.ensures c.if-number-all.false))
