-- `survey_side`: the walk over all cells, with what lies before the side's. Assumes nothing.
use mathlib.Core.Path.{sym, ◌∙◌}
use borrow.Author.Tests.{leb-true, lt-ltb, le-ltb}
use Rattle.heightmap.specs.HeightMap.{seen}
use Rattle.heightmap_plan.proofs.Finding.{side_before, all-walked, side-placed, no_cell_lem}
use Rattle.heightmap_plan.proofs.names.survey_side.Goals as goal

pub number_after-number-requires : goal.number_after-number-requires
number_after-number-requires c = let a = c.args in
    let ls = seen a.lists in let whole = side_before a.job ls a.k _ _ c.walk_cells-w.ensures c.if-k-n.true
    (leb-true _ _ (sym c.is_cell_count.ensures ∙ c.if-not-is_cell_count.false)) in record { k_bound = whole.0; from_value = whole.1 }

pub returns-then-k-n : goal.returns-then-k-n
returns-then-k-n c = let a = c.args in
    let ls = seen a.lists in
    let n = c.cell_count-n.ensures in
    let few = sym (rw n at c.is_cell_count.ensures) ∙ c.if-not-is_cell_count.false in
    side-placed a.job ls a.k a.d _ (all-walked a.job ls a.k _ _ c.walk_cells-w.ensures n few) _ few (rw n at (lt-ltb _ _ c.if-k-n.true)) c.number_after-number.ensures

pub returns : goal.returns
returns c = let a = c.args in
    let ls = seen a.lists in
    let n = c.cell_count-n.ensures in
    let few = sym (rw n at c.is_cell_count.ensures) ∙ c.if-not-is_cell_count.false in
    no_cell_lem a.job ls a.k a.d _ (all-walked a.job ls a.k _ _ c.walk_cells-w.ensures n few) (rw n at (le-ltb _ _ c.if-k-n.false))
