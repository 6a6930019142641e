-- `plan`: the shape, then the numbers, then the limit. Assumes nothing.
use mathlib.Core.Bool.{true, false}
use mathlib.Core.Path.{sym, ◌∙◌}
use Rattle.plane_builder.specs.Plane.{lists}
use Rattle.plane_builder.proofs.Laws.{plane-counts, misshapen, range-decides}
use Rattle.plane_builder.proofs.plan.Goals as goal

pub returns-then-is_in_range : goal.returns-then-is_in_range
returns-then-is_in_range c = let a = c.args in
    let ls = lists a.corners.now a.numbers.now a.marks.now in
    (rw (c.counts_of.ensures, c.option_at-o.ensures) at c.limit.ensures)
    ∙ plane-counts a.job ls
    ∙ range-decides a.job ls (sym c.is_shape.ensures ∙ c.if-is_shape.true) true (sym c.is_in_range.ensures ∙ c.if-is_in_range.true)

pub returns-then-is_shape : goal.returns-then-is_shape
returns-then-is_shape c = let a = c.args in
    let ls = lists a.corners.now a.numbers.now a.marks.now in
    range-decides a.job ls (sym c.is_shape.ensures ∙ c.if-is_shape.true) false (sym c.is_in_range.ensures ∙ c.if-is_in_range.false)

pub returns : goal.returns
returns c = let a = c.args in
    let ls = lists a.corners.now a.numbers.now a.marks.now in
    misshapen a.job ls (sym c.is_shape.ensures ∙ c.if-is_shape.false)
