-- `plan`: the shape, then the numbers, then the limit. Assumes nothing.
use Rattle.std.proofs.Common.{true, false, sym, ◌∙◌}
use Rattle.column.specs.Column.{lists}
use Rattle.column.proofs.Counts.{misshapen, range-decides}
use Rattle.column.proofs.plan.Goals as goal

pub returns-then-is_in_range : goal.returns-then-is_in_range
returns-then-is_in_range c = let a = c.args in
    (rw c.column_counts.ensures at c.limit.ensures)
    ∙ range-decides a.job (lists a.pairs.now a.corners.now a.numbers.now a.marks.now) (sym c.is_shape.ensures ∙ c.if-is_shape.true) true (sym c.is_in_range.ensures ∙ c.if-is_in_range.true)

pub returns-then-is_shape : goal.returns-then-is_shape
returns-then-is_shape c = let a = c.args in
    range-decides a.job (lists a.pairs.now a.corners.now a.numbers.now a.marks.now) (sym c.is_shape.ensures ∙ c.if-is_shape.true) false (sym c.is_in_range.ensures ∙ c.if-is_in_range.false)

pub returns : goal.returns
returns c = let a = c.args in
    misshapen a.job (lists a.pairs.now a.corners.now a.numbers.now a.marks.now) (sym c.is_shape.ensures ∙ c.if-is_shape.false)
