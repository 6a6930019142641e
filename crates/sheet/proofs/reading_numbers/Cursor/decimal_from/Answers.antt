use native.Mathlib.Omega.{arith}
use mathlib.Core.Path.{sym, ◌∙◌}
use Rattle.sheet.proofs.Steps.{digit-shorter, decimal-stop, decimal-more, decimal-over}
use Rattle.sheet.proofs.reading_numbers.Cursor.decimal_from.Goals as goal

pub returns-in_err-checked_mul : goal.returns-in_err-checked_mul
returns-in_err-checked_mul c = rw c.from_residual.ensures (sym (c.loop-d.invariant ∙ decimal-over _ _ _ _ c.in-Some.ensures.digit (omega arith)))

pub returns-in_err-value : goal.returns-in_err-value
returns-in_err-value c = rw c.from_residual-in_err-value.ensures (sym (c.loop-d.invariant ∙ decimal-over _ _ _ _ c.in-Some.ensures.digit (omega arith)))

pub loop-d-smaller : goal.loop-d-smaller
loop-d-smaller c = digit-shorter _ _ _ c.in-Some.ensures.digit

pub loop-d-preserved : goal.loop-d-preserved
loop-d-preserved c = let m = c.in_ok-checked_mul.ensures in
    let a = c.in_ok-value.ensures in
    c.loop-d.invariant ∙ rw (a.1, m.1, c.from.ensures) (decimal-more _ _ _ _ c.in-Some.ensures.digit (omega arith))

pub returns : goal.returns
returns c = let s = c.in_default.ensures in rw (s.kept) (sym (c.loop-d.invariant ∙ decimal-stop _ _ s.digit))
