use native.Mathlib.Omega.{arith}
use mathlib.Core.Path.{sym, ◌∙◌}
use Rattle.sheet.proofs.Steps.{digit-below, hex-more, hex-not, hex-room, hex-grown, hex-whole}
use Rattle.sheet.proofs.reading_numbers.Cursor.hex.Goals as goal

pub overflow_mul-value : goal.overflow_mul-value
overflow_mul-value c = omega (arith, hex-room c.loop-k._k c.loop-k.value c.loop-k-test.true c.loop-k.invariant.0)

pub returns-in_err-digit : goal.returns-in_err-digit
returns-in_err-digit c = rw c.from_residual.ensures (hex-not c.loop-k._k c.loop-k.value _ c.loop-k-test.true (c.in_err-digit.ensures.digit) ∙ sym c.loop-k.invariant.1)

pub overflow_add-value : goal.overflow_add-value
overflow_add-value c = omega (arith, c.from.ensures, hex-room c.loop-k._k c.loop-k.value c.loop-k-test.true c.loop-k.invariant.0, digit-below 16 _ _ _ c.in_ok-digit.ensures.digit)

pub loop-k-preserved : goal.loop-k-preserved
loop-k-preserved c = let d = c.in_ok-digit.ensures.digit in
    rw c.from.ensures (hex-grown _ _ _ c.loop-k.invariant.0 (digit-below 16 _ _ _ d), c.loop-k.invariant.1 ∙ hex-more c.loop-k._k c.loop-k.value _ c.loop-k-test.true _ _ d)

pub returns : goal.returns
returns c = sym (c.loop-k.invariant.1 ∙ hex-whole _ _ _ c.loop-k-test.false)
