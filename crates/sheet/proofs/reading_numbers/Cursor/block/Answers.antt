-- `block`: at most six lines, so their numbers fit the places. Assumes nothing.
use native.Mathlib.Omega.{arith}
use Rattle.sheet.proofs.Steps.{block-not, block-read}
use Rattle.sheet.proofs.reading_numbers.Cursor.block.Goals as goal

pub returns-in_err-numbers : goal.returns-in_err-numbers
returns-in_err-numbers g c = rw c.from_residual-in_err-numbers.ensures (block-not _ _ _ _ _ _ c.in_ok-lines.ensures (omega arith) c.requires.1 c.in_err-numbers.ensures)

pub returns : goal.returns
returns g c = block-read _ _ _ _ _ _ c.in_ok-lines.ensures (omega arith) c.requires.1 _ _ c.in_ok-numbers.ensures
