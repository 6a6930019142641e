use native.Mathlib.Omega.{arith}
use mathlib.Core.Path.{sym, ◌∙◌}
use lib.ListN.{length-set}
use Rattle.sheet.proofs.Steps.{numbers_more}
use Rattle.sheet.proofs.reading_numbers.Cursor.numbers.Goals as goal

pub loop-i-preserved : goal.loop-i-preserved
loop-i-preserved c = (simp length-set c.loop-i.invariant.0, c.loop-i.invariant.1 ∙ numbers_more _ _ _ _ _ _ _ _ (omega arith) (sym c.loop-i.invariant.0) c.in_ok-place.ensures (rw c.gap.ensures at c.in_ok-mark.ensures))
