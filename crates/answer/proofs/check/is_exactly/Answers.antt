-- `is_exactly`: whole entries are told by the remainder and the quotient. Assumes nothing.
use native.Mathlib.Omega.{arith}
use borrow.Author.Tests.{ne_eqb}
use Rattle.answer.proofs.Laws.{fills-not}
use Rattle.answer.proofs.check.is_exactly.Goals as goal

pub returns-else-numbers-each-eq0 : goal.returns-else-numbers-each-eq0
returns-else-numbers-each-eq0 c = rw (ne_eqb _ _ c.if-numbers-each-eq0.false, fills-not _ _ _ (omega arith) c.if-numbers-each-eq0.false)
