-- `need_for`: a quotient tells whether the product fits. Assumes nothing.
use Prim.Native.Nat.{◌*◌}
use native.Mathlib.Omega.{arith}
use borrow.Author.Tests.{leb-true}
use Rattle.answer.proofs.Laws.{roomy, short}
use Rattle.answer.proofs.answer.need_for.Goals as goal

pub returns-then-vertices-each : goal.returns-then-vertices-each
returns-then-vertices-each c = simp (short _ _ _ (omega (arith, c)) c.if-vertices-each.true)

pub overflow_mul-result : goal.overflow_mul-result
overflow_mul-result c = record { fits = omega (arith, leb-true (c.args.each * c.args.vertices) 18446744073709551615 (roomy c.args.each c.args.vertices 18446744073709551615 (omega (arith, c)) c.if-vertices-each.false)) }

pub returns : goal.returns
returns c = simp (roomy _ _ _ (omega (arith, c)) c.if-vertices-each.false)
