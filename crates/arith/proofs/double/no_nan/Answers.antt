-- `no_nan`: a NaN alone differs from itself. Assumes nothing.
use mathlib.Core.Bool.{false≢true}
use Rattle.arith.proofs.ByDouble.{equals_itself}
use Rattle.arith.proofs.RootCases.{same}
use Rattle.arith.proofs.double.no_nan.Goals as goal

pub returns-then-a : goal.returns-then-a
returns-then-a c e = absurd (false≢true e)

pub returns-then-b : goal.returns-then-b
returns-then-b c e = absurd (false≢true e)

pub returns : goal.returns
returns c e = (same _ c.if-a.false, same _ c.if-b.false, equals_itself _ e)
