-- `narrows`: the difference that wraps tells both ends. Assumes nothing.
use Rattle.std.proofs.Common.{arith}
use mathlib.Core.Bool.{false≢true}
use borrow.Author.Tests.{not-true, eqb-false}
use Rattle.arith.proofs.double.narrows.Goals as goal

pub returns-then-above-lt1134907106097364992 : goal.returns-then-above-lt1134907106097364992
returns-then-above-lt1134907106097364992 c e = let w = c.wrapping_sub_u64-above.ensures.value in
    record { least = omega (arith, w); most = omega (arith, w); untied = eqb-false _ _ (not-true _ e) }

pub returns : goal.returns
returns c e = absurd (false≢true e)
