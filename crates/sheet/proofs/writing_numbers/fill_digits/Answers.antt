use native.Mathlib.Omega.{arith}
use mathlib.Core.Path.{◌≡◌}
use lib.ListN.{length-set}
use Rattle.sheet.specs.Digits.{digits}
use Rattle.sheet.proofs.Numerals.{digit-written}
use Rattle.sheet.proofs.writing_numbers.fill_digits.Goals as goal

pub loop-k-preserved : goal.loop-k-preserved
loop-k-preserved c = let s = c.loop-k in
    (simp length-set s.invariant.0, digit-written _ _ _ _ _ _ (omega arith) (omega arith) c.digit.ensures s.invariant.1)

pub returns : goal.returns
unfolding digits
returns c = let e : c.loop-k.k ≡ 0 = omega arith in rw e at c.loop-k.invariant.1
