use native.Mathlib.Omega.{arith}
use Prim.Native.Nat.{◌+◌}
use mathlib.Core.Path.{refl, sym}
use Rattle.buffers.proofs.Laid.{laid-nothing, copied_more, copied_all}
use Rattle.merge.proofs.copy_after.Goals as goal

pub loop-k-init : goal.loop-k-init
loop-k-init c = (omega arith, refl, sym (laid-nothing _ _))

pub loop-k-preserved : goal.loop-k-preserved
loop-k-preserved c = copied_more (λ x. c.args.b.0 + x) c.args.numbers.now 0 _ _ _ _ c.loop-k.invariant c.loop-k-test.true

pub returns : goal.returns
returns c = copied_all (λ x. c.args.b.0 + x) c.args.numbers.now 0 _ _ _ _ c.loop-k.invariant c.loop-k-test.false
