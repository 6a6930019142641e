use mathlib.Core.Path.{refl}
use Rattle.buffers.proofs.Laid.{laying-none, laying-more, laying-done}
use Rattle.buffers.proofs.laying.put_stood.Goals as goal

pub loop-k-preserved : goal.loop-k-preserved
loop-k-preserved g c = laying-more _ 3 (λ k. refl) _ _ _ _ _ _ c.loop-k.invariant c.loop-k-test.true (rw c.stand_point.ensures at c.put.ensures)

pub returns : goal.returns
returns g c = laying-done _ _ _ _ _ _ c.loop-k.invariant c.loop-k-test.false

pub loop-k-init : goal.loop-k-init
loop-k-init g c = laying-none _ _ _
