use Rattle.buffers.proofs.Laid.{laying-none, laying-more, laying-done}
use mathlib.Core.Path.{refl}
use Rattle.buffers.proofs.laying.put_normals.Goals as goal

pub loop-k-preserved : goal.loop-k-preserved
loop-k-preserved c = laying-more _ 3 (λ k. refl) _ _ _ _ _ _ c.loop-k.invariant c.loop-k-test.true c.put.ensures

pub returns : goal.returns
returns c = laying-done _ _ _ _ _ _ c.loop-k.invariant c.loop-k-test.false

pub loop-k-init : goal.loop-k-init
loop-k-init c = laying-none _ _ _
