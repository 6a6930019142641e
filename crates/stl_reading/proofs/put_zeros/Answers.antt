use native.Mathlib.Omega.{arith}
use mathlib.Core.Path.{refl, sym}
use Rattle.face.specs.Vec.{f0}
use Rattle.buffers.proofs.Laid.{laid-nothing, stored_next, stored-all}
use Rattle.stl_reading.proofs.put_zeros.Goals as goal

pub loop-k-init : goal.loop-k-init
loop-k-init c = (omega arith, refl, sym (laid-nothing _ _))

pub loop-k-preserved : goal.loop-k-preserved
loop-k-preserved c = stored_next (λ j. f0) _ _ c.loop-k.k _ c.loop-k.invariant c.loop-k-test.true

pub returns : goal.returns
returns c = stored-all (λ j. f0) _ _ 0 _ _ c.loop-k.invariant c.loop-k-test.false
