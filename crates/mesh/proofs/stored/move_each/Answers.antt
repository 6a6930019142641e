use Rattle.std.proofs.Common.{refl, sym, arith}
use Rattle.buffers.proofs.Laid.{laid-nothing, laying-done}
use Rattle.mesh.proofs.Moving.{moving-more}
use Rattle.mesh.proofs.stored.move_each.Goals as goal

pub loop-k-init : goal.loop-k-init
loop-k-init g c = (c.requires.callable, λ f h. (omega arith, refl, sym (laid-nothing _ _)))

pub loop-k-preserved : goal.loop-k-preserved
loop-k-preserved g c = let P = g.P.Packed in
    (c.loop-k.invariant.0, λ f h. moving-more P.SIZE P.read P.numbers f g.met.P.Packed.sized g.met.P.Packed.own _ _ _ _ _ (c.loop-k.invariant.1 f h) c.loop-k-test.true (cc (h _ _ c.to.ensures, c.put.ensures, c.read.ensures, c.SIZE.ensures)))

pub returns : goal.returns
returns g c f h = laying-done _ _ _ _ _ _ (c.loop-k.invariant.1 f h) c.loop-k-test.false
