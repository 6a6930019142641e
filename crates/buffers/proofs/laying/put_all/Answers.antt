use borrow.Author.Rules.{rules}
use native.Mathlib.Omega.{arith}
use mathlib.Core.Path.{◌≡◌}
use Prim.Native.Nat.{◌<◌}
use lib.ListN.{length}
use Rattle.std.proofs.lemmas.List.{get_or_default}
use Rattle.buffers.proofs.Laid.{laying-none, laying-more, laying-done}
use Rattle.buffers.proofs.laying.put_all.Goals as goal

pub returns : goal.returns
returns g c = laying-done _ _ _ _ _ _ c.loop-k.invariant c.loop-k-test.false

pub loop-k-init : goal.loop-k-init
loop-k-init g c = laying-none _ _ _

pub loop-k-preserved : goal.loop-k-preserved
loop-k-preserved g c = let a = c.args in
    let l : length a.ps ≡ g.row.N = search rules in
    let h : c.loop-k.k < length a.ps = omega (arith, l, c.requires.points, c.loop-k-test.true) in
    let e = rw (c.SIZE.ensures, get_or_default a.ps c.loop-k.k c.index-ps-k.result g.P.Point.off h) at c.put.ensures in
    laying-more _ g.P.Laid.SIZE (λ k. g.met.P.Laid.sized _) _ _ _ _ _ _ c.loop-k.invariant c.loop-k-test.true e
