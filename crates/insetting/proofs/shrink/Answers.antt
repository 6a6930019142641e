use borrow.Author.Rules.{rules}
use native.Mathlib.Omega.{arith}
use mathlib.Core.Path.{◌≡◌}
use Prim.Native.Nat.{◌<◌}
use lib.ListN.{length}
use Rattle.std.proofs.lemmas.List.{get_or_default}
use Rattle.insetting.specs.Edges.{toward}
use Rattle.face.proofs.Filling.{filled_more, filled-map}
use Rattle.insetting.proofs.shrink.Goals as goal

pub loop-i-preserved : goal.loop-i-preserved
loop-i-preserved g c = let a = c.args in
    let l : length a.ps ≡ g.row.N = search rules in
    let h : c.loop-i.i < length a.ps = omega (arith, l, c.loop-i-test.true) in
    let e = rw (get_or_default a.ps c.loop-i.i c.index-ps-i.result g.P.Point.off h) at c.toward.ensures in
    filled_more _ g.row.N _ _ _ _ c.loop-i.invariant c.loop-i-test.true l e

pub returns : goal.returns
returns g c = let a = c.args in
    let l : length a.ps ≡ g.row.N = search rules in
    let p = g.P.Point in
    let m = c.centroid-c in
    rw (← m.ensures) (filled-map (toward p.plus p.minus p.times m.result a.k) a.ps p.off g.row.N a.ps _ _ c.loop-i.invariant c.loop-i-test.false l l)
