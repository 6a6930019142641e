use borrow.Author.Rules.{rules}
use native.Mathlib.Omega.{arith}
use native.Mathlib.Nat.{mod-lt}
use mathlib.Core.Path.{◌≡◌}
use Prim.Native.Nat.{◌+◌, ◌-◌, ◌%◌, ◌<◌}
use lib.ListN.{length}
use Rattle.std.proofs.lemmas.List.{get_or_default}
use Rattle.face.proofs.Filling.{filled_more, filled-all}
use Rattle.insetting.proofs.move_along.Goals as goal

pub loop-i-preserved : goal.loop-i-preserved
loop-i-preserved g c = let a = c.args in
    let n = g.row.N in
    let i = c.loop-i.i in
    let off = g.P.Point.off in
    let l : length a.ps ≡ n = search rules in
    let h : i < length a.ps = omega (arith, l, c.loop-i-test.true) in
    let hb : (i + (n - 1)) % n < length a.ps = omega (arith, l, c.loop-i-test.true, mod-lt (i + (n - 1)) {m = n} (omega (arith, c.loop-i-test.true))) in
    let ha : (i + 1) % n < length a.ps = omega (arith, l, c.loop-i-test.true, mod-lt (i + 1) {m = n} (omega (arith, c.loop-i-test.true))) in
    let e = rw (get_or_default a.ps i c.index-ps-i.result off h, get_or_default a.ps ((i + (n - 1)) % n) c.index-ps-b.result off hb, get_or_default a.ps ((i + 1) % n) c.index-ps-a.result off ha) at c.edge_step.ensures in
    filled_more _ n _ _ _ _ c.loop-i.invariant c.loop-i-test.true l e

pub returns : goal.returns
returns g c = let l : length c.args.ls ≡ g.row.N = search rules in
    rw l (filled-all _ g.row.N _ _ _ c.loop-i.invariant c.loop-i-test.false (search rules))
