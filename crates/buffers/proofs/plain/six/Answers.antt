use borrow.Author.Rules.{rules}
use native.Mathlib.Omega.{arith}
use native.Mathlib.Nat.{mod-lt}
use mathlib.Core.Path.{◌≡◌}
use Prim.Native.Nat.{◌%◌, ◌<◌}
use lib.ListN.{length}
use Rattle.std.proofs.lemmas.List.{get_or_default}
use Rattle.face.proofs.Filling.{filled_more, filled-all}
use Rattle.buffers.proofs.plain.six.Goals as goal

pub loop-k-preserved : goal.loop-k-preserved
loop-k-preserved g c = let a = c.args in
    let l : length a.ps ≡ g.row.N = search rules in
    let h : c.loop-k.k % g.row.N < length a.ps = omega (arith, l, mod-lt c.loop-k.k {m = g.row.N} c.requires) in
    filled_more _ 6 _ _ _ _ c.loop-k.invariant c.loop-k-test.true (search rules) (get_or_default a.ps (c.loop-k.k % g.row.N) c.index-ps-k.result g.P.Point.off h)

pub returns : goal.returns
returns g c = let l : length c.args.ps ≡ g.row.N = search rules in
    rw l (filled-all _ 6 _ _ _ c.loop-k.invariant c.loop-k-test.false (search rules))
