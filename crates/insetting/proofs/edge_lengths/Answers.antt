use borrow.Author.Rules.{rules}
use mathlib.Core.Path.{◌≡◌, refl}
use lib.ListN.{length, length-replicate}
use Rattle.face.proofs.Filling.{filled_more, filled-all}
use Rattle.insetting.proofs.edge_lengths.Goals as goal

pub loop-i-preserved : goal.loop-i-preserved
loop-i-preserved g c = filled_more _ g.row.N _ _ _ _ c.loop-i.invariant c.loop-i-test.true (length-replicate g.row.N _) c.length_of.ensures

pub returns : goal.returns
returns g c = let l : length c.args.ps ≡ g.row.N = search rules in
    rw l (filled-all _ g.row.N _ _ _ c.loop-i.invariant c.loop-i-test.false (length-replicate g.row.N _))
