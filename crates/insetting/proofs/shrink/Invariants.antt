-- `shrink`: the loop fills the array, point by point. Assumes nothing.
use lib.ListN.{get_or}
use Rattle.insetting.specs.Edges.{toward}
use Rattle.face.proofs.Filling.{Filled}
use Rattle.insetting.proofs.shrink.Given as goal

abbrev pub invariant-loop-i : goal.invariant-loop-i
invariant-loop-i g l = let p = g.P.Point in
    Filled (λ v. toward p.plus p.minus p.times l.c l.k (get_or l.ps v p.off)) g.row.N l.initial.out l.i l.out
