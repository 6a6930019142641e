-- `move_along`: the loop fills the array with each point moved. Assumes nothing.
use Rattle.insetting.specs.Edges.{edge_step, moved_at}
use Rattle.face.proofs.Filling.{Filled}
use Rattle.insetting.proofs.move_along.Given as goal

abbrev pub invariant-loop-i : goal.invariant-loop-i
invariant-loop-i g l = let p = g.P.Point in
    Filled (moved_at (edge_step p.plus p.minus g.P.Edged.along l.k) p.off l.ls l.ps g.row.N) g.row.N l.initial.out l.i l.out
