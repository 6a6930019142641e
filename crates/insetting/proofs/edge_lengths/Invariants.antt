-- `edge_lengths`: the loop fills the array with each edge's length. Assumes nothing.
use Rattle.insetting.specs.Edges.{edge_at}
use Rattle.face.proofs.Filling.{Filled}
use Rattle.insetting.proofs.edge_lengths.Given as goal

abbrev pub invariant-loop-i : goal.invariant-loop-i
invariant-loop-i g l = Filled (edge_at l.ps g.row.N) g.row.N l.initial.out l.i l.out
