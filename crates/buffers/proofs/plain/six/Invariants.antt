-- `six`: the loop fills the array. Assumes nothing.
use Prim.Native.Nat.{◌%◌}
use lib.ListN.{get_or}
use Rattle.face.proofs.Filling.{Filled}
use Rattle.buffers.proofs.plain.six.Given as goal

abbrev pub invariant-loop-k : goal.invariant-loop-k
invariant-loop-k g l = Filled (λ v. get_or l.ps (v % g.row.N) g.P.Point.off) 6 l.initial.out l.k l.out
