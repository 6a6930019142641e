-- `shift_all`: the loop fills the array, point by point. Assumes nothing.
use lib.ListN.{get_or}
use Rattle.face.specs.Vec.{off3}
use Rattle.face.proofs.Filling.{Filled}
use Rattle.placement.specs.Speed.{shift_of}
use Rattle.buffers.proofs.plain.shift_all.Given as goal

abbrev pub invariant-loop-k : goal.invariant-loop-k
invariant-loop-k g l = Filled (λ v. shift_of l.t (get_or l.ps v off3)) g.row.N l.initial.out l.k l.out
