-- `alter`: the loop fills the array, point by point. Assumes nothing.
use lib.ListN.{get_or}
use Rattle.face.specs.Vec.{off2}
use Rattle.face.specs.Texture.{altered}
use Rattle.face.proofs.Filling.{Filled}
use Rattle.face.proofs.uv_mapping.alter.Given as goal

abbrev pub invariant-loop-i : goal.invariant-loop-i
invariant-loop-i g l = Filled (λ v. altered l.o (get_or l.uvs v off2)) g.row.N l.initial.out l.i l.out
