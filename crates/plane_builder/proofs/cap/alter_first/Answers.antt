-- `alter_first`: the six uvs by their promise, then the inset. Assumes nothing.
use Rattle.plane_builder.proofs.cap.alter_first.Goals as goal

pub returns : goal.returns
returns c = rw (c.inset_hexagon.ensures, c.alter-uvs.ensures)
