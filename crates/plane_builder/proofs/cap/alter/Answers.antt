-- `alter`: the twelve uvs by their promise. Assumes nothing.
use Rattle.plane_builder.proofs.cap.alter.Goals as goal

pub returns : goal.returns
returns c = rw c.alter-uvs.ensures
