-- `put`: three stores are one list laid. Assumes nothing.
use Rattle.buffers.proofs.Laid.{laid-three}
use Rattle.buffers.proofs.laying.Vec3Laid.put.Goals as goal

pub returns : goal.returns
returns c = laid-three _ _ _ _ _
