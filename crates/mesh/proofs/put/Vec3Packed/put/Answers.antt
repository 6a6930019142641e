-- Three stores are one list laid. Assumes nothing.
use Rattle.buffers.proofs.Laid.{laid-three}
use Rattle.mesh.proofs.put.Vec3Packed.put.Goals as goal

pub returns : goal.returns
returns c = laid-three _ _ _ _ _
