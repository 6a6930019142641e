-- `put_corners`: three stores are one list laid; no sum is past 16 bits. Assumes nothing.
use Rattle.buffers.proofs.Laid.{laid-three}
use Rattle.buffers.proofs.laying.put_corners.Goals as goal

pub returns : goal.returns
returns c = laid-three _ _ _ _ _
