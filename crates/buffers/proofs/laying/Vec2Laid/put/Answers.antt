-- `put`: two stores are one list laid. Assumes nothing.
use Rattle.buffers.proofs.Laid.{laid-two}
use Rattle.buffers.proofs.laying.Vec2Laid.put.Goals as goal

pub returns : goal.returns
returns c = laid-two _ _ _ _
