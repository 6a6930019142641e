-- `put_cap`: the hexagon, laid. Assumes nothing.
use Rattle.plane_builder.proofs.cap.put_cap.Goals as goal

pub returns : goal.returns
returns c = rw c.cap_hexagon-h.ensures at c.lay_hexagon.ensures.buffers
