-- `unpack`: the four buffers one by one. Assumes nothing.
use Rattle.buffers.proofs.Order.{same-four}
use Rattle.stl_reading.proofs.unpack.Goals as goal

pub returns : goal.returns
returns c = same-four c.put_points.ensures.vertices c.put_points.ensures.normals c.put_zeros.ensures c.put_places.ensures
