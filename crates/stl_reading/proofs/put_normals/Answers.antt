-- `put_normals`: one point that was read is laid three times. Assumes nothing.
use Rattle.stl_reading.proofs.put_normals.Goals as goal

pub returns : goal.returns
returns c = rw (c.put_nine.ensures, c.point_at-n.ensures)
