-- `put_corners`: three points that were read are laid. Assumes nothing.
use Rattle.stl_reading.proofs.put_corners.Goals as goal

pub returns : goal.returns
returns c = rw (c.put_nine.ensures, c.point_at-c.ensures, c.point_at-b.ensures, c.point_at-a.ensures)
