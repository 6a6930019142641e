-- `point_at`: three numbers, one after another. Assumes nothing.
use Rattle.stl_reading.proofs.point_at.Goals as goal

pub returns : goal.returns
returns c = rw (c.float-3.ensures, c.pattern_at-3.ensures, c.float-2.ensures, c.pattern_at-2.ensures, c.float.ensures, c.pattern_at.ensures)
