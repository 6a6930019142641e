-- `put_point`: three numbers laid one after another. Assumes nothing.
use Rattle.stl_writing.proofs.Putting.{point-laid}
use Rattle.stl_writing.proofs.put_point.Goals as goal

pub returns : goal.returns
returns c = rw (c.put_number-3.ensures, c.put_number-2.ensures, c.put_number.ensures) (point-laid _ _ _ _ _)
