-- `put_number`: the bytes of its pattern. Assumes nothing.
use Rattle.stl_writing.proofs.put_number.Goals as goal

pub returns : goal.returns
returns c = rw (c.put_four.ensures, c.bytes_of-four.ensures, c.pattern.ensures)
