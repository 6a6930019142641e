-- `pair_at`: two numbers of the list. Assumes nothing.
use Rattle.plane_builder.proofs.cap.pair_at.Goals as goal

pub returns : goal.returns
returns c = rw (c.number_at-2.ensures, c.number_at.ensures)
