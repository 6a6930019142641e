-- `corners_of`: six pairs of the list. Assumes nothing.
use Rattle.plane_builder.proofs.cap.corners_of.Goals as goal

pub returns : goal.returns
returns c = rw (c.pair_at-6.ensures, c.pair_at-5.ensures, c.pair_at-4.ensures, c.pair_at-3.ensures, c.pair_at-2.ensures, c.pair_at.ensures)
