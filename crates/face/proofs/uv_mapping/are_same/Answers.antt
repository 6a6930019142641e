-- `are_same`: equal numbers are no NaNs. Assumes nothing.
use Rattle.face.proofs.Wraps.{no-nans}
use Rattle.face.proofs.uv_mapping.are_same.Goals as goal

pub float_to_bits-result-then-a-b : goal.float_to_bits-result-then-a-b
float_to_bits-result-then-a-b c = (no-nans _ _ c.if-a-b.true).1
