-- `copy`: a turn lays one number more. Assumes nothing.
use lib.Ieee.{nan}
use Rattle.buffers.proofs.Laid.{Copied}
use Rattle.merge.proofs.copy.Given as goal

abbrev pub invariant-loop-k : goal.invariant-loop-k
invariant-loop-k l = Copied (λ x. x) l.numbers nan l.initial.buffer l.at l.k l.buffer
