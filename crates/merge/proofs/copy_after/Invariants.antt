-- `copy_after`: a turn lays one number more. Assumes nothing.
use Prim.Native.Nat.{◌+◌}
use Rattle.buffers.proofs.Laid.{Copied}
use Rattle.merge.proofs.copy_after.Given as goal

abbrev pub invariant-loop-k : goal.invariant-loop-k
invariant-loop-k l = Copied (λ x. l.b.0 + x) l.numbers 0 l.initial.buffer l.at.0 l.k l.buffer
