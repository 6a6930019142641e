-- `put_head`: a turn lays one zero more; the count comes after them. Assumes nothing.
use Prim.Native.Nat.{ℕ}
use Rattle.buffers.proofs.Laid.{Stored}
use Rattle.stl_writing.proofs.put_head.Given as goal

abbrev pub invariant-loop-k : goal.invariant-loop-k
invariant-loop-k l = Stored (λ (j : ℕ). 0) 80 l.initial.bytes 0 l.k l.bytes
