-- `put_places`: a turn lays one place more. Assumes nothing.
use Prim.Native.Nat.{ℕ}
use Rattle.buffers.proofs.Laid.{Stored}
use Rattle.stl_reading.proofs.put_places.Given as goal

abbrev pub invariant-loop-k : goal.invariant-loop-k
invariant-loop-k l = Stored (λ (j : ℕ). j) l.n l.initial.indices 0 l.k l.indices
