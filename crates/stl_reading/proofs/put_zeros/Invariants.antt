-- `put_zeros`: a turn lays one zero more. Assumes nothing.
use Prim.Native.Nat.{ℕ}
use Rattle.face.specs.Vec.{f0}
use Rattle.buffers.proofs.Laid.{Stored}
use Rattle.stl_reading.proofs.put_zeros.Given as goal

abbrev pub invariant-loop-k : goal.invariant-loop-k
invariant-loop-k l = Stored (λ (j : ℕ). f0) l.n l.initial.uvs 0 l.k l.uvs
