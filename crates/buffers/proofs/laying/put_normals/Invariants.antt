-- `put_normals`: a turn lays the normal once more. Assumes nothing.
use Rattle.buffers.proofs.Laid.{Laying}
use Rattle.buffers.specs.Laying.{three}
use Rattle.buffers.proofs.laying.put_normals.Given as goal

abbrev pub invariant-loop-k : goal.invariant-loop-k
invariant-loop-k l = Laying (λ j. three l.normal) l.m l.initial.buffer l.at l.k l.buffer
