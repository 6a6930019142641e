-- `put_stood`: a turn lays one point. Assumes nothing.
use lib.ListN.{get_or}
use Rattle.face.specs.Vec.{off3}
use Rattle.placement.specs.Placing.{stood}
use Rattle.buffers.specs.Laying.{three}
use Rattle.buffers.proofs.Laid.{Laying}
use Rattle.buffers.proofs.laying.put_stood.Given as goal

abbrev pub invariant-loop-k : goal.invariant-loop-k
invariant-loop-k g l = Laying (λ j. three (stood l.t (get_or l.ps j off3))) l.m l.initial.buffer l.at l.k l.buffer
