-- `put_all`: a turn lays one point. Assumes nothing.
use lib.ListN.{get_or}
use Rattle.buffers.proofs.Laid.{Laying}
use Rattle.buffers.proofs.laying.put_all.Given as goal

abbrev pub invariant-loop-k : goal.invariant-loop-k
invariant-loop-k g l = Laying (λ j. g.P.Laid.numbers (get_or l.ps j g.P.Point.off)) l.m l.initial.buffer l.at l.k l.buffer
