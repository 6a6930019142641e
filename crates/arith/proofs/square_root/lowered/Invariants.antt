-- `lowered`: a step down is taken only from a square above a, so never from 0. Assumes nothing.
use Rattle.std.proofs.Common.{◌^◌, ◌≤◌}
use Rattle.arith.proofs.square_root.lowered.Given as goal

abbrev pub invariant-loop-q : goal.invariant-loop-q
invariant-loop-q l = l.q ≤ 2 ^ 25

abbrev pub decreases-loop-q : goal.decreases-loop-q
decreases-loop-q l = l.q
