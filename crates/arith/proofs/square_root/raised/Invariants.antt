-- `raised`: a step up is taken only where the next square is no more than a. Assumes nothing.
use Rattle.std.proofs.Common.{◌-◌, ◌*◌, ◌^◌, ◌≤◌}
use Rattle.arith.proofs.square_root.raised.Given as goal

abbrev pub invariant-loop-q : goal.invariant-loop-q
invariant-loop-q l = (l.q ≤ 2 ^ 25) × (l.q * l.q ≤ l.a)

abbrev pub decreases-loop-q : goal.decreases-loop-q
decreases-loop-q l = 2 ^ 25 - l.q
