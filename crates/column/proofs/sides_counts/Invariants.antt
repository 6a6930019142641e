-- `sides_counts`: after d turns t has the counts of the first d sides. Assumes nothing.
use Rattle.std.proofs.Common.{◌≡◌, ◌≤◌}
use Rattle.column.specs.Counts.{sides_counts}
use Rattle.column.proofs.sides_counts.Given as goal

abbrev pub invariant-loop-d : goal.invariant-loop-d
invariant-loop-d l = (l.d ≤ l.n) × (l.t ≡ sides_counts l.numbers l.marks l.s l.sides l.d)
