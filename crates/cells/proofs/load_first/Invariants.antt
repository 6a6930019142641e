-- `load_first`: after k turns the first k cells are stored. Assumes nothing.
use Rattle.std.proofs.Common.{◌≡◌, ◌≤◌}
use Rattle.cells.specs.Cells.{numbers_to, neighbours_to}
use Rattle.cells.proofs.load_first.Given as goal

abbrev pub invariant-loop-k : goal.invariant-loop-k
invariant-loop-k l =
    (l.k ≤ l.n)
    × ((l.cells ≡ numbers_to l.records l.k l.initial.cells) × (l.neighbours ≡ neighbours_to l.records l.k l.initial.neighbours))
