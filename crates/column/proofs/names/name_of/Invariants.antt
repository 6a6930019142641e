-- `name_of`: after d turns what is left counts on from the first d sides. Assumes nothing.
use Rattle.std.proofs.Common.{◌≡◌, ◌+◌, ◌≤◌, length}
use Rattle.face.specs.Lists.{chain}
use Rattle.column.proofs.Numbering.{walls}
use Rattle.column.proofs.names.name_of.Given as goal

abbrev pub invariant-loop-d : goal.invariant-loop-d
invariant-loop-d l = (l.d ≤ 6) × (l.number ≡ length (chain (walls l.job.sides l.parts) l.d) + l.left)
