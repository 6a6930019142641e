-- `face_count`: after so many turns t is how many faces so many sides have. Assumes nothing.
use Rattle.std.proofs.Common.{◌≡◌, ◌*◌, ◌≤◌, length}
use Rattle.face.specs.Lists.{chain}
use Rattle.column.proofs.Numbering.{walls}
use Rattle.column.proofs.names.face_count.Given as goal

abbrev pub invariant-loop-side : goal.invariant-loop-side
invariant-loop-side l = (l.side-index ≤ 6) × (l.t ≡ length (chain (walls l.job.sides l.parts) l.side-index)) × (l.t ≤ l.side-index * 4294967295)
