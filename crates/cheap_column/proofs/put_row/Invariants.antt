-- `put_row`: a turn lays one item's numbers. Assumes nothing.
use Rattle.std.proofs.Common.{◌≡◌, take}
use Rattle.buffers.specs.Laying.{laid, spread}
use Rattle.cheap_column.proofs.put_row.Given as goal

abbrev pub invariant-loop-k : goal.invariant-loop-k
invariant-loop-k g l = l.buffer ≡ laid l.initial.buffer l.at (spread g.T.Numbered.numbers (take l.k l.items))
