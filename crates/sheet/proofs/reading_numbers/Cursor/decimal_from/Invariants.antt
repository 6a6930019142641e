-- `decimal_from`: the digits so far are worth value, so the rest decide. Assumes nothing.
use Rattle.std.proofs.Common.{◌≡◌, length}
use Rattle.sheet.specs.Readers.{decimal_from}
use Rattle.sheet.proofs.reading_numbers.Cursor.decimal_from.Given as goal

abbrev pub invariant-loop-d : goal.invariant-loop-d
invariant-loop-d l = decimal_from l.first l.initial.self.rest.now ≡ decimal_from l.value l.self.rest.now

abbrev pub decreases-loop-d : goal.decreases-loop-d
decreases-loop-d l = length l.self.rest.now
