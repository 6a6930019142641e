-- `hex`: k digits are read and worth value, below 16 ^ k. Assumes nothing.
use Rattle.std.proofs.Common.{◌≡◌, ◌<◌, ◌-◌, ◌^◌}
use Rattle.sheet.specs.Readers.{hex_of, hex_from}
use Rattle.sheet.proofs.reading_numbers.Cursor.hex.Given as goal

abbrev pub invariant-loop-k : goal.invariant-loop-k
invariant-loop-k l = (l.value < 16 ^ l._k) × (hex_of l.initial.self.rest.now ≡ hex_from (8 - l._k) l.value l.self.rest.now)
