-- `numbers`: the first i places hold what is read, so the rest decide. Assumes nothing.
use mathlib.Core.Path.{◌≡◌}
use mathlib.Core.List.{[]}
use Prim.Native.Nat.{◌-◌}
use lib.ListN.{length, take}
use Rattle.sheet.specs.Readers.{numbers_from}
use Rattle.sheet.proofs.reading_numbers.Cursor.numbers.Given as goal

abbrev pub invariant-loop-i : goal.invariant-loop-i
invariant-loop-i l = (length l.out ≡ length l.initial.out) × (numbers_from l.width (length l.initial.out) [] l.initial.self.rest.now ≡ numbers_from l.width (length l.initial.out - l.i) (take l.i l.out) l.self.rest.now)
