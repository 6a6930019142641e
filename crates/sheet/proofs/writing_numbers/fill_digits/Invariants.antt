-- `fill_digits`: what is left to write stands before what is written, and they make the whole. Assumes nothing.
use mathlib.Core.Path.{◌≡◌}
use mathlib.Core.List.{◌++◌}
use lib.ListN.{length, drop}
use Rattle.sheet.specs.Digits.{digits}
use Rattle.sheet.proofs.writing_numbers.fill_digits.Given as goal

abbrev pub invariant-loop-k : goal.invariant-loop-k
invariant-loop-k l = (length l.places ≡ length l.initial.places) × (digits l.base l.k l.rest ++ drop l.k l.places ≡ digits l.base (length l.initial.places) l.n)
