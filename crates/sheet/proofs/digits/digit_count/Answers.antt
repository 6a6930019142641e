-- `digit_count`: the digits are counted by the powers of ten. Assumes nothing.
use mathlib.Core.Path.{sym}
use native.Mathlib.Omega.{arith}
use Rattle.sheet.proofs.Numerals.{count-between, count_small}
use Rattle.sheet.proofs.digits.digit_count.Goals as goal

pub returns-in-Some-clause-count : goal.returns-in-Some-clause-count
returns-in-Some-clause-count c = count-between _ _ c.in-Some.ensures.power_le c.in-Some.ensures.next_power_gt

pub returns-in-None-clause-count : goal.returns-in-None-clause-count
returns-in-None-clause-count c = let e = c.in-None.ensures.none in rw e (sym (count_small 0 (omega arith)))
