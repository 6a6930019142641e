-- `put_decimal`: as many digits as are counted. Assumes nothing.
use native.Mathlib.Omega.{arith}
use mathlib.Core.Path.{refl}
use Rattle.sheet.specs.Digits.{digit_count}
use Rattle.sheet.proofs.Numerals.{length_digits}
use Rattle.sheet.proofs.Pieces.{put-digits}
use Rattle.sheet.proofs.writing_numbers.Text.put_decimal.Goals as goal

pub slice_bounds-fill_digits-end : goal.slice_bounds-fill_digits-end
slice_bounds-fill_digits-end c = let n = c.args.n in omega (arith, c.digit_count.ensures.count, length_digits 10 (digit_count n) n)

pub returns : goal.returns
returns c = let n = c.args.n in
    record { same = refl; put = put-digits _ _ _ 10 (digit_count n) n _ (rw c.digit_count.ensures.count refl) (omega (arith, length_digits 10 (digit_count n) n)) c.fill_digits.ensures }
