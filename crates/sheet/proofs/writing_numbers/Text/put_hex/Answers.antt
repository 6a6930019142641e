-- `put_hex`: eight digits. Assumes nothing.
use native.Mathlib.Omega.{arith}
use mathlib.Core.Path.{refl}
use Rattle.sheet.proofs.Numerals.{length_digits}
use Rattle.sheet.proofs.Pieces.{put-digits}
use Rattle.sheet.proofs.writing_numbers.Text.put_hex.Goals as goal

pub slice_bounds-fill_digits-end : goal.slice_bounds-fill_digits-end
slice_bounds-fill_digits-end c = omega (arith, length_digits 16 8 c.args.bits)

pub returns : goal.returns
returns c = record { same = refl; put = put-digits _ _ _ 16 8 _ _ refl (omega (arith, length_digits 16 8 c.args.bits)) c.fill_digits.ensures }
