-- `put_byte`: one store. Assumes nothing.
use mathlib.Core.Path.{refl, sym}
use Rattle.buffers.proofs.Laid.{laid_one}
use Rattle.sheet.proofs.writing_numbers.Text.put_byte.Goals as goal

pub returns : goal.returns
returns c = record { same = refl; put = record { buffer = sym (laid_one _ _ _); ends = refl } }
