-- `put_word`: a part of the buffer is the word. Assumes nothing.
use mathlib.Core.Path.{refl}
use Rattle.sheet.proofs.Pieces.{put-part}
use Rattle.sheet.proofs.writing_numbers.Text.put_word.Goals as goal

pub returns : goal.returns
returns c = record { same = refl; put = put-part _ _ _ _ _ refl c.requires c.copy_from_slice.ensures.after }
