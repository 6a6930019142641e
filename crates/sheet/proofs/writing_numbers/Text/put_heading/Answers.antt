-- `put_heading`: the word, the number and the line's end. Assumes nothing.
use mathlib.Core.List.{◌∷◌, [], ◌++◌}
use Rattle.sheet.specs.Digits.{decimal}
use Rattle.sheet.proofs.Pieces.{text-room, text-room-next, puts-next}
use Rattle.sheet.proofs.writing_numbers.Text.put_heading.Goals as goal

pub put_decimal-requires : goal.put_decimal-requires
put_decimal-requires c = text-room c.put_word.new.self (decimal c.args.n) (10 ∷ []) (text-room-next _ _ c.args.word.now _ c.requires c.put_word.ensures)

pub put_byte-requires : goal.put_byte-requires
put_byte-requires c = text-room-next _ _ (decimal c.args.n) (10 ∷ []) (text-room-next _ _ c.args.word.now (decimal c.args.n ++ (10 ∷ [])) c.requires c.put_word.ensures) c.put_decimal.ensures

pub returns : goal.returns
returns c = puts-next _ _ _ _ _ c.put_word.ensures (puts-next _ _ _ _ _ c.put_decimal.ensures c.put_byte.ensures)
