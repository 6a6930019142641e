-- `put_part`: the heading, and its lines. Assumes nothing.
use Rattle.sheet.specs.Digits.{heading}
use Rattle.sheet.proofs.Pieces.{text-room-next, puts-next}
use Rattle.sheet.proofs.writing_numbers.Text.put_part.Goals as goal

pub put_lines-requires-clause-room : goal.put_lines-requires-clause-room
put_lines-requires-clause-room g c = λ d. text-room-next _ _ (heading c.args.word.now c.args.n) _ (c.requires.room d) c.put_heading.ensures

pub returns : goal.returns
returns g c = λ d. puts-next _ _ _ _ _ c.put_heading.ensures (c.put_lines.ensures d)
