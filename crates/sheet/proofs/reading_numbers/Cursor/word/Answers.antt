use Rattle.sheet.proofs.Steps.{word-here, word-other}
use Rattle.sheet.proofs.reading_numbers.Cursor.word.Goals as goal

pub returns-in_err-self : goal.returns-in_err-self
returns-in_err-self c = rw c.from_residual.ensures (word-other c.args.text.now c.args.self.now.rest.now c.in_err-self.ensures.cases)

pub returns : goal.returns
returns c = let e = c.in_ok-self.ensures.cases in rw e.1 (word-here c.args.text.now c.args.self.now.rest.now e.0)
