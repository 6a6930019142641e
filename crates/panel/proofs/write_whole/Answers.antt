-- `write_whole`: no answer is longer than the room. Assumes nothing.
use Rattle.sheet.proofs.Most.{answer-whole}
use Rattle.panel.proofs.write_whole.Goals as goal

pub returns : goal.returns
returns c = answer-whole _ _ _ _ c.requires c.write_answer.ensures
