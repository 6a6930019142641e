-- `load_answer`: by the test. Assumes nothing.
use mathlib.Core.Path.{sym, ◌∙◌}
use Rattle.cells.specs.Cells.{load_answer}
use Rattle.cells.proofs.load_answer.Goals as goal

pub returns-then-is_loadable : goal.returns-then-is_loadable
unfolding load_answer
returns-then-is_loadable c = rw (sym c.is_loadable.ensures ∙ c.if-is_loadable.true)

pub returns : goal.returns
unfolding load_answer
returns c = rw (sym c.is_loadable.ensures ∙ c.if-is_loadable.false)
