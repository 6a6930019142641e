-- `wrap_by`: a reciprocal length at hand serves, and any other is asked. Assumes nothing.
use mathlib.Core.Path.{sym, ap, ◌∙◌}
use Rattle.face.specs.Texture.{halved}
use Rattle.face.proofs.Wraps.{wrapped-by}
use Rattle.face.proofs.uv_mapping.wrap_by.Goals as goal

pub returns-then-is_ordinary : goal.returns-then-is_ordinary
returns-then-is_ordinary c = c.halve.ensures ∙ ap halved c.mul.ensures ∙ wrapped-by c.args.p c.args.k c.requires (sym c.is_ordinary.ensures ∙ c.if-is_ordinary.true)
