-- `wrap_across`: by the one reciprocal length of both, or each by its own. Assumes nothing.
use mathlib.Core.Path.{sym, ap, ◌∙◌}
use Rattle.face.specs.Texture.{halved}
use Rattle.face.proofs.Wraps.{both-wrapped}
use Rattle.face.proofs.uv_mapping.wrap_across.Goals as goal

pub returns-then-is_ordinary : goal.returns-then-is_ordinary
returns-then-is_ordinary c = let w = both-wrapped c.args.p c.args.q c.one_of_both-k.result c.one_of_both-k.ensures (sym c.is_ordinary.ensures ∙ c.if-is_ordinary.true) in
    (c.halve.ensures ∙ ap halved c.mul.ensures ∙ w.0, c.halve-then-is_ordinary.ensures ∙ ap halved c.mul-then-is_ordinary.ensures ∙ w.1)
