-- `is_plain`: both tests. Assumes nothing.
use mathlib.Core.Path.{sym, ap, ◌∙◌}
use mathlib.Core.Bool.{Bool, ◌&&◌}
use Rattle.placement.specs.Speed.{shifts_alone}
use Rattle.column_builder.proofs.laying.is_plain.Goals as goal

pub returns-then-is_none : goal.returns-then-is_none
returns-then-is_none c = c.is_shift.ensures ∙ ap (λ (x : Bool). x && shifts_alone c.args.t) (sym (sym c.is_none.ensures ∙ c.if-is_none.true))

pub returns : goal.returns
returns c = ap (λ (x : Bool). x && shifts_alone c.args.t) (sym (sym c.is_none.ensures ∙ c.if-is_none.false))
