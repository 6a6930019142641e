-- `last_of_addend`: zero alone has no last place. Assumes nothing.
use Rattle.std.proofs.Common.{ℕ, ◌+◌, sym, ap, ◌∙◌, inl, inr}
use Rattle.arith.specs.Pattern.{exp_of}
use Rattle.arith.proofs.double.last_of_addend.Goals as goal

pub returns-then-m-eq0 : goal.returns-then-m-eq0
returns-then-m-eq0 c = inl (sym c.magnitude-m.ensures ∙ c.if-m-eq0.true)

pub returns : goal.returns
returns c = inr (ap (λ (x : ℕ). x + 926) c.exponent.ensures ∙ ap (λ (x : ℕ). exp_of x + 926) c.magnitude-m.ensures)
