-- `with_sign`: the sign is the highest of 32 digits. Assumes nothing.
use Rattle.std.proofs.Common.{◌+◌, ◌^◌, Bool, cond, sym, ap, ◌∙◌, zero-add}
use Rattle.arith.proofs.pattern.with_sign.Goals as goal

pub returns-then-neg : goal.returns-then-neg
returns-then-neg c = ap (λ (b : Bool). cond b (2 ^ 31) 0 + c.args.m) (sym c.if-neg.true)

pub returns-else-neg : goal.returns-else-neg
returns-else-neg c = sym (zero-add c.args.m) ∙ ap (λ (b : Bool). cond b (2 ^ 31) 0 + c.args.m) (sym c.if-neg.false)
