-- `apart`: the difference of the larger and the smaller. Assumes nothing.
use Rattle.std.proofs.Common.{◌-◌, Bool, cond, sym, ap, le-ltb, lt-ltb}
use Rattle.arith.proofs.multiply_add.apart.Goals as goal

pub returns-then-a-b : goal.returns-then-a-b
returns-then-a-b c = let g = c.args in ap (λ (x : Bool). cond x (g.b - g.a) (g.a - g.b)) (sym (lt-ltb g.a g.b c.if-a-b.true))

pub returns-else-a-b : goal.returns-else-a-b
returns-else-a-b c = let g = c.args in ap (λ (x : Bool). cond x (g.b - g.a) (g.a - g.b)) (sym (le-ltb g.a g.b c.if-a-b.false))
