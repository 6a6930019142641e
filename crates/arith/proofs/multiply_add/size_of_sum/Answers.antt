-- `size_of_sum`: the sum of like signs, and the gap of unlike ones. Assumes nothing.
use Rattle.std.proofs.Common.{◌+◌, ◌-◌, Bool, cond, ltb, sym, ap, ◌∙◌}
use Rattle.arith.proofs.multiply_add.size_of_sum.Goals as goal

pub returns-then-s-t : goal.returns-then-s-t
returns-then-s-t c = let g = c.args in
    ap (λ (x : Bool). cond x (g.a + g.b) (cond (ltb g.a g.b) (g.b - g.a) (g.a - g.b))) (sym c.if-s-t.true)

pub returns-else-s-t : goal.returns-else-s-t
returns-else-s-t c = let g = c.args in
    c.apart-gap.ensures ∙ ap (λ (x : Bool). cond x (g.a + g.b) (cond (ltb g.a g.b) (g.b - g.a) (g.a - g.b))) (sym c.if-s-t.false)
