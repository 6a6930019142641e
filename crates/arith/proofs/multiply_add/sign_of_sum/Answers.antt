-- `sign_of_sum`: the cases of `sum_sign`, by the same tests. Assumes nothing.
use Rattle.std.proofs.Common.{◌≡◌, Bool, cond, ◌&&◌, ltb, sym, ap, ◌∙◌, ap₂, le-ltb, lt-ltb}
use Rattle.arith.specs.Parts.{sum_sign}
use Rattle.arith.proofs.multiply_add.sign_of_sum.Goals as goal
use Rattle.arith.proofs.multiply_add.sign_of_sum.Goals.{Else-b-a}

-- neither part is the larger
equal : (c : Else-b-a) → (c.args.s && c.args.t) ≡ sum_sign c.args.s c.args.a c.args.t c.args.b
equal c =
    let g = c.args in
    ap₂ (λ (x y : Bool). cond x g.t (cond y g.s (g.s && g.t))) (sym (le-ltb g.a g.b c.if-a-b.false)) (sym (le-ltb g.b g.a c.if-b-a.false))

pub returns-then-a-b : goal.returns-then-a-b
returns-then-a-b c = let g = c.args in ap (λ (x : Bool). cond x g.t (cond (ltb g.b g.a) g.s (g.s && g.t))) (sym (lt-ltb g.a g.b c.if-a-b.true))

pub returns-then-b-a : goal.returns-then-b-a
returns-then-b-a c = let g = c.args in
    ap₂ (λ (x y : Bool). cond x g.t (cond y g.s (g.s && g.t))) (sym (le-ltb g.a g.b c.if-a-b.false)) (sym (lt-ltb g.b g.a c.if-b-a.true))

pub returns-then-s : goal.returns-then-s
returns-then-s c = ap (λ (x : Bool). x && c.args.t) (sym c.if-s.true) ∙ equal (goal.at.returns-then-s c).Else-b-a

pub returns-else-s : goal.returns-else-s
returns-else-s c = ap (λ (x : Bool). x && c.args.t) (sym c.if-s.false) ∙ equal (goal.at.returns-else-s c).Else-b-a
