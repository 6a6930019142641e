use borrow.Author.Rules.{rules}
use mathlib.Core.Path.{◌∙◌}
use native.Mathlib.Omega.{arith}
use Rattle.insetting.proofs.Joined.{joined_is}
use Rattle.insetting.proofs.join.Goals as goal

pub returns : goal.returns
returns g c = let h = c.loop-i.invariant in
    let t = c.loop-i-test.false in
    joined_is g.P.Point.off _ _ _ g.row.N (search rules) (search rules) (h.0 ∙ c.requires) (λ k l. h.1 k (omega (arith, t, l))) (λ k l. h.2 k (omega (arith, t, l)))
