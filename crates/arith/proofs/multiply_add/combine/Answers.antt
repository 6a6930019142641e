-- `combine`: the jammed operands have the sum of the exact ones. Assumes nothing.
use Rattle.std.proofs.Common.{◌≡◌, ℕ, ◌+◌, ◌-◌, ◌*◌, ◌^◌, ◌≤◌, max, Bool, sym, ap, ◌∙◌, subst, ap₂, arith, pow_pos}
use lib.Ieee.{binary32, sum, round}
use Rattle.arith.specs.Digit.{jam}
use Rattle.arith.specs.Parts.{Summed, sum_sign, sum_size}
use Rattle.arith.proofs.Combining.{both-jammed, summed, settled, size-le}
use Rattle.arith.proofs.multiply_add.combine.Goals as goal
use Rattle.arith.proofs.multiply_add.combine.Goals.{After-jammed-b, Start}

-- what is known once both are jammed
module _ (k : After-jammed-b) where
  abbrev st : Start
  st = k.before.before.before.before.before

  abbrev e : ℕ
  e = k.greater-exp.result

  abbrev a : ℕ
  a = k.jammed-a.result

  abbrev b : ℕ
  b = k.jammed-b.result

  e-is : e ≡ max st.args.x.exp st.args.y.exp
  e-is = k.greater-exp.ensures

  a-is : a ≡ jam st.args.x.sig (max st.args.x.exp st.args.y.exp - st.args.x.exp)
  a-is = k.jammed-a.ensures ∙ ap (λ (i : ℕ). jam st.args.x.sig (i - st.args.x.exp)) e-is

  b-is : b ≡ jam st.args.y.sig (max st.args.x.exp st.args.y.exp - st.args.y.exp)
  b-is = k.jammed-b.ensures ∙ ap (λ (i : ℕ). jam st.args.y.sig (i - st.args.y.exp)) e-is

  exact-sum : sum binary32 st.args.s (st.args.x.sig * 2 ^ st.args.x.exp) st.args.t (st.args.y.sig * 2 ^ st.args.y.exp) (2 ^ 426)
      ≡ round binary32 (sum_sign st.args.s a st.args.t b) (sum_size st.args.s a st.args.t b * 2 ^ e) (2 ^ 426)
  exact-sum =
      let g = st.args in
      both-jammed g.s g.t g.x.sig g.x.exp g.y.sig g.y.exp st.requires.0 st.requires.1
      ∙ ap₂ (λ (u v : ℕ). sum binary32 g.s (u * 2 ^ max g.x.exp g.y.exp) g.t (v * 2 ^ max g.x.exp g.y.exp) (2 ^ 426)) (sym a-is) (sym b-is)
      ∙ ap (λ (i : ℕ). sum binary32 g.s (a * 2 ^ i) g.t (b * 2 ^ i) (2 ^ 426)) (sym e-is)
      ∙ settled a b (2 ^ e) (pow_pos e) g.s g.t

  fine : (r : ℕ) → r ≤ a + b → Summed r e
  fine r l =
      let g = st.args in
      subst (λ (i : ℕ). Summed r i) (sym e-is)
      (summed g.s g.t g.x.sig g.x.exp g.y.sig g.y.exp st.requires.0 st.requires.1 r (omega (arith, a-is, b-is)))

pub size_of_sum-requires : goal.size_of_sum-requires
size_of_sum-requires c = omega (arith, (fine (goal.at.size_of_sum-requires c).After-jammed-b (a (goal.at.size_of_sum-requires c).After-jammed-b + b (goal.at.size_of_sum-requires c).After-jammed-b) (omega arith)).small)

pub returns : goal.returns
returns c = let g = (st (goal.at.returns c).After-jammed-b).args in
    let z : c.size_of_sum.result ≡ sum_size g.s (a (goal.at.returns c).After-jammed-b) g.t (b (goal.at.returns c).After-jammed-b) = c.size_of_sum.ensures in record { size = fine (goal.at.returns c).After-jammed-b c.size_of_sum.result (omega (arith, size-le g.s g.t (a (goal.at.returns c).After-jammed-b) (b (goal.at.returns c).After-jammed-b))); value = exact-sum (goal.at.returns c).After-jammed-b ∙ ap₂ (λ (q : Bool) (x : ℕ). round binary32 q (x * 2 ^ e (goal.at.returns c).After-jammed-b) (2 ^ 426)) (sym c.sign_of_sum.ensures) (sym z) }
