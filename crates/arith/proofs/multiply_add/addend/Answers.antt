-- `addend`: a magnitude in finer units. Assumes nothing.
use Rattle.std.proofs.Common.{◌≡◌, ℕ, ◌+◌, ◌*◌, ◌^◌, ◌<◌, sym, ap, ◌∙◌, subst, ap₂, mul_assoc, arith, pow-add}
use Rattle.arith.specs.Pattern.{sig_of, exp_of}
use Rattle.arith.proofs.Values.{sig-lt}
use Rattle.arith.proofs.multiply_add.addend.Goals as goal

moved : (s e : ℕ) → s * 2 ^ (e + 277) ≡ s * 2 ^ e * 2 ^ 277
moved s e = ap (λ (x : ℕ). s * x) (pow-add 2 e 277) ∙ sym (mul_assoc s (2 ^ e) (2 ^ 277))

pub operand-requires : goal.operand-requires
operand-requires c = let l : c.significand.result < 2 ^ 24 = subst (λ (x : ℕ). x < 2 ^ 24) (sym c.significand.ensures) (sig-lt c.magnitude-m.result) in
    (omega arith, l, omega arith, omega arith, omega arith, omega arith)

pub returns : goal.returns
returns c = (
  c.operand.ensures.0,
  c.operand.ensures.1
      ∙ ap₂ (λ (x y : ℕ). x * 2 ^ (y + 277)) c.significand.ensures c.exponent.ensures
      ∙ moved (sig_of c.magnitude-m.result) (exp_of c.magnitude-m.result)
      ∙ ap (λ (x : ℕ). sig_of x * 2 ^ exp_of x * 2 ^ 277) c.magnitude-m.ensures,
)
