-- `factors`: the product of the significands, at the sum of the exponents. Assumes nothing.
use Rattle.std.proofs.Common.{◌≡◌, ℕ, ◌+◌, ◌-◌, ◌*◌, ◌^◌, ◌<◌, ◌≤◌, sym, ap, ◌∙◌, subst, ap₂, lt_of_le_of_lt, mul_assoc, mul-le-mul, arith, lit<, pow-add}
use native.Mathlib.Nat.{mul-mul-mul_comm}
use Rattle.arith.specs.Pattern.{sig_of, exp_of}
use Rattle.arith.proofs.Values.{sig-lt}
use Rattle.arith.proofs.multiply_add.factors.Goals as goal
use Rattle.arith.proofs.multiply_add.factors.Goals.{After-significand-2}

product_lt : (a b : ℕ) → a < 2 ^ 24 → b < 2 ^ 24 → a * b < 2 ^ 48
product_lt a b h k = lt_of_le_of_lt (mul-le-mul (below a h) (below b k)) (lit< tt)
  where
    below : (a : ℕ) → a < 2 ^ 24 → a ≤ 2 ^ 24 - 1
    below a h = omega arith

regroup : (s t e f : ℕ) → s * t * 2 ^ (e + f + 128) ≡ s * 2 ^ e * (t * 2 ^ f) * 2 ^ 128
regroup s t e f =
    ap (λ (x : ℕ). s * t * x) (pow-add 2 (e + f) 128 ∙ ap (λ (x : ℕ). x * 2 ^ 128) (pow-add 2 e f))
    ∙ sym (mul_assoc (s * t) (2 ^ e * 2 ^ f) (2 ^ 128))
    ∙ ap (λ (x : ℕ). x * 2 ^ 128) (mul-mul-mul_comm s t (2 ^ e) (2 ^ f))

first : (c : After-significand-2) → c.significand.result < 2 ^ 24
first c = subst (λ (x : ℕ). x < 2 ^ 24) (sym c.significand.ensures) (sig-lt c.magnitude-m.result)

second : (c : After-significand-2) → c.significand-2.result < 2 ^ 24
second c = subst (λ (x : ℕ). x < 2 ^ 24) (sym c.significand-2.ensures) (sig-lt c.magnitude-n.result)

pub product-p-requires : goal.product-p-requires
product-p-requires c = (first c, second c)

pub operand-requires : goal.operand-requires
operand-requires c = let l : c.product-p.result < 2 ^ 48 = subst (λ (x : ℕ). x < 2 ^ 48) (sym c.product-p.ensures) (product_lt c.significand.result c.significand-2.result (first (goal.at.operand-requires c).After-significand-2) (second (goal.at.operand-requires c).After-significand-2)) in
    omega arith

pub returns : goal.returns
returns c = let x = c.magnitude-m.result in
    let y = c.magnitude-n.result in (
      c.operand.ensures.0,
      c.operand.ensures.1
          ∙ ap (λ (u : ℕ). u * 2 ^ (c.exponent.result + c.exponent-2.result + 128)) (c.product-p.ensures ∙ ap₂ (λ (u v : ℕ). u * v) c.significand.ensures c.significand-2.ensures)
          ∙ ap₂ (λ (u v : ℕ). sig_of x * sig_of y * 2 ^ (u + v + 128)) c.exponent.ensures c.exponent-2.ensures
          ∙ regroup (sig_of x) (sig_of y) (exp_of x) (exp_of y)
          ∙ ap₂ (λ (u v : ℕ). sig_of u * 2 ^ exp_of u * (sig_of v * 2 ^ exp_of v) * 2 ^ 128) c.magnitude-m.ensures c.magnitude-n.ensures,
    )
