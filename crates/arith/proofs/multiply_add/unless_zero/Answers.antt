-- `unless_zero`: the test of the definition. Assumes nothing.
use Rattle.std.proofs.Common.{◌≡◌, ℕ, zero, suc, sym, refl, ap}
use Rattle.arith.specs.Parts.{exp_unless_zero}
use Rattle.arith.proofs.multiply_add.unless_zero.Goals as goal

some : (sig exp : ℕ) → (sig ≡ 0 → ⊥) → exp ≡ exp_unless_zero sig exp
some zero exp h = absurd (h refl)
some (suc sig) exp h = refl

pub returns-then-sig-eq0 : goal.returns-then-sig-eq0
returns-then-sig-eq0 c = ap (λ (x : ℕ). exp_unless_zero x c.args.exp) (sym c.if-sig-eq0.true)

pub returns-else-sig-eq0 : goal.returns-else-sig-eq0
returns-else-sig-eq0 c = some _ _ c.if-sig-eq0.false
