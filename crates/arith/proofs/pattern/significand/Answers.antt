-- `significand`: a field of 0 has no leading digit. Assumes nothing.
use Rattle.std.proofs.Common.{◌≡◌, ℕ, zero, suc, ◌+◌, ◌/◌, ◌%◌, ◌^◌, sym, refl, ap, ◌∙◌, add_comm, zero-add}
use Rattle.arith.specs.Pattern.{lead}
use Rattle.arith.proofs.pattern.significand.Goals as goal

lead-not : (x : ℕ) → (x ≡ 0 → ⊥) → 2 ^ 23 ≡ lead x
lead-not zero h = absurd (h refl)
lead-not (suc x) h = refl

pub returns-then-field-eq0 : goal.returns-then-field-eq0
returns-then-field-eq0 c = let m = c.args.mag in c.wide.ensures ∙ sym (zero-add (m % 2 ^ 23)) ∙ ap (λ (x : ℕ). lead x + m % 2 ^ 23) (sym c.if-field-eq0.true)

pub returns-else-field-eq0 : goal.returns-else-field-eq0
returns-else-field-eq0 c = let m = c.args.mag in
    ap (λ (x : ℕ). x + 2 ^ 23) c.wide-else-field-eq0.ensures ∙ add_comm (m % 2 ^ 23) (2 ^ 23) ∙ ap (λ (x : ℕ). x + m % 2 ^ 23) (lead-not (m / 2 ^ 23) c.if-field-eq0.false)
