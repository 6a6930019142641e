-- `narrowed`: its pattern is `narrow`, and never that of a NaN. Assumes nothing.
use Rattle.std.proofs.Common.{◌≡◌, ℕ, ◌+◌, ◌-◌, ◌*◌, ◌^◌, cond, not, T, leb, sym, ap, ◌∙◌, subst}
use lib.Ieee.{binary32, nan_bits, of_bits}
use Rattle.arith.specs.Parts.{narrow}
use Rattle.arith.proofs.Twice.{cut_off, narrow-no-nan}
use Rattle.arith.proofs.double.narrowed.Goals as goal
use Rattle.arith.proofs.double.narrowed.Goals.{After-with_sign}

is-narrow : (c : After-with_sign) → c.with_sign.result ≡ narrow c.args.bits
is-narrow c = let b = c.args.bits in c.with_sign.ensures ∙ ap (λ (x : ℕ). cond (leb (2 ^ 63) b) (2 ^ 31) 0 + (x - 896 * 2 ^ 23)) (cut_off b c.requires)

pub float_from_bits-result : goal.float_from_bits-result
float_from_bits-result c = subst (λ (x : ℕ). T (not (nan_bits binary32 x))) (sym (is-narrow c)) (narrow-no-nan _ c.requires.most)

pub returns : goal.returns
returns c = ap (λ (x : ℕ). of_bits binary32 x) (is-narrow c)
