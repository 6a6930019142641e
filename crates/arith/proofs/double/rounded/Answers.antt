-- `rounded`: its pattern is `narrow`, and never that of a NaN. Assumes nothing.
use Rattle.std.proofs.Common.{◌≡◌, ℕ, ◌+◌, ◌-◌, ◌*◌, ◌^◌, ◌≤◌, cond, not, T, leb, sym, ap, ◌∙◌, subst, arith}
use lib.Ieee.{binary32, nan_bits, of_bits}
use Rattle.arith.specs.Parts.{narrow}
use Rattle.arith.proofs.Twice.{near_le, narrow-no-nan}
use Rattle.arith.proofs.double.rounded.Goals as goal
use Rattle.arith.proofs.double.rounded.Goals.{After-nearest-near, After-with_sign}

near : (c : After-nearest-near) → c.nearest-near.result ≤ 1150 * 2 ^ 23
near c = subst (λ (x : ℕ). x ≤ 1150 * 2 ^ 23) (sym c.nearest-near.ensures) (near_le _ c.requires)

is-narrow : (c : After-with_sign) → c.with_sign.result ≡ narrow c.args.bits
is-narrow c =
    let b = c.args.bits in
    c.with_sign.ensures
    ∙ ap (λ (x : ℕ). cond (leb (2 ^ 63) b) (2 ^ 31) 0 + x) (c.lowered.ensures ∙ ap (λ (x : ℕ). x - 896 * 2 ^ 23) c.nearest-near.ensures)

pub lowered-requires : goal.lowered-requires
lowered-requires c = near c

pub with_sign-requires : goal.with_sign-requires
with_sign-requires c = let l = near (goal.at.with_sign-requires c).After-nearest-near in omega (arith, c.lowered.ensures, l)

pub float_from_bits-result : goal.float_from_bits-result
float_from_bits-result c = subst (λ (x : ℕ). T (not (nan_bits binary32 x))) (sym (is-narrow c)) (narrow-no-nan _ c.requires)

pub returns : goal.returns
returns c = ap (λ (x : ℕ). of_bits binary32 x) (is-narrow c)
