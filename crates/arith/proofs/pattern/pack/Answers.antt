-- `pack`: its pattern is `packed`, and never that of a NaN. Assumes nothing.
use Rattle.std.proofs.Common.{◌≡◌, ℕ, ◌+◌, ◌*◌, ◌^◌, min, cond, not, T, sym, ap, ◌∙◌, subst}
use lib.Ieee.{binary32, nan_bits, of_bits}
use Rattle.arith.specs.Pattern.{packed}
use Rattle.arith.proofs.Packing.{packed-no-nan}
use Rattle.arith.proofs.pattern.pack.Goals as goal
use Rattle.arith.proofs.pattern.pack.Goals.{After-with_sign}

is-packed : (c : After-with_sign) → c.with_sign.result ≡ packed c.args.neg c.args.k c.args.q
is-packed c =
    let a = c.args in
    c.with_sign.ensures
    ∙ ap (λ (x : ℕ). cond a.neg (2 ^ 31) 0 + x) (c.cap-m.ensures ∙ ap (λ (x : ℕ). min (x * 2 ^ 23 + a.q) (255 * 2 ^ 23)) c.wide.ensures)

pub float_from_bits-result : goal.float_from_bits-result
float_from_bits-result c = let a = c.args in subst (λ (x : ℕ). T (not (nan_bits binary32 x))) (sym (is-packed c)) (packed-no-nan a.neg a.k a.q)

pub returns : goal.returns
returns c = ap (λ (x : ℕ). of_bits binary32 x) (is-packed c)
