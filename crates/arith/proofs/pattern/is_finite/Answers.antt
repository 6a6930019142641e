-- `is_finite`: below +infinity and above -infinity is neither a NaN nor an infinity. Assumes nothing.
use Rattle.std.proofs.Common.{◌≡◌, true, false, refl, true≢false}
use mathlib.Core.Bool.{false≢true}
use lib.Ieee.{Float, nan, inf, fin, lt, neg, nan_bits, of_bits}
use lib.Ieee.Scale.{finite}
use Rattle.arith.proofs.pattern.is_finite.Goals as goal

both : (x : Float) → lt x (inf false) ≡ true → lt (inf true) x ≡ finite x
unfolding lt
both nan e = refl
both (inf true) e = refl
both (inf false) e = absurd (false≢true e)
both (fin s m d) e = refl

none : (x : Float) → lt x (inf false) ≡ false → false ≡ finite x
unfolding lt
none nan e = refl
none (inf s) e = refl
none (fin s m d) e = absurd (true≢false e)

pub float_from_bits-infinity : goal.float_from_bits-infinity
unfolding nan_bits
float_from_bits-infinity c = tt

pub returns-then-x-infinity : goal.returns-then-x-infinity
unfolding of_bits neg
returns-then-x-infinity c = both c.args.x c.if-x-infinity.true

pub returns-else-x-infinity : goal.returns-else-x-infinity
unfolding of_bits neg
returns-else-x-infinity c = none c.args.x c.if-x-infinity.false
