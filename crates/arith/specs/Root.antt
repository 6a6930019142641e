-- The square root of a binary32 number, over whole numbers (IEEE 754-2019, 5.4.1). Definitions only.
use Rattle.std.specs.Prelude.{ℕ, zero, suc, ◌+◌, ◌-◌, ◌*◌, ◌/◌, ◌^◌, ◌<◌, ◌≤◌, Bool, true, false, cond, nat_le, Float}
use Rattle.std.specs.Float.{nan, inf, fin, binary32}
use Rattle.std.specs.Float.Ieee.{up, down, round}
use Rattle.arith.specs.Digit.{flag}

-- r, or r + 1 where the square of r + 1 is no more than n
abbrev pub step : ℕ → ℕ → ℕ
step r n = cond (nat_le (suc r * suc r) n) (suc r) r

-- the whole part of the root of n, for n below 4 ^ d: a binary digit of the root for each digit of n in base 4
unfoldable pub isqrt : ℕ → ℕ → ℕ
isqrt zero n = zero
isqrt (suc d) n = step (2 * isqrt d (n / 4)) n

-- The root of n units of 2 ^ -298, rounded to nearest (4.3.1). Its whole part s counts units of 2 ^ -149, the least number above zero.
-- One digit more stands for all that follow: 1 where s is not the whole root. Every number above zero is from 2 ^ 149 to below 2 ^ 426 such units.
unfoldable pub root_of : ℕ → Float
unfolding isqrt round
root_of n = let s = isqrt 213 n in round binary32 false (2 * s + flag (n - s * s)) (2 ^ 150)

-- A zero is its own root, with its sign (5.4.1, 6.3), and so is +infinity (6.1); a number below zero has none (7.2 g); a NaN gives a NaN (6.2).
-- The division is exact: 2 ^ e is 2 ^ -149 at the least.
unfoldable pub root : Float → Float
unfolding root_of
root nan = nan
root (inf false) = inf false
root (inf true) = nan
root (fin s zero e) = fin s zero e
root (fin true (suc m) e) = nan
root (fin false (suc m) e) = root_of (suc m * up e * 2 ^ 298 / down e)

-- The number of p units is no farther from the root of n than that of q units with the sign t, said without a root:
-- the root lies on p's side of the middle between the two, (p - q) / 2 or (p + q) / 2, or on the middle itself. Where q is more than p, p - q is 0 here,
-- and the middle lies below every root.
abbrev pub NoFarther : ℕ → ℕ → Bool → ℕ → Type 0
NoFarther n p true q = (p - q) * (p - q) ≤ 4 * n
NoFarther n p false q = (q < p → (q + p) * (q + p) ≤ 4 * n) × (p < q → 4 * n ≤ (q + p) * (q + p))
