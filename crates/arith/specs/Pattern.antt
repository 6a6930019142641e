-- A bit pattern of binary32 as a sign, a significand and an exponent (IEEE 754-2019, 3.4). Definitions only.
-- Magnitudes count units of 2 ^ -149, the least number above zero, of which every finite value of the format is a whole number.
use Rattle.std.specs.Prelude.{ℕ, zero, suc, ◌+◌, ◌-◌, ◌*◌, ◌/◌, ◌%◌, ◌^◌, min, Bool, cond}

-- the leading digit, which the exponent's field implies: a field of 0 has none (3.4 c to e)
abbrev pub lead : ℕ → ℕ
lead zero = 0
lead (suc x) = 2 ^ 23

-- the significand of a pattern with the sign clear
abbrev pub sig_of : ℕ → ℕ
sig_of mag = lead (mag / 2 ^ 23) + mag % 2 ^ 23

-- and its exponent: a field of 0 counts as a field of 1
abbrev pub exp_of : ℕ → ℕ
exp_of mag = mag / 2 ^ 23 - 1

-- what a finite value's pattern is worth without its sign
abbrev pub worth : ℕ → ℕ
worth b = sig_of (b % 2 ^ 31) * 2 ^ exp_of (b % 2 ^ 31)

-- The pattern of q * 2 ^ k units, where q is 2 ^ 23 or more, or k is 0: the leading digit adds one to the field, and so does a carry.
-- From 2 ^ 128 on it is an infinity's (4.3.1, 7.4).
abbrev pub packed : Bool → ℕ → ℕ → ℕ
packed s k q = cond s (2 ^ 31) 0 + min (k * 2 ^ 23 + q) (255 * 2 ^ 23)
