-- What the parts of `root` and `fused` hand each other. Definitions only.
use Rattle.std.specs.Prelude.{◌≡◌, ℕ, zero, suc, ◌+◌, ◌-◌, ◌*◌, ◌/◌, ◌%◌, ◌^◌, ◌<◌, ◌≤◌, max, Bool, cond, ◌&&◌, ◌⊎◌, nat_le, nat_lt}
use Rattle.std.specs.Bool.{beq}
use Rattle.std.specs.Float.Ieee.Nearest.{closest}
use Rattle.arith.specs.Pattern.{sig_of, exp_of}

-- sig * 2 ^ exp as m * 2 ^ e, the leading digit moved up to that of 2 ^ (63 - zeros)
pub record Placed (sig exp zeros m e : ℕ) : Type 0 where
  pub value : m * 2 ^ e ≡ sig * 2 ^ exp
  pub moved : m ≡ sig * 2 ^ (exp - e)
  pub lead : 2 ^ (63 - zeros) ≤ m
  pub small : m < 2 ^ (64 - zeros)
  pub high : e ≤ exp
  pub low : exp + zeros ≤ e + 63

-- a pattern's magnitude in units of 2 ^ -275, with 24 digits
pub record Digits (bits m e : ℕ) : Type 0 where
  pub lead : 2 ^ 23 ≤ m
  pub small : m < 2 ^ 24
  pub low : 103 ≤ e
  pub high : e < 380
  pub value : m * 2 ^ (e + 23) ≡ sig_of bits * 2 ^ exp_of bits * 2 ^ 149

-- the whole part of the root of a
pub record WholeRoot (a q : ℕ) : Type 0 where
  pub below : q * q ≤ a
  pub above : a ≤ q * q + 2 * q

-- the whole number nearest to the root of a, which lies between r - 1/2 and r + 1/2
pub record NearestRoot (a r : ℕ) : Type 0 where
  pub above : r * r < a + r
  pub below : a ≤ r * (r + 1)

-- an operand of the sum: zero, or with its leading digit at 2 ^ 60 or 2 ^ 61; at least fourteen zeros at its end
pub record Ready (sig exp : ℕ) : Type 0 where
  pub small : sig < 2 ^ 62
  pub zeros : sig % 2 ^ 14 ≡ 0
  pub high : exp ≤ 1000
  pub lead : ((sig ≡ 0) × (exp ≡ 0)) ⊎ ((2 ^ 60 ≤ sig) × (64 ≤ exp))

-- the exponent of an operand: zero takes the least
abbrev pub exp_unless_zero : ℕ → ℕ → ℕ
exp_unless_zero zero exp = 0
exp_unless_zero (suc sig) exp = exp

-- the sign and the size of ±a + ±b, with the signs s and t
abbrev pub sum_sign : Bool → ℕ → Bool → ℕ → Bool
sum_sign s a t b = cond (nat_lt a b) t (cond (nat_lt b a) s (s && t))

abbrev pub sum_size : Bool → ℕ → Bool → ℕ → ℕ
sum_size s a t b = cond (beq s t) (a + b) (cond (nat_lt a b) (b - a) (a - b))

-- the sum, before it is rounded
pub record Summed (sig exp : ℕ) : Type 0 where
  pub small : sig < 2 ^ 63
  pub high : exp ≤ 1000
  pub lead : (sig ≡ 0) ⊎ (64 ≤ exp)

-- How many digits are dropped of a significand of 24 + t digits, times 2 ^ e, in units of 2 ^ -(149 + w):
-- t, so that 24 stay, or w - e where that is more, so that none stays below the least number.
abbrev pub shift_of : ℕ → ℕ → ℕ → ℕ
shift_of t w e = max t (w - e)

-- An `f64`'s pattern that tells which `f32` is nearest to whatever was rounded to it: its size is that of a normal `f32`, and it is no tie between two of them.
pub record Narrows (bits : ℕ) : Type 0 where
  pub least : 898 * 2 ^ 52 ≤ bits % 2 ^ 63
  pub most : bits % 2 ^ 63 < 1150 * 2 ^ 52
  pub untied : bits % 2 ^ 29 ≡ 2 ^ 28 → ⊥

-- An `f64`'s pattern of such a size that a fused sum of three patterns loses nothing there: its last place is no higher than that of the product, and no higher than that of the addend.
pub record Exact (x y z bits : ℕ) : Type 0 where
  pub least : 898 * 2 ^ 52 ≤ bits % 2 ^ 63
  pub most : bits % 2 ^ 63 < 1150 * 2 ^ 52
  pub product : bits % 2 ^ 63 / 2 ^ 52 ≤ exp_of (x % 2 ^ 31) + exp_of (y % 2 ^ 31) + 777
  pub addend : (z % 2 ^ 31 ≡ 0) ⊎ (bits % 2 ^ 63 / 2 ^ 52 ≤ exp_of (z % 2 ^ 31) + 926)

-- the pattern of the `f32` nearest to an `f64`'s of such a size, or to a zero's: 29 digits fewer, and 896 taken from the exponent's field
abbrev pub narrow : ℕ → ℕ
narrow bits = cond (nat_le (2 ^ 63) bits) (2 ^ 31) 0 + (closest (bits % 2 ^ 63) (2 ^ 29) - 896 * 2 ^ 23)
