-- The pattern of a number, its bytes, and the number of a pattern; P2 and L2a are rows of docs/TRACE.md. Definitions only.
use Rattle.std.specs.Prelude.{cond, List, [], ◌∷◌, ℕ, ◌+◌, ◌*◌, ◌/◌, ◌%◌, Float}
use Rattle.std.specs.Float.Ieee.{is_nan, to_bits, of_bits}
use Rattle.std.specs.Float.{binary32}

-- the pattern of a number, the same for every NaN
abbrev pub bits_of : Float → ℕ
bits_of x = cond (is_nan x) 0x7fc0_0000 (to_bits binary32 x)

-- the number of a pattern; every NaN's gives the one NaN
abbrev pub float_of : ℕ → Float
float_of n = of_bits binary32 n

-- the four bytes of 32 bits, the lowest first
abbrev pub bytes_of : ℕ → List ℕ
bytes_of n = n % 256 ∷ n / 256 % 256 ∷ n / 65536 % 256 ∷ n / 16777216 % 256 ∷ []

-- the 32 bits of four such bytes
abbrev pub of_bytes : ℕ → ℕ → ℕ → ℕ → ℕ
of_bytes a b c d = a + 256 * b + 65536 * c + 16777216 * d
