-- The digit that stands for all dropped digits: what is left of a number when its end is cut off, and still rounds as the whole number does (4.3.1). Definitions only.
use Rattle.std.specs.Prelude.{ℕ, zero, suc, ◌+◌, ◌*◌, ◌/◌, ◌%◌, ◌^◌}

-- 0 for 0, and 1 for any other number
abbrev pub flag : ℕ → ℕ
flag zero = 0
flag (suc n) = 1

-- n / 2 ^ d, its last digit 1 where anything at all is cut off
unfoldable pub jam : ℕ → ℕ → ℕ
jam n d = n / 2 ^ (d + 1) * 2 + flag (n % 2 ^ (d + 1))
