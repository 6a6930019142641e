-- The digits of a pattern. Definitions only.
use Rattle.std.specs.Prelude.{cond, ℕ, ◌-◌, ltb, leb}

-- what a byte is worth as a digit, 0 to 9 and then a to f, or 16
unfoldable pub digit_value : ℕ → ℕ
digit_value b = cond (ltb b 48) 16 (cond (leb b 57) (b - 48) (cond (ltb b 97) 16 (cond (leb b 102) (b - 87) 16)))
