-- What is said of a cell that was read. Definitions only.
use Rattle.std.specs.Prelude.{ℕ, ◌<◌, Option, Some, None}

-- the number, if there is one, lies below n
abbrev pub Below : ℕ → Option ℕ → Type 0
Below n (Some v) = v < n
Below n None = Unit {0}
