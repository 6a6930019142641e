-- What a reader that reads ahead has left to give. Definitions only.
use Rattle.std.specs.Prelude.{List, ℕ, Option, slice_range}
use Rattle.std.specs.Io.KnownBytes.{prepend_known}
use Rattle.record.specs.declared.ahead.Ahead.{Ahead}

-- the bytes that are read and not yet given, and then those of the reader behind, where these are known
abbrev pub left : {R : Type 0} → (R → Option (List ℕ)) → Ahead R → Option (List ℕ)
left remaining a = prepend_known (slice_range a.places a.start a.end) (remaining a.inner)
