-- `stepped`: the whole part of the root, and one more where the rest is above it. Assumes nothing.
use Rattle.std.proofs.Common.{ℕ, zero, suc, ◌+◌, ◌-◌, ◌*◌, ◌<◌, ◌≤◌, arith}
use Rattle.arith.specs.Parts.{WholeRoot, NearestRoot}
use Rattle.arith.proofs.WholeRoots.{square-suc, times-next}
use Rattle.arith.proofs.square_root.stepped.Goals as goal

-- the whole part itself
kept : (a q : ℕ) → 0 < a → WholeRoot a q → a - q * q ≤ q → NearestRoot a q
kept a zero p w h = record { above = omega (arith, p); below = omega (arith, w.above) }
kept a (suc q) p w h = record { above = omega (arith, w.below); below = omega (arith, w.below, times-next (suc q)) }

-- and the next number
moved : (a q : ℕ) → WholeRoot a q → q < a - q * q → NearestRoot a (q + 1)
moved a q w h = record { above = omega (arith, w.below, square-suc q); below = omega (arith, w.above, square-suc q, times-next (q + 1)) }

pub raised-q-requires : goal.raised-q-requires
raised-q-requires c = omega (arith, c.requires.1, c.lowered.ensures.0, c.lowered.ensures.1)

pub overflow_mul-q : goal.overflow_mul-q
overflow_mul-q c = omega (arith, c.raised-q.ensures.below, c.requires.1)

pub overflow_sub-a : goal.overflow_sub-a
overflow_sub-a c = omega (arith, c.raised-q.ensures.below)

pub overflow_add-result : goal.overflow_add-result
overflow_add-result c = omega (arith, c.raised-q.ensures.below, c.requires.1)

pub returns-then-a-q : goal.returns-then-a-q
returns-then-a-q c = moved _ _ c.raised-q.ensures c.if-a-q.true

pub returns-else-a-q : goal.returns-else-a-q
returns-else-a-q c = kept _ _ c.requires.0 c.raised-q.ensures c.if-a-q.false
