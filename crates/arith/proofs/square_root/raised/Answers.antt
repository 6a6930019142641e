use Rattle.std.proofs.Common.{ℕ, ◌*◌, ◌^◌, ◌<◌, ◌≤◌, mul-le-mul, lt_of_not-le, arith}
use Rattle.arith.proofs.WholeRoots.{square-suc}
use Rattle.arith.proofs.square_root.raised.Goals as goal

-- the root of a number of 48 digits has 24
short : (a q : ℕ) → a < 2 ^ 48 → q * q ≤ a → q < 2 ^ 24
short a q h k = lt_of_not-le (λ (g : 2 ^ 24 ≤ q). no g)
  where
    no : 2 ^ 24 ≤ q → ⊥
    no g = omega (arith, mul-le-mul g g)

pub loop-q-init : goal.loop-q-init
loop-q-init c = (c.requires.1, c.requires.2)

pub overflow_mul-q-in-loop-q : goal.overflow_mul-q-in-loop-q
overflow_mul-q-in-loop-q c = omega (arith, c.loop-q.invariant.1)

pub loop-q-smaller : goal.loop-q-smaller
loop-q-smaller c = omega (arith, short _ _ c.requires.0 c.loop-q.invariant.1)

pub loop-q-preserved : goal.loop-q-preserved
loop-q-preserved c = (omega (arith, short _ _ c.requires.0 c.loop-q.invariant.1), omega (arith, c.loop-q-test.true, square-suc c.loop-q.q))

pub returns : goal.returns
returns c = record { below = c.loop-q.invariant.1; above = omega (arith, c.loop-q.invariant.1, c.loop-q-test.false) }
