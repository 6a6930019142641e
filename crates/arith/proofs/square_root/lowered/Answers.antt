use Rattle.std.proofs.Common.{ℕ, zero, suc, ◌*◌, ◌<◌, ◌≤◌, mul-le-mul, arith}
use Rattle.arith.proofs.square_root.lowered.Goals as goal

some : (a q : ℕ) → a < q * q → 1 ≤ q
some a zero k = absurd (let g : a < 0 = k in omega arith)
some a (suc q) k = omega arith

pub overflow_mul-q : goal.overflow_mul-q
overflow_mul-q c = omega (arith, mul-le-mul c.loop-q.invariant c.loop-q.invariant)

pub overflow_sub-q : goal.overflow_sub-q
overflow_sub-q c = some _ _ c.loop-q-test.true

pub loop-q-smaller : goal.loop-q-smaller
loop-q-smaller c = omega (arith, some _ _ c.loop-q-test.true)
