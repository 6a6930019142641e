-- `guess`: whatever the tables hold, no step of the cubic leaves 64 digits. Assumes nothing.
use Rattle.std.proofs.Common.{ℕ, ◌+◌, ◌-◌, ◌*◌, ◌/◌, ◌%◌, ◌^◌, ◌≤◌, mul-le-mul, arith}
use Rattle.arith.proofs.square_root.guess.Goals as goal
use Rattle.arith.proofs.square_root.guess.Goals.{After-bends-second}

-- a factor that `back` takes part of
part : (m x b : ℕ) → x ≤ b → (2 ^ 19 - m % 2 ^ 19) * x ≤ 2 ^ 19 * b
part m x b h = mul-le-mul (let g : 2 ^ 19 - m % 2 ^ 19 ≤ 2 ^ 19 = omega arith in g) h

module _ (c : After-bends-second) where
  abbrev m : ℕ
  m = c.args.m

  abbrev first : ℕ
  first = c.end_and_slope-first.result

  abbrev second : ℕ
  second = c.bends-second.result

  abbrev back : ℕ
  back = 2 ^ 19 - m % 2 ^ 19

  change-le : back * (second % 2 ^ 32) ≤ 2 ^ 19 * 2 ^ 32
  change-le = part m (second % 2 ^ 32) (2 ^ 32) (omega arith)

  bend-le : back * (second / 2 ^ 32 + back * (second % 2 ^ 32) / 2 ^ 30) ≤ 2 ^ 19 * 2 ^ 33
  bend-le = part m _ (2 ^ 33) (omega (arith, change-le))

  fall-le : back * (first % 2 ^ 32 + back * (second / 2 ^ 32 + back * (second % 2 ^ 32) / 2 ^ 30) / 2 ^ 19) ≤ 2 ^ 19 * 2 ^ 34
  fall-le = part m _ (2 ^ 34) (omega (arith, bend-le))

pub overflow_mul-change : goal.overflow_mul-change
overflow_mul-change c = omega (arith, change-le c)

pub overflow_add-bend : goal.overflow_add-bend
overflow_add-bend c = omega (arith, change-le c)

pub overflow_mul-bend : goal.overflow_mul-bend
overflow_mul-bend c = omega (arith, bend-le c)

pub overflow_add-fall : goal.overflow_add-fall
overflow_add-fall c = omega (arith, bend-le c)

pub overflow_mul-fall : goal.overflow_mul-fall
overflow_mul-fall c = omega (arith, fall-le c)
