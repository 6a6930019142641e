-- `jammed`: shifted out and back, a number is the same exactly where nothing is cut. Assumes nothing.
use Rattle.std.proofs.Common.{◌≡◌, ℕ, ◌+◌, ◌*◌, ◌/◌, ◌^◌, ◌≤◌, ap, ◌∙◌, arith}
use Rattle.arith.specs.Digit.{jam}
use Rattle.arith.proofs.Jamming.{jam-min, jam-even, jam-odd, twice-high}
use Rattle.arith.proofs.multiply_add.jammed.Goals as goal
use Rattle.arith.proofs.multiply_add.jammed.Goals.{After-lesser-n}

high : (c : After-lesser-n) → c.args.x / 2 ^ (c.lesser-n.result + 1) * 2 ≤ c.args.x
high c = twice-high _ _

-- as many places as are looked at
near : (c : After-lesser-n) → jam c.args.x c.lesser-n.result ≡ jam c.args.x c.args.d
near c = ap (λ (y : ℕ). jam c.args.x y) c.lesser-n.ensures ∙ jam-min c.args.x c.args.d c.requires

pub overflow_mul-result : goal.overflow_mul-result
overflow_mul-result c = omega (arith, high (goal.at.overflow_mul-result c).After-lesser-n)

pub overflow_mul-result-else-high-n : goal.overflow_mul-result-else-high-n
overflow_mul-result-else-high-n c = omega (arith, high (goal.at.overflow_mul-result-else-high-n c).After-lesser-n)

pub overflow_add-result : goal.overflow_add-result
overflow_add-result c = omega (arith, high (goal.at.overflow_add-result c).After-lesser-n)

pub returns-then-high-n : goal.returns-then-high-n
returns-then-high-n c = jam-even c.args.x c.lesser-n.result (omega arith) c.if-high-n.true ∙ near (goal.at.returns-then-high-n c).After-lesser-n

pub returns-else-high-n : goal.returns-else-high-n
returns-else-high-n c = jam-odd c.args.x c.lesser-n.result (omega arith) c.if-high-n.false ∙ near (goal.at.returns-else-high-n c).After-lesser-n
