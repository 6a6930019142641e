-- `above_zero`: the root of the pattern's digits. Assumes nothing.
use Rattle.std.proofs.Common.{ap, ◌∙◌}
use Rattle.arith.specs.Root.{root_of}
use Rattle.arith.proofs.square_root.above_zero.Goals as goal

pub returns : goal.returns
returns c = c.of_digits.ensures ∙ ap root_of c.digits-d.ensures.value
