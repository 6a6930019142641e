-- `product`: two numbers of 24 digits have a product of 48. Assumes nothing.
use Rattle.std.proofs.Common.{lt_of_le_of_lt, le_of_lt, mul-le-mul, lit<}
use Rattle.arith.proofs.multiply_add.product.Goals as goal

pub overflow_mul-result : goal.overflow_mul-result
overflow_mul-result c = record { fits = lt_of_le_of_lt (mul-le-mul (le_of_lt c.requires.0) (le_of_lt c.requires.1)) (lit< tt) }
