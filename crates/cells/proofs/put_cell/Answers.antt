-- `put_cell`: three numbers, the ends and the neighbours. Assumes nothing.
use native.Mathlib.Omega.{arith}
use Prim.Native.Nat.{◌*◌}
use borrow.Author.Rules.{rules}
use Rattle.cells.proofs.Storing.{cell-laid, words-laid}
use Rattle.cells.proofs.put_cell.Goals as goal

pub returns : goal.returns
returns c = let a = c.args in (
  cell-laid a.c.now (search rules) (search rules) a.cells.now (27 * a.k) _ _ (omega arith) (omega arith) c.copy_from_slice.ensures.after,
  words-laid a.c.now (search rules) (search rules) a.neighbours.now (6 * a.k) _ _ (omega arith) (omega arith) c.copy_from_slice-2.ensures.after,
)
