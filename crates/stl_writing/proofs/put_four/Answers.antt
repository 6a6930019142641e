-- `put_four`: four stores are one list laid. Assumes nothing.
use native.Mathlib.Omega.{arith}
use lib.ListN.{length-set}
use Rattle.stl_writing.proofs.Putting.{laid-four}
use Rattle.stl_writing.proofs.put_four.Goals as goal

pub bounds-bytes-at-2 : goal.bounds-bytes-at-2
bounds-bytes-at-2 c = simp length-set (omega arith)

pub bounds-bytes-at-3 : goal.bounds-bytes-at-3
bounds-bytes-at-3 c = simp length-set (omega arith)

pub bounds-bytes-at-4 : goal.bounds-bytes-at-4
bounds-bytes-at-4 c = simp length-set (omega arith)

pub returns : goal.returns
returns c = laid-four _ _ _ _ _ _
