-- `put_facet`: four points and two zeros laid one after another. Assumes nothing.
use native.Mathlib.Omega.{arith}
use lib.ListN.{length-set}
use Rattle.stl_writing.proofs.Putting.{facet-laid}
use Rattle.stl_writing.proofs.put_facet.Goals as goal

pub bounds-bytes-at-2 : goal.bounds-bytes-at-2
bounds-bytes-at-2 c = simp length-set (omega arith)

pub shape_of-bytes : goal.shape_of-bytes
shape_of-bytes c = simp length-set (omega arith)

pub returns : goal.returns
returns c = rw (c.put_point-4.ensures, c.put_point-3.ensures, c.put_point-2.ensures, c.put_point.ensures) (facet-laid _ _ _ _ _ _)
