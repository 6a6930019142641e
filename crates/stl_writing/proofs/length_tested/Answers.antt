-- `length_tested`: the tests in their order. Assumes nothing.
use borrow.Author.Tests.{le-leb, lt-leb, eq-eqb, ne_eqb}
use Rattle.stl_writing.proofs.length_tested.Goals as goal

pub returns-then-n-ne0 : goal.returns-then-n-ne0
returns-then-n-ne0 c = simp (ne_eqb _ _ c.if-n-ne0.true)

pub returns-then-n-gt4294967295 : goal.returns-then-n-gt4294967295
returns-then-n-gt4294967295 c = simp (eq-eqb _ _ c.if-n-ne0.false, lt-leb _ _ c.if-n-gt4294967295.true)

pub returns-then-length-bytes : goal.returns-then-length-bytes
returns-then-length-bytes c = rw c.file_length-length.ensures (simp (eq-eqb _ _ c.if-n-ne0.false, le-leb _ _ c.if-n-gt4294967295.false, lt-leb _ _ (rw c.file_length-length.ensures at c.if-length-bytes.true)))

pub returns : goal.returns
returns c = simp (eq-eqb _ _ c.if-n-ne0.false, le-leb _ _ c.if-n-gt4294967295.false, le-leb _ _ (rw c.file_length-length.ensures at c.if-length-bytes.false))
