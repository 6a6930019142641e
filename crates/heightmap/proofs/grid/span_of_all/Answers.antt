use borrow.Author.Rules.{rules}
use native.Mathlib.Numerals.{add-one}
use native.Mathlib.Omega.{arith}
use borrow.Author.Tests.{eq-eqb, ne_eqb}
use Rattle.heightmap.proofs.Reading.{span-done}
use Rattle.heightmap.proofs.grid.span_of_all.Goals as goal

pub returns-then-n-eq0 : goal.returns-then-n-eq0
returns-then-n-eq0 c = rw (eq-eqb _ _ c.if-n-eq0.true)

pub loop-k-preserved : goal.loop-k-preserved
loop-k-preserved c = let i = c.loop-k in (search rules, rw (add-one i.k, ← i.invariant.1) c.lower_of-min.ensures, rw (add-one i.k, ← i.invariant.2) c.higher_of-max.ensures)

pub returns : goal.returns
returns c = let i = c.loop-k in span-done c.args.cells.now _ _ i.k (ne_eqb _ _ c.if-n-eq0.false) (omega arith) i.invariant.1 i.invariant.2
