use Rattle.std.proofs.Common.{arith, ◌≡◌, ◌<◌, length, ap, ◌∙◌, ℕ}
use Rattle.std.proofs.lemmas.List.{get_or_default}
use Rattle.cells.specs.Cells.{no_cell, numbers_to, neighbours_to}
use Rattle.cells.proofs.Storing.{numbers-none, neighbours-none, numbers_more, neighbours-more}
use Rattle.cells.proofs.load_first.Goals as goal

pub loop-k-init : goal.loop-k-init
loop-k-init c = (omega arith, (numbers-none _ _, neighbours-none _ _))

pub loop-k-preserved : goal.loop-k-preserved
loop-k-preserved c =
    let i = c.loop-k.invariant in
    let h : c.loop-k.k < length c.args.records.now = omega arith in
    let s = rw (get_or_default c.args.records.now c.loop-k.k _ no_cell h) at c.put_cell.ensures in
    (omega arith, (numbers_more c.args.records.now c.args.cells.now c.loop-k.cells _ c.loop-k.k i.1.0 s.0, neighbours-more c.args.records.now c.args.neighbours.now c.loop-k.neighbours _ c.loop-k.k i.1.1 s.1))

pub returns : goal.returns
returns c =
    let i = c.loop-k.invariant in
    let e : c.loop-k.k ≡ c.args.n = omega (arith, i.0, c.loop-k-test.false) in (
      i.1.0 ∙ ap (λ (k : ℕ). numbers_to c.args.records.now k c.args.cells.now) e,
      i.1.1 ∙ ap (λ (k : ℕ). neighbours_to c.args.records.now k c.args.neighbours.now) e,
    )
