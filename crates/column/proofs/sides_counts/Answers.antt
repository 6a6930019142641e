use Rattle.std.proofs.Common.{◌≡◌, ◌≤◌, ap, ◌∙◌, add-one, arith, rules}
use Rattle.column.specs.Column.{side_at}
use Rattle.column.specs.Counts.{sides_counts}
use Rattle.column.proofs.Counts.{side-most, sides-most}
use Rattle.column.proofs.sides_counts.Goals as goal

pub loop-d-init : goal.loop-d-init
loop-d-init c = (omega arith, c.zero-t.ensures)

pub add-t-requires : goal.add-t-requires
add-t-requires c = let a = c.args in
    let d = c.loop-d.d in
    let h : a.s ≤ 4294967295 = omega (arith, c.ranges.s) in
    let i = c.loop-d.invariant in
    let m = sides-most a.numbers.now a.marks.now a.s a.sides h d in
    let q = side-most a.numbers.now a.marks.now a.s (side_at a.sides d) h in
    rw (i.1, c.side_counts.ensures, c.side_option.ensures) (omega (arith, m.0, q.0, i.0, c.ranges.n), omega (arith, m.1, q.1, i.0, c.ranges.n))

pub loop-d-preserved : goal.loop-d-preserved
loop-d-preserved c = let i = c.loop-d.invariant in
    (search rules, rw (add-one c.loop-d.d) (rw (i.1, c.side_counts.ensures, c.side_option.ensures) at c.add-t.ensures))

pub returns : goal.returns
returns c = let a = c.args in
    let h : a.s ≤ 4294967295 = omega (arith, c.ranges.s) in
    let i = c.loop-d.invariant in
    let e : c.loop-d.d ≡ a.n = omega (arith, i.0, c.loop-d-test.false) in
    let r = i.1 ∙ ap (sides_counts a.numbers.now a.marks.now a.s a.sides) e in
    let m = sides-most a.numbers.now a.marks.now a.s a.sides h a.n in record { sum = r; small = rw r (omega (arith, m.0, c.ranges.n), omega (arith, m.1, c.ranges.n)) }
