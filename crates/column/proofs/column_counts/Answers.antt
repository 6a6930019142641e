-- `column_counts`: the sides, then the caps. Assumes nothing.
use Rattle.std.proofs.Common.{arith}
use Rattle.column.proofs.Counts.{cap-most}
use Rattle.column.proofs.column_counts.Goals as goal

pub add-caps-requires : goal.add-caps-requires
add-caps-requires c = let a = c.args in
    let p = cap-most a.numbers.now a.marks.now a.job.top in
    let q = cap-most a.numbers.now a.marks.now a.job.bottom in
    rw (c.cap_counts.ensures, c.cap_counts-2.ensures) (omega (arith, p.0, q.0), omega (arith, p.1, q.1))

pub add-requires : goal.add-requires
add-requires c = let a = c.args in
    let p = cap-most a.numbers.now a.marks.now a.job.top in
    let q = cap-most a.numbers.now a.marks.now a.job.bottom in
    let m = c.sides_counts-walls.ensures.small in
    rw (c.add-caps.ensures, c.cap_counts.ensures, c.cap_counts-2.ensures) (omega (arith, m.0, p.0, q.0), omega (arith, m.1, p.1, q.1))
