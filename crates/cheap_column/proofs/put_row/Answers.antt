use Rattle.std.proofs.Common.{◌≡◌, ◌+◌, ◌*◌, ◌≤◌, length, sym, ◌∙◌, arith}
use Rattle.buffers.proofs.Copying.{put-laid}
use Rattle.buffers.proofs.Laid.{laid-nothing}
use Rattle.cheap_column.proofs.Cheap.{row-more}
use Rattle.cheap_column.proofs.put_row.Goals as goal

pub loop-k-init : goal.loop-k-init
loop-k-init g c = sym (laid-nothing _ _)

pub loop-k-preserved : goal.loop-k-preserved
loop-k-preserved g c = let T = g.T.Numbered in
    let N = g.row.N in
    let x = c.index-items-k.result in
    let s : length (T.numbers x) ≡ N = g.met.T.Numbered.sized x in
    let r : c.args.at + N * c.loop-k.k + length (T.numbers x) ≤ length c.loop-k.buffer = grind arith in
    row-more T.numbers N g.met.T.Numbered.sized c.args.buffer.now c.args.at c.loop-k.k c.args.items.now x c.loop-k.buffer _ c.loop-k-test.true c.index-items-k.is c.loop-k.invariant
    (put-laid c.loop-k.buffer (c.args.at + N * c.loop-k.k) (T.numbers x) _ _ r (omega (arith, s)) (c.copy_from_slice.ensures.after ∙ c.numbers.ensures))
