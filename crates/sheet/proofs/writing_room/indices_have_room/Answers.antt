use native.Mathlib.Omega.{arith}
use Prim.Native.Nat.{◌≤◌}
use lib.ListN.{length}
use Rattle.sheet.proofs.Rooms.{indices-over, indices-more, indices-within}
use Rattle.sheet.proofs.writing_room.indices_have_room.Goals as goal

pub returns-then-size-left : goal.returns-then-size-left
returns-then-size-left c = indices-over _ _ _ _ _ _ c.loop-index-test.true c.loop-index.invariant c.digit_count-size.ensures.count (omega arith)

pub loop-index-preserved : goal.loop-index-preserved
loop-index-preserved c = indices-more _ _ _ _ _ _ c.loop-index-test.true c.loop-index.invariant c.digit_count-size.ensures.count (omega arith)

pub returns : goal.returns
returns c = indices-within _ _ _ _ _ (let h : c.loop-index.index-index ≤ length c.args.indices.now = omega arith in h) c.loop-index-test.false c.loop-index.invariant
