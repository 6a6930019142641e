use mathlib.Core.List.{[], ◌∷◌}
use Rattle.sheet.specs.Digits.{gap}
use Rattle.sheet.proofs.Pieces.{written-none, written-room, written-more, written-all, text-room, text-room-next, puts-next}
use Rattle.sheet.proofs.writing_numbers.Text.put_lines.Goals as goal

pub loop-k-init : goal.loop-k-init
loop-k-init g c = written-none _ _ _ _

pub put-requires : goal.put-requires
put-requires g c = text-room c.loop-k.self (g.T.Printed.word c.index-numbers-k.result) (gap c.args.width c.loop-k.k ∷ []) (written-room _ _ _ _ _ _ _ c.loop-k.invariant c.loop-k-test.true c.index-numbers-k.is c.requires.room)

pub put_byte-requires : goal.put_byte-requires
put_byte-requires g c = text-room-next _ _ _ (gap c.args.width c.loop-k.k ∷ []) (written-room _ _ _ _ _ _ _ c.loop-k.invariant c.loop-k-test.true c.index-numbers-k.is c.requires.room) c.put.ensures

pub loop-k-preserved : goal.loop-k-preserved
loop-k-preserved g c = written-more _ _ _ _ _ _ _ c.loop-k.invariant c.loop-k-test.true c.index-numbers-k.is _ (rw c.gap.ensures at (puts-next _ _ _ _ _ c.put.ensures c.put_byte.ensures))

pub returns : goal.returns
returns g c = λ d. written-all _ _ _ _ _ _ d c.loop-k.invariant c.loop-k-test.false
