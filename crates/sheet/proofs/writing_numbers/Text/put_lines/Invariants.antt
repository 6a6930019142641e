-- `put_lines`: a turn writes one number more. Assumes nothing.
use Rattle.sheet.proofs.Pieces.{Written}
use Rattle.sheet.proofs.writing_numbers.Text.put_lines.Given as goal

abbrev pub invariant-loop-k : goal.invariant-loop-k
invariant-loop-k g l = Written g.T.Printed.word l.numbers l.width l.initial.self l.k l.self
