-- No answer's text is empty, so a length of 0 says that nothing was written. Assumes nothing.
use mathlib.Core.List.{List}
use Prim.Native.Nat.{ℕ, ◌<◌}
use lib.ListN.{length}
use Rattle.std.specs.Prelude.{Option, Some, None, Ok, Err}
use Rattle.answer.specs.declared.answer.Refusal.TheVariants as refusal
use Rattle.answer.specs.Answers.{Answer}
use Rattle.answer.specs.Answers.{code}
use Rattle.buffers.specs.Mesh.{Mesh, size_of, joined}
use Rattle.column.specs.declared.Column.{Column}
use Rattle.column.specs.Column.{Lists, column_faces, planned}
use Rattle.sheet.specs.declared.reading.Sheet.{Sheet}
use Rattle.sheet.specs.Readers.{reading}
use Rattle.sheet.specs.Answering.{column_of, lists_of, printable, flat, text_for, column_text, reading_text, answer_text}
use Rattle.sheet.proofs.Laws.{mesh-some, refusal-some}

text-some : (a : Answer) (m : Mesh) → 0 < length (text_for a m)
text-some (Err e) m = refusal-some (code e)
text-some (Ok c) m = mesh-some (flat m) (size_of m)

column-some : (job : Column) (ls : Lists) → 0 < length (column_text job ls)
unfolding column_text
column-some job ls = text-some (printable (planned job ls)) (joined (column_faces job ls))

reading-some : (r : Option Sheet) → 0 < length (reading_text r)
reading-some (Some s) = column-some (column_of s) (lists_of s)
reading-some None = refusal-some (code refusal.Sheet)

pub answer-some : (bytes : List ℕ) → 0 < length (answer_text bytes)
unfolding answer_text
answer-some bytes = reading-some (reading bytes)
