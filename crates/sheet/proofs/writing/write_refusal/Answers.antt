-- `write_refusal`: the length that is tested is the text's. Assumes nothing.
use borrow.Author.Rules.{rules}
use native.Mathlib.Omega.{arith}
use Prim.Native.Nat.{◌≤◌}
use lib.ListN.{length}
use borrow.Author.Tests.{le-leb, lt-leb}
use Rattle.sheet.specs.Meshes.{refusal_text}
use Rattle.sheet.proofs.Rooms.{length-refusal}
use Rattle.sheet.proofs.Whole.{written-so, written-not}
use Rattle.sheet.proofs.writing.write_refusal.Goals as goal

pub returns-then-digit_count-out : goal.returns-then-digit_count-out
unfolding refusal_text
returns-then-digit_count-out c = let a = c.args in
    written-not _ _ _ (lt-leb (length (refusal_text a.number)) (length a.out.now) (omega (arith, length-refusal a.number, c.digit_count.ensures.count)))

pub put_heading-requires : goal.put_heading-requires
unfolding refusal_text
put_heading-requires c = omega (arith, length-refusal c.args.number, c.digit_count.ensures.count)

pub returns : goal.returns
unfolding refusal_text
returns c = let a = c.args in
    let h : length (refusal_text a.number) ≤ length a.out.now = omega (arith, length-refusal a.number, c.digit_count.ensures.count) in
    written-so _ _ _ _ _ _ (le-leb _ _ h) h (search rules) c.put_heading.ensures.put
