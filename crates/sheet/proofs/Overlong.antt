-- The first 369 bytes of an input decide its answer. Assumes nothing.
use mathlib.Core.Path.{◌≡◌, sym, ap, ◌∙◌}
use mathlib.Core.Bool.{Bool, true, false, not}
use mathlib.Core.List.{List}
use Prim.Native.Nat.{ℕ, ◌≤◌, ◌<◌}
use native.Mathlib.Omega.{arith}
use lib.Dec.{T, ltb, ltb→lt, nltb→le}
use lib.ListN.{length, take}
use lib.Seq.{length-take-le, take_all}
use Rattle.answer.specs.declared.answer.Refusal.TheVariants.{Sheet}
use Rattle.answer.specs.Answers.{code}
use Rattle.sheet.specs.Meshes.{refusal_text}
use Rattle.sheet.proofs.Longest.{long-unread}
use Rattle.sheet.specs.Answering.{reading_text, answer_text}

pub overlong : (bytes : List ℕ) → 368 < length bytes → answer_text bytes ≡ refusal_text (code Sheet)
unfolding answer_text
overlong bytes h = ap reading_text (long-unread bytes h)

-- what is read of an input in a buffer of 369 bytes is answered as the whole input is
pub first-decide : (bytes : List ℕ) → answer_text (take 369 bytes) ≡ answer_text bytes
first-decide bytes = go (ltb 368 (length bytes)) (ltb→lt 368 (length bytes)) (nltb→le 368 (length bytes))
  where
    go : (x : Bool) → (T x → 368 < length bytes) → (T (not x) → length bytes ≤ 368) → answer_text (take 369 bytes) ≡ answer_text bytes
    go true y z =
        let h : 368 < length bytes = y tt in
        let t : length (take 369 bytes) ≡ 369 = length-take-le 369 bytes (omega arith) in
        overlong (take 369 bytes) (omega arith) ∙ sym (overlong bytes h)
    go false y z = let h : length bytes ≤ 368 = z tt in ap answer_text (take_all 369 bytes (omega arith))
