-- A list copied over a part of another is laid there. Assumes nothing.
use mathlib.Core.Path.{◌≡◌, refl, ◌∙◌}
use mathlib.Core.List.{List, [], ◌∷◌, ◌++◌, append_assoc}
use Prim.Native.Nat.{ℕ, suc, ◌+◌, ◌<◌, ◌≤◌}
use native.Mathlib.Nat.{add-suc, suc-add, add-zero}
use native.Mathlib.Omega.{arith}
use lib.ListN.{length, set, take, drop, length-set}
use lib.Seq.{take-suc-set}
use Rattle.std.proofs.lemmas.List.{take-append-drop, drop-set-lt}
use Rattle.std.proofs.lemmas.List.Edits.{paste_all}
use Rattle.std.proofs.lemmas.Slice.{put_mid-paste}
use borrow.Rule.Slice.PartMut.{put_mid}
use Rattle.buffers.specs.Laying.{laid}

module _ {A : Type 0} where
  pub spliced : (l : List A) (at : ℕ) (xs : List A) → at + length xs ≤ length l → take at l ++ (xs ++ drop (at + length xs) l) ≡ laid l at xs
  unfolding laid
  spliced l at [] h = rw add-zero (take-append-drop at l)
  spliced l at (x ∷ xs) h =
      let a : at < length l = omega arith in
      let b : at < suc at + length xs = omega arith in
      let r : suc at + length xs ≤ length (set l at x) = rw length-set (omega arith) in
      rw (← spliced (set l at x) (suc at) xs r, take-suc-set l at x a, drop-set-lt (suc at + length xs) l at x b, append_assoc, add-suc, suc-add)

  pub put-laid : (l : List A) (at : ℕ) (xs : List A) (k : ℕ) (ys : List A) → at + length xs ≤ length l → length xs ≡ k → ys ≡ xs → put_mid at k l ys ≡ laid l at xs
  put-laid l at xs k ys h e p = put_mid-paste at k l ys xs (length xs) p e refl ∙ paste_all l at xs (length xs) refl ∙ spliced l at xs h
