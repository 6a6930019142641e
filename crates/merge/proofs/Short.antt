-- A merge into buffers that are too short for both meshes: the first such buffer is told, with its need. Assumes nothing.
use mathlib.Core.Path.{◌≡◌, sym, ap, subst, ◌∙◌}
use mathlib.Core.Logic.{⊎_elim}
use mathlib.Core.Bool.{true}
use Prim.Native.Nat.{ℕ, ◌≤◌}
use native.Mathlib.Nat.{le_trans}
use native.Mathlib.Omega.{arith}
use borrow.Author.Tests.{le-leb}
use Rattle.face.specs.declared.triangle.Counts.{Counts}
use Rattle.answer.specs.declared.answer.Buffer.{Buffer}
use Rattle.answer.specs.declared.answer.Buffer.TheVariants.{Vertices, Normals, Uvs, Indices}
use Rattle.answer.specs.declared.answer.Refusal.TheVariants.{Room}
use Rattle.std.specs.Prelude.{Ok, Err}
use Rattle.answer.specs.Answers.{need_for, Roomy, FirstShort, Lengthened, Past}
use Rattle.answer.proofs.Laws.{limited-done, same_or_not, short-first, first_short, past}
use Rattle.buffers.specs.Mesh.{also}
use Rattle.buffers.specs.Laying.{Buffers}
use Rattle.mesh.specs.Stored.{holds_counts}
use Rattle.mesh.specs.Jobs.{ShortIn, RefusedRoom, length_in, roomed_in}
use Rattle.mesh.proofs.Moving.{holds-room}
use Rattle.merge.specs.Merge.{Mergeable, merge_answer}
use Rattle.merge.proofs.Merging.{own-decide}

-- the room alone is left to test
merge-roomed : (s : Counts) (S : Buffers) (t : Counts) (T : Buffers) → Mergeable s S t T → merge_answer s S t T ≡ roomed_in T (Ok (also t s))
merge-roomed s S t T m =
    sym (own-decide s _ _ _ S.indices t _ _ _ _ m.source m.target true m.own)
    ∙ ap (roomed_in T) (limited-done (also t s) m.limit)

-- ---- a target with one buffer lengthened to the need of both holds its own counts still
holds-so : (c : Counts) (l : Buffer → ℕ) → ((a : Buffer) → need_for a c ≤ l a) → holds_counts c (l Vertices) (l Normals) (l Uvs) (l Indices) ≡ true
holds-so c l h = rw (le-leb _ _ (h Vertices), le-leb _ _ (h Normals), le-leb _ _ (h Uvs), le-leb _ _ (h Indices))

own-need : (a : Buffer) (t s : Counts) → need_for a t ≤ need_for a (also t s)
own-need Vertices t s = omega arith
own-need Normals t s = omega arith
own-need Uvs t s = omega arith
own-need Indices t s = omega arith

roomy-at : (c : Counts) (B : Buffers) → Roomy c (length_in B Vertices) (length_in B Normals) (length_in B Uvs) (length_in B Indices) → (a : Buffer) → need_for a c ≤ length_in B a
roomy-at c B r Vertices = r.vertices
roomy-at c B r Normals = r.normals
roomy-at c B r Uvs = r.uvs
roomy-at c B r Indices = r.indices

module _ (s : Counts) (S : Buffers) (t : Counts) (T : Buffers) (m : Mergeable s S t T) where
  still : (b : Buffer) (U : Buffers) → Lengthened b (need_for b (also t s)) (length_in T) (length_in U) → (a : Buffer) → need_for a t ≤ length_in U a
  still b U g a =
      ⊎_elim
      (λ e. subst (λ (x : Buffer). need_for x t ≤ length_in U x) (sym e) (le_trans (own-need b t s) g.longer))
      (λ n. rw (g.others a n) (roomy-at t T (holds-room t _ _ _ _ m.target) a))
      (same_or_not a b)

  mergeable-still : (b : Buffer) (U : Buffers) → Lengthened b (need_for b (also t s)) (length_in T) (length_in U) → Mergeable s S t U
  mergeable-still b U g = record { source = m.source; target = holds-so t (length_in U) (still b U g); own = m.own; limit = m.limit }

  -- L1: the first short buffer and its need; with that one at its need the merge is done, or refused for a later one
  module _ (b : Buffer) (f : FirstShort (also t s) (length_in T) b) where
    pub first-merge : merge_answer s S t T ≡ Err (Room b (need_for b (also t s)))
    first-merge = merge-roomed s S t T m ∙ first_short (also t s) (length_in T) b f m.limit

    pub past-merge : (U : Buffers) → Lengthened b (need_for b (also t s)) (length_in T) (length_in U) → Past (also t s) (merge_answer s S t U) b
    past-merge U g = rw (merge-roomed s S t U (mergeable-still b U g)) (past (also t s) (length_in T) (length_in U) b f g m.limit)

  -- whichever of the four is short
  pub short-merge : ShortIn (also t s) T → RefusedRoom (also t s) T (merge_answer s S t T)
  short-merge h =
      let f = short-first (also t s) _ _ _ _ h in
      record { buffer = f.buffer; first = f.first; refused = first-merge f.buffer f.first }
