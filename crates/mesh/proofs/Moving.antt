-- What is done to a stored mesh: a buffer moved piece by piece, points summed, and what a done answer says. Assumes nothing.
use Rattle.std.proofs.Common.{◌≡◌, ℕ, ◌+◌, ◌*◌, ◌<◌, ◌≤◌, Bool, true, ltb, List, length, get_or, pos, sym, ap, ◌∙◌, inr, zero-add, arith, ltb-true, leb-true, add-one}
use mathlib.Core.List.{foldl, foldl-append}
use lib.Ieee.{Float, nan, binary32, of_int}
use Rattle.face.specs.declared.triangle.Counts.{Counts}
use Rattle.face.specs.Lists.{each, chain}
use Rattle.face.specs.Vec.{middle}
use Rattle.face.proofs.Filling.{length-each}
use Rattle.answer.specs.Answers.{Answer}
use Rattle.std.specs.Prelude.{Ok, Err}
use Rattle.answer.specs.declared.answer.Refusal.{Refusal}
use Rattle.answer.specs.declared.answer.Refusal.TheVariants.{Shape, Range, Empty}
use Rattle.answer.specs.Answers.{Roomy, limited, after}
use Rattle.answer.proofs.Laws.{given-done, done-limited, not_done, same-counts}
use Rattle.buffers.specs.Laying.{Buffers, laid}
use Rattle.buffers.proofs.Laid.{Laying, laying-more, laid-outside, chain_length}
use Rattle.buffers.proofs.Rooms.{both}
use Rattle.mesh.specs.Stored.{holds_counts, answer_of, centroid_answer, middle_by, not_empty}

-- ---- a loop that replaces n numbers a turn by those of a part that it reads there and moves: it reads from its place on
-- alone, so what is laid before that place does not change it
abbrev Alike : ℕ → List Float → List Float → Type 0
Alike at l r = (p : ℕ) → at ≤ p → get_or l p nan ≡ get_or r p nan

module _ {A : Type 0} (n : ℕ) (read : List Float → ℕ → A) (numbers : A → List Float) (f : A → A) where
  abbrev part : List Float → ℕ → List Float
  part l k = numbers (f (read l (n * k)))

  abbrev pub Moving : ℕ → List Float → ℕ → List Float → Type 0
  Moving m l k now = Laying (part l) m l 0 k now

  pub moving-more : (sized : (p : A) → length (numbers p) ≡ n) (own : (l r : List Float) (at : ℕ) → Alike at l r → read l at ≡ read r at)
      → (m : ℕ) (l : List Float) (k : ℕ) (now next : List Float) → Moving m l k now → k < m → next ≡ laid now (n * k) (part now k) → Moving m l (k + 1) next
  moving-more sized own m l k now next y u e =
      laying-more (part l) n (λ j. sized (f (read l (n * j)))) m l 0 k now next y u (rw (zero-add, ← still) e)
    where
      still : part now k ≡ part l k
      still =
          ap (λ (x : A). numbers (f x))
          (own now l (n * k) (λ p h.
          let e : length (chain (part l) k) ≡ n * k = chain_length (part l) n (λ j. sized (f (read l (n * j)))) k in
          rw y.2 (laid-outside l 0 (chain (part l) k) p nan (inr (omega arith)))))

-- ---- k points summed one by one
pub adding-more : {A : Type 0} (plus : A → A → A) (none : A) (g : ℕ → A) (k : ℕ) (t : A) → t ≡ foldl plus none (each g k) → plus t (g k) ≡ foldl plus none (each g (k + 1))
adding-more plus none g k t e = rw (e, add-one k, foldl-append)

-- the sum over how many they are is their middle
pub mean-middle : {A : Type 0} (plus : A → A → A) (none : A) (over : A → Float → A) (g : ℕ → A) (m : ℕ) (t x : A) → t ≡ foldl plus none (each g m) → x ≡ over t (of_int binary32 (pos m)) → x ≡ middle plus none over (each g m)
mean-middle plus none over g m t x e h = h ∙ rw (e, length-each g m)

-- ---- what a done answer says: the counts are those given, can be numbered, and fit
pub record Kept (c d : Counts) (B : Buffers) : Type 0 where
  pub same : c ≡ d
  pub limit : d.vertices.0 ≤ 65536
  pub room : Roomy d (length B.vertices) (length B.normals) (length B.uvs) (length B.indices)

-- lists that hold what the counts say
pub holds-room : (c : Counts) (v n t i : ℕ) → holds_counts c v n t i ≡ true → Roomy c v n t i
holds-room c v n t i e =
    both _ _ e (λ p e₁. both _ _ e₁ (λ q e₂. both _ _ e₂ (λ r s.
    record { vertices = leb-true _ _ p; normals = leb-true _ _ q; uvs = leb-true _ _ r; indices = leb-true _ _ s })))

pub not_empty-done : (a : Answer) (d : Counts) → not_empty a ≡ Ok d → (a ≡ Ok d) × (0 < d.vertices.0)
not_empty-done (Err e) d p = not_done p
not_empty-done (Ok c) d p =
    let h = given-done (ltb 0 c.vertices.0) Empty (Ok c) p in
    (h.1, rw (same-counts h.1) at (ltb-true 0 c.vertices.0 h.0))

module _ (c : Counts) (B : Buffers) where
  pub stored-done : (good : Bool) (d : Counts) → answer_of c good B ≡ Ok d → Kept c d B
  stored-done good d e =
      let h = given-done (holds_counts c _ _ _ _) Shape _ e in
      let l = done-limited c d (given-done good Range (limited c) h.1).1 in
      record { same = l.1; limit = rw l.1 at l.0; room = rw l.1 at (holds-room c _ _ _ _ h.0) }

  -- buffers for which new is what is to be written, where the answer is done
  pub moved : (new : Counts → Buffers) (good : Bool) (d : Counts) → answer_of c good B ≡ Ok d → new d ≡ after (answer_of c good B) B (new c)
  moved new good d e = rw e (ap new (sym (stored-done good d e).same))

  -- ---- a done centroid is the middle, and the counts are those given
  pub centred : {A : Type 0} (middle : ℕ → A) {d : Counts} {x : A} → centroid_answer c B ≡ Ok d → x ≡ middle d.vertices.0
      → Ok (record { counts = d; centroid = x }) ≡ middle_by (centroid_answer c B) (middle c.vertices.0)
  centred middle {d} k m =
      let same = (stored-done true d (not_empty-done (answer_of c true B) d k).0).same in
      rw (k, m, same)
