-- Points laid one after another, and the tests of a reader in their order. Assumes nothing.
use mathlib.Core.Path.{◌≡◌, sym, ap, ap₂, subst, ◌∙◌}
use mathlib.Core.Bool.{Bool, ◌&&◌}
use mathlib.Core.List.{List, [], ◌∷◌}
use Prim.Native.Nat.{ℕ, ◌+◌, ◌*◌, ◌/◌, ◌<◌, ◌≤◌}
use native.Mathlib.Nat.{zero-add}
use native.Mathlib.Numerals.{towards_suc}
use native.Mathlib.Omega.{arith}
use borrow.Author.Tests.{eqb-true}
use lib.Dec.{leb, eqb}
use lib.ListN.{length, set}
use Rattle.face.specs.declared.triangle.Counts.{Counts}
use Rattle.answer.specs.declared.answer.Refusal.{Refusal}
use Rattle.answer.specs.declared.answer.Refusal.TheVariants.{File}
use Rattle.answer.specs.Answers.{Answer}
use Rattle.std.specs.Prelude.{Ok, Err}
use Rattle.answer.specs.Answers.{Roomy, given, limited, roomed}
use Rattle.answer.proofs.Laws.{given-done, done-limited, roomed-done, after-done, after-refused}
use Rattle.buffers.specs.Laying.{Buffers, laid}
use Rattle.buffers.proofs.Laid.{Laying, laying-more}
use Rattle.buffers.proofs.Rooms.{both}
use Rattle.stl.specs.File.{file_length, filed_count, filed_facet}
use Rattle.stl_reading.specs.Reading.{is_file, unshared, read_tested, read_answer, unpacked, read_back, HoldsFile}

pub laid-nine : {A : Type 0} (l : List A) (at : ℕ) (a b c d e f g h i : A)
    → set (set (set (set (set (set (set (set (set l at a) (at + 1) b) (at + 2) c) (at + 3) d) (at + 4) e) (at + 5) f) (at + 6) g) (at + 7) h) (at + 8) i ≡ laid l at (a ∷ b ∷ c ∷ d ∷ e ∷ f ∷ g ∷ h ∷ i ∷ [])
unfolding laid
laid-nine l at a b c d e f g h i = simp towards_suc

-- a loop that lays nine numbers a turn, from the buffer's start
pub nine-more : {A : Type 0} (g : ℕ → List A) → ((k : ℕ) → length (g k) ≡ 9) → (m : ℕ) (l : List A) (k : ℕ) (now next : List A) → Laying g m l 0 k now → k < m → next ≡ laid now (9 * k) (g k) → Laying g m l 0 (k + 1) next
nine-more g h m l k now next y u e = laying-more g 9 h m l 0 k now next y u (e ∙ ap (λ (p : ℕ). laid now p (g k)) (sym (zero-add (9 * k))))

-- ---- the answer by the outcomes of the tests of the length
module _ (file : List ℕ) (v n u i : ℕ) where
  abbrev in_order : Bool → Bool → Answer
  in_order x y = given (x && y) File (roomed (limited (unshared (filed_count file))) v n u i)

  pub decide : (x y : Bool) → leb 84 (length file) ≡ x → eqb (length file) (file_length (filed_count file)) ≡ y → in_order x y ≡ read_tested file v n u i
  decide x y p q = sym (ap₂ in_order p q)

-- a reader that is done: the file has its length, its vertices can be numbered, and the buffers hold them
pub record Reads (file : List ℕ) (v n u i : ℕ) (d : Counts) : Type 0 where
  pub long : length file ≡ file_length (filed_count file)
  pub limit : 3 * filed_count file ≤ 65536
  pub same : unshared (filed_count file) ≡ d
  pub room : Roomy (unshared (filed_count file)) v n u i

pub read_done : (file : List ℕ) (v n u i : ℕ) (d : Counts) → read_tested file v n u i ≡ Ok d → Reads file v n u i d
read_done file v n u i d e =
    let p = given-done (is_file file) File (roomed (limited (unshared (filed_count file))) v n u i) e in
    let r = roomed-done (limited (unshared (filed_count file))) d v n u i p.1 in
    let l = done-limited (unshared (filed_count file)) d r.0 in
    both (leb 84 (length file)) (eqb (length file) (file_length (filed_count file))) p.0 (λ x y. record { long = eqb-true _ _ y; limit = l.0; same = l.1; room = rw l.1 r.1 })

-- ---- what is told and what is left in the buffers, where a test fails and where all pass
module _ (file : List ℕ) (B : Buffers) where
  module _ (d : Counts) (e : read_answer file B ≡ Ok d) where
    reads : Reads file (length B.vertices) (length B.normals) (length B.uvs) (length B.indices) d
    reads = read_done file (length B.vertices) (length B.normals) (length B.uvs) (length B.indices) d e

    third : filed_count file ≡ d.vertices.0 / 3
    third = let p : 3 * filed_count file ≡ d.vertices.0 = ap (λ (c : Counts). c.vertices.0) reads.same in omega (arith, p)

    pub held : HoldsFile file (d.vertices.0 / 3) B
    held =
        subst (λ (t : ℕ). HoldsFile file t B) third
        record {
          file = omega (arith, reads.long);
          limit = reads.limit;
          vertices = omega (arith, reads.room.vertices);
          normals = omega (arith, reads.room.normals);
          uvs = omega (arith, reads.room.uvs);
          indices = reads.room.indices;
        }

    pub all_read : {C : Buffers} → C ≡ unpacked (filed_facet file) (d.vertices.0 / 3) B → (Ok d ≡ read_answer file B) × (C ≡ read_back file B)
    all_read p = (
      sym e,
      p ∙ ap (λ (t : ℕ). unpacked (filed_facet file) t B) (sym third) ∙ after-done (read_answer file B) B (unpacked (filed_facet file) (filed_count file) B) e,
    )

  pub none_read : {e : Refusal} → read_answer file B ≡ Err e → (Err e ≡ read_answer file B) × (B ≡ read_back file B)
  none_read e = (sym e, after-refused (read_answer file B) B (unpacked (filed_facet file) (filed_count file) B) e)
