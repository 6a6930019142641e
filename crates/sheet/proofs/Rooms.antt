-- How long a text is, and what the tests before it say. Assumes nothing.
use mathlib.Core.Path.{◌≡◌, sym, ◌∙◌}
use mathlib.Core.Bool.{Bool, true, false}
use mathlib.Core.List.{List, [], ◌∷◌, ◌++◌}
use Prim.Native.Nat.{ℕ, ◌+◌, ◌*◌, ◌-◌, ◌≤◌, ◌<◌}
use native.Mathlib.Numerals.{add-one}
use native.Mathlib.Omega.{arith}
use borrow.Author.Tests.{le-leb, lt-leb, leb-true}
use lib.Dec.{leb}
use lib.ListN.{length, get_or, length-append}
use lib.Ieee.{Float}
use Rattle.face.specs.Lists.{chain}
use Rattle.buffers.proofs.Laid.{chain_length}
use Rattle.buffers.proofs.Rooms.{both}
use Rattle.face.specs.declared.triangle.Counts.{Counts}
use Rattle.buffers.specs.Laying.{Buffers}
use Rattle.sheet.specs.Digits.{newline, hex_digits, decimal, digit_count, gap, heading}
use Rattle.sheet.specs.Meshes.{float_word, index_word, float_lines, index_lines, floats_text, indices_text, mesh_text, text_length, refusal_text, vertices_word, normals_word, uvs_word, indices_word, refused_word, is_whole}
use Rattle.sheet.proofs.Numerals.{length_digits}
use Rattle.sheet.proofs.Pieces.{grown}

-- ---- lengths
pub length-heading : (word : List ℕ) (n : ℕ) → length (heading word n) ≡ length word + (digit_count n + 1)
length-heading word n = length-append word (decimal n ++ (newline ∷ [])) ∙ rw (length-append (decimal n) (newline ∷ []), length_digits 10 (digit_count n) n)

pub length-index : (is : List ℕ) (k : ℕ) → length (index_word is k) ≡ digit_count (get_or is k 0) + 1
length-index is k = let x : ℕ = get_or is k 0 in length-append (decimal x) (gap 3 k ∷ []) ∙ rw (length_digits 10 (digit_count x) x)

pub length_float : (xs : List Float) (w k : ℕ) → length (float_word xs w k) ≡ 9
length_float xs w k = length-append (hex_digits _) (gap w k ∷ []) ∙ rw (length_digits 16 8 _)

length-floats : (xs : List Float) (w n : ℕ) → length (float_lines xs w n) ≡ 9 * n
unfolding float_lines
length-floats xs w n = chain_length (float_word xs w) 9 (length_float xs w) n

length_part : (word : List ℕ) (xs : List Float) (w v : ℕ) → length (floats_text word xs w v) ≡ length word + (digit_count v + 1) + 9 * (w * v)
length_part word xs w v = length-append (heading word v) (float_lines xs w (w * v)) ∙ rw (length-heading word v, length-floats xs w (w * v))

pub length-mesh : (B : Buffers) (c : Counts) → length (mesh_text B c) ≡ text_length c.vertices.0 c.indices.0 B.indices
unfolding mesh_text
length-mesh B c =
    let v : ℕ = c.vertices.0 in
    let i : ℕ = c.indices.0 in
    let p : List ℕ = floats_text vertices_word B.vertices 3 v in
    let q : List ℕ = floats_text normals_word B.normals 3 v in
    let r : List ℕ = floats_text uvs_word B.uvs 2 v in
    let s : List ℕ = indices_text B.indices i in
    length-append p (q ++ (r ++ s))
    ∙ rw (length-append q (r ++ s), length-append r s, length-append (heading indices_word i) (index_lines B.indices i))
    (rw (length_part vertices_word B.vertices 3 v, length_part normals_word B.normals 3 v, length_part uvs_word B.uvs 2 v, length-heading indices_word i) (omega arith))

pub length-refusal : (n : ℕ) → length (refusal_text n) ≡ 9 + digit_count n
unfolding refusal_text
length-refusal n = length-heading refused_word n ∙ omega arith

-- ---- the test of the lists
module _ (v i a b c d : ℕ) where
  pub is-whole : (x : Bool) → x ≡ is_whole v i a b c d → x ≡ true → is_whole v i a b c d ≡ true
  is-whole x p e = sym p ∙ e

  pub record Whole : Type 0 where
    pub vertices : 3 * v ≤ a
    pub normals : 3 * v ≤ b
    pub uvs : 2 * v ≤ c
    pub indices : i ≤ d

  pub whole_is : is_whole v i a b c d ≡ true → Whole
  unfolding is_whole
  whole_is e =
      both _ _ e (λ p e₁. both _ _ e₁ (λ q e₂. both _ _ e₂ (λ r e₃. both _ _ e₃ (λ s z.
      record { vertices = leb-true _ _ p; normals = leb-true _ _ q; uvs = leb-true _ _ r; indices = leb-true _ _ s }))))

-- ---- the test of the indices' room: after k of them so much is left, and the next takes w digits and one byte
module _ (is : List ℕ) (n room k left w : ℕ) (u : k < n) (taken : left + length (chain (index_word is) k) ≡ room) (e : w ≡ digit_count (get_or is k 0)) where
  pub indices-over : left < w + 1 → false ≡ leb (length (index_lines is n)) room
  unfolding index_lines
  indices-over h = sym (lt-leb (length (chain (index_word is) n)) room (omega (arith, grown (index_word is) k n u, length-index is k)))

  pub indices-more : w + 1 ≤ left → left - (w + 1) + length (chain (index_word is) (k + 1)) ≡ room
  indices-more h = rw (add-one k, length-append (chain (index_word is) k) (index_word is k), length-index is k) (omega arith)

pub indices-within : (is : List ℕ) (n room k left : ℕ) → k ≤ n → n ≤ k → left + length (chain (index_word is) k) ≡ room → true ≡ leb (length (index_lines is n)) room
unfolding index_lines
indices-within is n room k left h g taken = let e : k ≡ n = omega arith in let t : left + length (chain (index_word is) n) ≡ room = rw e at taken in sym (le-leb (length (chain (index_word is) n)) room (omega arith))
