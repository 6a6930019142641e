-- The bytes of a file of triangles: what is read of them, and what is written of what was read. Assumes nothing.
use mathlib.Core.Path.{◌≡◌, refl, sym, ap, ap₂, ◌∙◌}
use mathlib.Core.Bool.{Bool, true, cond}
use mathlib.Core.List.{List, [], ◌∷◌, ◌++◌}
use Prim.Native.Nat.{ℕ, ◌+◌, ◌*◌, ◌<◌, ◌≤◌}
use native.Mathlib.Nat.{add_assoc, add-zero}
use native.Mathlib.Omega.{arith}
use borrow.Author.Tests.{le-leb, eq-eqb}
use lib.Dec.{lit<}
use lib.ListN.{length, get_or, take, drop, length-append, length-drop, get_or-append}
use lib.Seq.{get_or-append-add, take_all}
use lib.Ieee.{Float, nan, is_nan, to_bits, binary32}
use Rattle.patterns.specs.Patterns.{bits_of, float_of, bytes_of}
use Rattle.patterns.proofs.Laws.{bits_below, number-back, pattern-back, bytes_back, of-bytes-below, of-bytes-back}
use Rattle.face.specs.Lists.{chain}
use Rattle.face.proofs.Filling.{each_same, each_all, chain_same}
use Rattle.buffers.specs.Laying.{spread}
use Rattle.buffers.proofs.Laid.{spread_at, spread-each, chain_length}
use Rattle.stl.specs.declared.Facet.{Facet}
use Rattle.stl.specs.File.{file_length, number_bytes, facet_bytes, head_bytes, file_bytes, filed_pattern, filed_number, filed_count, filed_facet}
use Rattle.stl_reading.specs.Reading.{is_file}
use Rattle.stl_law.specs.Law.{AllFloats, AllBytes, Plain, SameFrom80}
use Rattle.stl_law.proofs.Pieces.{part-add, parts, part-each, chain-at}
use Rattle.stl_law.proofs.Facets.{numbers_of, same-facet, filed-numbers}

-- ---- written, then read: four bytes make a number's pattern again
pattern-at : (file : List ℕ) (p n : ℕ) → n < 4294967296 → ((j : ℕ) → j < 4 → get_or file (p + j) 0 ≡ get_or (bytes_of n) j 0) → filed_pattern file p ≡ n
pattern-at file p n h e =
    let z : get_or file p 0 ≡ get_or (bytes_of n) 0 0 = rw add-zero at (e 0 (lit< tt)) in
    rw (z, e 1 (lit< tt), e 2 (lit< tt), e 3 (lit< tt)) (bytes_back n h)

module _ (f : ℕ → Facet) (t : ℕ) where
  pub file-long : length (file_bytes f t) ≡ file_length t
  file-long = length-append (head_bytes t) (chain (λ k. facet_bytes (f k)) t) ∙ rw (chain_length (λ k. facet_bytes (f k)) 50 (λ k. refl) t)

  byte_at : (k j : ℕ) → k < t → j < 50 → get_or (file_bytes f t) (file_length k + j) 0 ≡ get_or (facet_bytes (f k)) j 0
  byte_at k j u v =
      rw (add_assoc 84 (50 * k) j)
      (get_or-append-add (head_bytes t) (chain (λ i. facet_bytes (f i)) t) (50 * k + j) 0 ∙ chain-at facet_bytes 50 (λ g. refl) f t k j 0 u v)

  -- a triangle's bytes compute to those of its twelve numbers, and two more
  pattern-in : (k i : ℕ) → k < t → i < 12 → AllFloats (numbers_of (f k)) → filed_pattern (file_bytes f t) (file_length k + 4 * i) ≡ bits_of (get_or (numbers_of (f k)) i nan)
  pattern-in k i u v h =
      let x : Float = get_or (numbers_of (f k)) i nan in
      pattern-at (file_bytes f t) (file_length k + 4 * i) (bits_of x) (bits_below x (h i)) (λ j w.
      rw (add_assoc (file_length k) (4 * i) j)
      (byte_at k (4 * i + j) u (omega arith)
      ∙ get_or-append (spread number_bytes (numbers_of (f k))) (0 ∷ 0 ∷ []) 0 (4 * i + j) (omega arith)
      ∙ spread_at number_bytes 4 (λ y. refl) (numbers_of (f k)) nan i j 0 v w))

  number_at : (k i : ℕ) → k < t → i < 12 → AllFloats (numbers_of (f k)) → filed_number (file_bytes f t) (file_length k + 4 * i) ≡ get_or (numbers_of (f k)) i nan
  number_at k i u v h = ap float_of (pattern-in k i u v h) ∙ number-back (get_or (numbers_of (f k)) i nan) (h i)

  pub facet-back : (k : ℕ) → k < t → AllFloats (numbers_of (f k)) → filed_facet (file_bytes f t) k ≡ f k
  facet-back k u h =
      same-facet (filed_facet (file_bytes f t) k) (f k)
      (filed-numbers (file_bytes f t) k ∙ each_same _ _ 12 (λ i v. number_at k i u v h) ∙ each_all (numbers_of (f k)) nan 12 refl)

  module _ (h : t < 4294967296) where
    pub count-back : filed_count (file_bytes f t) ≡ t
    count-back = bytes_back t h

    pub is-file : is_file (file_bytes f t) ≡ true
    is-file = rw (file-long, count-back, le-leb 84 (file_length t) (omega arith), eq-eqb (file_length t) (file_length t) refl)

    -- a NaN was written as the one pattern
    pub plain-file : ((k : ℕ) → AllFloats (numbers_of (f k))) → Plain (file_bytes f t)
    plain-file floats =
        record {
          attributes = λ k u. (byte_at k 48 (own k u) (lit< tt), byte_at k 49 (own k u) (lit< tt));
          nans = λ k j u v e.
              let x : Float = get_or (numbers_of (f k)) j nan in
              let is_one : is_nan x ≡ true = ap is_nan (sym (number_at k j (own k u) v (floats k))) ∙ e in
              pattern-in k j (own k u) v (floats k) ∙ ap (λ (b : Bool). cond b 0x7fc0_0000 (to_bits binary32 x)) is_one;
        }
      where
        own : (k : ℕ) → k < filed_count (file_bytes f t) → k < t
        own k u = rw count-back at u

-- ---- read, then written: a number's bytes are those that it was read from
module _ (file : List ℕ) (b : AllBytes file) where
  pattern-part : (p : ℕ) → p + 4 ≤ length file → bytes_of (filed_pattern file p) ≡ take 4 (drop p file)
  pattern-part p h =
      of-bytes-back _ _ _ _ (b p) (b (p + 1)) (b (p + 2)) (b (p + 3)) ∙ sym (rw (add-zero p) at (part-each 0 file p 4 h))

  number-part : (p : ℕ) → p + 4 ≤ length file → (is_nan (filed_number file p) ≡ true → filed_pattern file p ≡ 0x7fc0_0000)
      → number_bytes (filed_number file p) ≡ take 4 (drop p file)
  number-part p h plain =
      ap bytes_of (pattern-back (filed_pattern file p) (of-bytes-below _ _ _ _ (b p) (b (p + 1)) (b (p + 2)) (b (p + 3))) plain) ∙ pattern-part p h

  module _ (plain : Plain file) (long : length file ≡ file_length (filed_count file)) where
    -- the two attribute bytes are zero, as they are written
    attributes-part : (k : ℕ) → k < filed_count file → 0 ∷ 0 ∷ [] ≡ take 2 (drop (file_length k + 48) file)
    attributes-part k u =
        let p : ℕ = file_length k in
        sym (part-each 0 file (p + 48) 2 (omega arith) ∙ rw (add-zero (p + 48), add_assoc p 48 1, (plain.attributes k u).0, (plain.attributes k u).1))

    facet-part : (k : ℕ) → k < filed_count file → facet_bytes (filed_facet file k) ≡ take 50 (drop (file_length k) file)
    facet-part k u =
        let p : ℕ = file_length k in
        ap (λ (l : List Float). spread number_bytes l ++ (0 ∷ 0 ∷ [])) (filed-numbers file k)
        ∙ ap₂ (λ (l r : List ℕ). l ++ r)
        (spread-each number_bytes (λ j. filed_number file (p + 4 * j)) 12
        ∙ chain_same _ _ 12 (λ j v. number-part (p + 4 * j) (omega arith) (plain.nans k j u v))
        ∙ parts file p 4 12)
        (attributes-part k u)
        ∙ part-add file p 48 2

    pub same_bytes : SameFrom80 (file_bytes (filed_facet file) (filed_count file)) file
    same_bytes =
        let t : ℕ = filed_count file in
        ap₂ (λ (l r : List ℕ). l ++ r)
        (pattern-part 80 (omega arith))
        (chain_same _ _ t facet-part ∙ parts file 84 50 t)
        ∙ part-add file 80 4 (50 * t)
        ∙ take_all (4 + 50 * t) (drop 80 file) (simp length-drop (omega arith))
