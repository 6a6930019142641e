-- The tests of a writer in their order, and what holds where all of them pass. Assumes nothing.
use mathlib.Core.Path.{◌≡◌, sym, ap, subst, ◌∙◌}
use mathlib.Core.Bool.{Bool, true}
use mathlib.Core.List.{List}
use Prim.Native.Nat.{ℕ, ◌*◌, ◌<◌}
use native.Mathlib.Omega.{arith}
use borrow.Author.Tests.{leb-true, ltb-true, eqb-true, le-leb, lt-ltb}
use lib.Dec.{leb}
use lib.ListN.{length, get_or, take}
use lib.Seq.{length-take-le, get_or-take}
use lib.Ieee.{Float}
use Rattle.face.specs.declared.triangle.Counts.{Counts}
use Rattle.answer.specs.declared.answer.Refusal.{Refusal}
use Rattle.answer.specs.declared.answer.Refusal.TheVariants.{Shape, Limit, Index}
use Rattle.answer.specs.Answers.{Answer}
use Rattle.std.specs.Prelude.{Ok, Err}
use Rattle.answer.specs.Answers.{given, value_of}
use Rattle.answer.specs.Checks.{every, below}
use Rattle.answer.proofs.Laws.{every-at, every-so, given-done, same-counts, after-done, after-refused}
use Rattle.buffers.specs.Laying.{Buffers, laid}
use Rattle.buffers.proofs.Rooms.{both}
use Rattle.mesh.specs.Stored.{holds_counts}
use Rattle.mesh.proofs.Moving.{holds-room}
use Rattle.stl.specs.File.{file_length, file_bytes}
use Rattle.stl_writing.specs.declared.Filed.{Filed}
use Rattle.stl_writing.specs.Writing.{facet_of, triangles_of, whole_triangles, length_tested, write_tested, write_answer, filed_by, file_answer, written, Writes, HoldsNamed}

module _ (c : Counts) (v n t : ℕ) (is : List ℕ) (l : ℕ) where
  abbrev in_order : Bool → Bool → Bool → Answer
  in_order x y z = given x Shape (given y Limit (given z Index (length_tested c l)))

  abbrev own : Bool
  own = every (below c.vertices.0) (take c.indices.0 is)

  -- the answer by the outcomes of the first three tests
  pub decide : (x y z : Bool) → holds_counts c v n t (length is) ≡ x → leb c.vertices.0 65536 ≡ y → own ≡ z → in_order x y z ≡ write_tested c v n t is l
  decide x y z p q r =
      sym (ap (λ (b : Bool). in_order b (leb c.vertices.0 65536) own) p
      ∙ ap (λ (b : Bool). in_order x b own) q
      ∙ ap (λ (b : Bool). in_order x y b) r)

-- a writer that is done has passed them all
pub write_done : (c : Counts) (v n t : ℕ) (is : List ℕ) (l : ℕ) (d : Counts) → write_tested c v n t is l ≡ Ok d → (c ≡ d) × Writes d v n t is l
write_done c v n t is l d e =
    let p = given-done _ _ _ e in
    let q = given-done _ _ _ p.1 in
    let r = given-done _ _ _ q.1 in
    let s = given-done _ _ _ r.1 in
    let u = given-done _ _ _ s.1 in
    let h = holds-room c v n t (length is) p.0 in
    let long = length-take-le c.indices.0 is h.indices in
    let passed : Writes c v n t is l =
    both _ _ s.0 (λ x y.
    record {
      room = h;
      limit = leb-true _ _ q.0;
      own = λ k g.
          let inside : k < length (take c.indices.0 is) = omega (arith, long, g) in
          let first = every-at (below c.vertices.0) (take c.indices.0 is) 0 k r.0 inside in
          subst (λ (x : ℕ). x < c.vertices.0) (get_or-take c.indices.0 is k 0 g) (ltb-true _ _ first);
      whole = eqb-true _ _ x;
      few = leb-true _ _ y;
      fits = leb-true _ _ u.0;
    }) in
    let same = same-counts u.1 in (same, subst (λ (x : Counts). Writes x v n t is l) same passed)

-- and conversely
pub all_pass : (c : Counts) (v n t : ℕ) (is : List ℕ) (l : ℕ) → Writes c v n t is l → write_tested c v n t is l ≡ Ok c
all_pass c v n t is l w =
    let long = length-take-le c.indices.0 is w.room.indices in
    let own : every (below c.vertices.0) (take c.indices.0 is) ≡ true =
    every-so (below c.vertices.0) (take c.indices.0 is) 0 (λ k u.
    let inside : k < c.indices.0 = omega (arith, long, u) in
    let first : get_or (take c.indices.0 is) k 0 < c.vertices.0 = rw (get_or-take c.indices.0 is k 0 inside) (w.own k inside) in
    lt-ltb _ _ first) in
    let m = c.vertices.0 in
    let shape : holds_counts c v n t (length is) ≡ true =
    rw (le-leb (3 * m) v w.room.vertices, le-leb (3 * m) n w.room.normals, le-leb (2 * m) t w.room.uvs, le-leb c.indices.0 (length is) w.room.indices) in
    let whole : whole_triangles c.indices.0 ≡ true = rw (w.whole, le-leb (triangles_of c) 4294967295 w.few) in
    sym (decide c v n t is l true true true shape (le-leb m 65536 w.limit) own)
    ∙ rw (whole, le-leb (file_length (triangles_of c)) l w.fits)

-- so the lists hold every vertex that a triangle names
pub holds_named : (c : Counts) (vs ns ts : List Float) (is : List ℕ) (l : ℕ) → Writes c (length vs) (length ns) (length ts) is l → HoldsNamed vs ns is (triangles_of c)
holds_named c vs ns ts is l w =
    record {
      indices = omega (arith, w.room.indices);
      vertices = λ p h. omega (arith, w.own p (omega (arith, h)), w.room.vertices);
      normals = λ p h. omega (arith, w.own p (omega (arith, h)), w.room.normals);
    }

-- ---- what is told and what is written, where a test fails and where all pass
module _ (c : Counts) (B : Buffers) (old : List ℕ) where
  abbrev new : List ℕ
  new = laid old 0 (file_bytes (facet_of B) (triangles_of c))

  pub file-fits : {d : Counts} → write_answer c B (length old) ≡ Ok d → Writes d (length B.vertices) (length B.normals) (length B.uvs) B.indices (length old)
  file-fits {d} e = (write_done c (length B.vertices) (length B.normals) (length B.uvs) B.indices (length old) d e).1

  pub file-done : {d : Counts} {l : List ℕ} {n : ℕ} → write_answer c B (length old) ≡ Ok d → l ≡ laid old 0 (file_bytes (facet_of B) (triangles_of d)) → n ≡ file_length (triangles_of d)
      → (Ok (record { counts = d; bytes = n }) ≡ file_answer c B (length old)) × (l ≡ written c B old)
  file-done {d} {l} {n} e p q =
      let same : c ≡ d = (write_done c (length B.vertices) (length B.normals) (length B.uvs) B.indices (length old) d e).0 in
      let there : triangles_of d ≡ triangles_of c = ap triangles_of (sym same) in (
        ap (filed_by (Ok d)) (q ∙ ap file_length there) ∙ sym (ap (λ (a : Answer). filed_by a (file_length (triangles_of c))) e),
        p ∙ ap (λ (t : ℕ). laid old 0 (file_bytes (facet_of B) t)) there ∙ after-done (write_answer c B (length old)) old new e,
      )
