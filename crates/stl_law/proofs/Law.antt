-- L2e, L2f: a mesh written and then read, and a file read and then written. Assumes nothing.
use mathlib.Core.Path.{◌≡◌, sym, ap, ◌∙◌}
use mathlib.Core.List.{List, ◌++◌}
use Prim.Native.Nat.{ℕ, ◌<◌, ◌≤◌, suc-le-suc}
use native.Mathlib.Omega.{arith}
use lib.ListN.{length, drop}
use Rattle.face.specs.declared.triangle.Counts.{Counts}
use Rattle.face.proofs.Filling.{chain_same}
use Rattle.answer.specs.declared.answer.Refusal.TheVariants.{Limit}
use Rattle.answer.specs.Answers.{Answer}
use Rattle.std.specs.Prelude.{Ok, Err}
use Rattle.answer.specs.Answers.{Roomy, limited, roomed}
use Rattle.answer.proofs.Laws.{limited-done, limited-refused, room-enough, after-done}
use Rattle.buffers.specs.Laying.{Buffers}
use Rattle.stl.specs.declared.Facet.{Facet}
use Rattle.stl.specs.File.{file_length, facet_bytes, head_bytes, file_bytes, filed_count, filed_facet}
use Rattle.stl_writing.specs.Writing.{facet_of, triangles_of, write_answer, written, Writes}
use Rattle.stl_reading.specs.Reading.{unshared, read_answer, unpacked, read_back}
use Rattle.stl_writing.proofs.Testing.{write_done, all_pass}
use Rattle.stl_reading.proofs.Unpacking.{read_done}
use Rattle.stl_law.specs.Law.{AllFloats, AllBytes, file_in, ReadAs, Plain, SameFrom80}
use Rattle.stl_law.proofs.Pieces.{take-laid}
use Rattle.stl_law.proofs.Facets.{facet-floats}
use Rattle.stl_law.proofs.Filed.{file-long, facet-back, count-back, is-file, plain-file, same_bytes}
use Rattle.stl_law.proofs.Unpacked.{as_many, unpacked-same, facet-in, writes}

-- ---- what a done answer says of the file: 32 bits count its triangles, and it lies at the start of the buffer
module _ (c : Counts) (B : Buffers) (old : List ℕ) (e : write_answer c B (length old) ≡ Ok c) where
  counted : (triangles_of c < 4294967296) × (file_length (triangles_of c) ≤ length old)
  counted =
      let w = (write_done c (length B.vertices) (length B.normals) (length B.uvs) B.indices (length old) c e).1 in
      (suc-le-suc w.few, w.fits)

  file-in : file_in c (written c B old) ≡ file_bytes (facet_of B) (triangles_of c)
  file-in =
      rw e (take-laid 0 old (file_bytes (facet_of B) (triangles_of c)) (file_length (triangles_of c)) (file-long (facet_of B) (triangles_of c)) counted.1)

-- ---- written, then read: the limit and the room are left to test
abbrev room_in : Buffers → Answer → Answer
room_in R a = roomed a (length R.vertices) (length R.normals) (length R.uvs) (length R.indices)

reads : (f : ℕ → Facet) (t : ℕ) (R : Buffers) → t < 4294967296 → read_answer (file_bytes f t) R ≡ room_in R (limited (unshared t))
reads f t R h = rw (is-file f t h, count-back f t h)

pub read_back_lem : (c : Counts) (B : Buffers) (old : List ℕ) (R : Buffers) → AllFloats B.vertices → AllFloats B.normals
    → write_answer c B (length old) ≡ Ok c → triangles_of c ≤ 21845
    → Roomy (unshared (triangles_of c)) (length R.vertices) (length R.normals) (length R.uvs) (length R.indices)
    → ReadAs c B (file_in c (written c B old)) R
read_back_lem c B old R v n e h r =
    let f : ℕ → Facet = facet_of B in
    let t : ℕ = triangles_of c in
    let small = (counted c B old e).0 in
    let done : read_answer (file_bytes f t) R ≡ Ok (unshared t) =
    reads f t R small ∙ ap (room_in R) (limited-done (unshared t) (omega arith)) ∙ room-enough (unshared t) _ _ _ _ r in
    let facets : (k : ℕ) → k < t → filed_facet (file_bytes f t) k ≡ f k = λ k u. facet-back f t k u (facet-floats B v n k) in
    let back : read_back (file_bytes f t) R ≡ unpacked f t R =
    sym (after-done _ R (unpacked (filed_facet (file_bytes f t)) (filed_count (file_bytes f t)) R) done)
    ∙ ap (λ (m : ℕ). unpacked (filed_facet (file_bytes f t)) m R) (count-back f t small)
    ∙ unpacked-same _ _ t R facets in
    rw (file-in c B old e)
    record { answer = done; triangles = facets; buffers = back; mesh = λ k u. ap (λ (M : Buffers). facet_of M k) back ∙ facet-in f t R r k u }

-- a longer file is written all the same, and then refused
pub too_long : (c : Counts) (B : Buffers) (old : List ℕ) (R : Buffers) → write_answer c B (length old) ≡ Ok c → 21845 < triangles_of c
    → read_answer (file_in c (written c B old)) R ≡ Err Limit
too_long c B old R e h =
    let t : ℕ = triangles_of c in
    rw (file-in c B old e) (reads (facet_of B) t R (counted c B old e).0 ∙ ap (room_in R) (limited-refused (unshared t) (omega arith)))

pub long-written : (c : Counts) (B : Buffers) (old : List ℕ) (R : Buffers)
    → Writes c (length B.vertices) (length B.normals) (length B.uvs) B.indices (length old) → 21845 < triangles_of c
    → (write_answer c B (length old) ≡ Ok c) × (read_answer (file_in c (written c B old)) R ≡ Err Limit)
long-written c B old R w h =
    let e = all_pass c (length B.vertices) (length B.normals) (length B.uvs) B.indices (length old) w in
    (e, too_long c B old R e h)

-- ---- read, then written: every file of ours has attributes of zero and one NaN, and the mesh has the file's triangles
pub written-plain : (c : Counts) (B : Buffers) (old : List ℕ) → AllFloats B.vertices → AllFloats B.normals → write_answer c B (length old) ≡ Ok c
    → Plain (file_in c (written c B old))
written-plain c B old v n e = rw (file-in c B old e) (plain-file (facet_of B) (triangles_of c) (counted c B old e).0 (λ k. facet-floats B v n k))

pub write-back : (file : List ℕ) (R : Buffers) (old : List ℕ) (c : Counts) → AllBytes file → Plain file → read_answer file R ≡ Ok c
    → file_length (filed_count file) ≤ length old
    → (write_answer c (read_back file R) (length old) ≡ Ok c) × SameFrom80 (file_in c (written c (read_back file R) old)) file
write-back file R old c b p e h =
    let t : ℕ = filed_count file in
    let B : Buffers = unpacked (filed_facet file) t R in
    let w = read_done file (length R.vertices) (length R.normals) (length R.uvs) (length R.indices) c e in
    let done : write_answer (unshared t) B (length old) ≡ Ok (unshared t) = writes (filed_facet file) t R w.room (length old) w.limit h in
    let same : file_bytes (facet_of B) (triangles_of (unshared t)) ≡ file_bytes (filed_facet file) t =
    ap (file_bytes (facet_of B)) (as_many t)
    ∙ ap (λ (x : List ℕ). head_bytes t ++ x) (chain_same _ _ t (λ k u. ap facet_bytes (facet-in (filed_facet file) t R w.room k u))) in
    rw (← after-done _ R B e, ← w.same) (done, ap (drop 80) (file-in (unshared t) B old done ∙ same) ∙ same_bytes file b p w.long)
