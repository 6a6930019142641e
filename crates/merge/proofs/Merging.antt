-- What a merge that is done says of both meshes. Assumes nothing.
use mathlib.Core.Path.{◌≡◌, refl, sym, ap, ap₂, ◌∙◌}
use mathlib.Core.Bool.{Bool, true, false, not, ◌&&◌}
use mathlib.Core.List.{List}
use Prim.Native.Nat.{ℕ, ◌+◌, ◌*◌, ◌<◌, ◌≤◌}
use borrow.Author.Tests.{ltb-true}
use lib.ListN.{length, get_or, take}
use lib.Seq.{length-take-le}
use native.Mathlib.Omega.{arith}
use Rattle.face.specs.declared.triangle.Counts.{Counts}
use Rattle.answer.specs.declared.answer.Refusal.TheVariants.{Shape, Index}
use Rattle.answer.specs.Answers.{Answer}
use Rattle.std.specs.Prelude.{Ok, Err}
use Rattle.answer.specs.Answers.{Roomy, given, limited, roomed}
use Rattle.answer.specs.Checks.{every, below}
use Rattle.answer.proofs.Laws.{every-at, given-done, done-limited, roomed-done}
use Rattle.buffers.specs.Mesh.{also}
use Rattle.buffers.specs.Laying.{Buffers}
use Rattle.buffers.proofs.Rooms.{both}
use Rattle.mesh.specs.Stored.{holds_counts}
use Rattle.mesh.proofs.Moving.{holds-room}
use Rattle.merge.specs.Merge.{merge_tested, merge_answer}

pub record Merge (s : Counts) (sv sn st : ℕ) (si : List ℕ) (t : Counts) (v n u i : ℕ) : Type 0 where
  pub source : Roomy s sv sn st (length si)
  pub own : (k : ℕ) → k < length (take s.indices.0 si) → get_or (take s.indices.0 si) k 0 < s.vertices.0
  pub limit : t.vertices.0 + s.vertices.0 ≤ 65536
  pub room : Roomy (also t s) v n u i

module _ (s : Counts) (sv sn st : ℕ) (si : List ℕ) (t : Counts) (v n u i : ℕ) (d : Counts) where
  pub merge-done : merge_tested s sv sn st si t v n u i ≡ Ok d → (also t s ≡ d) × Merge s sv sn st si t v n u i
  merge-done e =
      let p = given-done _ _ _ e in
      let q = given-done _ _ _ p.1 in
      let r = roomed-done _ d v n u i q.1 in
      let l = done-limited (also t s) d r.0 in (
        l.1,
        both _ _ p.0 (λ x y.
            record {
              source = holds-room s sv sn st (length si) x;
              own = λ k h. ltb-true _ _ (every-at (below s.vertices.0) (take s.indices.0 si) 0 k q.0 h);
              limit = l.0;
              room = rw l.1 r.1;
            }),
      )

-- ---- the tests in their order, as the code makes them
pub not_so : (x : Bool) → not x ≡ true → x ≡ false
not_so true e = let p : false ≡ true = e in cc
not_so false e = refl

pub so : (x : Bool) → not x ≡ false → x ≡ true
so true e = refl
so false e = let p : true ≡ false = e in cc

module _ (s : Counts) (sv sn st : ℕ) (si : List ℕ) (t : Counts) (v n u i : ℕ) where
  abbrev tests : Answer
  tests = given (every (below s.vertices.0) (take s.indices.0 si)) Index (roomed (limited (also t s)) v n u i)

  pub source-short : holds_counts s sv sn st (length si) ≡ false → Err Shape ≡ merge_tested s sv sn st si t v n u i
  source-short e = sym (ap (λ (x : Bool). given (x && holds_counts t v n u i) Shape tests) e)

  after-source : holds_counts s sv sn st (length si) ≡ true → (y : Bool) → holds_counts t v n u i ≡ y
      → given y Shape (given (every (below s.vertices.0) (take s.indices.0 si)) Index (roomed (limited (also t s)) v n u i)) ≡ merge_tested s sv sn st si t v n u i
  after-source e y f = sym (ap₂ (λ (p q : Bool). given (p && q) Shape tests) e f)

  pub target-short : holds_counts s sv sn st (length si) ≡ true → holds_counts t v n u i ≡ false → Err Shape ≡ merge_tested s sv sn st si t v n u i
  target-short e f = after-source e false f

  pub own-decide : holds_counts s sv sn st (length si) ≡ true → holds_counts t v n u i ≡ true → (z : Bool) → every (below s.vertices.0) (take s.indices.0 si) ≡ z
      → given z Index (roomed (limited (also t s)) v n u i) ≡ merge_tested s sv sn st si t v n u i
  own-decide e f z g = sym (ap (λ (w : Bool). given w Index (roomed (limited (also t s)) v n u i)) g) ∙ after-source e true f

-- ---- what appending asks for, list by list
pub record Appending (s : Counts) (S : Buffers) (t : Counts) (T : Buffers) : Type 0 where
  pub small : t.vertices.0 + s.vertices.0 ≤ 65536
  pub lv : 3 * s.vertices.0 ≡ length (take (3 * s.vertices.0) S.vertices)
  pub ln : 3 * s.vertices.0 ≡ length (take (3 * s.vertices.0) S.normals)
  pub lt : 2 * s.vertices.0 ≡ length (take (2 * s.vertices.0) S.uvs)
  pub li : s.indices.0 ≡ length (take s.indices.0 S.indices)
  pub rv : 3 * t.vertices.0 + length (take (3 * s.vertices.0) S.vertices) ≤ length T.vertices
  pub rn : 3 * t.vertices.0 + length (take (3 * s.vertices.0) S.normals) ≤ length T.normals
  pub rt : 2 * t.vertices.0 + length (take (2 * s.vertices.0) S.uvs) ≤ length T.uvs
  pub ri : t.indices.0 + length (take s.indices.0 S.indices) ≤ length T.indices
  pub own : (k : ℕ) → k < length (take s.indices.0 S.indices) → t.vertices.0 + get_or (take s.indices.0 S.indices) k 0 < 65536

pub appending : (s : Counts) (S : Buffers) (t : Counts) (T : Buffers) (d : Counts) → merge_answer s S t T ≡ Ok d → Appending s S t T
appending s S t T d e =
    let w = (merge-done s (length S.vertices) (length S.normals) (length S.uvs) S.indices t (length T.vertices) (length T.normals) (length T.uvs) (length T.indices) d e).1 in
    let a = length-take-le (3 * s.vertices.0) S.vertices w.source.vertices in
    let b = length-take-le (3 * s.vertices.0) S.normals w.source.normals in
    let g = length-take-le (2 * s.vertices.0) S.uvs w.source.uvs in
    let h = length-take-le s.indices.0 S.indices w.source.indices in
    record {
      small = w.limit;
      lv = sym a;
      ln = sym b;
      lt = sym g;
      li = sym h;
      rv = omega (arith, a, w.room.vertices);
      rn = omega (arith, b, w.room.normals);
      rt = omega (arith, g, w.room.uvs);
      ri = omega (arith, h, w.room.indices);
      own = λ k l. omega (arith, w.own k l, w.limit);
    }

pub merged-counts : (s : Counts) (S : Buffers) (t : Counts) (T : Buffers) (d : Counts) → merge_answer s S t T ≡ Ok d → merge_answer s S t T ≡ Ok (also t s)
merged-counts s S t T d e =
    let w = merge-done s (length S.vertices) (length S.normals) (length S.uvs) S.indices t (length T.vertices) (length T.normals) (length T.uvs) (length T.indices) d e in
    e ∙ ap Ok (sym w.0)
