-- What a column's build leaves in buffers for 1,024 vertices is printed as its text. Assumes nothing.
use mathlib.Core.Path.{◌≡◌, refl, sym, ap, subst, ◌∙◌}
use mathlib.Core.Bool.{Bool, true, false, not, ◌&&◌}
use mathlib.Core.List.{List}
use Prim.Native.Nat.{ℕ, ◌*◌, ◌%◌, ◌≤◌, ◌<◌}
use native.Mathlib.Nat.{zero-add}
use native.Mathlib.Omega.{arith}
use borrow.Author.Tests.{le-leb, lt-leb, eq-eqb}
use lib.Dec.{T, leb, ltb, ltb→lt, nltb→le}
use lib.ListN.{length, replicate, length-replicate}
use lib.Ieee.{nan}
use Rattle.face.specs.declared.triangle.Counts.{Counts}
use Rattle.face.specs.Vec.{f0}
use Rattle.answer.specs.declared.answer.Refusal.{Refusal}
use Rattle.answer.specs.Answers.{Answer}
use Rattle.std.specs.Prelude.{Ok, Err}
use Rattle.answer.specs.Answers.{Roomy, code, limited, room_for}
use Rattle.answer.proofs.Laws.{done-limited, roomed-done, room-enough, after-done}
use Rattle.buffers.specs.Mesh.{Mesh, none, size_of, measure, joined}
use Rattle.buffers.specs.Laying.{Buffers, four, lay_all}
use Rattle.buffers.specs.Windows.{Holds, SameLengths}
use Rattle.buffers.proofs.Order.{lay-lengths}
use Rattle.buffers.proofs.Joined.{all-is-joined, all-inside, joined-size, few-indices}
use Rattle.mesh.specs.Jobs.{roomed_in}
use Rattle.column.specs.declared.Column.{Column}
use Rattle.column.specs.Column.{Lists, column_faces, planned}
use Rattle.column_builder.specs.Calls.{whole_answer, built}
use Rattle.column_builder.proofs.Whole.{passes, column-few}
use Rattle.sheet.specs.Meshes.{mesh_text, refusal_text, is_whole, whole_in, Written, TextWritten, MeshWritten}
use Rattle.sheet.proofs.Alike.{mesh-alike}
use Rattle.sheet.specs.Answering.{printable, flat, text_of, text_for, column_text}

-- ---- a column has at most four indices a vertex, so buffers for 1,024 vertices and 4,096 indices refuse a plan exactly
-- when it has more vertices
abbrev FewIn : Counts → Type 0
FewIn c = c.indices.0 ≤ 4 * c.vertices.0

pub record For1024 (B : Buffers) : Type 0 where
  pub vertices : length B.vertices ≡ 3072
  pub normals : length B.normals ≡ 3072
  pub uvs : length B.uvs ≡ 2048
  pub indices : length B.indices ≡ 4096

abbrev pub blank : Buffers
blank = four (replicate 3072 f0) (replicate 3072 f0) (replicate 2048 f0) (replicate 4096 0)

pub blank-roomy : For1024 blank
blank-roomy = record { vertices = length-replicate 3072 f0; normals = length-replicate 3072 f0; uvs = length-replicate 2048 f0; indices = length-replicate {A = ℕ} 4096 0 }

room-1024 : (c : Counts) → FewIn c → room_for c 3072 3072 2048 4096 ≡ printable (Ok c)
room-1024 c f = go (ltb 1024 c.vertices.0) (ltb→lt 1024 c.vertices.0) (nltb→le 1024 c.vertices.0)
  where
    go : (x : Bool) → (T x → 1024 < c.vertices.0) → (T (not x) → c.vertices.0 ≤ 1024) → room_for c 3072 3072 2048 4096 ≡ printable (Ok c)
    go true y z = let h : 1024 < c.vertices.0 = y tt in rw (lt-leb (3 * c.vertices.0) 3072 (omega arith), lt-leb c.vertices.0 1024 h)
    go false y z =
        let h : c.vertices.0 ≤ 1024 = z tt in
        rw (le-leb c.vertices.0 1024 h)
        (room-enough c 3072 3072 2048 4096 record { vertices = omega arith; normals = omega arith; uvs = omega arith; indices = omega arith })

roomed-printable : (a : Answer) (B : Buffers) → For1024 B → ((c : Counts) → a ≡ Ok c → FewIn c) → roomed_in B a ≡ printable a
roomed-printable (Err e) B s h = refl
roomed-printable (Ok c) B s h = rw (s.vertices, s.normals, s.uvs, s.indices) (room-1024 c (h c refl))

module _ (job : Column) (ls : Lists) where
  pub planned-counts : (c : Counts) → planned job ls ≡ Ok c → measure (column_faces job ls) ≡ c
  planned-counts c e = (done-limited (measure (column_faces job ls)) c (passes job ls (limited (measure (column_faces job ls))) c e)).1

  pub whole-printable : (B : Buffers) → For1024 B → whole_answer job ls B ≡ printable (planned job ls)
  whole-printable B s = roomed-printable (planned job ls) B s (λ c e. subst FewIn (planned-counts c e) (few-indices (column_faces job ls) (column-few job ls)))

  -- a refused build
  pub text-refused : (B : Buffers) (e : Refusal) → For1024 B → whole_answer job ls B ≡ Err e → column_text job ls ≡ refusal_text (code e)
  unfolding column_text
  text-refused B e s p = ap (λ (a : Answer). text_for a (joined (column_faces job ls))) (sym (whole-printable B s) ∙ p)

  -- and one that is done: what the buffers hold is the mesh
  text-done : (B : Buffers) (c : Counts) → For1024 B → whole_answer job ls B ≡ Ok c → column_text job ls ≡ text_of (joined (column_faces job ls))
  unfolding column_text
  text-done B c s p = ap (λ (a : Answer). text_for a (joined (column_faces job ls))) (sym (whole-printable B s) ∙ p)

-- ---- buffers that hold a mesh of these counts
module _ (m : Mesh) (c : Counts) (size : size_of m ≡ c) (C : Buffers) (h : Holds m none C) (r : Roomy c (length C.vertices) (length C.normals) (length C.uvs) (length C.indices)) where
  as_many : length m.vertices ≡ c.vertices.0
  as_many = ap (λ (k : Counts). k.vertices.0) size

  as-many-indices : 3 * length m.triangles ≡ c.indices.0
  as-many-indices = ap (λ (k : Counts). k.indices.0) size

  buffers-text : mesh_text C c ≡ text_of m
  buffers-text =
      mesh-alike c C (flat m)
      record {
        vertices = λ k u. rw (zero-add k) at (h.vertices k nan (omega (arith, as_many)) (omega (arith, r.vertices)));
        normals = λ k u. rw (zero-add k) at (h.normals k nan (omega (arith, as_many)) (omega (arith, r.normals)));
        uvs = λ k u. rw (zero-add k) at (h.uvs k nan (omega (arith, as_many)) (omega (arith, r.uvs)));
        indices = λ k u. rw (zero-add k) at (h.indices k 0 (omega (arith, as-many-indices)) (omega (arith, r.indices)));
      }
      ∙ ap (mesh_text (flat m)) (sym size)

  buffers-whole : whole_in C c ≡ true
  unfolding is_whole
  buffers-whole =
      rw (le-leb _ _ r.vertices, le-leb _ _ r.normals, le-leb _ _ r.uvs, le-leb _ _ r.indices)
      (eq-eqb (c.indices.0 % 3) 0 (omega (arith, as-many-indices)))

  buffers-written : (old new : List ℕ) (n : ℕ) → MeshWritten C c old new n → TextWritten (text_of m) old new n
  buffers-written old new n w =
      let t : List ℕ = mesh_text C c in
      subst (λ (x : List ℕ). TextWritten x old new n) buffers-text (subst (λ (x : Bool). Written (x && leb (length t) (length old)) t old new n) buffers-whole w)

module _ (job : Column) (ls : Lists) (B : Buffers) (s : For1024 B) where
  pub refusal-written : (e : Refusal) → whole_answer job ls B ≡ Err e → (old new : List ℕ) (n : ℕ) → TextWritten (refusal_text (code e)) old new n → TextWritten (column_text job ls) old new n
  refusal-written e p old new n w = subst (λ (x : List ℕ). TextWritten x old new n) (sym (text-refused job ls B e s p)) w

  pub mesh-written : (c : Counts) → whole_answer job ls B ≡ Ok c → (C : Buffers) → C ≡ built job ls B → (old new : List ℕ) (n : ℕ)
      → MeshWritten C c old new n → TextWritten (column_text job ls) old new n
  mesh-written c p C e old new n w =
      let fs : List Mesh = column_faces job ls in
      let q = roomed-done (planned job ls) c _ _ _ _ p in
      let z : size_of (joined fs) ≡ c = joined-size fs ∙ planned-counts job ls c q.0 in
      let d : C ≡ lay_all fs none B = e ∙ sym (after-done (whole_answer job ls B) B (lay_all fs none B) p) in
      let h : Holds (joined fs) none C = subst (λ (X : Buffers). Holds (joined fs) none X) (sym d) (all-inside fs none B) in
      let l : SameLengths B C = subst (λ (X : Buffers). SameLengths B X) (sym (d ∙ all-is-joined fs none B)) (lay-lengths (joined fs) none B) in
      subst (λ (x : List ℕ). TextWritten x old new n) (sym (text-done job ls B c s p))
      (buffers-written (joined fs) c z C h (rw (l.vertices, l.normals, l.uvs, l.indices) q.1) old new n w)
