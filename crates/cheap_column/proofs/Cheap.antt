-- The cheap column: its plan, and what laying its one face writes. Assumes nothing.
use mathlib.Core.Path.{◌≡◌, refl, sym, ap, ap₂, ◌∙◌}
use mathlib.Core.Bool.{Bool, ◌&&◌}
use mathlib.Core.List.{List, [], ◌∷◌, ◌++◌, map, append-nil}
use Prim.Native.Nat.{ℕ, ◌+◌, ◌*◌, ◌<◌}
use native.Mathlib.Nat.{zero-add}
use native.Mathlib.Omega.{arith}
use borrow.Author.Tests.{eq-eqb, ne_eqb, eqb-true, ltb-true}
use lib.Dec.{eqb, ltb}
use lib.ListN.{length, get_or, take}
use lib.Seq.{length-take-le}
use Rattle.std.proofs.lemmas.List.{take_more}
use lib.Ieee.{Float}
use Rattle.face.specs.declared.vec.Vec2.{Vec2}
use Rattle.face.specs.declared.vec.Vec3.{Vec3}
use Rattle.face.specs.declared.triangle.Triangle.{Triangle}
use Rattle.face.specs.declared.triangle.Counts.{Counts}
use Rattle.face.specs.Vec.{f0, minus3, upright}
use Rattle.face.specs.Texture.{wrapped}
use Rattle.face.specs.Triangles.{no_triangle, counts}
use Rattle.answer.specs.declared.answer.Refusal.TheVariants.{Shape, Range}
use Rattle.answer.specs.Answers.{Answer}
use Rattle.std.specs.Prelude.{Ok, Err}
use Rattle.answer.specs.Answers.{Roomy, given, limited, named, after}
use Rattle.answer.specs.Checks.{exactly}
use Rattle.answer.proofs.Laws.{every-at, given-done, done-limited, named-done, roomed-done, after-done}
use Rattle.buffers.specs.Mesh.{Vertex, none, measure}
use Rattle.buffers.specs.Laying.{Buffers, four, three, two, corners, spread, laid, lay, lay_all, lay_one}
use Rattle.buffers.proofs.Laid.{laid-append, spread-append, spread-length}
use Rattle.buffers.specs.Windows.{Own}
use Rattle.buffers.proofs.Order.{same-four}
use Rattle.buffers.proofs.Rooms.{both}
use Rattle.buffers.proofs.Faces.{FewIndices}
use Rattle.cheap_column.specs.declared.CheapColumn.{CheapColumn}
use Rattle.cheap_column.specs.CheapColumn.{outward, vertex_over, cheap_triangles, mesh_over, cheap_mesh, cheap_faces, range_of, checked, planned, whole_answer, face_answer, built, faced, Roomed}

-- ---- the plan
module _ (job : CheapColumn) (l : List Float) where
  pub column-counts : measure (cheap_faces job l) ≡ counts 12 48
  column-counts = refl

  pub misshapen : (length l ≡ 12 → ⊥) → Err Shape ≡ planned job l
  misshapen h = sym (ap (λ (x : Bool). given x Shape (given (range_of job l) Range (limited (measure (cheap_faces job l))))) (ne_eqb (length l) 12 h))

  pub range-decides : length l ≡ 12 → (y : Bool) → range_of job l ≡ y → given y Range (limited (counts 12 48)) ≡ planned job l
  range-decides h y e = sym (ap₂ (λ (p q : Bool). given p Shape (given q Range (limited (measure (cheap_faces job l))))) (eq-eqb (length l) 12 h) e)

-- ---- items of n numbers in a row, and one row after the other
module _ {A : Type 0} (f : A → List Float) (n : ℕ) (h : (x : A) → length (f x) ≡ n) where
  pub row-more : (l : List Float) (at k : ℕ) (xs : List A) (x : A) (now next : List Float) → k < length xs → x ≡ get_or xs k x
      → now ≡ laid l at (spread f (take k xs)) → next ≡ laid now (at + n * k) (f x) → next ≡ laid l at (spread f (take (k + 1) xs))
  row-more l at k xs x now next u e p q =
      let m : length (spread f (take k xs)) ≡ n * k = spread-length f n h (take k xs) ∙ ap (λ (j : ℕ). n * j) (length-take-le k xs (omega arith)) in
      q
      ∙ ap₂ (λ (b : List Float) (j : ℕ). laid b (at + j) (f x)) p (sym m)
      ∙ laid-append l at (spread f (take k xs)) (f x)
      ∙ ap (laid l at) (sym (ap (spread f) (take_more xs k x u ∙ ap (λ (y : A). take k xs ++ (y ∷ [])) (sym e)) ∙ spread-append f (take k xs) (x ∷ []) ∙ ap (λ (ys : List Float). spread f (take k xs) ++ ys) (append-nil (f x))))

  -- the second from where the first ends
  pub two-rows : (l : List Float) {now next : List Float} (xs ys : List A)
      → now ≡ laid l 0 (spread f xs) → next ≡ laid now (n * length xs) (spread f ys) → next ≡ laid l 0 (spread f (xs ++ ys))
  two-rows l xs ys p q =
      q
      ∙ ap₂ (λ (k : List Float) (j : ℕ). laid k j (spread f ys)) p (sym (zero-add _ ∙ spread-length f n h xs))
      ∙ laid-append l 0 (spread f xs) (spread f ys)
      ∙ ap (laid l 0) (sym (spread-append f xs ys))

-- ---- what is laid: two rings in each list of floats, and the table
-- the numbers of one thing of each vertex
rings : {A : Type 0} (f : A → List Float) (k : Vertex → A) (g h : Vec2 → Vertex) (cs ds : List Vec2)
    → spread f (map (λ p. k (g p)) cs ++ map (λ p. k (h p)) ds) ≡ spread (λ w. f (k w)) (map g cs ++ map h ds)
rings f k g h [] [] = refl
rings f k g h [] (d ∷ ds) = ap (λ (l : List Float). f (k (h d)) ++ l) (rings f k g h [] ds)
rings f k g h (p ∷ cs) ds = ap (λ (l : List Float). f (k (g p)) ++ l) (rings f k g h cs ds)

pub outward-all : (job : CheapColumn) (cs : List Vec2) → map (λ p. minus3 p (upright job.centre job.height)) (map (λ p. upright p job.height) cs) ≡ map (outward job) cs
outward-all job [] = refl
outward-all job (p ∷ cs) = ap (λ (l : List Vec3). outward job p ∷ l) (outward-all job cs)

module _ (job : CheapColumn) (cs : List Vec2) (B : Buffers) where
  pub mesh-laid : {v n t : List Float} {i : List ℕ}
      → v ≡ laid B.vertices 0 (spread three (map (λ p. upright p job.height) cs ++ map (λ p. upright p f0) cs))
      → n ≡ laid B.normals 0 (spread three (map (outward job) cs ++ map (outward job) cs))
      → t ≡ laid B.uvs 0 (spread two (map wrapped cs ++ map wrapped cs))
      → i ≡ laid B.indices 0 (spread (corners 0) cheap_triangles)
      → four v n t i ≡ lay (mesh_over job cs) none B
  unfolding lay
  mesh-laid a b c d =
      let over = vertex_over job job.height in
      let under = vertex_over job f0 in
      same-four
      (a ∙ ap (laid B.vertices 0) (rings three (λ w. w.position) over under cs cs))
      (b ∙ ap (laid B.normals 0) (rings three (λ w. w.normal) over under cs cs))
      (c ∙ ap (laid B.uvs 0) (rings two (λ w. w.uv) over under cs cs))
      d

-- ---- a done answer has twelve numbers, and room for the whole
module _ (job : CheapColumn) (l : List Float) (B : Buffers) where
  planned-done : (d : Counts) → planned job l ≡ Ok d → (length l ≡ 12) × (counts 12 48 ≡ d)
  planned-done d e =
      let p = given-done (eqb (length l) 12) Shape _ e in
      let q = given-done (range_of job l) Range _ p.1 in
      (eqb-true (length l) 12 p.0, (done-limited (measure (cheap_faces job l)) d q.1).1)

  ready : (d : Counts) → planned job l ≡ Ok d → Roomy d (length B.vertices) (length B.normals) (length B.uvs) (length B.indices) → (length l ≡ 12) × Roomed B
  ready d e r =
      let p = planned-done d e in
      let s = rw (← p.1) at r in
      (p.0, (s.vertices, s.normals, s.uvs, s.indices))

  pub whole_ready : (d : Counts) → whole_answer job l B ≡ Ok d → (length l ≡ 12) × Roomed B
  whole_ready d e = let r = roomed-done (planned job l) d _ _ _ _ e in ready d r.0 r.1

  pub face-ready : (k : ℕ) (d : Counts) → face_answer job l k B ≡ Ok d → (length l ≡ 12) × Roomed B
  face-ready k d e =
      let r = roomed-done (named (planned job l) k 1) d _ _ _ _ e in
      ready d (named-done (planned job l) d k 1 r.0).0 r.1

  -- the one face is the whole, and the number of a face that is done is 0
  all-laid : lay (cheap_mesh job l) none B ≡ lay_all (cheap_faces job l) none B
  unfolding lay_all
  all-laid = refl

  pub whole-laid : (d : Counts) → whole_answer job l B ≡ Ok d → lay (cheap_mesh job l) none B ≡ built job l B
  whole-laid d e = all-laid ∙ after-done (whole_answer job l B) B (lay_all (cheap_faces job l) none B) e

  first-laid : lay_one (cheap_faces job l) 0 none B ≡ lay (cheap_mesh job l) none B
  unfolding lay_one
  first-laid = refl

  pub face-laid : (k : ℕ) (d : Counts) → face_answer job l k B ≡ Ok d → lay (cheap_mesh job l) none B ≡ faced job l k B
  face-laid k d e =
      let r = roomed-done (named (planned job l) k 1) d _ _ _ _ e in
      let z : k ≡ 0 = omega (arith, (named-done (planned job l) d k 1 r.0).1) in
      sym first-laid
      ∙ ap (λ (j : ℕ). lay_one (cheap_faces job l) j none B) (sym z)
      ∙ after-done (face_answer job l k B) B (lay_one (cheap_faces job l) k none B) e

-- a column's own tests change no answer
pub passes : (job : CheapColumn) (l : List Float) (a : Answer) (d : Counts) → checked job l a ≡ Ok d → a ≡ Ok d
passes job l a d e = (given-done (range_of job l) Range a (given-done (exactly (length l) 6 2) Shape (given (range_of job l) Range a) e).1).1

-- ---- its triangles name its own twelve vertices, by a test of the whole table
pub column-own : (job : CheapColumn) (l : List Float) → Own (cheap_mesh job l)
column-own job l i h =
    let t : Triangle = get_or cheap_triangles i no_triangle in
    let e = every-at (λ (x : Triangle). ltb x.0.0 12 && (ltb x.1.0 12 && ltb x.2.0 12)) cheap_triangles no_triangle i refl h in
    both (ltb t.0.0 12) _ e (λ p f. both (ltb t.1.0 12) _ f (λ q r.
    ((omega arith, ltb-true _ _ p), (omega arith, ltb-true _ _ q), (omega arith, ltb-true _ _ r))))

-- and it has four indices a vertex, no more
pub column-few : (job : CheapColumn) (l : List Float) → FewIndices (cheap_mesh job l)
column-few job l = omega arith
