-- The windows of a list of faces: they lie end to end, cover the sums, and a face writes in its own alone. Assumes nothing.
use mathlib.Core.Path.{◌≡◌, refl, sym, ap, ap₂, subst, ◌∙◌}
use mathlib.Core.Logic.{inl, inr, ⊎_elim}
use mathlib.Core.Bool.{Bool, true, false, not}
use mathlib.Core.List.{List, [], ◌∷◌}
use Prim.Native.Nat.{ℕ, zero, suc, ◌+◌, ◌-◌, ◌*◌, ◌<◌, ◌≤◌, suc-le-suc}
use native.Mathlib.Nat.{zero-add, add-zero, add_assoc}
use native.Mathlib.Omega.{arith}
use lib.Dec.{T, ltb, ltb→lt, nltb→le}
use lib.ListN.{length, take}
use lib.Seq.{take_all}
use Rattle.face.specs.Triangles.{counts}
use Rattle.face.specs.declared.triangle.Counts.{Counts}
use Rattle.buffers.specs.Mesh.{Mesh, none, also, size_of, measure, start_of}
use Rattle.buffers.specs.Laying.{Buffers, lay, lay_one}
use Rattle.buffers.specs.Windows.{face_at, AlikeOutside, Holds, Within}
use Rattle.buffers.proofs.Laid.{length-laid, laid-outside, laid-inside}
use Rattle.buffers.proofs.Order.{position-numbers, normal-numbers, uv-numbers, index-numbers}

-- ---- end to end: the first face starts at nothing, each next one where the last ends, and the last ends at the sums
pub first-start : (fs : List Mesh) → start_of fs 0 ≡ none
first-start fs = refl

pub also-assoc : (a b c : Counts) → also (also a b) c ≡ also a (also b c)
also-assoc a b c = ap₂ counts (add_assoc a.vertices.0 b.vertices.0 c.vertices.0) (add_assoc a.indices.0 b.indices.0 c.indices.0)

pub also-none : (a : Counts) → also a none ≡ a
also-none a = ap₂ counts (add-zero a.vertices.0) (add-zero a.indices.0)

pub none-also : (a : Counts) → also none a ≡ a
none-also a = ap₂ counts (zero-add a.vertices.0) (zero-add a.indices.0)

pub next_start : (fs : List Mesh) (k : ℕ) → k < length fs → start_of fs (suc k) ≡ also (start_of fs k) (size_of (face_at fs k))
next_start [] k h = absurd (let g : k < 0 = h in omega arith)
next_start (f ∷ fs) zero h = also-none (size_of f) ∙ sym (none-also (size_of f))
next_start (f ∷ fs) (suc k) h =
    ap (also (size_of f)) (next_start fs k (let g : suc k < suc (length fs) = h in omega arith))
    ∙ sym (also-assoc (size_of f) (start_of fs k) (size_of (face_at fs k)))

pub last_end : (fs : List Mesh) → start_of fs (length fs) ≡ measure fs
last_end fs = ap measure (take_all (length fs) fs (omega arith))

-- ---- disjoint: a face ends before any later one starts
later : (fs : List Mesh) (j k : ℕ) → j ≤ k → ((start_of fs j).vertices.0 ≤ (start_of fs k).vertices.0) × ((start_of fs j).indices.0 ≤ (start_of fs k).indices.0)
later fs zero k h = (omega arith, omega arith)
later [] (suc j) k h = (let e : start_of [] k ≡ none = take_none k in rw e (omega arith), let e : start_of [] k ≡ none = take_none k in rw e (omega arith))
  where
    take_none : (k : ℕ) → start_of [] k ≡ none
    take_none zero = refl
    take_none (suc k) = refl
later (f ∷ fs) (suc j) zero h = absurd (omega arith)
later (f ∷ fs) (suc j) (suc k) h = let r = later fs j k (omega arith) in (omega (arith, r.0), omega (arith, r.1))

pub windows-apart : (fs : List Mesh) (j k : ℕ) → j < k → j < length fs
    → ((start_of fs j).vertices.0 + length (face_at fs j).vertices ≤ (start_of fs k).vertices.0) × ((start_of fs j).indices.0 + 3 * length (face_at fs j).triangles ≤ (start_of fs k).indices.0)
windows-apart fs j k h l =
    let r = later fs (suc j) k h in
    let e = next_start fs j l in
    let p : (start_of fs (suc j)).vertices.0 ≡ (start_of fs j).vertices.0 + length (face_at fs j).vertices = ap (λ (c : Counts). c.vertices.0) e in
    let q : (start_of fs (suc j)).indices.0 ≡ (start_of fs j).indices.0 + 3 * length (face_at fs j).triangles = ap (λ (c : Counts). c.indices.0) e in
    (omega (arith, r.0, p), omega (arith, r.1, q))

-- and none reaches past the sums
pub window-ends : (fs : List Mesh) (k : ℕ) → k < length fs → ((start_of fs (suc k)).vertices.0 ≤ (measure fs).vertices.0) × ((start_of fs (suc k)).indices.0 ≤ (measure fs).indices.0)
window-ends fs k h = rw (last_end fs) at (later fs (suc k) (length fs) h)

-- ---- covering: each number below a sum lies in some window; said once for any count of a face
module _ (w : Mesh → ℕ) where
  abbrev pub total : List Mesh → ℕ
  total [] = 0
  total (f ∷ fs) = w f + total fs

  pub covered : (fs : List Mesh) (p : ℕ) → p < total fs → Within (λ k. total (take k fs)) (length fs) p
  covered [] p h = absurd (let g : p < 0 = h in omega arith)
  covered (f ∷ fs) p h = go (ltb p (w f)) (ltb→lt p (w f)) (nltb→le p (w f)) (λ u. covered fs (p - w f) u)
    where
      go : (x : Bool) → (T x → p < w f) → (T (not x) → w f ≤ p) → (p - w f < total fs → Within (λ k. total (take k fs)) (length fs) (p - w f))
          → Within (λ k. total (take k (f ∷ fs))) (length (f ∷ fs)) p
      go true y z rest = record { face = 0; there = omega arith; lies = (omega arith, omega (arith, y tt)) }
      go false y z rest =
          let r = rest (omega (arith, z tt)) in
          record { face = suc r.face; there = suc-le-suc r.there; lies = (omega (arith, r.lies.0, z tt), omega (arith, r.lies.1, z tt)) }

vertices-total : (fs : List Mesh) → total (λ f. length f.vertices) fs ≡ (measure fs).vertices.0
vertices-total [] = refl
vertices-total (f ∷ fs) = ap (λ (x : ℕ). length f.vertices + x) (vertices-total fs)

indices-total : (fs : List Mesh) → total (λ f. 3 * length f.triangles) fs ≡ (measure fs).indices.0
indices-total [] = refl
indices-total (f ∷ fs) = ap (λ (x : ℕ). 3 * length f.triangles + x) (indices-total fs)

told : {s t : ℕ → ℕ} {n p : ℕ} → ((k : ℕ) → s k ≡ t k) → Within s n p → Within t n p
told e r = record { face = r.face; there = r.there; lies = (rw (← e r.face) r.lies.0, rw (← e (suc r.face)) r.lies.1) }

pub vertices-covered : (fs : List Mesh) (p : ℕ) → p < (measure fs).vertices.0 → Within (λ k. (start_of fs k).vertices.0) (length fs) p
vertices-covered fs p h =
    told (λ k. vertices-total (take k fs)) (covered (λ f. length f.vertices) fs p (rw (vertices-total fs) h))

pub indices-covered : (fs : List Mesh) (p : ℕ) → p < (measure fs).indices.0 → Within (λ k. (start_of fs k).indices.0) (length fs) p
indices-covered fs p h =
    told (λ k. indices-total (take k fs)) (covered (λ f. 3 * length f.triangles) fs p (rw (indices-total fs) h))

-- the places of a list of floats, n to a vertex
floats-total : (n : ℕ) (fs : List Mesh) → total (λ f. n * length f.vertices) fs ≡ n * (measure fs).vertices.0
floats-total n [] = omega arith
floats-total n (f ∷ fs) = let r : total (λ g. n * length g.vertices) fs ≡ n * (measure fs).vertices.0 = floats-total n fs in rw r (omega arith)

pub floats-covered : (n : ℕ) (fs : List Mesh) (p : ℕ) → p < n * (measure fs).vertices.0 → Within (λ k. n * (start_of fs k).vertices.0) (length fs) p
floats-covered n fs p h =
    told (λ k. floats-total n (take k fs)) (covered (λ f. n * length f.vertices) fs p (rw (floats-total n fs) h))

-- ---- a face laid changes no place outside its window
pub lay-outside : (f : Mesh) (at : Counts) (B : Buffers) → AlikeOutside at (also at (size_of f)) B (lay f at B)
unfolding lay
lay-outside f at B =
    record {
      vertices = λ p d h. laid-outside _ _ _ p d (⊎_elim (λ u. inl u) (λ u. inr (omega (arith, position-numbers f))) h);
      normals = λ p d h. laid-outside _ _ _ p d (⊎_elim (λ u. inl u) (λ u. inr (omega (arith, normal-numbers f))) h);
      uvs = λ p d h. laid-outside _ _ _ p d (⊎_elim (λ u. inl u) (λ u. inr (omega (arith, uv-numbers f))) h);
      indices = λ p d h. laid-outside _ _ _ p d (⊎_elim (λ u. inl u) (λ u. inr (omega (arith, index-numbers f at.vertices.0))) h);
    }

-- and each place of it holds the face's number
pub lay-inside : (f : Mesh) (at : Counts) (B : Buffers) → Holds f at (lay f at B)
unfolding lay
lay-inside f at B =
    record {
      vertices = λ i d h r. laid-inside _ _ _ i d (omega (arith, position-numbers f)) (rw length-laid at r);
      normals = λ i d h r. laid-inside _ _ _ i d (omega (arith, normal-numbers f)) (rw length-laid at r);
      uvs = λ i d h r. laid-inside _ _ _ i d (omega (arith, uv-numbers f)) (rw length-laid at r);
      indices = λ i d h r. laid-inside _ _ _ i d (omega (arith, index-numbers f at.vertices.0)) (rw length-laid at r);
    }

-- the k-th face is laid where it starts
pub one_place : (fs : List Mesh) (k : ℕ) (at : Counts) (B : Buffers) → k < length fs → lay_one fs k at B ≡ lay (face_at fs k) (also at (start_of fs k)) B
unfolding lay_one
one_place [] k at B h = absurd (let g : k < 0 = h in omega arith)
one_place (f ∷ fs) zero at B h = ap (λ (c : Counts). lay f c B) (sym (also-none at))
one_place (f ∷ fs) (suc k) at B h =
    one_place fs k (also at (size_of f)) B (let g : suc k < suc (length fs) = h in omega arith)
    ∙ ap (λ (c : Counts). lay (face_at fs k) c B) (also-assoc at (size_of f) (start_of fs k))

-- so a single face writes from its start to the next one's, and nowhere else
pub one_outside : (fs : List Mesh) (k : ℕ) (B : Buffers) → k < length fs → AlikeOutside (start_of fs k) (start_of fs (suc k)) B (lay_one fs k none B)
one_outside fs k B h =
    subst (λ (c : Counts). AlikeOutside (start_of fs k) c B (lay_one fs k none B)) (sym (next_start fs k h))
    (subst (λ (C : Buffers). AlikeOutside (start_of fs k) (also (start_of fs k) (size_of (face_at fs k))) B C) (sym (one_place fs k none B h ∙ ap (λ (c : Counts). lay (face_at fs k) c B) (none-also (start_of fs k))))
    (lay-outside (face_at fs k) (start_of fs k) B))

pub one_inside : (fs : List Mesh) (k : ℕ) (B : Buffers) → k < length fs → Holds (face_at fs k) (start_of fs k) (lay_one fs k none B)
one_inside fs k B h =
    subst (λ (C : Buffers). Holds (face_at fs k) (start_of fs k) C) (sym (one_place fs k none B h ∙ ap (λ (c : Counts). lay (face_at fs k) c B) (none-also (start_of fs k))))
    (lay-inside (face_at fs k) (start_of fs k) B)

-- and a number of no face lays nothing
pub one-past-end : (fs : List Mesh) (k : ℕ) (at : Counts) (B : Buffers) → length fs ≤ k → lay_one fs k at B ≡ B
unfolding lay_one
one-past-end [] k at B h = refl
one-past-end (f ∷ fs) zero at B h = absurd (omega arith)
one-past-end (f ∷ fs) (suc k) at B h = one-past-end fs k (also at (size_of f)) B (let g : suc (length fs) ≤ suc k = h in omega arith)
