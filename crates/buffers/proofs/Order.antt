-- Faces laid one by one, in any order: nothing here speaks of floats, and no law asks for room. Assumes nothing.
use mathlib.Core.Path.{◌≡◌, refl, sym, ap, ◌∙◌}
use mathlib.Core.Logic.{⊎_elim}
use mathlib.Core.List.{List, [], ◌∷◌}
use Prim.Native.Nat.{ℕ, zero, suc, ◌*◌, ◌<◌, ◌≤◌, suc-le-suc}
use native.Mathlib.Nat.{zero-lt-suc}
use native.Mathlib.Omega.{arith}
use lib.ListN.{length}
use lib.Ieee.{Float}
use Rattle.face.specs.declared.triangle.Counts.{Counts}
use Rattle.buffers.specs.Mesh.{Vertex, Mesh, none, also, size_of}
use Rattle.buffers.specs.Laying.{Buffers, four, three, two, corners, spread, lay, lay_all, lay_one}
use Rattle.buffers.specs.Steps.{Step, Lays, Refuses, stepped, run, Named}
use Rattle.buffers.specs.Windows.{SameLengths}
use Rattle.buffers.proofs.Laid.{length-laid, laid-comm, laid-twice, spread-length}

-- ---- four buffers are equal part by part
pub same-four : {v v' n n' t t' : List Float} {i i' : List ℕ} → v ≡ v' → n ≡ n' → t ≡ t' → i ≡ i' → four v n t i ≡ four v' n' t' i'
same-four p q r s k = four (p k) (q k) (r k) (s k)

-- ---- how many numbers a mesh has in each buffer
module _ (m : Mesh) where
  pub position-numbers : length (spread (λ w. three w.position) m.vertices) ≡ 3 * length m.vertices
  position-numbers = spread-length (λ (w : Vertex). three w.position) 3 (λ w. refl) m.vertices

  pub normal-numbers : length (spread (λ w. three w.normal) m.vertices) ≡ 3 * length m.vertices
  normal-numbers = spread-length (λ (w : Vertex). three w.normal) 3 (λ w. refl) m.vertices

  pub uv-numbers : length (spread (λ w. two w.uv) m.vertices) ≡ 2 * length m.vertices
  uv-numbers = spread-length (λ (w : Vertex). two w.uv) 2 (λ w. refl) m.vertices

  pub index-numbers : (b : ℕ) → length (spread (corners b) m.triangles) ≡ 3 * length m.triangles
  index-numbers b = spread-length (corners b) 3 (λ t. refl) m.triangles

-- a place that comes after another, by both counts
abbrev pub Before : Counts → Counts → Type 0
Before a b = (a.vertices.0 ≤ b.vertices.0) × (a.indices.0 ≤ b.indices.0)

-- ---- no buffer grows or shrinks
pub lay-lengths : (f : Mesh) (a : Counts) (B : Buffers) → SameLengths B (lay f a B)
unfolding lay
lay-lengths f a B = record { vertices = length-laid _ _ _; normals = length-laid _ _ _; uvs = length-laid _ _ _; indices = length-laid _ _ _ }

pub lengths-same : (B : Buffers) → SameLengths B B
lengths-same B = record { vertices = refl; normals = refl; uvs = refl; indices = refl }

pub lengths-then : {B C D : Buffers} → SameLengths B C → SameLengths C D → SameLengths B D
lengths-then p q = record { vertices = q.vertices ∙ p.vertices; normals = q.normals ∙ p.normals; uvs = q.uvs ∙ p.uvs; indices = q.indices ∙ p.indices }

pub one-lengths : (fs : List Mesh) (k : ℕ) (a : Counts) (B : Buffers) → SameLengths B (lay_one fs k a B)
unfolding lay_one
one-lengths [] k a B = lengths-same B
one-lengths (f ∷ fs) zero a B = lay-lengths f a B
one-lengths (f ∷ fs) (suc k) a B = one-lengths fs k (also a (size_of f)) B

-- ---- two faces, one after the other, in either order; and one twice
pub lay-comm : (f g : Mesh) (a b : Counts) (B : Buffers) → Before (also a (size_of f)) b → lay g b (lay f a B) ≡ lay f a (lay g b B)
unfolding lay
lay-comm f g a b B h =
    same-four
    (laid-comm _ _ _ _ _ (omega (arith, position-numbers f, h.0)))
    (laid-comm _ _ _ _ _ (omega (arith, normal-numbers f, h.0)))
    (laid-comm _ _ _ _ _ (omega (arith, uv-numbers f, h.0)))
    (laid-comm _ _ _ _ _ (omega (arith, index-numbers f a.vertices.0, h.1)))

pub lay-twice : (f : Mesh) (a : Counts) (B : Buffers) → lay f a (lay f a B) ≡ lay f a B
unfolding lay
lay-twice f a B = same-four (laid-twice _ _ _) (laid-twice _ _ _) (laid-twice _ _ _) (laid-twice _ _ _)

-- ---- a face before all of a list of faces
module _ (f : Mesh) (a : Counts) where
  one-past : (fs : List Mesh) (k : ℕ) (b : Counts) (B : Buffers) → Before (also a (size_of f)) b → lay_one fs k b (lay f a B) ≡ lay f a (lay_one fs k b B)
  unfolding lay_one
  one-past [] k b B h = refl
  one-past (g ∷ fs) zero b B h = lay-comm f g a b B h
  one-past (g ∷ fs) (suc k) b B h = one-past fs k (also b (size_of g)) B (omega (arith, h.0), omega (arith, h.1))

  all_past : (fs : List Mesh) (b : Counts) (B : Buffers) → Before (also a (size_of f)) b → lay_all fs b (lay f a B) ≡ lay f a (lay_all fs b B)
  unfolding lay_all
  all_past [] b B h = refl
  all_past (g ∷ fs) b B h =
      ap (lay_all fs (also b (size_of g))) (lay-comm f g a b B h)
      ∙ all_past fs (also b (size_of g)) (lay g b B) (omega (arith, h.0), omega (arith, h.1))

here : (a : Counts) → Before a a
here a = (omega arith, omega arith)

-- ---- single faces commute, and a face laid again changes nothing
pub one-comm : (fs : List Mesh) (j k : ℕ) (a : Counts) (B : Buffers) → lay_one fs j a (lay_one fs k a B) ≡ lay_one fs k a (lay_one fs j a B)
unfolding lay_one
one-comm [] j k a B = refl
one-comm (f ∷ fs) zero zero a B = refl
one-comm (f ∷ fs) zero (suc k) a B = sym (one-past f a fs k (also a (size_of f)) B (here (also a (size_of f))))
one-comm (f ∷ fs) (suc j) zero a B = one-past f a fs j (also a (size_of f)) B (here (also a (size_of f)))
one-comm (f ∷ fs) (suc j) (suc k) a B = one-comm fs j k (also a (size_of f)) B

pub one-twice : (fs : List Mesh) (k : ℕ) (a : Counts) (B : Buffers) → lay_one fs k a (lay_one fs k a B) ≡ lay_one fs k a B
unfolding lay_one
one-twice [] k a B = refl
one-twice (f ∷ fs) zero a B = lay-twice f a B
one-twice (f ∷ fs) (suc k) a B = one-twice fs k (also a (size_of f)) B

-- a face laid after the whole changes nothing
pub one-all : (fs : List Mesh) (k : ℕ) (a : Counts) (B : Buffers) → lay_one fs k a (lay_all fs a B) ≡ lay_all fs a B
unfolding lay_one lay_all
one-all [] k a B = refl
one-all (f ∷ fs) zero a B =
    sym (all_past f a fs (also a (size_of f)) (lay f a B) (here (also a (size_of f)))) ∙ ap (lay_all fs (also a (size_of f))) (lay-twice f a B)
one-all (f ∷ fs) (suc k) a B = one-all fs k (also a (size_of f)) (lay f a B)

all_one : (fs : List Mesh) (k : ℕ) (a : Counts) (B : Buffers) → lay_all fs a (lay_one fs k a B) ≡ lay_one fs k a (lay_all fs a B)
unfolding lay_one lay_all
all_one [] k a B = refl
all_one (f ∷ fs) zero a B = all_past f a fs (also a (size_of f)) (lay f a B) (here (also a (size_of f)))
all_one (f ∷ fs) (suc k) a B =
    ap (lay_all fs (also a (size_of f))) (sym (one-past f a fs k (also a (size_of f)) B (here (also a (size_of f)))))
    ∙ all_one fs k (also a (size_of f)) (lay f a B)

-- buffers that no face changes, the whole does not change
all-fixed : (fs : List Mesh) (a : Counts) (B : Buffers) → ((k : ℕ) → k < length fs → lay_one fs k a B ≡ B) → lay_all fs a B ≡ B
unfolding lay_one lay_all
all-fixed [] a B h = refl
all-fixed (f ∷ fs) a B h =
    ap (lay_all fs (also a (size_of f))) (h 0 (zero-lt-suc _)) ∙ all-fixed fs (also a (size_of f)) B (λ k u. h (suc k) (suc-le-suc u))

-- ---- runs of steps
step-comm : (fs : List Mesh) (s : Step) (k : ℕ) (B : Buffers) → lay_one fs k none (stepped fs s B) ≡ stepped fs s (lay_one fs k none B)
step-comm fs (Lays j) k B = one-comm fs k j none B
step-comm fs Refuses k B = refl

run-comm : (fs : List Mesh) (ss : List Step) (k : ℕ) (B : Buffers) → lay_one fs k none (run fs ss B) ≡ run fs ss (lay_one fs k none B)
unfolding run
run-comm fs [] k B = refl
run-comm fs (s ∷ ss) k B = run-comm fs ss k (stepped fs s B) ∙ ap (run fs ss) (step-comm fs s k B)

run-again : (fs : List Mesh) (ss : List Step) (k : ℕ) (B : Buffers) → Named k ss → lay_one fs k none (run fs ss B) ≡ run fs ss B
unfolding run Named
run-again fs [] k B h = absurd h
run-again fs (s ∷ ss) k B h =
    ⊎_elim
    (λ e. rw e (run-comm fs ss k (lay_one fs k none B) ∙ ap (run fs ss) (one-twice fs k none B)))
    (λ u. run-again fs ss k (stepped fs s B) u)
    h

all-step : (fs : List Mesh) (s : Step) (B : Buffers) → lay_all fs none (stepped fs s B) ≡ stepped fs s (lay_all fs none B)
all-step fs (Lays k) B = all_one fs k none B
all-step fs Refuses B = refl

step-done : (fs : List Mesh) (s : Step) (B : Buffers) → stepped fs s (lay_all fs none B) ≡ lay_all fs none B
step-done fs (Lays k) B = one-all fs k none B
step-done fs Refuses B = refl

run-all : (fs : List Mesh) (ss : List Step) (B : Buffers) → lay_all fs none (run fs ss B) ≡ run fs ss (lay_all fs none B)
unfolding run
run-all fs [] B = refl
run-all fs (s ∷ ss) B = run-all fs ss (stepped fs s B) ∙ ap (run fs ss) (all-step fs s B)

run-done : (fs : List Mesh) (ss : List Step) (B : Buffers) → run fs ss (lay_all fs none B) ≡ lay_all fs none B
unfolding run
run-done fs [] B = refl
run-done fs (s ∷ ss) B = ap (run fs ss) (step-done fs s B) ∙ run-done fs ss B

-- The law of any order: steps that lay each face at least once, with repeats, with numbers of no face
-- and with refused steps among them, leave what laying all of them leaves.
pub any_order : (fs : List Mesh) (ss : List Step) (B : Buffers) → ((k : ℕ) → k < length fs → Named k ss) → run fs ss B ≡ lay_all fs none B
any_order fs ss B h = sym (all-fixed fs none (run fs ss B) (λ k u. run-again fs ss k B (h k u))) ∙ run-all fs ss B ∙ run-done fs ss B
