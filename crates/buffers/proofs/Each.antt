-- Faces laid one by one, each where it fits: where there is room for all of them, all are laid. Assumes nothing.
use mathlib.Core.Path.{◌≡◌, refl, sym, ap, ap₂, ◌∙◌}
use mathlib.Core.Bool.{Bool, true, false, cond}
use mathlib.Core.List.{List, [], ◌∷◌, ◌++◌}
use Prim.Native.Nat.{◌+◌, ◌*◌, ◌≤◌}
use native.Mathlib.Omega.{arith}
use lib.ListN.{length}
use Rattle.face.specs.declared.triangle.Counts.{Counts}
use Rattle.buffers.specs.Mesh.{Mesh, none, also, size_of, measure}
use Rattle.buffers.specs.Laying.{Buffers, fits, reaches, lay, lay_all, lay_one, laid_if_fits, lay_each}
use Rattle.buffers.specs.Windows.{SameLengths}
use Rattle.buffers.proofs.Rooms.{room-is, room-so}
use Rattle.buffers.proofs.Order.{lay-lengths, lengths-same, lengths-then}
use Rattle.buffers.proofs.Windows.{also-assoc, also-none, none-also}
use Rattle.buffers.proofs.Faces.{laid_so}
use Rattle.buffers.proofs.Joined.{measure-append}

pub each_append : (fs gs : List Mesh) (at : Counts) (B : Buffers) → lay_each (fs ++ gs) at B ≡ lay_each gs (also at (measure fs)) (lay_each fs at B)
unfolding lay_each
each_append [] gs at B = ap (λ (c : Counts). lay_each gs c B) (sym (also-none at))
each_append (f ∷ fs) gs at B =
    each_append fs gs (also at (size_of f)) (laid_if_fits f at B)
    ∙ ap (λ (c : Counts). lay_each gs c (lay_each fs (also at (size_of f)) (laid_if_fits f at B))) (also-assoc at (size_of f) (measure fs))

-- one face
pub each-one : (f : Mesh) (at : Counts) (B : Buffers) → lay_each (f ∷ []) at B ≡ laid_if_fits f at B
unfolding lay_each
each-one f at B = refl

-- and one more
pub each_more : (fs : List Mesh) (f : Mesh) (at : Counts) (B : Buffers) → lay_each (fs ++ (f ∷ [])) at B ≡ laid_if_fits f (also at (measure fs)) (lay_each fs at B)
each_more fs f at B = each_append fs (f ∷ []) at B ∙ each-one f (also at (measure fs)) (lay_each fs at B)

pub each_none : (at : Counts) (B : Buffers) → lay_each [] at B ≡ B
unfolding lay_each
each_none at B = refl

-- ---- room for what reaches further is room for what does not
pub fits-less : (a s b t : Counts) (B : Buffers)
    → (also b t).vertices.0 ≤ (also a s).vertices.0 → (also b t).indices.0 ≤ (also a s).indices.0 → fits a s B ≡ true → fits b t B ≡ true
fits-less a s b t B v i e =
    let r = room-is (also a s) _ _ _ _ e in
    room-so (also b t) _ _ _ _ record { limit = omega (arith, v, r.limit); vertices = omega (arith, v, r.vertices); normals = omega (arith, v, r.normals); uvs = omega (arith, v, r.uvs); indices = omega (arith, i, r.indices) }

-- and the same room in buffers of the same lengths
fits-same : (a s : Counts) (B C : Buffers) → SameLengths B C → fits a s B ≡ true → fits a s C ≡ true
fits-same a s B C l e = rw (l.vertices, l.normals, l.uvs, l.indices) e

pub each_all : (fs : List Mesh) (at : Counts) (B : Buffers) → fits at (measure fs) B ≡ true → lay_each fs at B ≡ lay_all fs at B
unfolding lay_each lay_all
each_all [] at B e = refl
each_all (f ∷ fs) at B e =
    let one : fits at (size_of f) B ≡ true = fits-less at (measure (f ∷ fs)) at (size_of f) B (omega arith) (omega arith) e in
    let rest : fits (also at (size_of f)) (measure fs) (lay f at B) ≡ true =
    fits-same (also at (size_of f)) (measure fs) B (lay f at B) (lay-lengths f at B)
    (ap (λ (c : Counts). reaches c (length B.vertices) (length B.normals) (length B.uvs) (length B.indices)) (also-assoc at (size_of f) (measure fs)) ∙ e) in
    ap (λ (C : Buffers). lay_each fs (also at (size_of f)) C) (sym (laid_so f at B one))
    ∙ each_all fs (also at (size_of f)) (lay f at B) rest

-- no buffer grows or shrinks
pub if-fits-lengths : (f : Mesh) (at : Counts) (B : Buffers) → SameLengths B (laid_if_fits f at B)
if-fits-lengths f at B = go (fits at (size_of f) B)
  where
    go : (x : Bool) → SameLengths B (cond x (lay f at B) B)
    go true = lay-lengths f at B
    go false = lengths-same B

pub each-lengths : (fs : List Mesh) (at : Counts) (B : Buffers) → SameLengths B (lay_each fs at B)
unfolding lay_each
each-lengths [] at B = lengths-same B
each-lengths (f ∷ fs) at B = lengths-then (if-fits-lengths f at B) (each-lengths fs (also at (size_of f)) (laid_if_fits f at B))

-- ---- a loop that lays: these faces are laid from a place on, and it has come to the place past them
abbrev pub SoFar : List Mesh → Counts → Buffers → Counts → Buffers → Type 0
SoFar fs at B place C = (place ≡ also at (measure fs)) × (C ≡ lay_each fs at B)

pub so-far-none : (at : Counts) (B : Buffers) → SoFar [] at B at B
so-far-none at B = (sym (also-none at), sym (each_none at B))

pub so_far_more : (fs gs : List Mesh) (at : Counts) (B : Buffers) (place next : Counts) (C D : Buffers)
    → SoFar fs at B place C → next ≡ also place (measure gs) → D ≡ lay_each gs place C → SoFar (fs ++ gs) at B next D
so_far_more fs gs at B place next C D h n d = (
  n ∙ ap (λ (c : Counts). also c (measure gs)) h.0 ∙ also-assoc at (measure fs) (measure gs) ∙ ap (also at) (sym (measure-append fs gs)),
  d ∙ ap₂ (λ (c : Counts) (X : Buffers). lay_each gs c X) h.0 h.1 ∙ sym (each_append fs gs at B),
)

pub so-far-one : (fs : List Mesh) (f : Mesh) (at : Counts) (B : Buffers) (place next : Counts) (C D : Buffers)
    → SoFar fs at B place C → next ≡ also place (size_of f) → D ≡ laid_if_fits f place C → SoFar (fs ++ (f ∷ [])) at B next D
so-far-one fs f at B place next C D h n d =
    so_far_more fs (f ∷ []) at B place next C D h (n ∙ ap (also place) (sym (also-none (size_of f)))) (d ∙ sym (each-one f place C))

-- ---- one face that has others before it
pub one-after : (before : List Mesh) (f : Mesh) (rest : List Mesh) (at : Counts) (B : Buffers) → lay_one (before ++ (f ∷ rest)) (length before) at B ≡ lay f (also at (measure before)) B
unfolding lay_one
one-after [] f rest at B = ap (λ (c : Counts). lay f c B) (sym (also-none at))
one-after (b ∷ before) f rest at B =
    one-after before f rest (also at (size_of b)) B ∙ ap (λ (c : Counts). lay f c B) (also-assoc at (size_of b) (measure before))

-- laid by itself where the whole has room, it is laid in its place
pub one-laid : (before : List Mesh) (f : Mesh) (rest : List Mesh) (B : Buffers) → fits none (measure (before ++ (f ∷ rest))) B ≡ true
    → laid_if_fits f (measure before) B ≡ lay_one (before ++ (f ∷ rest)) (length before) none B
one-laid before f rest B e =
    let m = measure-append before (f ∷ rest) in
    let v : (measure (before ++ (f ∷ rest))).vertices.0 ≡ (measure before).vertices.0 + (length f.vertices + (measure rest).vertices.0) = ap (λ (c : Counts). c.vertices.0) m in
    let i : (measure (before ++ (f ∷ rest))).indices.0 ≡ (measure before).indices.0 + (3 * length f.triangles + (measure rest).indices.0) = ap (λ (c : Counts). c.indices.0) m in
    let one : fits (measure before) (size_of f) B ≡ true = fits-less none (measure (before ++ (f ∷ rest))) (measure before) (size_of f) B (omega (arith, v)) (omega (arith, i)) e in
    sym (laid_so f (measure before) B one)
    ∙ ap (λ (c : Counts). lay f c B) (sym (none-also (measure before)))
    ∙ sym (one-after before f rest none B)
