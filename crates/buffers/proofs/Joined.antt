-- Faces laid end to end are one mesh, and each of its triangles uses vertices of its own face alone. Assumes nothing.
use mathlib.Core.Path.{◌≡◌, refl, sym, ap, ap₂, subst, ◌∙◌}
use mathlib.Core.List.{List, [], ◌∷◌, ◌++◌, map}
use Prim.Native.Nat.{ℕ, zero, suc, ◌+◌, ◌-◌, ◌*◌, ◌<◌, ◌≤◌, suc-le-suc}
use native.Mathlib.Nat.{zero-add, add-zero, add_assoc}
use native.Mathlib.Omega.{arith}
use lib.ListN.{length, get_or, take, length-append, length-map, get_or-append}
use lib.Seq.{get_or-append-add}
use Rattle.face.specs.declared.face.Quad.{Quad}
use Rattle.face.specs.declared.inset.Inset.{Inset}
use Rattle.face.specs.declared.inset.InsetQuad.{InsetQuad}
use Rattle.face.specs.declared.inset.InsetHexagon.{InsetHexagon}
use Rattle.face.specs.declared.triangle.Triangle.{Triangle}
use Rattle.face.specs.declared.triangle.Counts.{Counts}
use Rattle.face.specs.Inset.{inset_quad_of}
use Rattle.face.specs.Triangles.{no_triangle, shifted, inset_triangles, inset_counts, quad_triangles, hexagon_triangles, counts}
use Rattle.face.proofs.Filling.{length-each}
use Rattle.face.proofs.Laws.{Below, quad-indices-below, hexagon-indices-below}
use Rattle.buffers.specs.Mesh.{Vertex, Mesh, none, also, size_of, measure, start_of, triangles_from, vertices_of, joined}
use Rattle.buffers.specs.Laying.{Buffers, four, three, two, corners, spread, laid, lay, lay_all}
use Rattle.placement.specs.declared.placement.Stand.{Stand}
use Rattle.buffers.specs.Faces.{vertex_at, quad_mesh, hexagon_mesh, stood_vertex, standing, wall_mesh}
use Rattle.buffers.specs.Windows.{face_at, Between, AlikeOutside, Holds, Corners, Own, AllOwn, OfFace, InFace}
use Rattle.buffers.proofs.Laid.{laid-append, laid-nothing, spread-append, spread_at}
use Rattle.buffers.proofs.Order.{same-four, position-numbers, normal-numbers, uv-numbers, index-numbers}
use Rattle.buffers.proofs.Windows.{total, covered, next_start, also-assoc, also-none, none-also, lay-outside, lay-inside}

-- ---- the counts are the sums
vertices-sum : (fs : List Mesh) → length (vertices_of fs) ≡ (measure fs).vertices.0
vertices-sum [] = refl
vertices-sum (f ∷ fs) = length-append f.vertices (vertices_of fs) ∙ ap (λ (x : ℕ). length f.vertices + x) (vertices-sum fs)

triangles-length : (b : ℕ) (fs : List Mesh) → length (triangles_from b fs) ≡ total (λ f. length f.triangles) fs
triangles-length b [] = refl
triangles-length b (f ∷ fs) =
    length-append (map (shifted b) f.triangles) (triangles_from (b + length f.vertices) fs)
    ∙ ap₂ (λ (x y : ℕ). x + y) (length-map f.triangles (shifted b)) (triangles-length (b + length f.vertices) fs)

triangles-sum : (fs : List Mesh) → 3 * total (λ f. length f.triangles) fs ≡ (measure fs).indices.0
triangles-sum [] = refl
triangles-sum (f ∷ fs) = let r : 3 * total (λ g. length g.triangles) fs ≡ (measure fs).indices.0 = triangles-sum fs in omega (arith, r)

pub joined-size : (fs : List Mesh) → size_of (joined fs) ≡ measure fs
joined-size fs = ap₂ counts (vertices-sum fs) (ap (λ (x : ℕ). 3 * x) (triangles-length 0 fs) ∙ triangles-sum fs)

-- ---- laying all is laying the one
corner-shifted : (b c x : ℕ) → x + c + b ≡ x + (b + c)
corner-shifted b c x = omega arith

corners-shifted : (b c : ℕ) (ts : List Triangle) → spread (corners b) (map (shifted c) ts) ≡ spread (corners (b + c)) ts
corners-shifted b c [] = refl
corners-shifted b c (t ∷ ts) = rw (corners-shifted b c ts, corner-shifted b c t.0.0, corner-shifted b c t.1.0, corner-shifted b c t.2.0)

seam : {A : Type 0} (l : List A) (at at' : ℕ) (xs ys zs : List A) → at + length xs ≡ at' → xs ++ ys ≡ zs → laid (laid l at xs) at' ys ≡ laid l at zs
seam l at at' xs ys zs e p = rw (← e, ← p) (laid-append l at xs ys)

-- from a place after b + c vertices on, the triangles counted from c
all-joined : (b c : ℕ) (fs : List Mesh) (at : Counts) (B : Buffers) → at.vertices.0 ≡ b + c → lay_all fs at B
    ≡ four
    (laid B.vertices (3 * at.vertices.0) (spread (λ w. three w.position) (vertices_of fs)))
    (laid B.normals (3 * at.vertices.0) (spread (λ w. three w.normal) (vertices_of fs)))
    (laid B.uvs (2 * at.vertices.0) (spread (λ w. two w.uv) (vertices_of fs)))
    (laid B.indices at.indices.0 (spread (corners b) (triangles_from c fs)))
unfolding lay_all lay
all-joined b c [] at B e = same-four (sym (laid-nothing _ _)) (sym (laid-nothing _ _)) (sym (laid-nothing _ _)) (sym (laid-nothing _ _))
all-joined b c (f ∷ fs) at B e =
    let n : ℕ = length f.vertices in
    all-joined b (c + n) fs (also at (size_of f)) (lay f at B) (omega (arith, e))
    ∙ same-four
    (seam _ _ _ _ _ _ (omega (arith, position-numbers f)) (sym (spread-append (λ (w : Vertex). three w.position) f.vertices (vertices_of fs))))
    (seam _ _ _ _ _ _ (omega (arith, normal-numbers f)) (sym (spread-append (λ (w : Vertex). three w.normal) f.vertices (vertices_of fs))))
    (seam _ _ _ _ _ _ (omega (arith, uv-numbers f)) (sym (spread-append (λ (w : Vertex). two w.uv) f.vertices (vertices_of fs))))
    (seam _ _ _ _ _ _ (omega (arith, index-numbers f at.vertices.0))
    (ap (λ (x : ℕ). spread (corners x) f.triangles ++ spread (corners b) (triangles_from (c + n) fs)) e
    ∙ ap (λ (x : List ℕ). x ++ spread (corners b) (triangles_from (c + n) fs)) (sym (corners-shifted b c f.triangles))
    ∙ sym (spread-append (corners b) (map (shifted c) f.triangles) (triangles_from (c + n) fs))))

pub all-is-joined : (fs : List Mesh) (at : Counts) (B : Buffers) → lay_all fs at B ≡ lay (joined fs) at B
unfolding lay
all-is-joined fs at B = all-joined at.vertices.0 0 fs at B (sym (add-zero at.vertices.0))

-- so all of them together write from where they start to where they end, and nowhere else
pub all-outside : (fs : List Mesh) (at : Counts) (B : Buffers) → AlikeOutside at (also at (measure fs)) B (lay_all fs at B)
all-outside fs at B =
    subst (λ (c : Counts). AlikeOutside at (also at c) B (lay_all fs at B)) (joined-size fs)
    (subst (λ (C : Buffers). AlikeOutside at (also at (size_of (joined fs))) B C) (sym (all-is-joined fs at B)) (lay-outside (joined fs) at B))

-- and hold the one mesh there
pub all-inside : (fs : List Mesh) (at : Counts) (B : Buffers) → Holds (joined fs) at (lay_all fs at B)
all-inside fs at B = subst (λ (C : Buffers). Holds (joined fs) at C) (sym (all-is-joined fs at B)) (lay-inside (joined fs) at B)

-- ---- one list of faces after another
pub measure-append : (fs gs : List Mesh) → measure (fs ++ gs) ≡ also (measure fs) (measure gs)
measure-append [] gs = sym (none-also (measure gs))
measure-append (f ∷ fs) gs = ap (also (size_of f)) (measure-append fs gs) ∙ sym (also-assoc (size_of f) (measure fs) (measure gs))

pub all_append : (fs gs : List Mesh) (at : Counts) (B : Buffers) → lay_all (fs ++ gs) at B ≡ lay_all gs (also at (measure fs)) (lay_all fs at B)
unfolding lay_all
all_append [] gs at B = ap (λ (c : Counts). lay_all gs c B) (sym (also-none at))
all_append (f ∷ fs) gs at B =
    all_append fs gs (also at (size_of f)) (lay f at B)
    ∙ ap (λ (c : Counts). lay_all gs c (lay_all fs (also at (size_of f)) (lay f at B))) (also-assoc at (size_of f) (measure fs))

-- ---- four indices a vertex at most in each face, so in all of them: 262,144 at the limit
pub few-indices : (fs : List Mesh) → ((k : ℕ) → k < length fs → 3 * length (face_at fs k).triangles ≤ 4 * length (face_at fs k).vertices) → (measure fs).indices.0 ≤ 4 * (measure fs).vertices.0
few-indices [] h = omega arith
few-indices (f ∷ fs) h =
    let r : (measure fs).indices.0 ≤ 4 * (measure fs).vertices.0 = few-indices fs (λ k u. h (suc k) (suc-le-suc u)) in
    let g : 3 * length f.triangles ≤ 4 * length f.vertices = h 0 (omega arith) in
    omega (arith, r, g)

-- ---- which triangle is whose
mapped : {A B : Type 0} (f : A → B) (xs : List A) (i : ℕ) (d : A) (z : B) → i < length xs → get_or (map f xs) i z ≡ f (get_or xs i d)
mapped f [] i d z h = absurd (let g : i < 0 = h in omega arith)
mapped f (x ∷ xs) zero d z h = refl
mapped f (x ∷ xs) (suc i) d z h = mapped f xs i d z (let g : suc i < suc (length xs) = h in omega arith)

abbrev triangles_before : List Mesh → ℕ → ℕ
triangles_before fs k = total (λ f. length f.triangles) (take k fs)

pub triangle-at : (b : ℕ) (fs : List Mesh) (k i : ℕ) → k < length fs → i < length (face_at fs k).triangles
    → get_or (triangles_from b fs) (triangles_before fs k + i) no_triangle ≡ shifted (b + (start_of fs k).vertices.0) (get_or (face_at fs k).triangles i no_triangle)
triangle-at b [] k i h l = absurd (let g : k < 0 = h in omega arith)
triangle-at b (f ∷ fs) zero i h l =
    let rest : List Triangle = triangles_from (b + length f.vertices) fs in
    let m : length (map (shifted b) f.triangles) ≡ length f.triangles = length-map f.triangles (shifted b) in
    ap (λ (k : ℕ). get_or (map (shifted b) f.triangles ++ rest) k no_triangle) (zero-add i)
    ∙ get_or-append (map (shifted b) f.triangles) rest no_triangle i (omega (arith, m))
    ∙ mapped (shifted b) f.triangles i no_triangle no_triangle l
    ∙ ap (λ (x : ℕ). shifted x (get_or f.triangles i no_triangle)) (sym (add-zero b))
triangle-at b (f ∷ fs) (suc k) i h l =
    let n : ℕ = length f.vertices in
    let m : length (map (shifted b) f.triangles) ≡ length f.triangles = length-map f.triangles (shifted b) in
    ap (λ (x : ℕ). get_or (map (shifted b) f.triangles ++ triangles_from (b + n) fs) x no_triangle) (let e : length f.triangles + triangles_before fs k + i ≡ length (map (shifted b) f.triangles) + (triangles_before fs k + i) = omega (arith, m) in e)
    ∙ get_or-append-add (map (shifted b) f.triangles) (triangles_from (b + n) fs) (triangles_before fs k + i) no_triangle
    ∙ triangle-at (b + n) fs k i (let g : suc k < suc (length fs) = h in omega arith) l
    ∙ ap (λ (x : ℕ). shifted x (get_or (face_at fs k).triangles i no_triangle)) (add_assoc b n (start_of fs k).vertices.0)

total-next : (w : Mesh → ℕ) (fs : List Mesh) (k : ℕ) → k < length fs → total w (take (suc k) fs) ≡ total w (take k fs) + w (face_at fs k)
total-next w [] k h = absurd (let g : k < 0 = h in omega arith)
total-next w (f ∷ fs) zero h = omega arith
total-next w (f ∷ fs) (suc k) h =
    let r : total w (take (suc k) fs) ≡ total w (take k fs) + w (face_at fs k) = total-next w fs k (let g : suc k < suc (length fs) = h in omega arith) in
    omega (arith, r)

-- The law of own vertices: a triangle of the joined mesh names vertices of one face's window alone.
pub own-vertices : (fs : List Mesh) → AllOwn fs → (j : ℕ) → j < length (joined fs).triangles → OfFace fs j
own-vertices fs own j h =
    let n : length (triangles_from 0 fs) ≡ total (λ f. length f.triangles) fs = triangles-length 0 fs in
    let r = covered (λ f. length f.triangles) fs j (omega (arith, n)) in
    let k : ℕ = r.face in
    let i : ℕ = j - triangles_before fs k in
    let s : triangles_before fs (suc k) ≡ triangles_before fs k + length (face_at fs k).triangles = total-next (λ f. length f.triangles) fs k r.there in
    let l : i < length (face_at fs k).triangles = omega (arith, r.lies.0, r.lies.1, s) in
    let e : triangles_before fs k + i ≡ j = omega (arith, r.lies.0) in
    let t = get_or (face_at fs k).triangles i no_triangle in
    let q : (start_of fs (suc k)).vertices.0 ≡ (start_of fs k).vertices.0 + length (face_at fs k).vertices = ap (λ (c : Counts). c.vertices.0) (next_start fs k r.there) in
    let o = own k r.there i l in
    let w : Corners (start_of fs k).vertices.0 (start_of fs (suc k)).vertices.0 (shifted (0 + (start_of fs k).vertices.0) t)
    = ((omega (arith, o.0.0), omega (arith, o.0.1, q)), (omega (arith, o.1.0), omega (arith, o.1.1, q)), (omega (arith, o.2.0), omega (arith, o.2.1, q))) in
    let a : 3 * triangles_before fs k ≡ (start_of fs k).indices.0 = triangles-sum (take k fs) in
    let b : 3 * triangles_before fs (suc k) ≡ (start_of fs (suc k)).indices.0 = triangles-sum (take (suc k) fs) in
    record {
      face = k;
      there = r.there;
      mine = (omega (arith, a, r.lies.0), omega (arith, b, r.lies.1));
      own = subst (λ (x : Triangle). Corners (start_of fs k).vertices.0 (start_of fs (suc k)).vertices.0 x)
          (sym (ap (λ (x : ℕ). get_or (triangles_from 0 fs) x no_triangle) (sym e) ∙ triangle-at 0 fs k i r.there l)) w;
    }

-- and so does every place of buffers that hold that mesh
corner-own : (a b : ℕ) (t : Triangle) → Corners a b t → (j d : ℕ) → j < 3 → Between a b (get_or (corners 0 t) j d)
corner-own a b t o zero d h = (omega (arith, o.0.0), omega (arith, o.0.1))
corner-own a b t o (suc zero) d h = (omega (arith, o.1.0), omega (arith, o.1.1))
corner-own a b t o (suc (suc zero)) d h = (omega (arith, o.2.0), omega (arith, o.2.1))
corner-own a b t o (suc (suc (suc j))) d h = absurd (omega (arith, h))

pub held-own : (fs : List Mesh) → AllOwn fs → (C : Buffers) → Holds (joined fs) none C → (measure fs).indices.0 ≤ length C.indices → (i : ℕ) → 3 * i < (measure fs).indices.0 → InFace fs C.indices i
held-own fs own C h room i u =
    let ts : List Triangle = (joined fs).triangles in
    let e : 3 * length ts ≡ (measure fs).indices.0 = ap (λ (c : Counts). c.indices.0) (joined-size fs) in
    let o = own-vertices fs own i (omega (arith, e)) in
    let k : ℕ = o.face in
    let a : 3 * triangles_before fs k ≡ (start_of fs k).indices.0 = triangles-sum (take k fs) in
    let b : 3 * triangles_before fs (suc k) ≡ (start_of fs (suc k)).indices.0 = triangles-sum (take (suc k) fs) in
    record {
      face = k;
      there = o.there;
      mine = λ j v. (omega (arith, o.mine.0), omega (arith, b, o.mine.1));
      own = λ j d v.
          subst (Between (start_of fs k).vertices.0 (start_of fs (suc k)).vertices.0)
          (sym (ap (λ (x : ℕ). get_or C.indices x d) (sym (zero-add (3 * i + j)))
          ∙ h.indices (3 * i + j) d (omega (arith, e)) (omega (arith, e))
          ∙ spread_at (corners 0) 3 (λ t. refl) ts no_triangle i j d (omega (arith, e)) v))
          (corner-own _ _ (get_or ts i no_triangle) o.own j d v);
    }

-- ---- the faces of `face` are such
from-below : (n : ℕ) (t : Triangle) → Below n t → Corners 0 n t
from-below n t h = ((omega arith, h.0), (omega arith, h.1), (omega arith, h.2))

pub quad-own : (how : Inset) (q : InsetQuad) → Own (quad_mesh how q)
unfolding quad_mesh
quad-own how q i h =
    rw (length-each (vertex_at q.positions q.normal q.uvs) (inset_counts how 4 2).vertices.0)
    (from-below _ (get_or (inset_triangles how 4 quad_triangles) i no_triangle) (quad-indices-below how i h))

pub hexagon-own : (how : Inset) (x : InsetHexagon) → Own (hexagon_mesh how x)
unfolding hexagon_mesh
hexagon-own how x i h =
    rw (length-each (vertex_at x.positions x.normal x.uvs) (inset_counts how 6 4).vertices.0)
    (from-below _ (get_or (inset_triangles how 6 hexagon_triangles) i no_triangle) (hexagon-indices-below how i h))

pub standing-own : (t : Stand) (m : Mesh) → Own m → Own (standing t m)
standing-own t m o i h = rw (length-map m.vertices (stood_vertex t)) (o i h)

pub wall-own : (t : Stand) (how : Inset) (q : Quad) → Own (wall_mesh t how q)
wall-own t how q = standing-own t (quad_mesh how (inset_quad_of how q)) (quad-own how (inset_quad_of how q))
