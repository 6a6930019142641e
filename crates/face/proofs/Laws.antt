-- What holds of an inset for every number of points V, used at four and at six alike. Assumes nothing.
use mathlib.Core.Path.{◌≡◌, refl, sym, ap, ◌∙◌, subst}
use mathlib.Core.Bool.{Bool, true, false, cond}
use mathlib.Core.List.{List, [], ◌∷◌, ◌++◌, map}
use Prim.Native.Nat.{ℕ, zero, suc, ◌+◌, ◌-◌, ◌*◌, ◌/◌, ◌%◌, ◌≤◌, ◌<◌}
use native.Mathlib.Nat.{mod-lt}
use native.Mathlib.Omega.{arith}
use lib.Dec.{ltb, ltb→lt, nltb→le, T}
use mathlib.Core.Bool.{not}
use lib.ListN.{length, get_or, take, length-append, length-map, get_or-eq_default}
use lib.Seq.{take_at}
use lib.Ieee.{Float, nan, binary32, lt, of_bits}
use Rattle.face.specs.declared.vec.Vec2.{Vec2}
use Rattle.face.specs.declared.vec.Vec3.{Vec3}
use Rattle.face.specs.declared.inset.Inset.{Inset}
use Rattle.face.specs.declared.inset.Inset.TheVariants.{None, Centroid, SmallestEdge}
use Rattle.face.specs.declared.triangle.Triangle.{Triangle}
use Rattle.face.specs.Lists.{chain}
use Rattle.face.specs.Vec.{f0}
use Rattle.face.specs.Inset.{next_of, inner_points, inner_uvs}
use Rattle.face.specs.Triangles.{no_triangle, first_of, second_of, reversed_if, connecting, shifted, kept, ringed, inset_triangles, inset_counts, quad_triangles, hexagon_triangles}
pub use Rattle.face.specs.Shapes.{Below}
use Rattle.face.specs.Shapes.{quad_is_shape, hexagon_is_shape}
use Rattle.face.proofs.Filling.{length-each}
use Rattle.face.proofs.Ring.{length_pairs, first-at, second_at, ring-low, ring-high}

-- ---- 2V vertices, the outer first and unchanged
pub inner-length : (how : Inset) (ps : List Vec3) → length (inner_points how ps) ≡ length ps
inner-length None ps = refl
inner-length (Centroid k keep) ps = length-map ps _
inner-length (SmallestEdge k keep) ps = length-each _ (length ps)

pub inner-uvs-length : (how : Inset) (ps : List Vec3) (ts : List Vec2) → length ts ≡ length ps → length (inner_uvs how ps ts) ≡ length ps
inner-uvs-length None ps ts e = e
inner-uvs-length (Centroid k keep) ps ts e = length-map ts _ ∙ e
inner-uvs-length (SmallestEdge k keep) ps ts e = length-each _ (length ps)

pub twice_as_many : (how : Inset) (ps : List Vec3) → length (ps ++ inner_points how ps) ≡ 2 * length ps
twice_as_many how ps = length-append ps (inner_points how ps) ∙ omega (arith, inner-length how ps)

pub outer-first : (how : Inset) (ps : List Vec3) → take (length ps) (ps ++ inner_points how ps) ≡ ps
outer-first how ps = take_at ps (inner_points how ps) (length ps) refl

pub twice-as-many-uvs : (how : Inset) (ps : List Vec3) (ts : List Vec2) → length ts ≡ length ps → length (ts ++ inner_uvs how ps ts) ≡ 2 * length ps
twice-as-many-uvs how ps ts e = length-append ts (inner_uvs how ps ts) ∙ omega (arith, inner-uvs-length how ps ts e)

pub outer-uvs-first : (how : Inset) (ps : List Vec3) (ts : List Vec2) → take (length ts) (ts ++ inner_uvs how ps ts) ≡ ts
outer-uvs-first how ps ts = take_at ts (inner_uvs how ps ts) (length ts) refl

-- what is laid: the face, and with an inset the inner points too
abbrev pub laid_points : Inset → List Vec3 → List Vec3
laid_points None ps = ps
laid_points (Centroid k keep) ps = ps ++ inner_points (Centroid k keep) ps
laid_points (SmallestEdge k keep) ps = ps ++ inner_points (SmallestEdge k keep) ps

pub vertex-count : (how : Inset) (ps : List Vec3) (t : ℕ) → length (laid_points how ps) ≡ (inset_counts how (length ps) t).vertices.0
vertex-count None ps t = refl
vertex-count (Centroid k keep) ps t = twice_as_many (Centroid k keep) ps
vertex-count (SmallestEdge k keep) ps t = twice_as_many (SmallestEdge k keep) ps

-- ---- 6V indices, plus 3 for each inner triangle when kept
kept-length : (keep : Bool) (m : ℕ) (ts : List Triangle) → length (kept keep m ts) ≡ cond keep (length ts) 0
kept-length true m ts = length-map ts _
kept-length false m ts = refl

ringed-length : (k : Float) (keep : Bool) (m : ℕ) (ts : List Triangle) → 3 * length (ringed k keep m ts) ≡ 6 * m + 3 * cond keep (length ts) 0
ringed-length k keep m ts =
    let c : length (chain (connecting (lt k f0) m) m) ≡ 2 * m = length_pairs _ _ no_triangle m in
    let a : length (ringed k keep m ts) ≡ length (chain (connecting (lt k f0) m) m) + length (kept keep m ts) = length-append (chain (connecting (lt k f0) m) m) (kept keep m ts) in
    omega (arith, kept-length keep m ts)

pub index-count : (how : Inset) (m : ℕ) (ts : List Triangle) → 3 * length (inset_triangles how m ts) ≡ (inset_counts how m (length ts)).indices.0
index-count None m ts = refl
index-count (Centroid k keep) m ts = ringed-length k keep m ts
index-count (SmallestEdge k keep) m ts = ringed-length k keep m ts

-- ---- which triangles reverse: the two of each point v if the scale is below 0, the inner ones never
module _ (k : Float) (keep : Bool) (m : ℕ) (ts : List Triangle) where
  pub first-of-point : (v : ℕ) → v < m → get_or (ringed k keep m ts) (2 * v) no_triangle ≡ reversed_if (lt k f0) (first_of m v)
  first-of-point v h = ring-low k keep m ts (2 * v) (omega arith) ∙ first-at (λ i. reversed_if (lt k f0) (first_of m i)) (λ i. reversed_if (lt k f0) (second_of m i)) no_triangle m v h

  pub second-of-point : (v : ℕ) → v < m → get_or (ringed k keep m ts) (2 * v + 1) no_triangle ≡ reversed_if (lt k f0) (second_of m v)
  second-of-point v h = ring-low k keep m ts (2 * v + 1) (omega arith) ∙ second_at (λ i. reversed_if (lt k f0) (first_of m i)) (λ i. reversed_if (lt k f0) (second_of m i)) no_triangle m v h

-- no zero and no NaN is below 0
pub minus_zero_keeps : lt (of_bits binary32 0x8000_0000) f0 ≡ false
unfolding lt of_bits
minus_zero_keeps = refl

pub plus-zero-keeps : lt f0 f0 ≡ false
unfolding lt of_bits
plus-zero-keeps = refl

pub nan_keeps : lt nan f0 ≡ false
unfolding lt
nan_keeps = refl

map_at : (f : Triangle → Triangle) (l : List Triangle) (i : ℕ) → i < length l → get_or (map f l) i no_triangle ≡ f (get_or l i no_triangle)
map_at f [] i h = absurd (let g : i < 0 = h in omega arith)
map_at f (x ∷ l) zero h = refl
map_at f (x ∷ l) (suc i) h = map_at f l i (let g : suc i < suc (length l) = h in omega arith)

pub inner-triangle : (k : Float) (m : ℕ) (ts : List Triangle) (i : ℕ) → i < length ts → get_or (ringed k true m ts) (2 * m + i) no_triangle ≡ shifted m (get_or ts i no_triangle)
inner-triangle k m ts i h =
    ring-high k true m ts (2 * m + i) (omega arith)
    ∙ ap (λ (x : ℕ). get_or (map (shifted m) ts) x no_triangle) (let e : 2 * m + i - 2 * m ≡ i = omega arith in e)
    ∙ map_at (shifted m) ts i h

-- ---- every index is below 2V
reversed-below : (back : Bool) (n : ℕ) (t : Triangle) → Below n t → Below n (reversed_if back t)
reversed-below true n t h = (h.2, h.1, h.0)
reversed-below false n t h = h

module _ (m v : ℕ) (h : v < m) where
  next-lt : next_of m v < m
  next-lt = mod-lt (v + 1) {m = m} (omega arith)

  first_below : Below (2 * m) (first_of m v)
  first_below = let n : next_of m v < m = next-lt in (omega arith, omega arith, omega arith)

  second_below : Below (2 * m) (second_of m v)
  second_below = let n : next_of m v < m = next-lt in (omega arith, omega arith, omega arith)

-- a triangle of the ring: one of a point's two, or an inner one
ring-below : (k : Float) (keep : Bool) (m : ℕ) (ts : List Triangle) → ((i : ℕ) → i < length ts → Below m (get_or ts i no_triangle)) → 0 < m → (i : ℕ) → Below (2 * m) (get_or (ringed k keep m ts) i no_triangle)
ring-below k keep m ts b p i = go (ltb i (2 * m)) (ltb→lt i (2 * m)) (nltb→le i (2 * m))
  where
    none : Below (2 * m) no_triangle
    none = (omega arith, omega arith, omega arith)

    at : (x : ℕ) (t : Triangle) → i ≡ x → get_or (ringed k keep m ts) x no_triangle ≡ t → Below (2 * m) t → Below (2 * m) (get_or (ringed k keep m ts) i no_triangle)
    at x t e f h = subst (λ (u : Triangle). Below (2 * m) u) (sym (ap (λ (y : ℕ). get_or (ringed k keep m ts) y no_triangle) e ∙ f)) h

    half : (r : ℕ) → i % 2 ≡ r → i < 2 * m → Below (2 * m) (get_or (ringed k keep m ts) i no_triangle)
    half zero e l =
        let q : ℕ = i / 2 in
        at (2 * q) _ (omega arith) (first-of-point k keep m ts q (omega arith)) (reversed-below (lt k f0) (2 * m) _ (first_below m q (omega arith)))
    half (suc r) e l =
        let q : ℕ = i / 2 in
        at (2 * q + 1) _ (omega arith) (second-of-point k keep m ts q (omega arith)) (reversed-below (lt k f0) (2 * m) _ (second_below m q (omega arith)))

    inner : (b : Bool) (j : ℕ) → Below (2 * m) (get_or (kept b m ts) j no_triangle)
    inner false j = none
    inner true j = choose (ltb j (length ts)) (ltb→lt j (length ts)) (nltb→le j (length ts))
      where
        choose : (x : Bool) → (T x → j < length ts) → (T (not x) → length ts ≤ j) → Below (2 * m) (get_or (map (shifted m) ts) j no_triangle)
        choose true y z =
            let h = b j (y tt) in
            subst (λ (u : Triangle). Below (2 * m) u) (sym (map_at (shifted m) ts j (y tt))) (omega (arith, h.0), omega (arith, h.1), omega (arith, h.2))
        choose false y z = subst (λ (u : Triangle). Below (2 * m) u) (sym (get_or-eq_default (map (shifted m) ts) no_triangle (subst (λ (x : ℕ). x ≤ j) (sym (length-map ts _)) (z tt)))) none

    go : (x : Bool) → (T x → i < 2 * m) → (T (not x) → 2 * m ≤ i) → Below (2 * m) (get_or (ringed k keep m ts) i no_triangle)
    go true y z = half (i % 2) refl (y tt)
    go false y z = subst (λ (u : Triangle). Below (2 * m) u) (sym (ring-high k keep m ts i (z tt))) (inner keep (i - 2 * m))

-- of a face whose own triangles name its points
pub indices-below : (how : Inset) (m : ℕ) (ts : List Triangle) → 0 < m → ((i : ℕ) → i < length ts → Below m (get_or ts i no_triangle)) → (i : ℕ) → i < length (inset_triangles how m ts)
    → Below (inset_counts how m (length ts)).vertices.0 (get_or (inset_triangles how m ts) i no_triangle)
indices-below None m ts p b i h = b i h
indices-below (Centroid k keep) m ts p b i h = ring-below k keep m ts b p i
indices-below (SmallestEdge k keep) m ts p b i h = ring-below k keep m ts b p i

-- ---- at four and at six
pub quad-indices-below : (how : Inset) (i : ℕ) → i < length (inset_triangles how 4 quad_triangles) → Below (inset_counts how 4 2).vertices.0 (get_or (inset_triangles how 4 quad_triangles) i no_triangle)
quad-indices-below how = indices-below how 4 quad_triangles quad_is_shape.some quad_is_shape.own

pub hexagon-indices-below : (how : Inset) (i : ℕ) → i < length (inset_triangles how 6 hexagon_triangles) → Below (inset_counts how 6 4).vertices.0 (get_or (inset_triangles how 6 hexagon_triangles) i no_triangle)
hexagon-indices-below how = indices-below how 6 hexagon_triangles hexagon_is_shape.some hexagon_is_shape.own

pub quad-index-count : (how : Inset) → 3 * length (inset_triangles how 4 quad_triangles) ≡ (inset_counts how 4 2).indices.0
quad-index-count how = index-count how 4 quad_triangles

pub hexagon-index-count : (how : Inset) → 3 * length (inset_triangles how 6 hexagon_triangles) ≡ (inset_counts how 6 4).indices.0
hexagon-index-count how = index-count how 6 hexagon_triangles
