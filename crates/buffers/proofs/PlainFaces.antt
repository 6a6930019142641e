-- A face without an inset, by value where it stands: it is the face, and what laying it writes. Assumes nothing.
use mathlib.Core.Path.{◌≡◌, refl, sym, ap, ap₂, ◌∙◌}
use mathlib.Core.Bool.{true, false}
use mathlib.Core.List.{List, [], ◌∷◌, ◌++◌, map, map-id}
use Prim.Native.Nat.{ℕ, zero, suc, ◌*◌}
use native.Mathlib.Omega.{arith}
use lib.ListN.{length, get_or}
use Rattle.face.specs.declared.vec.Vec3.{Vec3}
use Rattle.face.specs.declared.face.Quad.{Quad}
use Rattle.face.specs.declared.inset.Inset.{Inset}
use Rattle.face.specs.declared.inset.Inset.TheVariants.{None, Centroid, SmallestEdge}
use Rattle.face.specs.declared.inset.InsetHexagon.{InsetHexagon}
use Rattle.face.specs.declared.triangle.Counts.{Counts}
use Rattle.face.specs.Lists.{each, chain}
use Rattle.face.specs.Vec.{off2, off3}
use Rattle.face.specs.Inset.{is_none}
use Rattle.face.specs.Triangles.{no_triangle}
use Rattle.placement.specs.declared.placement.Stand.{Stand}
use Rattle.placement.specs.Placing.{stood}
use Rattle.placement.specs.Speed.{shifts_alone, shift_of}
use Rattle.placement.proofs.Shifts.{shift-stands, shift-normal}
use Rattle.buffers.specs.declared.plain.Plain.{Plain}
use Rattle.buffers.specs.Laying.{Buffers, four, three, two, corners, laid, lay}
use Rattle.buffers.specs.Faces.{vertex_at, quad_mesh, hexagon_mesh, standing, wall_mesh}
use Rattle.buffers.specs.Plain.{six_of, points_by, shifted_quad, stood_quad, stood_hexagon, plain_triangles, plain_mesh}
use Rattle.buffers.proofs.Faces.{vertices-laid}

-- ---- it is the face
pub plain-wall : (t : Stand) (how : Inset) (q : Quad) → is_none how ≡ true → plain_mesh 4 (stood_quad t q) ≡ wall_mesh t how q
unfolding quad_mesh
plain-wall t None q e = refl
plain-wall t (Centroid k keep) q e = let p : false ≡ true = e in let z : ◌≡◌ {A = ℕ} 0 1 = cc in absurd (omega arith)
plain-wall t (SmallestEdge k keep) q e = let p : false ≡ true = e in let z : ◌≡◌ {A = ℕ} 0 1 = cc in absurd (omega arith)

pub plain-cap : (t : Stand) (how : Inset) (h : InsetHexagon) → is_none how ≡ true → plain_mesh 6 (stood_hexagon t h) ≡ standing t (hexagon_mesh how h)
unfolding hexagon_mesh
plain-cap t None h e = refl
plain-cap t (Centroid k keep) h e = let p : false ≡ true = e in let z : ◌≡◌ {A = ℕ} 0 1 = cc in absurd (omega arith)
plain-cap t (SmallestEdge k keep) h e = let p : false ≡ true = e in let z : ◌≡◌ {A = ℕ} 0 1 = cc in absurd (omega arith)

-- what is only moved stands so
pub points-shifted : (t : Stand) → shifts_alone t ≡ true → (ps : List Vec3) → points_by (shift_of t) ps ≡ points_by (stood t) ps
points-shifted t e ps = go 6
  where
    go : (n : ℕ) → each (λ k. shift_of t (get_or ps k off3)) n ≡ each (λ k. stood t (get_or ps k off3)) n
    go zero = refl
    go (suc n) = rw (go n, shift-stands t e (get_or ps n off3))

pub all-shifted : (t : Stand) → shifts_alone t ≡ true → (ps : List Vec3) → map (shift_of t) ps ≡ map (stood t) ps
all-shifted t e [] = refl
all-shifted t e (p ∷ ps) = rw (shift-stands t e p, all-shifted t e ps)

pub quad-shifted : (t : Stand) → shifts_alone t ≡ true → (q : Quad) → shifted_quad t q ≡ stood_quad t q
quad-shifted t e q =
    ap₂ (λ (ps : List Vec3) (n : Vec3). record { positions = ps; normal = n; uvs = each (λ k. get_or (q.uvs ++ q.uvs) k off2) 6 })
    (points-shifted t e (q.positions ++ q.positions))
    (shift-normal t e q.normal)

pub plain-laid : (m n : ℕ) → length (plain_triangles m) ≡ n → (f : Plain) (at : Counts) (B : Buffers) → lay (plain_mesh m f) at B
    ≡ four
    (laid B.vertices (3 * at.vertices.0) (chain (λ j. three (get_or f.positions j off3)) m))
    (laid B.normals (3 * at.vertices.0) (chain (λ j. three f.normal) m))
    (laid B.uvs (2 * at.vertices.0) (chain (λ j. two (get_or f.uvs j off2)) m))
    (laid B.indices at.indices.0 (chain (λ j. corners at.vertices.0 (get_or (plain_triangles m) j no_triangle)) n))
plain-laid m n l f at B = vertices-laid (vertex_at f.positions f.normal f.uvs) m (plain_triangles m) n l at B

-- ---- the six of four are the four, then two of them again
pub six-of-four : {A B : Type 0} (f : A → B) (l : List A) (z : A) (y : B) → length l ≡ 4 → six_of y (map f l) ≡ each (λ k. f (get_or (l ++ l) k z)) 6
six-of-four f [] z y e = absurd (let g : 0 ≡ 4 = e in omega arith)
six-of-four f (a ∷ []) z y e = absurd (let g : 1 ≡ 4 = e in omega arith)
six-of-four f (a ∷ b ∷ []) z y e = absurd (let g : 2 ≡ 4 = e in omega arith)
six-of-four f (a ∷ b ∷ c ∷ []) z y e = absurd (let g : 3 ≡ 4 = e in omega arith)
six-of-four f (a ∷ b ∷ c ∷ d ∷ []) z y e = refl
six-of-four f (a ∷ b ∷ c ∷ d ∷ x ∷ l) z y e = absurd (let g : suc (suc (suc (suc (suc (length l))))) ≡ 4 = e in omega arith)

pub six-again : {A : Type 0} (l : List A) (z : A) → length l ≡ 4 → six_of z l ≡ each (λ k. get_or (l ++ l) k z) 6
six-again l z e = ap (six_of z) (sym (map-id l)) ∙ six-of-four (λ x. x) l z z e

-- ---- and of twelve the first six
pub six-of-twelve : {A B : Type 0} (f : A → B) (l : List A) (z : A) → length l ≡ 12 → map f (six_of z l) ≡ each (λ k. f (get_or l k z)) 6
six-of-twelve f l z e = rw e

pub six-first : {A : Type 0} (l : List A) (z : A) → length l ≡ 12 → six_of z l ≡ each (λ k. get_or l k z) 6
six-first l z e = rw e
