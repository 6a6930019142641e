-- A face of `face` as a mesh: its size, and what laying it writes into each buffer. Assumes nothing.
use mathlib.Core.Path.{◌≡◌, refl, sym, ap, subst, ◌∙◌}
use mathlib.Core.Bool.{Bool, true, false}
use mathlib.Core.List.{List, map, map-append}
use Prim.Native.Nat.{ℕ, zero, suc, ◌+◌, ◌*◌, ◌/◌, ◌≤◌}
use native.Mathlib.Omega.{arith}
use lib.ListN.{length, length-map, get_or}
use Rattle.face.specs.declared.vec.Vec2.{Vec2}
use Rattle.face.specs.declared.vec.Vec3.{Vec3}
use Rattle.face.specs.declared.face.Quad.{Quad}
use Rattle.face.specs.declared.inset.Inset.{Inset}
use Rattle.face.specs.declared.inset.Inset.TheVariants.{None, Centroid, SmallestEdge}
use Rattle.face.specs.declared.inset.InsetQuad.{InsetQuad}
use Rattle.face.specs.declared.inset.InsetHexagon.{InsetHexagon}
use Rattle.face.specs.declared.triangle.Triangle.{Triangle}
use Rattle.face.specs.declared.triangle.Counts.{Counts}
use Rattle.face.specs.Lists.{each, chain}
use Rattle.face.specs.Vec.{off2, off3}
use Rattle.face.specs.Inset.{inset_quad_of}
use Rattle.face.specs.Triangles.{inset_triangles, inset_counts, quad_triangles, hexagon_triangles, no_triangle, counts}
use Rattle.face.proofs.Filling.{length-each}
use Rattle.face.proofs.Laws.{index-count}
use Rattle.placement.specs.declared.placement.Stand.{Stand}
use Rattle.placement.specs.Placing.{stood, stood_normal}
use Rattle.buffers.specs.Mesh.{Vertex, Mesh, also, size_of}
use Rattle.buffers.specs.Laying.{Buffers, four, three, two, corners, laid, lay, fits, laid_if_fits}
use Rattle.buffers.specs.Faces.{vertex_at, face_of, inset_mesh, quad_mesh, hexagon_mesh, stood_vertex, standing, wall_mesh}
use Rattle.buffers.proofs.Laid.{spread-each, spread-all}
use Rattle.buffers.proofs.Order.{same-four}
use Rattle.buffers.proofs.Rooms.{room-is}

-- ---- what stands is as many
pub standing-size : (t : Stand) (m : Mesh) → size_of (standing t m) ≡ size_of m
standing-size t m = ap (λ (k : ℕ). counts k (3 * length m.triangles)) (length-map m.vertices (stood_vertex t))

pub map_each : {A B : Type 0} (g : ℕ → A) (f : A → B) (n : ℕ) → map f (each g n) ≡ each (λ k. f (g k)) n
map_each g f zero = refl
map_each g f (suc n) = rw (map-append, map_each g f n)

-- ---- m vertices with the triangles tris, and so a face where it stands
pub vertices-laid : (v : ℕ → Vertex) (m : ℕ) (tris : List Triangle) (k : ℕ) → length tris ≡ k → (at : Counts) (B : Buffers)
    → lay (record { vertices = each v m; triangles = tris }) at B
    ≡ four
    (laid B.vertices (3 * at.vertices.0) (chain (λ j. three (v j).position) m))
    (laid B.normals (3 * at.vertices.0) (chain (λ j. three (v j).normal) m))
    (laid B.uvs (2 * at.vertices.0) (chain (λ j. two (v j).uv) m))
    (laid B.indices at.indices.0 (chain (λ j. corners at.vertices.0 (get_or tris j no_triangle)) k))
unfolding lay
vertices-laid v m tris k e at B =
    same-four
    (ap (laid B.vertices (3 * at.vertices.0)) (spread-each (λ (w : Vertex). three w.position) v m))
    (ap (laid B.normals (3 * at.vertices.0)) (spread-each (λ (w : Vertex). three w.normal) v m))
    (ap (laid B.uvs (2 * at.vertices.0)) (spread-each (λ (w : Vertex). two w.uv) v m))
    (ap (laid B.indices at.indices.0) (spread-all (corners at.vertices.0) tris no_triangle k e))

module _ (t : Stand) (m : ℕ) (ps : List Vec3) (n : Vec3) (ts : List Vec2) (tris : List Triangle) where
  face-laid : (k : ℕ) → length tris ≡ k → (at : Counts) (B : Buffers) → lay (standing t (face_of m ps n ts tris)) at B
      ≡ four
      (laid B.vertices (3 * at.vertices.0) (chain (λ j. three (stood t (get_or ps j off3))) m))
      (laid B.normals (3 * at.vertices.0) (chain (λ j. three (stood_normal t n)) m))
      (laid B.uvs (2 * at.vertices.0) (chain (λ j. two (get_or ts j off2)) m))
      (laid B.indices at.indices.0 (chain (λ j. corners at.vertices.0 (get_or tris j no_triangle)) k))
  face-laid k e at B =
      ap (λ (vs : List Vertex). lay (record { vertices = vs; triangles = tris }) at B) (map_each (vertex_at ps n ts) (stood_vertex t) m)
      ∙ vertices-laid (λ j. stood_vertex t (vertex_at ps n ts j)) m tris k e at B

pub face-size : (m : ℕ) (ps : List Vec3) (n : Vec3) (ts : List Vec2) (tris : List Triangle) → size_of (face_of m ps n ts tris) ≡ counts m (3 * length tris)
face-size m ps n ts tris = ap (λ (k : ℕ). counts k (3 * length tris)) (length-each (vertex_at ps n ts) m)

-- ---- what an inset's counts are: few, and the triangles' number is a third of the indices'
pub record Counted (how : Inset) (v : ℕ) (tris : List Triangle) : Type 0 where
  pub few : (inset_counts how v (length tris)).vertices.0 ≤ 2 * v
  pub third : length (inset_triangles how v tris) ≡ (inset_counts how v (length tris)).indices.0 / 3
  pub most : (inset_counts how v (length tris)).indices.0 / 3 ≤ 2 * v + length tris

pub counted : (how : Inset) (v : ℕ) (tris : List Triangle) → Counted how v tris
counted None v tris = record { few = omega arith; third = omega arith; most = omega arith }
counted (Centroid k true) v tris = let e = index-count (Centroid k true) v tris in record { few = omega arith; third = omega (arith, e); most = omega arith }
counted (Centroid k false) v tris = let e = index-count (Centroid k false) v tris in record { few = omega arith; third = omega (arith, e); most = omega arith }
counted (SmallestEdge k true) v tris = let e = index-count (SmallestEdge k true) v tris in record { few = omega arith; third = omega (arith, e); most = omega arith }
counted (SmallestEdge k false) v tris = let e = index-count (SmallestEdge k false) v tris in record { few = omega arith; third = omega (arith, e); most = omega arith }

-- ---- a face of m points whose own triangles are n
module _ (how : Inset) (m n : ℕ) (tris : List Triangle) (l : length tris ≡ n) where
  third : length (inset_triangles how m tris) ≡ (inset_counts how m n).indices.0 / 3
  third = rw l at (counted how m tris).third

  size_is : (how : Inset) → counts (inset_counts how m n).vertices.0 (3 * length (inset_triangles how m tris)) ≡ inset_counts how m n
  size_is None = ap (λ (x : ℕ). counts m (3 * x)) l
  size_is (Centroid k keep) = ap (λ (x : ℕ). counts (2 * m) x) (rw l at (index-count (Centroid k keep) m tris))
  size_is (SmallestEdge k keep) = ap (λ (x : ℕ). counts (2 * m) x) (rw l at (index-count (SmallestEdge k keep) m tris))

  pub inset-size : (ps : List Vec3) (normal : Vec3) (ts : List Vec2) → size_of (inset_mesh how m n tris ps normal ts) ≡ inset_counts how m n
  inset-size ps normal ts = face-size (inset_counts how m n).vertices.0 ps normal ts (inset_triangles how m tris) ∙ size_is how

  pub inset-laid : (t : Stand) (ps : List Vec3) (normal : Vec3) (ts : List Vec2) (at : Counts) (B : Buffers) → lay (standing t (inset_mesh how m n tris ps normal ts)) at B
      ≡ four
      (laid B.vertices (3 * at.vertices.0) (chain (λ j. three (stood t (get_or ps j off3))) (inset_counts how m n).vertices.0))
      (laid B.normals (3 * at.vertices.0) (chain (λ j. three (stood_normal t normal)) (inset_counts how m n).vertices.0))
      (laid B.uvs (2 * at.vertices.0) (chain (λ j. two (get_or ts j off2)) (inset_counts how m n).vertices.0))
      (laid B.indices at.indices.0 (chain (λ j. corners at.vertices.0 (get_or (inset_triangles how m tris) j no_triangle)) ((inset_counts how m n).indices.0 / 3)))
  inset-laid t ps normal ts at B = face-laid t (inset_counts how m n).vertices.0 ps normal ts (inset_triangles how m tris) _ third at B

-- ---- at four points and at six
pub quad-size : (how : Inset) (q : InsetQuad) → size_of (quad_mesh how q) ≡ inset_counts how 4 2
unfolding quad_mesh
quad-size how q = inset-size how 4 2 quad_triangles refl q.positions q.normal q.uvs

pub hexagon-size : (how : Inset) (h : InsetHexagon) → size_of (hexagon_mesh how h) ≡ inset_counts how 6 4
unfolding hexagon_mesh
hexagon-size how h = inset-size how 6 4 hexagon_triangles refl h.positions h.normal h.uvs

module _ (t : Stand) (how : Inset) (at : Counts) (B : Buffers) where
  pub quad-laid : (q : InsetQuad) → lay (standing t (quad_mesh how q)) at B
      ≡ four
      (laid B.vertices (3 * at.vertices.0) (chain (λ j. three (stood t (get_or q.positions j off3))) (inset_counts how 4 2).vertices.0))
      (laid B.normals (3 * at.vertices.0) (chain (λ j. three (stood_normal t q.normal)) (inset_counts how 4 2).vertices.0))
      (laid B.uvs (2 * at.vertices.0) (chain (λ j. two (get_or q.uvs j off2)) (inset_counts how 4 2).vertices.0))
      (laid B.indices at.indices.0 (chain (λ j. corners at.vertices.0 (get_or (inset_triangles how 4 quad_triangles) j no_triangle)) ((inset_counts how 4 2).indices.0 / 3)))
  unfolding quad_mesh
  quad-laid q = inset-laid how 4 2 quad_triangles refl t q.positions q.normal q.uvs at B

  pub hexagon-laid : (h : InsetHexagon) → lay (standing t (hexagon_mesh how h)) at B
      ≡ four
      (laid B.vertices (3 * at.vertices.0) (chain (λ j. three (stood t (get_or h.positions j off3))) (inset_counts how 6 4).vertices.0))
      (laid B.normals (3 * at.vertices.0) (chain (λ j. three (stood_normal t h.normal)) (inset_counts how 6 4).vertices.0))
      (laid B.uvs (2 * at.vertices.0) (chain (λ j. two (get_or h.uvs j off2)) (inset_counts how 6 4).vertices.0))
      (laid B.indices at.indices.0 (chain (λ j. corners at.vertices.0 (get_or (inset_triangles how 6 hexagon_triangles) j no_triangle)) ((inset_counts how 6 4).indices.0 / 3)))
  unfolding hexagon_mesh
  hexagon-laid h = inset-laid how 6 4 hexagon_triangles refl t h.positions h.normal h.uvs at B

-- ---- what the test of room gives the writers, in the words of their size
pub record Written (how : Inset) (m n : ℕ) (tris : List Triangle) (at size : Counts) (B : Buffers) : Type 0 where
  pub few : size.vertices.0 ≤ 2 * m
  pub limit : at.vertices.0 + (inset_counts how m n).vertices.0 ≤ 65536
  pub vertices : 3 * at.vertices.0 + 3 * size.vertices.0 ≤ length B.vertices
  pub normals : 3 * at.vertices.0 + 3 * size.vertices.0 ≤ length B.normals
  pub uvs : 2 * at.vertices.0 + 2 * size.vertices.0 ≤ length B.uvs
  pub third : size.indices.0 / 3 ≤ length (inset_triangles how m tris)
  pub indices : at.indices.0 + 3 * (size.indices.0 / 3) ≤ length B.indices

pub written : (how : Inset) (m n : ℕ) (tris : List Triangle) (at size : Counts) (B : Buffers) → length tris ≡ n → size ≡ inset_counts how m n → fits at (inset_counts how m n) B ≡ true
    → Written how m n tris at size B
written how m n tris at size B l e f =
    let few : (inset_counts how m n).vertices.0 ≤ 2 * m = rw l at (counted how m tris).few in
    let r = room-is (also at (inset_counts how m n)) _ _ _ _ f in
    rw e
    record {
      few = few;
      limit = r.limit;
      vertices = omega (arith, r.vertices);
      normals = omega (arith, r.normals);
      uvs = omega (arith, r.uvs);
      third = omega (arith, third how m n tris l);
      indices = omega (arith, r.indices);
    }

-- ---- a mesh that fits is laid, and one that does not is not
module _ (m : Mesh) (at : Counts) (B : Buffers) where
  pub laid_so : fits at (size_of m) B ≡ true → lay m at B ≡ laid_if_fits m at B
  laid_so e = rw e

  pub laid-not : fits at (size_of m) B ≡ false → B ≡ laid_if_fits m at B
  laid-not e = rw e

  -- the test that was made of a size told beforehand is the test of the mesh
  pub sized : (size told : Counts) (x y : Bool) → size ≡ told → size_of m ≡ told → x ≡ fits at size B → x ≡ y → fits at (size_of m) B ≡ y
  sized size told x y e f g h = ap (λ (s : Counts). fits at s B) (f ∙ sym e) ∙ sym g ∙ h

-- ---- N4: at most four indices a vertex
few : (how : Inset) (v t : ℕ) → v ≤ 6 → 3 * t ≤ 2 * v → (inset_counts how v t).indices.0 ≤ 4 * (inset_counts how v t).vertices.0
few None v t h k = omega arith
few (Centroid x true) v t h k = omega arith
few (Centroid x false) v t h k = omega arith
few (SmallestEdge x true) v t h k = omega arith
few (SmallestEdge x false) v t h k = omega arith

abbrev pub FewIndices : Mesh → Type 0
FewIndices m = (size_of m).indices.0 ≤ 4 * (size_of m).vertices.0

pub quad-few : (how : Inset) (q : InsetQuad) → FewIndices (quad_mesh how q)
quad-few how q = subst (λ (c : Counts). c.indices.0 ≤ 4 * c.vertices.0) (sym (quad-size how q)) (few how 4 2 (omega arith) (omega arith))

pub hexagon-few : (how : Inset) (h : InsetHexagon) → FewIndices (hexagon_mesh how h)
hexagon-few how h = subst (λ (c : Counts). c.indices.0 ≤ 4 * c.vertices.0) (sym (hexagon-size how h)) (few how 6 4 (omega arith) (omega arith))

pub standing-few : (t : Stand) (m : Mesh) → FewIndices m → FewIndices (standing t m)
standing-few t m h = subst (λ (c : Counts). c.indices.0 ≤ 4 * c.vertices.0) (sym (standing-size t m)) h

pub wall-few : (t : Stand) (how : Inset) (q : Quad) → FewIndices (wall_mesh t how q)
wall-few t how q = standing-few t (quad_mesh how (inset_quad_of how q)) (quad-few how (inset_quad_of how q))
