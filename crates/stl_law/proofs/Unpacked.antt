-- The mesh of a file's triangles: each is the triangle that it was, and the writer takes the mesh. Assumes nothing.
use mathlib.Core.Path.{◌≡◌, refl, sym, ap, ap₂, ◌∙◌}
use mathlib.Core.List.{List}
use Prim.Native.Nat.{ℕ, ◌+◌, ◌*◌, ◌<◌, ◌≤◌}
use native.Mathlib.Nat.{zero-add}
use native.Mathlib.Omega.{arith}
use lib.Dec.{lit<}
use lib.ListN.{length, get_or}
use lib.Ieee.{Float, nan}
use Rattle.face.specs.Lists.{each, chain}
use Rattle.face.specs.Vec.{f0}
use Rattle.face.proofs.Filling.{length-each, each_at, chain_same}
use Rattle.std.specs.Prelude.{Ok}
use Rattle.answer.specs.Answers.{Roomy}
use Rattle.buffers.specs.Laying.{Buffers, four, laid}
use Rattle.buffers.proofs.Laid.{length-laid, laid-inside, chain_length}
use Rattle.mesh.specs.Stored.{point_from}
use Rattle.stl.specs.declared.Facet.{Facet}
use Rattle.stl.specs.File.{file_length}
use Rattle.stl_writing.specs.Writing.{corner_of, facet_of, triangles_of, write_answer}
use Rattle.stl_writing.proofs.Testing.{all_pass}
use Rattle.stl_reading.specs.Reading.{unshared, corners_of, normals_of, unpacked}
use Rattle.stl_law.proofs.Pieces.{chain-at}

pub as_many : (t : ℕ) → triangles_of (unshared t) ≡ t
as_many t = omega arith

-- only the triangles that are there count
pub unpacked-same : (f g : ℕ → Facet) (t : ℕ) (R : Buffers) → ((k : ℕ) → k < t → f k ≡ g k) → unpacked f t R ≡ unpacked g t R
unpacked-same f g t R e =
    ap₂ (λ (v n : List Float). four (laid R.vertices 0 v) (laid R.normals 0 n) (unpacked g t R).uvs (unpacked g t R).indices)
    (chain_same _ _ t (λ k u. ap corners_of (e k u)))
    (chain_same _ _ t (λ k u. ap normals_of (e k u)))

-- ---- nine numbers a triangle, laid in a buffer that has room: they are read as the three points that they are
module _ (h : Facet → List Float) (nine-long : (x : Facet) → length (h x) ≡ 9) (f : ℕ → Facet) (t : ℕ) (l : List Float) (r : 9 * t ≤ length l) (k : ℕ) (u : k < t) where
  number_in : (p q : ℕ) → p ≡ 0 + (9 * k + q) → q < 9 → get_or (laid l 0 (chain (λ m. h (f m)) t)) p nan ≡ get_or (h (f k)) q nan
  number_in p q e v =
      let long : length (chain (λ m. h (f m)) t) ≡ 9 * t = chain_length _ 9 (λ m. nine-long (f m)) t in
      rw e (laid-inside l 0 (chain (λ m. h (f m)) t) (9 * k + q) nan (omega (arith, long)) (omega arith) ∙ chain-at h 9 nine-long f t k q nan u v)

  point-in : (j : ℕ) → j < 3 → point_from (laid l 0 (chain (λ m. h (f m)) t)) (3 * (3 * k + j)) ≡ point_from (h (f k)) (3 * j)
  point-in j v =
      let p : ℕ = 3 * (3 * k + j) in
      rw (number_in p (3 * j) (omega arith) (omega arith), number_in (p + 1) (3 * j + 1) (omega arith) (omega arith), number_in (p + 2) (3 * j + 2) (omega arith) (omega arith))

-- ---- the four buffers, with room for t triangles
module _ (f : ℕ → Facet) (t : ℕ) (R : Buffers) (r : Roomy (unshared t) (length R.vertices) (length R.normals) (length R.uvs) (length R.indices)) where
  place_in : (p : ℕ) → p < 3 * t → get_or (unpacked f t R).indices p 0 ≡ p
  place_in p u =
      let long : length (each (λ i. i) (3 * t)) ≡ 3 * t = length-each (λ i. i) (3 * t) in
      ap (λ (q : ℕ). get_or (unpacked f t R).indices q 0) (sym (zero-add p))
      ∙ laid-inside R.indices 0 (each (λ i. i) (3 * t)) p 0 (omega (arith, long)) (omega arith)
      ∙ each_at (λ i. i) (3 * t) p 0 u

  corner-in : (k j : ℕ) → k < t → j < 3 → corner_of (unpacked f t R).indices k j ≡ 3 * k + j
  corner-in k j u v = place_in (3 * k + j) (omega arith)

  pub facet-in : (k : ℕ) → k < t → facet_of (unpacked f t R) k ≡ f k
  facet-in k u =
      let corner : (j : ℕ) → j < 3 → point_from (unpacked f t R).vertices (3 * (3 * k + j)) ≡ point_from (corners_of (f k)) (3 * j) =
      point-in corners_of (λ x. refl) f t R.vertices (omega arith) k u in
      rw (
        corner-in k 0 u (lit< tt),
        corner-in k 1 u (lit< tt),
        corner-in k 2 u (lit< tt),
        point-in normals_of (λ x. refl) f t R.normals (omega arith) k u 0 (lit< tt),
        corner 0 (lit< tt),
        corner 1 (lit< tt),
        corner 2 (lit< tt),
      )

  -- it is a mesh that the writer takes
  pub writes : (l : ℕ) → 3 * t ≤ 65536 → file_length t ≤ l → write_answer (unshared t) (unpacked f t R) l ≡ Ok (unshared t)
  writes l h w =
      let v : length (unpacked f t R).vertices ≡ length R.vertices = length-laid R.vertices 0 (chain (λ k. corners_of (f k)) t) in
      let n : length (unpacked f t R).normals ≡ length R.normals = length-laid R.normals 0 (chain (λ k. normals_of (f k)) t) in
      let u : length (unpacked f t R).uvs ≡ length R.uvs = length-laid R.uvs 0 (each (λ k. f0) (6 * t)) in
      let i : length (unpacked f t R).indices ≡ length R.indices = length-laid R.indices 0 (each (λ k. k) (3 * t)) in
      let U = unpacked f t R in
      all_pass (unshared t) (length U.vertices) (length U.normals) (length U.uvs) U.indices l
      record {
        room = record { vertices = rw v r.vertices; normals = rw n r.normals; uvs = rw u r.uvs; indices = rw i r.indices };
        limit = h;
        own = λ p q. rw (place_in p q) q;
        whole = omega arith;
        few = omega arith;
        fits = rw (as_many t) w;
      }
