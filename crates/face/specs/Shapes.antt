-- What code for a face of any shape knows of the shape, and that quads and hexagons are so.
use Rattle.std.specs.Prelude.{◌≡◌, refl, ℕ, zero, suc, ◌*◌, ◌<◌, ◌≤◌, List, length, get_or}
use Rattle.std.proofs.Common.{arith, lit<}
use Rattle.face.specs.declared.triangle.Triangle.{Triangle}
use Rattle.face.specs.Triangles.{no_triangle, quad_triangles, hexagon_triangles}

-- the three vertices of a triangle are below n
abbrev pub Below : ℕ → Triangle → Type 0
Below n t = (t.0.0 < n) × (t.1.0 < n) × (t.2.0 < n)

-- m points and n triangles, few of either; each triangle names points
pub record IsShape (m n : ℕ) (ts : List Triangle) : Type 0 where
  pub some : 0 < m
  pub points : m ≤ 6
  pub triangles : length ts ≡ n
  pub few : 3 * n ≤ 2 * m
  pub own : (i : ℕ) → i < length ts → Below m (get_or ts i no_triangle)

pub quad_is_shape : IsShape 4 2 quad_triangles
quad_is_shape = record { some = lit< tt; points = omega arith; triangles = refl; few = omega arith; own = own }
  where
    own : (i : ℕ) → i < 2 → Below 4 (get_or quad_triangles i no_triangle)
    own zero h = (lit< tt, lit< tt, lit< tt)
    own (suc zero) h = (lit< tt, lit< tt, lit< tt)
    own (suc (suc i)) h = absurd (let g : suc (suc i) < 2 = h in omega arith)

pub hexagon_is_shape : IsShape 6 4 hexagon_triangles
hexagon_is_shape = record { some = lit< tt; points = omega arith; triangles = refl; few = omega arith; own = own }
  where
    own : (i : ℕ) → i < 4 → Below 6 (get_or hexagon_triangles i no_triangle)
    own zero h = (lit< tt, lit< tt, lit< tt)
    own (suc zero) h = (lit< tt, lit< tt, lit< tt)
    own (suc (suc zero)) h = (lit< tt, lit< tt, lit< tt)
    own (suc (suc (suc zero))) h = (lit< tt, lit< tt, lit< tt)
    own (suc (suc (suc (suc i)))) h = absurd (let g : suc (suc (suc (suc i))) < 4 = h in omega arith)
