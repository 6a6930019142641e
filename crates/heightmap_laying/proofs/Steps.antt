-- One step of laying a map: a face, or none, and how far the place goes. Assumes nothing.
use mathlib.Core.Path.{◌≡◌, sym, ap, ◌∙◌}
use mathlib.Core.List.{List, [], ◌∷◌}
use Prim.Native.Nat.{◌≤◌}
use native.Mathlib.Omega.{arith}
use lib.Ieee.{Float}
use Rattle.face.specs.declared.vec.Vec2.{Vec2}
use Rattle.face.specs.declared.inset.Inset.{Inset}
use Rattle.face.specs.declared.triangle.Counts.{Counts}
use Rattle.face.specs.Inset.{inset_quad_of}
use Rattle.face.specs.Triangles.{inset_counts, quad_triangles, hexagon_triangles}
use Rattle.placement.specs.declared.placement.Stand.{Stand}
use Rattle.buffers.specs.Mesh.{Mesh, also, size_of}
use Rattle.buffers.specs.Laying.{Buffers, laid_if_fits}
use Rattle.buffers.specs.Faces.{quad_mesh, hexagon_mesh}
use Rattle.buffers.proofs.Faces.{counted, quad-size, hexagon-size, standing-size}
use Rattle.buffers.proofs.Each.{SoFar, so-far-none, so-far-one}
use Rattle.heightmap_faces.specs.declared.Level.{Level}
use Rattle.heightmap_faces.specs.declared.Top.{Top}
use Rattle.heightmap_faces.specs.Speed.{level_quad}
use Rattle.heightmap_laying.specs.Shared.{top_mesh, level_mesh}

-- ---- no face, and one
pub no_step : (fs : List Mesh) (at : Counts) (B : Buffers) → fs ≡ [] → SoFar fs at B at B
no_step fs at B e = rw e (so-far-none at B)

pub one-step : (fs : List Mesh) (f : Mesh) (at next size : Counts) (B C : Buffers) → fs ≡ f ∷ [] → next ≡ also at size → size ≡ size_of f → C ≡ laid_if_fits f at B → SoFar fs at B next C
one-step fs f at next size B C e n s l = rw e (so-far-one [] f at B at next B C (so-far-none at B) (n ∙ ap (also at) s) l)

-- ---- how many vertices and indices
pub top-size : (t : Stand) (c : Top) → inset_counts c.inset 6 4 ≡ size_of (top_mesh t c)
top-size t c = sym (standing-size t (hexagon_mesh c.inset c.whole) ∙ hexagon-size c.inset c.whole)

pub level-size : (t : Stand) (v : Level) (l r : Vec2) (foot : Float) → inset_counts v.skin.inset 4 2 ≡ size_of (level_mesh t v l r foot)
level-size t v l r foot =
    let q = inset_quad_of v.skin.inset (level_quad v l r foot) in
    sym (standing-size t (quad_mesh v.skin.inset q) ∙ quad-size v.skin.inset q)

pub quad-small : (how : Inset) → ((inset_counts how 4 2).vertices.0 ≤ 8) × ((inset_counts how 4 2).indices.0 ≤ 32)
quad-small how = let k = counted how 4 quad_triangles in (k.few, omega (arith, k.most))

pub hexagon-small : (how : Inset) → ((inset_counts how 6 4).vertices.0 ≤ 12) × ((inset_counts how 6 4).indices.0 ≤ 50)
hexagon-small how = let k = counted how 6 hexagon_triangles in (k.few, omega (arith, k.most))
