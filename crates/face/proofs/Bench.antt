-- The insets among the bench cases that are to be proved, by computation. Assumes nothing.
use mathlib.Core.Path.{◌≡◌, refl}
use mathlib.Core.Bool.{Bool, true, false}
use mathlib.Core.List.{[], ◌∷◌}
use Prim.Native.Nat.{ℕ}
use lib.ListN.{take}
use lib.Ieee.{Float, lt}
use Rattle.face.specs.declared.inset.Inset.TheVariants.{Centroid, SmallestEdge}
use Rattle.face.specs.Vec.{f0}
use Rattle.face.specs.Triangles.{vertex, place, tri, quad_triangles, inset_triangles, inset_counts}

-- both scaled kinds, of m points and t triangles, have v vertices and i indices
abbrev Counted : Bool → ℕ → ℕ → ℕ → ℕ → Type 0
Counted keep m t v i =
    (k : Float)
    → (inset_counts (Centroid k keep) m t ≡ record { vertices = vertex v; indices = place i }) × (inset_counts (SmallestEdge k keep) m t ≡ record { vertices = vertex v; indices = place i })

pub quad-inset : Counted false 4 2 8 24
quad-inset k = (refl, refl)

pub quad-kept : Counted true 4 2 8 30
quad-kept k = (refl, refl)

pub hexagon-inset : Counted false 6 4 12 36
hexagon-inset k = (refl, refl)

pub hexagon-kept : Counted true 6 4 12 48
hexagon-kept k = (refl, refl)

-- the first connection of a quad, at a scale not below 0 and at one below
pub first-connection : (k : Float) (keep : Bool) → lt k f0 ≡ false → take 2 (inset_triangles (Centroid k keep) 4 quad_triangles) ≡ tri 5 1 0 ∷ tri 0 4 5 ∷ []
first-connection k keep e = rw e

pub first-reversed : (k : Float) (keep : Bool) → lt k f0 ≡ true → take 2 (inset_triangles (Centroid k keep) 4 quad_triangles) ≡ tri 0 1 5 ∷ tri 5 4 0 ∷ []
first-reversed k keep e = rw e
