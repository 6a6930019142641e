-- The triangles of a face of any number of points, and its counts; F3 to I9 are rows of docs/TRACE.md. Definitions only.
use Rattle.std.specs.Prelude.{ℕ, ◌+◌, ◌*◌, Bool, true, false, cond, List, [], ◌∷◌, ◌++◌, map, Float}
use Rattle.std.specs.Float.Ieee.{lt}
use Rattle.face.specs.declared.inset.Inset.{Inset}
use Rattle.face.specs.declared.inset.Inset.TheVariants.{None, Centroid, SmallestEdge}
use Rattle.face.specs.declared.triangle.VertexNumber.{VertexNumber}
use Rattle.face.specs.declared.triangle.IndexPlace.{IndexPlace}
use Rattle.face.specs.declared.triangle.Triangle.{Triangle}
use Rattle.face.specs.declared.triangle.Counts.{Counts}
use Rattle.face.specs.Lists.{chain}
use Rattle.face.specs.Vec.{f0}
use Rattle.face.specs.Inset.{next_of}

abbrev pub vertex : ℕ → VertexNumber
vertex n = record { 0 = n }

abbrev pub place : ℕ → IndexPlace
place n = record { 0 = n }

abbrev pub tri : ℕ → ℕ → ℕ → Triangle
tri a b c = record { 0 = vertex a; 1 = vertex b; 2 = vertex c }

-- what a list of triangles has past its end
abbrev pub no_triangle : Triangle
no_triangle = tri 0 0 0

-- F3
abbrev pub quad_triangles : List Triangle
quad_triangles = tri 2 1 0 ∷ tri 0 3 2 ∷ []

-- F5
abbrev pub hexagon_triangles : List Triangle
hexagon_triangles = tri 0 2 1 ∷ tri 3 5 4 ∷ tri 0 5 3 ∷ tri 3 2 0 ∷ []

abbrev pub reversed : Triangle → Triangle
reversed t = record { 0 = t.2; 1 = t.1; 2 = t.0 }

abbrev pub reversed_if : Bool → Triangle → Triangle
reversed_if back t = cond back (reversed t) t

-- I6: the two triangles between the outer edge from v to its next and the inner edge of the same points
abbrev pub first_of : ℕ → ℕ → Triangle
first_of m v = tri (next_of m v + m) (next_of m v) v

abbrev pub second_of : ℕ → ℕ → Triangle
second_of m v = tri v (v + m) (next_of m v + m)

abbrev pub connecting : Bool → ℕ → ℕ → List Triangle
connecting back m v = reversed_if back (first_of m v) ∷ reversed_if back (second_of m v) ∷ []

abbrev pub shifted : ℕ → Triangle → Triangle
shifted m t = tri (t.0.0 + m) (t.1.0 + m) (t.2.0 + m)

-- I8: the face's own triangles on the inner points, the same way round at every scale
abbrev pub kept : Bool → ℕ → List Triangle → List Triangle
kept true m ts = map (shifted m) ts
kept false m ts = []

-- I7: turned back below 0 alone, so neither at -0 nor at a NaN
abbrev pub ringed : Float → Bool → ℕ → List Triangle → List Triangle
ringed k keep m ts = chain (connecting (lt k f0) m) m ++ kept keep m ts

-- the triangles of a face of m points that has the triangles ts, inset
abbrev pub inset_triangles : Inset → ℕ → List Triangle → List Triangle
inset_triangles None m ts = ts
inset_triangles (Centroid k keep) m ts = ringed k keep m ts
inset_triangles (SmallestEdge k keep) m ts = ringed k keep m ts

abbrev pub counts : ℕ → ℕ → Counts
counts v i = record { vertices = vertex v; indices = place i }

-- I5, I9: m points with an inset, whose face has t triangles of its own
abbrev pub ring_counts : Bool → ℕ → ℕ → Counts
ring_counts keep m t = counts (2 * m) (6 * m + 3 * cond keep t 0)

abbrev pub inset_counts : Inset → ℕ → ℕ → Counts
inset_counts None m t = counts m (3 * t)
inset_counts (Centroid k keep) m t = ring_counts keep m t
inset_counts (SmallestEdge k keep) m t = ring_counts keep m t
