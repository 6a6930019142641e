-- `span_of_all`: the least and the greatest of the heights seen so far. Assumes nothing.
use Prim.Native.Nat.{◌≤◌}
use mathlib.Core.Path.{◌≡◌}
use Rattle.heightmap.specs.Grid.{height_at, lower, higher, kept}
use Rattle.heightmap.proofs.grid.span_of_all.Given as goal

abbrev pub invariant-loop-k : goal.invariant-loop-k
invariant-loop-k l = (l.k ≤ l.n) × (l.min ≡ kept lower (height_at l.cells 0) (height_at l.cells) l.k) × (l.max ≡ kept higher (height_at l.cells 0) (height_at l.cells) l.k)
