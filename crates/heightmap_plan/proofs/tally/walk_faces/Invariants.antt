-- `walk_faces`: the faces of the cells seen so far. Assumes nothing.
use Prim.Native.Nat.{◌≤◌}
use mathlib.Core.Path.{◌≡◌}
use Rattle.heightmap.specs.HeightMap.{seen}
use Rattle.heightmap_plan.specs.Walking.{walked}
use Rattle.heightmap_plan.proofs.tally.walk_faces.Given as goal

abbrev pub invariant-loop-k : goal.invariant-loop-k
invariant-loop-k l = (l.k ≤ l.n) × (l.w ≡ walked l.job (seen l.lists) l.goal l.k)
