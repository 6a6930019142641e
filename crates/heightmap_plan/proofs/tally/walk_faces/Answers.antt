use native.Mathlib.Omega.{arith}
use Rattle.heightmap.specs.HeightMap.{seen}
use Rattle.heightmap_plan.proofs.Walking.{Small, cell-small, walk-small}
use Rattle.heightmap_plan.proofs.tally.walk_faces.Goals as goal

pub join-requires : goal.join-requires
join-requires c = let a = c.args in let ls = seen a.lists in let i = c.loop-k in let s = walk-small a.job ls a.goal i.k _ _ i.invariant.1 c.mark-m.ensures in let q : Small 7 c.cell_tally.result = rw c.cell_tally.ensures (cell-small a.job ls i.k) in let h = c.requires in let b = i.invariant.0 in record { faces_bound = omega arith; vertices_bound = omega arith; indices_bound = omega arith }
