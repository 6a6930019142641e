use mathlib.Core.Path.{◌≡◌, ap, ap₂, ◌∙◌}
use native.Mathlib.Omega.{arith}
use Rattle.heightmap.specs.HeightMap.{seen}
use Rattle.heightmap_plan.specs.Walking.{both, sides_tally}
use Rattle.heightmap_plan.proofs.Walking.{side-small, sides-small, cap-small, cell-whole}
use Rattle.heightmap_plan.proofs.tally.cell_tally.Goals as goal

pub join-t-requires : goal.join-t-requires
join-t-requires c = let a = c.args in let ls = seen a.lists in let i = c.loop-d in let s = sides-small a.job ls a.k i.d in let q = side-small a.job ls a.k i.d in record { faces_bound = rw (i.invariant.1, c.side_tally.ensures) (omega arith); vertices_bound = rw (i.invariant.1, c.side_tally.ensures) (omega arith); indices_bound = rw (i.invariant.1, c.side_tally.ensures) (omega arith) }

pub join-requires : goal.join-requires
join-requires c = let a = c.args in let ls = seen a.lists in let i = c.loop-d in let s = sides-small a.job ls a.k i.d in let q = cap-small a.job ls a.k in record { faces_bound = rw (i.invariant.1, c.cap_tally.ensures) (omega arith); vertices_bound = rw (i.invariant.1, c.cap_tally.ensures) (omega arith); indices_bound = rw (i.invariant.1, c.cap_tally.ensures) (omega arith) }

pub returns : goal.returns
returns c = let a = c.args in let ls = seen a.lists in let i = c.loop-d in let e : i.d ≡ 6 = omega arith in c.join.ensures ∙ ap₂ both c.cap_tally.ensures (i.invariant.1 ∙ ap (sides_tally a.job ls a.k) e) ∙ cell-whole a.job ls a.k
