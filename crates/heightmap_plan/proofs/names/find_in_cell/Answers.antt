-- `find_in_cell`: the cap comes first. Assumes nothing.
use Prim.Native.Nat.{◌-◌}
use mathlib.Core.Path.{◌≡◌, ap, ◌∙◌}
use native.Mathlib.Omega.{arith}
use lib.ListN.{length}
use Rattle.face.specs.declared.triangle.Counts.{Counts}
use Rattle.buffers.specs.Mesh.{also}
use Rattle.heightmap.specs.HeightMap.{seen, cap_names}
use Rattle.heightmap_plan.specs.declared.tally.Tally.{Tally}
use Rattle.heightmap_plan.specs.Finding.{found_in_sides}
use Rattle.heightmap_plan.proofs.Finding.{cell-found}
use Rattle.heightmap_plan.proofs.names.find_in_cell.Goals as goal

pub returns : goal.returns
returns c = let a = c.args in let ls = seen a.lists in let f : c.cap_tally-cap.result.faces ≡ length (cap_names a.job.caps a.k) = ap (λ (t : Tally). t.faces) c.cap_tally-cap.ensures in let o = c.if-left-cap.false in c.find_side.ensures ∙ ap (λ (x : Counts). found_in_sides a.job ls a.k (a.left - c.cap_tally-cap.result.faces) x) (c.add-after.ensures ∙ ap (λ (t : Tally). also a.start t.counts) c.cap_tally-cap.ensures) ∙ cell-found a.job ls a.k a.left (a.left - c.cap_tally-cap.result.faces) a.start (omega arith)
