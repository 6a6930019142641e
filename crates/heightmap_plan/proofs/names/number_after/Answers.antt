-- `number_after`: after the cap and the sides before it. Assumes nothing.
use Prim.Native.Nat.{◌+◌}
use mathlib.Core.Path.{sym, ap₂, ◌∙◌}
use Rattle.heightmap.specs.Grid.{seen_grid}
use Rattle.heightmap_plan.proofs.Walking.{side-length}
use Rattle.heightmap_plan.proofs.Finding.{cap-length}
use Rattle.heightmap_plan.proofs.names.number_after.Goals as goal

pub returns : goal.returns
returns c = let a = c.args in let g = seen_grid a.grid in ap₂ ◌+◌ c.requires.from_value (ap₂ ◌+◌ (c.caps_in.ensures ∙ cap-length a.job.caps a.k) (c.cell_walls-walls.ensures.sum ∙ sym (side-length a.job g a.k a.d)))
