-- `test`: the sums, then the tests. Assumes nothing.
use mathlib.Core.Path.{◌∙◌}
use Rattle.std.specs.Prelude.{Ok}
use Rattle.heightmap.specs.HeightMap.{seen}
use Rattle.heightmap_plan.proofs.Deciding.{counted-first}
use Rattle.heightmap_plan.proofs.test.Goals as goal

pub returns : goal.returns
returns c = let a = c.args in
    let ls = seen a.lists in
    c.check.ensures ∙ counted-first a.job ls Ok _ c.tally_all-all.ensures
