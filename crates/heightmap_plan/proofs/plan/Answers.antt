-- `plan`: the sums, then the tests. Assumes nothing.
use mathlib.Core.Path.{ap, ◌∙◌}
use Rattle.answer.specs.Answers.{limited}
use Rattle.heightmap.specs.HeightMap.{seen}
use Rattle.heightmap.specs.Tests.{checked}
use Rattle.heightmap_plan.proofs.Deciding.{counted-first}
use Rattle.heightmap_plan.proofs.plan.Goals as goal

pub returns : goal.returns
returns c = let a = c.args in
    let ls = seen a.lists in
    c.check.ensures ∙ ap (checked a.job ls) c.limit.ensures ∙ counted-first a.job ls limited _ c.tally_all-all.ensures
