-- `faces`: the sums, then the tests. Assumes nothing.
use mathlib.Core.Path.{ap, ◌∙◌}
use Rattle.answer.specs.Answers.{limited}
use Rattle.heightmap.specs.HeightMap.{seen}
use Rattle.heightmap.specs.Tests.{checked}
use Rattle.heightmap_plan.proofs.Deciding.{counted-first}
use Rattle.heightmap_plan.proofs.Telling.{faces-counted}
use Rattle.heightmap_plan.proofs.window.faces.Goals as goal

pub returns : goal.returns
returns c = let a = c.args in
    let ls = seen a.lists in
    let t = c.tally_all-all.ensures in
    c.faces_if_done.ensures ∙ faces-counted a.job ls _ t _ (c.check-planned.ensures ∙ ap (checked a.job ls) c.limit.ensures ∙ counted-first a.job ls limited _ t)
