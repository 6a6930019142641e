-- `seek`: the sums come first, then the tests and the number among the faces. Assumes nothing.
use mathlib.Core.Path.{ap, ap₂, ◌∙◌}
use Rattle.answer.specs.Answers.{Answer}
use Rattle.answer.specs.Answers.{limited, named}
use Rattle.heightmap.specs.HeightMap.{seen}
use Rattle.heightmap.specs.Tests.{checked}
use Rattle.heightmap_plan.specs.declared.names.Found.{Found}
use Rattle.heightmap_plan.specs.declared.names.Survey.{Survey}
use Rattle.heightmap_plan.proofs.Deciding.{counted-first}
use Rattle.heightmap_plan.proofs.Telling.{named-so}
use Rattle.heightmap_plan.proofs.window.seek.Goals as goal

pub returns : goal.returns
returns c = let a = c.args in
    let ls = seen a.lists in
    let s = c.survey_faces-s.ensures in
    let t = c.survey_faces-s.result.all in
    let p = c.check-planned.ensures ∙ ap (checked a.job ls) c.limit.ensures ∙ counted-first a.job ls limited t (ap (λ (x : Survey). x.all) s) in
    ap₂ (λ (x : Answer) (y : Found). record { answer = x; found = y }) (c.name-answer.ensures ∙ ap (λ (x : Answer). named x a.number t.faces) p ∙ named-so a.job ls t (ap (λ (x : Survey). x.all) s) a.number) (ap (λ (x : Survey). x.found) s)
