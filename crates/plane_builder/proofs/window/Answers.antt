-- `window`: the plan, then the number; the one face is all of it. Assumes nothing.
use mathlib.Core.Path.{ap, ◌∙◌}
use Rattle.answer.specs.Answers.{Answer}
use Rattle.answer.specs.Answers.{named}
use Rattle.mesh.proofs.Places.{alone-window}
use Rattle.plane_builder.specs.Plane.{lists, plane_mesh, checked}
use Rattle.plane_builder.proofs.Laws.{passes}
use Rattle.plane_builder.proofs.window.Goals as goal

pub returns : goal.returns
returns c = let a = c.args in
    let l = lists a.corners.now a.numbers.now a.marks.now in
    c.window_of_all.ensures ∙ alone-window (checked a.job l) (plane_mesh a.job l) (passes a.job l) a.number _ (c.name-answer.ensures ∙ ap (λ (x : Answer). named x a.number 1) c.plan.ensures)
