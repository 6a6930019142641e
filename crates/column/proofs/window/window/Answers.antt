-- `window`: the plan, then the number, then the face of that number. Assumes nothing.
use Rattle.std.proofs.Common.{ap, ◌∙◌, ap₂}
use Rattle.mesh.specs.Jobs.{window_by}
use Rattle.column.specs.Column.{lists}
use Rattle.column.specs.Names.{start_by, size_by}
use Rattle.column.proofs.Telling.{window-named}
use Rattle.column.proofs.window.window.Goals as goal

pub returns : goal.returns
returns c = let a = c.args in
    let l = lists a.pairs.now a.corners.now a.numbers.now a.marks.now in
    let n = c.name_of-name.ensures in
    c.window_if_done.ensures
    ∙ ap₂ (window_by c.name-answer.result) (c.start_of-start.ensures ∙ ap (start_by a.job l.numbers l.marks) n) (c.size_of.ensures ∙ ap (size_by a.job l.numbers l.marks) n)
    ∙ window-named a.job l a.number _ (rw (c.face_count.ensures, c.plan-planned.ensures) at c.name-answer.ensures)
