-- `face`: the plan, then the number, then the room, then the one face. Assumes nothing.
use mathlib.Core.Path.{ap, ◌∙◌}
use Rattle.answer.specs.Answers.{Answer}
use Rattle.buffers.specs.Laying.{four}
use Rattle.plane_builder.specs.Plane.{lists, plane_mesh, laid_if_done}
use Rattle.plane_builder.proofs.Laws.{face-left}
use Rattle.plane_builder.proofs.face.Goals as goal

pub returns : goal.returns
returns c = let a = c.args in
    let ls = lists a.corners.now a.numbers.now a.marks.now in
    let B = four a.vertices.now a.normals.now a.uvs.now a.indices.now in
    let e = rw (c.name.ensures, c.plan.ensures) at c.room-answer.ensures in record { answer = e; buffers = c.put.ensures ∙ ap (λ (x : Answer). laid_if_done x (plane_mesh a.job ls) B) e ∙ face-left a.job ls B a.number }
