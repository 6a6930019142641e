-- `face`: the one face at its place, where the answer is done. Assumes nothing.
use Rattle.std.proofs.Common.{rules, ◌≡◌, ◌∙◌, Ok, ap, sym, subst}
use Rattle.face.specs.declared.triangle.Counts.{Counts}
use Rattle.answer.proofs.Laws.{after-done}
use Rattle.buffers.specs.Mesh.{none}
use Rattle.buffers.specs.Laying.{four, lay_one, laid_if_fits}
use Rattle.column.specs.declared.Name.{Name}
use Rattle.column.specs.Column.{lists, column_faces, mesh_of}
use Rattle.column.proofs.Numbering.{Stands, name-stands}
use Rattle.column.proofs.Telling.{face-total}
use Rattle.column_builder.specs.Calls.{face_answer}
use Rattle.column_builder.proofs.Single.{face-ready, stands-laid}
use Rattle.column_builder.proofs.face.Goals as goal

pub returns-clause-buffers : goal.returns-clause-buffers
returns-clause-buffers c = let a = c.args in
    let X = four a.vertices.now a.normals.now a.uvs.now a.indices.now in
    let ls = lists a.pairs.now a.corners.now a.numbers.now a.marks.now in
    let e : face_answer a.job ls a.number X ≡ Ok c.in_ok-whole.whole = sym (rw (c.name-named.ensures, c.face_count.ensures ∙ face-total a.job ls, c.plan.ensures) at c.room-roomed.ensures) ∙ (search rules) in
    let r = face-ready a.job ls a.number X _ e in
    let n = c.name_of-name.result in
    c.put_named.ensures
    ∙ ap (λ (k : Counts). laid_if_fits (mesh_of a.job ls n) k X) c.start_of-at.ensures
    ∙ stands-laid a.job ls a.number n X (subst (λ (x : Name). Stands a.job a.number x) (sym c.name_of-name.ensures) (name-stands a.job a.number r.1)) r.0
    ∙ after-done (face_answer a.job ls a.number X) X (lay_one (column_faces a.job ls) a.number none X) e
