-- `put_cap`: by the cases of the choice. Assumes nothing.
use mathlib.Core.List.{[]}
use mathlib.Core.Path.{sym, ap, ◌∙◌}
use Rattle.placement.specs.declared.options.Choice.{Choice}
use Rattle.placement.specs.declared.options.FaceOptions.{FaceOptions}
use Rattle.placement.specs.Options.{option_at}
use Rattle.buffers.specs.Laying.{four, laid_if_fits, lay_each}
use Rattle.buffers.proofs.Each.{each_none, each-one}
use Rattle.plane_builder.specs.Cap.{cap_mesh}
use Rattle.column.specs.Column.{lists, cap_faces}
use Rattle.column_builder.proofs.laying.put_cap.Goals as goal

pub returns-in-Absent : goal.returns-in-Absent
returns-in-Absent c = let a = c.args in
    let ls = lists [] a.corners.now a.numbers.now a.marks.now in
    sym (ap (λ (x : Choice). lay_each (cap_faces a.t ls x) a.at (four a.vertices.now a.normals.now a.uvs.now a.indices.now)) c.in-Absent.is ∙ each_none a.at (four a.vertices.now a.normals.now a.uvs.now a.indices.now))

pub returns-in-With : goal.returns-in-With
returns-in-With c = let a = c.args in
    let ls = lists [] a.corners.now a.numbers.now a.marks.now in
    c.put_cap.ensures
    ∙ ap (λ (o : FaceOptions). laid_if_fits (cap_mesh a.t a.corners.now o) a.at (four a.vertices.now a.normals.now a.uvs.now a.indices.now)) c.option_at-o.ensures
    ∙ sym (ap (λ (x : Choice). lay_each (cap_faces a.t ls x) a.at (four a.vertices.now a.normals.now a.uvs.now a.indices.now)) c.in-With.is ∙ each-one (cap_mesh a.t a.corners.now (option_at a.numbers.now a.marks.now c.in-With.k)) a.at (four a.vertices.now a.normals.now a.uvs.now a.indices.now))
