-- `build`: a done answer has room, and the one face is what it leaves. Assumes nothing.
use Rattle.std.proofs.Common.{rules, ap, ◌∙◌, List}
use Rattle.face.specs.declared.vec.Vec2.{Vec2}
use Rattle.buffers.specs.Mesh.{none}
use Rattle.buffers.specs.Laying.{four, lay}
use Rattle.cheap_column.specs.CheapColumn.{mesh_over}
use Rattle.cheap_column.proofs.Cheap.{whole_ready, whole-laid}
use Rattle.cheap_column.proofs.build.Goals as goal

pub corners_of-requires : goal.corners_of-requires
corners_of-requires c = let a = c.args in
    (whole_ready a.job a.corners.now (four a.vertices.now a.normals.now a.uvs.now a.indices.now) c.in_ok-whole.whole (search rules)).0

pub put-requires : goal.put-requires
put-requires c = let a = c.args in
    (whole_ready a.job a.corners.now (four a.vertices.now a.normals.now a.uvs.now a.indices.now) c.in_ok-whole.whole (search rules)).1

pub returns-clause-buffers : goal.returns-clause-buffers
returns-clause-buffers c = let a = c.args in
    let B = four a.vertices.now a.normals.now a.uvs.now a.indices.now in
    c.put.ensures ∙ ap (λ (x : List Vec2). lay (mesh_over a.job x) none B) c.corners_of.ensures ∙ whole-laid a.job a.corners.now B c.in_ok-whole.whole (search rules)
