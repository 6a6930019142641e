-- `scale`: each point is stretched, where the answer is done. Assumes nothing.
use Rattle.std.proofs.Common.{rules, List, ap, ◌∙◌}
use lib.Ieee.{Float}
use Rattle.face.specs.declared.vec.Vec3.{Vec3}
use Rattle.face.specs.declared.triangle.Counts.{Counts}
use Rattle.answer.specs.Checks.{in_range3}
use Rattle.buffers.specs.Laying.{Buffers, four}
use Rattle.mesh.specs.Stored.{moved_points, stretched3}
use Rattle.mesh.proofs.Moving.{moved}
use Rattle.mesh.proofs.stored.scale.Goals as goal

abbrev new : Vec3 → Buffers → Counts → Buffers
new by B k = four (moved_points (stretched3 by) k.vertices.0 B.vertices) B.normals B.uvs B.indices

pub returns-clause-buffers : goal.returns-clause-buffers
returns-clause-buffers c = let a = c.args in
    let B = four a.vertices.now a.normals.now a.uvs.now a.indices.now in
    ap (λ (l : List Float). four l B.normals B.uvs B.indices) (c.move_each.ensures (stretched3 a.by) (λ p q k. search rules))
    ∙ moved a.counts B (new a.by B) (in_range3 a.by) c.in_ok-done.done (search rules)
