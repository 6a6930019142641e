-- `texture_scale`: each uv is stretched, where the answer is done. Assumes nothing.
use Rattle.std.proofs.Common.{rules, List, ap, ◌∙◌}
use lib.Ieee.{Float}
use Rattle.face.specs.declared.vec.Vec2.{Vec2}
use Rattle.face.specs.declared.triangle.Counts.{Counts}
use Rattle.answer.specs.Checks.{in_range2}
use Rattle.buffers.specs.Laying.{Buffers, four}
use Rattle.mesh.specs.Stored.{moved_uvs, stretched2}
use Rattle.mesh.proofs.Moving.{moved}
use Rattle.mesh.proofs.stored.texture_scale.Goals as goal

abbrev new : Vec2 → Buffers → Counts → Buffers
new by B k = four B.vertices B.normals (moved_uvs (stretched2 by) k.vertices.0 B.uvs) B.indices

pub returns-clause-buffers : goal.returns-clause-buffers
returns-clause-buffers c = let a = c.args in
    let B = four a.vertices.now a.normals.now a.uvs.now a.indices.now in
    ap (λ (l : List Float). four B.vertices B.normals l B.indices) (c.move_each.ensures (stretched2 a.by) (λ p q k. search rules))
    ∙ moved a.counts B (new a.by B) (in_range2 a.by) c.in_ok-done.done (search rules)
