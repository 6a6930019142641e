-- `centroid`: the mean is the middle, where the answer is done. Assumes nothing.
use Rattle.std.proofs.Common.{rules, ◌*◌}
use Rattle.face.specs.Lists.{each}
use Rattle.face.specs.Vec.{middle3}
use Rattle.buffers.specs.Laying.{four}
use Rattle.mesh.specs.Stored.{point_from}
use Rattle.mesh.proofs.Moving.{centred}
use Rattle.mesh.proofs.stored.centroid.Goals as goal

pub returns : goal.returns
returns c = let a = c.args in
    centred a.counts (four a.vertices.now a.normals.now a.uvs.now a.indices.now) (λ m. middle3 (each (λ j. point_from a.vertices.now (3 * j)) m)) (search rules) c.mean.ensures
