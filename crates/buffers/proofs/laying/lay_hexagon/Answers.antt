-- `lay_hexagon`: its parts. Assumes nothing.
use Rattle.buffers.specs.Faces.{hexagon_mesh}
use Rattle.buffers.proofs.laying.lay_hexagon.Goals as goal

pub returns : goal.returns
unfolding hexagon_mesh
returns c = record { room = c.lay_face.ensures.room; buffers = c.lay_face.ensures.buffers }
