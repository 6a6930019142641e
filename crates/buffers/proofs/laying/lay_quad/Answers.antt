-- `lay_quad`: its parts. Assumes nothing.
use Rattle.buffers.specs.Faces.{quad_mesh}
use Rattle.buffers.proofs.laying.lay_quad.Goals as goal

pub returns : goal.returns
unfolding quad_mesh
returns c = record { room = c.lay_face.ensures.room; buffers = c.lay_face.ensures.buffers }
