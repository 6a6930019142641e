-- `stand_quad`: the six of its four points and uvs. Assumes nothing.
use borrow.Author.Rules.{rules}
use Rattle.face.specs.Vec.{off2, off3}
use Rattle.placement.specs.Placing.{stood}
use Rattle.buffers.proofs.PlainFaces.{six-of-four, six-again}
use Rattle.buffers.proofs.plain.stand_quad.Goals as goal

pub returns : goal.returns
returns c = let q = c.args.q in
    rw (c.six.ensures, c.six-2.ensures, c.stand_normal.ensures, c.stand_all.ensures, six-of-four (stood c.args.t) q.positions off3 off3 (search rules), six-again q.uvs off2 (search rules))
