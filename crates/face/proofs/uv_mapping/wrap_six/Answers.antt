-- `wrap_six`: three pairs of opposite corners are six. Assumes nothing.
use borrow.Author.Rules.{rules}
use Rattle.face.specs.Vec.{off2}
use Rattle.face.specs.Texture.{wrapped}
use Rattle.face.proofs.Filling.{each_map}
use Rattle.face.proofs.uv_mapping.wrap_six.Goals as goal

pub returns : goal.returns
returns c = let x = c.wrap_across-a.ensures in
    let y = c.wrap_across-b.ensures in
    let z = c.wrap_across-c.ensures in
    rw (x.0, x.1, y.0, y.1, z.0, z.1) (each_map wrapped c.args.cs off2 6 (search rules))
