-- `stand_hexagon`: the first six of its points and uvs. Assumes nothing.
use borrow.Author.Rules.{rules}
use mathlib.Core.Path.{ap, ◌∙◌}
use mathlib.Core.List.{map}
use Rattle.face.specs.Vec.{off2, off3}
use Rattle.placement.specs.Placing.{stood}
use Rattle.buffers.proofs.PlainFaces.{six-of-twelve, six-first}
use Rattle.buffers.proofs.plain.stand_hexagon.Goals as goal

pub returns : goal.returns
returns c = let t = c.args.t in
    let h = c.args.h in
    let ps = c.stand_all.ensures ∙ ap (map (stood t)) c.six.ensures ∙ six-of-twelve (stood t) h.positions off3 (search rules) in
    let ts = c.six-2.ensures ∙ six-first h.uvs off2 (search rules) in
    λ k. record { positions = ps k; normal = c.stand_normal-normal.ensures k; uvs = ts k }
