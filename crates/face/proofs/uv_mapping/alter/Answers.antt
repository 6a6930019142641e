use borrow.Author.Rules.{rules}
use mathlib.Core.Path.{◌≡◌, refl}
use lib.ListN.{length}
use Rattle.face.specs.Vec.{off2}
use Rattle.face.specs.Texture.{altered}
use Rattle.face.proofs.Filling.{filled_more, filled-map}
use Rattle.face.proofs.uv_mapping.alter.Goals as goal

pub loop-i-preserved : goal.loop-i-preserved
loop-i-preserved g c = filled_more _ g.row.N _ _ _ _ c.loop-i.invariant c.loop-i-test.true (search rules) c.alter_uv.ensures

pub returns : goal.returns
returns g c = let a = c.args in
    let l : length a.uvs ≡ g.row.N = search rules in
    filled-map (altered a.o) a.uvs off2 g.row.N a.uvs _ _ c.loop-i.invariant c.loop-i-test.false l l
