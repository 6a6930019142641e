use borrow.Author.Rules.{rules}
use mathlib.Core.Path.{◌≡◌, sym, ◌∙◌}
use lib.ListN.{length}
use Rattle.face.specs.Vec.{off3}
use Rattle.face.proofs.Filling.{filled_more, filled-map}
use Rattle.placement.specs.Placing.{stood}
use Rattle.buffers.proofs.PlainFaces.{all-shifted}
use Rattle.buffers.proofs.plain.stand_all.Goals as goal

pub loop-k-preserved : goal.loop-k-preserved
loop-k-preserved g c = filled_more _ g.row.N _ _ _ _ c.loop-k.invariant c.loop-k-test.true (search rules) c.stand_point.ensures

pub returns : goal.returns
returns g c = let a = c.args in
    let l : length a.ps ≡ g.row.N = search rules in
    filled-map (stood a.t) a.ps off3 g.row.N a.ps _ _ c.loop-k.invariant c.loop-k-test.false l l

-- what is only moved stands so
pub returns-then-is_shift : goal.returns-then-is_shift
returns-then-is_shift g c = let a = c.args in
    c.shift_all.ensures ∙ all-shifted a.t (sym c.is_shift.ensures ∙ c.if-is_shift.true) a.ps
