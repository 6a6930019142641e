use borrow.Author.Rules.{rules}
use mathlib.Core.Path.{◌≡◌, ap, ◌∙◌}
use Prim.Native.Nat.{ℕ}
use native.Mathlib.Omega.{arith}
use lib.ListN.{length, get_or}
use Rattle.face.specs.Vec.{off3}
use Rattle.face.proofs.Filling.{filled_more, filled-map}
use Rattle.placement.specs.Speed.{shift_of}
use Rattle.buffers.proofs.plain.shift_all.Goals as goal

pub loop-k-preserved : goal.loop-k-preserved
loop-k-preserved g c = filled_more _ g.row.N _ _ _ _ c.loop-k.invariant c.loop-k-test.true (search rules) (c.shift_point.ensures ∙ ap (λ (i : ℕ). shift_of c.args.t (get_or c.args.ps i off3)) (omega arith))

pub returns : goal.returns
returns g c = let a = c.args in
    let l : length a.ps ≡ g.row.N = search rules in
    filled-map (shift_of a.t) a.ps off3 g.row.N a.ps _ _ c.loop-k.invariant c.loop-k-test.false l l
