-- `ring_triangle`: the connecting triangles, then the inner ones if they are kept. Assumes nothing.
use mathlib.Core.Path.{sym, ap, ◌∙◌}
use mathlib.Core.Bool.{Bool}
use Prim.Native.Nat.{◌-◌, ◌*◌}
use lib.ListN.{get_or}
use Rattle.face.specs.Triangles.{kept, no_triangle}
use Rattle.face.proofs.Ring.{ring-low, ring-high}
use Rattle.face.proofs.triangle.ring_triangle.Goals as goal

pub returns-then-t-outer : goal.returns-then-t-outer
returns-then-t-outer g c = let a = c.args in
    let s = g.S.Shape in
    rw c.POINTS.ensures at c.connection.ensures ∙ sym (ring-low a.k a.keep s.POINTS s.triangles a.t (rw c.POINTS-outer.ensures at c.if-t-outer.true))

pub returns-then-keep : goal.returns-then-keep
returns-then-keep g c = let a = c.args in
    let s = g.S.Shape in
    c.reverse_if.ensures
    ∙ rw (c.POINTS-then-keep.ensures, c.POINTS-outer.ensures) at c.own_triangle.ensures
    ∙ ap (λ (x : Bool). get_or (kept x s.POINTS s.triangles) (a.t - 2 * s.POINTS) no_triangle) (sym c.if-keep.true)
    ∙ sym (ring-high a.k a.keep s.POINTS s.triangles a.t (rw c.POINTS-outer.ensures at c.if-t-outer.false))

pub returns-else-keep : goal.returns-else-keep
returns-else-keep g c = let a = c.args in
    let s = g.S.Shape in
    c.numbered.ensures
    ∙ ap (λ (x : Bool). get_or (kept x s.POINTS s.triangles) (a.t - 2 * s.POINTS) no_triangle) (sym c.if-keep.false)
    ∙ sym (ring-high a.k a.keep s.POINTS s.triangles a.t (rw c.POINTS-outer.ensures at c.if-t-outer.false))
