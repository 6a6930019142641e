use native.Mathlib.Omega.{arith}
use mathlib.Core.Path.{refl}
use Rattle.face.proofs.Laws.{indices-below}
use Rattle.buffers.proofs.Laid.{laying-none, laying-more, laying-done}
use Rattle.buffers.proofs.Rooms.{numbered}
use Rattle.buffers.proofs.laying.put_triangles.Goals as goal

pub put_corners-requires-clause-b_bound : goal.put_corners-requires-clause-b_bound
put_corners-requires-clause-b_bound g c = let p = c.requires in
    let s = g.S.Shape in
    let laws = g.met.S.Shape.laws in
    numbered _ _ _ _ c.triangle_of-t.ensures
    (rw laws.triangles at (indices-below c.args.how s.POINTS s.triangles laws.some laws.own c.loop-k.k (omega (arith, p.m_in_bounds, c.loop-k-test.true))))
    p.how_bound.0

pub loop-k-preserved : goal.loop-k-preserved
loop-k-preserved g c = laying-more _ 3 (λ k. refl) _ _ _ _ _ _ c.loop-k.invariant c.loop-k-test.true (rw c.triangle_of-t.ensures at c.put_corners.ensures)

pub returns : goal.returns
returns g c = laying-done _ _ _ _ _ _ c.loop-k.invariant c.loop-k-test.false

pub loop-k-init : goal.loop-k-init
loop-k-init g c = laying-none _ _ _
