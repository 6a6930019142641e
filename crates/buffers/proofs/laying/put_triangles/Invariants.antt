-- `put_triangles`: a turn lays one triangle, whose vertices are the face's own. Assumes nothing.
use lib.ListN.{get_or}
use Rattle.face.specs.Triangles.{inset_triangles, no_triangle}
use Rattle.buffers.specs.Laying.{corners}
use Rattle.buffers.proofs.Laid.{Laying}
use Rattle.buffers.proofs.laying.put_triangles.Given as goal

abbrev pub invariant-loop-k : goal.invariant-loop-k
invariant-loop-k g l = let s = g.S.Shape in
    Laying (λ j. corners l.b.0 (get_or (inset_triangles l.how s.POINTS s.triangles) j no_triangle)) l.m l.initial.buffer l.at.0 l.k l.buffer
