-- `put_points`: a turn lays the points of one triangle more in either buffer. Assumes nothing.
use Rattle.buffers.proofs.Laid.{Laying}
use Rattle.stl.specs.File.{filed_facet}
use Rattle.stl_reading.specs.Reading.{corners_of, normals_of}
use Rattle.stl_reading.proofs.put_points.Given as goal

abbrev pub invariant-loop-k : goal.invariant-loop-k
invariant-loop-k l = Laying (λ j. corners_of (filed_facet l.file j)) l.t l.initial.vertices 0 l.k l.vertices × Laying (λ j. normals_of (filed_facet l.file j)) l.t l.initial.normals 0 l.k l.normals
