-- `put_facets`: a turn lays one triangle more. Assumes nothing.
use Rattle.buffers.proofs.Laid.{Laying}
use Rattle.stl.specs.File.{facet_bytes}
use Rattle.stl_writing.specs.Writing.{facet_from}
use Rattle.stl_writing.proofs.put_facets.Given as goal

abbrev pub invariant-loop-k : goal.invariant-loop-k
invariant-loop-k l = Laying (λ j. facet_bytes (facet_from l.vertices l.normals l.indices j)) l.t l.initial.bytes 84 l.k l.bytes
