use Prim.Native.Nat.{◌+◌, ◌*◌}
use native.Mathlib.Omega.{arith}
use mathlib.Core.Path.{refl, sym, ap, ◌∙◌}
use Rattle.buffers.specs.Laying.{laid}
use Rattle.buffers.proofs.Laid.{laid-nothing, laying-more, laying-done}
use Rattle.stl.specs.declared.Facet.{Facet}
use Rattle.stl.specs.File.{facet_bytes}
use Rattle.stl_writing.specs.Writing.{facet_from}
use Rattle.stl_writing.proofs.put_facets.Goals as goal

pub loop-k-init : goal.loop-k-init
loop-k-init c = (omega arith, refl, sym (laid-nothing _ _))

pub facet_at-requires : goal.facet_at-requires
facet_at-requires c = (c.loop-k-test.true, c.requires.0)

pub put_facet-requires : goal.put_facet-requires
put_facet-requires c = omega (arith, c.loop-k-test.true, c.requires.1, c.loop-k.invariant.1)

pub loop-k-preserved : goal.loop-k-preserved
loop-k-preserved c = let a = c.args in
    laying-more (λ j. facet_bytes (facet_from a.vertices.now a.normals.now a.indices.now j)) 50 (λ j. refl) a.t a.bytes.now 84 c.loop-k.k c.loop-k.bytes _ c.loop-k.invariant c.loop-k-test.true (c.put_facet.ensures ∙ ap (λ (f : Facet). laid c.loop-k.bytes (84 + 50 * c.loop-k.k) (facet_bytes f)) c.facet_at.ensures)

pub returns : goal.returns
returns c = laying-done _ _ _ _ _ _ c.loop-k.invariant c.loop-k-test.false
