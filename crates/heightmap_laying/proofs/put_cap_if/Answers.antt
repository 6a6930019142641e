-- `put_cap_if`: by the cases of the choice. Assumes nothing.
use mathlib.Core.Path.{ap, ◌∙◌}
use native.Mathlib.Omega.{arith}
use Rattle.placement.specs.declared.options.Choice.{Choice}
use Rattle.buffers.specs.Laying.{four}
use Rattle.heightmap_laying.specs.Shared.{top_mesh, top_faces}
use Rattle.heightmap_laying.proofs.Steps.{no_step, one-step, top-size, hexagon-small}
use Rattle.heightmap_laying.proofs.put_cap_if.Goals as goal

pub returns-in-Absent : goal.returns-in-Absent
returns-in-Absent c = let a = c.args in
    let s = no_step (top_faces a.caps a.t a.top) a.at (four a.vertices.now a.normals.now a.uvs.now a.indices.now) (ap (λ (x : Choice). top_faces x a.t a.top) c.in-Absent.is) in record { place = s.0; small = (omega arith, omega arith); buffers = s.1 }

pub returns-in-With : goal.returns-in-With
returns-in-With c = let a = c.args in
    let s = one-step (top_faces a.caps a.t a.top) (top_mesh a.t a.top) a.at _ _ (four a.vertices.now a.normals.now a.uvs.now a.indices.now) _ (ap (λ (x : Choice). top_faces x a.t a.top) c.in-With.is) c.add.ensures (c.counts_of.ensures ∙ top-size a.t a.top) c.put_cap.ensures in
    let m = hexagon-small a.top.inset in record { place = s.0; small = rw (c.add.ensures, c.counts_of.ensures) (omega (arith, m.0), omega (arith, m.1)); buffers = s.1 }
