-- `put_cap`: without an inset the plain face is the cap. Assumes nothing.
use mathlib.Core.Path.{sym, ap, ◌∙◌}
use Rattle.buffers.specs.declared.plain.Plain.{Plain}
use Rattle.buffers.specs.Mesh.{Mesh}
use Rattle.buffers.specs.Laying.{four, laid_if_fits}
use Rattle.buffers.specs.Plain.{plain_mesh}
use Rattle.buffers.proofs.PlainFaces.{plain-cap}
use Rattle.heightmap_laying.proofs.put_cap.Goals as goal

pub returns-then-is_none : goal.returns-then-is_none
returns-then-is_none c = let a = c.args in
    let B = (four a.vertices.now a.normals.now a.uvs.now a.indices.now) in
    c.lay_plain_hexagon.ensures
    ∙ ap (λ (f : Plain). laid_if_fits (plain_mesh 6 f) a.at B) c.stand_hexagon-f.ensures
    ∙ ap (λ (m : Mesh). laid_if_fits m a.at B) (plain-cap a.t a.top.inset a.top.whole (sym c.is_none.ensures ∙ c.if-is_none.true))
