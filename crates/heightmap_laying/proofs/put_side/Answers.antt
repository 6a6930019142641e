-- `put_side`: without an inset the plain face is the wall. Assumes nothing.
use mathlib.Core.Path.{sym, ap, ◌∙◌}
use Rattle.buffers.specs.declared.plain.Plain.{Plain}
use Rattle.buffers.specs.Mesh.{Mesh}
use Rattle.buffers.specs.Laying.{four, laid_if_fits}
use Rattle.buffers.specs.Plain.{stood_quad, plain_mesh}
use Rattle.buffers.proofs.PlainFaces.{plain-wall}
use Rattle.heightmap_faces.specs.Speed.{level_quad}
use Rattle.heightmap_laying.proofs.put_side.Goals as goal

pub returns-then-is_none : goal.returns-then-is_none
returns-then-is_none c = let a = c.args in
    let B = (four a.vertices.now a.normals.now a.uvs.now a.indices.now) in
    c.lay_plain_quad.ensures
    ∙ ap (λ (f : Plain). laid_if_fits (plain_mesh 4 f) a.at B) (c.stand_quad-f.ensures ∙ ap (stood_quad a.t) c.wall_quad-q.ensures)
    ∙ ap (λ (m : Mesh). laid_if_fits m a.at B) (plain-wall a.t a.v.skin.inset (level_quad a.v a.left a.right a.foot) (sym c.is_none.ensures ∙ c.if-is_none.true))
