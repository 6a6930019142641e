-- `put_part`: without an inset, and only moved, the plain face is the part. Assumes nothing.
use mathlib.Core.Path.{sym, ap, ◌∙◌}
use Rattle.face.specs.Inset.{is_none}
use Rattle.placement.specs.Speed.{shifts_alone}
use Rattle.buffers.specs.declared.plain.Plain.{Plain}
use Rattle.buffers.specs.Mesh.{Mesh}
use Rattle.buffers.specs.Laying.{four, laid_if_fits}
use Rattle.buffers.specs.Plain.{shifted_quad, plain_mesh}
use Rattle.buffers.proofs.Rooms.{both}
use Rattle.buffers.proofs.PlainFaces.{plain-wall, quad-shifted}
use Rattle.column.specs.Wall.{part_at}
use Rattle.column_builder.proofs.laying.put_part.Goals as goal

pub returns-then-is_plain : goal.returns-then-is_plain
returns-then-is_plain c = let a = c.args in
    let B = four a.vertices.now a.normals.now a.uvs.now a.indices.now in
    both (is_none a.w.inset) (shifts_alone a.w.stand) (sym c.is_plain.ensures ∙ c.if-is_plain.true) (λ n m.
    c.lay_plain_quad.ensures
    ∙ ap (λ (f : Plain). laid_if_fits (plain_mesh 4 f) a.at B) (c.shift_quad-f.ensures ∙ ap (shifted_quad a.w.stand) c.part_at-q.ensures ∙ quad-shifted a.w.stand m (part_at a.w a.p))
    ∙ ap (λ (x : Mesh). laid_if_fits x a.at B) (plain-wall a.w.stand a.w.inset (part_at a.w a.p) n))

pub returns-else-is_plain : goal.returns-else-is_plain
returns-else-is_plain c = rw c.part_at-q-else-is_plain.ensures at c.lay_wall.ensures
