-- `lay_face`: the size is the counts, and the test says whether there is room. Assumes nothing.
use borrow.Author.Rules.{rules}
use mathlib.Core.Path.{sym, ◌∙◌}
use Rattle.buffers.specs.Laying.{four}
use Rattle.buffers.specs.Faces.{inset_mesh, standing}
use Rattle.buffers.proofs.Faces.{inset-size, standing-size, laid_so, laid-not, sized}
use Rattle.buffers.proofs.laying.lay_face.Goals as goal

pub put_face-requires : goal.put_face-requires
put_face-requires g c = (search rules, (search rules, (c.requires, rw (← c.counts_of-size.ensures) (sym c.has_room-fits.ensures ∙ c.if-fits.true))))

pub returns-then-fits : goal.returns-then-fits
returns-then-fits g c = let a = c.args in
    let s = g.S.Shape in
    let B = four a.vertices.now a.normals.now a.uvs.now a.indices.now in
    let m = standing a.t (inset_mesh a.how s.POINTS s.TRIANGLES s.triangles a.ps a.normal a.ts) in
    let e = sized m a.at B _ _ _ _ c.counts_of-size.ensures (standing-size a.t _ ∙ inset-size a.how s.POINTS s.TRIANGLES s.triangles g.met.S.Shape.laws.triangles a.ps a.normal a.ts) c.has_room-fits.ensures c.if-fits.true in
    record { room = c.if-fits.true ∙ sym e; buffers = c.put_face.ensures ∙ laid_so m a.at B e }

pub returns-else-fits : goal.returns-else-fits
returns-else-fits g c = let a = c.args in
    let s = g.S.Shape in
    let B = four a.vertices.now a.normals.now a.uvs.now a.indices.now in
    let m = standing a.t (inset_mesh a.how s.POINTS s.TRIANGLES s.triangles a.ps a.normal a.ts) in
    let e = sized m a.at B _ _ _ _ c.counts_of-size.ensures (standing-size a.t _ ∙ inset-size a.how s.POINTS s.TRIANGLES s.triangles g.met.S.Shape.laws.triangles a.ps a.normal a.ts) c.has_room-fits.ensures c.if-fits.false in
    record { room = c.if-fits.false ∙ sym e; buffers = laid-not m a.at B e }
