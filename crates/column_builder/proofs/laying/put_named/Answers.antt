-- `put_named`: by the cases of the piece. Assumes nothing.
use mathlib.Core.Path.{sym, ap, ◌∙◌}
use Rattle.placement.specs.declared.options.FaceOptions.{FaceOptions}
use Rattle.buffers.specs.Mesh.{Mesh}
use Rattle.buffers.specs.Laying.{four, laid_if_fits}
use Rattle.plane_builder.specs.Cap.{cap_mesh}
use Rattle.column.specs.declared.wall.Wall.{Wall}
use Rattle.column.specs.declared.names.Piece.{Piece}
use Rattle.column.specs.Column.{lists}
use Rattle.column.specs.Wall.{part_mesh}
use Rattle.column.proofs.Parts.{piece_mesh, piece_is}
use Rattle.column_builder.proofs.laying.put_named.Goals as goal

pub returns-in-Part : goal.returns-in-Part
returns-in-Part c = let a = c.args in
    let ls = lists a.pairs.now a.corners.now a.numbers.now a.marks.now in
    let B = four a.vertices.now a.normals.now a.uvs.now a.indices.now in
    let p = c.in-Part.p in
    rw c.part_at-q.ensures at c.lay_wall.ensures
    ∙ ap (λ (w : Wall). laid_if_fits (part_mesh w p) a.at B) c.wall_of-w.ensures
    ∙ ap (λ (x : Piece). laid_if_fits (piece_mesh a.job ls x) a.at B) (sym c.in-Part.is ∙ c.piece_of-piece.ensures)
    ∙ ap (λ (m : Mesh). laid_if_fits m a.at B) (piece_is a.job ls a.name)

pub returns-in-Cap : goal.returns-in-Cap
returns-in-Cap c = let a = c.args in
    let ls = lists a.pairs.now a.corners.now a.numbers.now a.marks.now in
    c.put_cap.ensures
    ∙ ap (λ (o : FaceOptions). laid_if_fits (cap_mesh c.in-Cap.t a.corners.now o) a.at (four a.vertices.now a.normals.now a.uvs.now a.indices.now)) c.option_for-o.ensures
    ∙ ap (λ (x : Piece). laid_if_fits (piece_mesh a.job ls x) a.at (four a.vertices.now a.normals.now a.uvs.now a.indices.now)) (sym c.in-Cap.is ∙ c.piece_of-piece.ensures)
    ∙ ap (λ (m : Mesh). laid_if_fits m a.at (four a.vertices.now a.normals.now a.uvs.now a.indices.now)) (piece_is a.job ls a.name)
