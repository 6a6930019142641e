-- `lay_plain`: the test says whether there is room. Assumes nothing.
use mathlib.Core.Path.{ap, ◌∙◌}
use Prim.Native.Nat.{ℕ, ◌*◌}
use Rattle.face.specs.Triangles.{counts}
use Rattle.buffers.specs.Laying.{four}
use Rattle.buffers.specs.Faces.{face_of}
use Rattle.buffers.proofs.Faces.{face-size, laid_so, laid-not, sized}
use Rattle.buffers.proofs.laying.lay_plain.Goals as goal

pub returns-then-has_room : goal.returns-then-has_room
returns-then-has_room g c = let a = c.args in
    let s = g.S.Shape in
    let f = a.f in
    let B = four a.vertices.now a.normals.now a.uvs.now a.indices.now in
    let m = face_of s.POINTS f.positions f.normal f.uvs s.triangles in
    let z = face-size s.POINTS f.positions f.normal f.uvs s.triangles ∙ ap (λ (k : ℕ). counts s.POINTS (3 * k)) g.met.S.Shape.laws.triangles in
    let e = sized m a.at B _ _ _ _ c.counts_of.ensures z c.has_room.ensures c.if-has_room.true in
    c.put_plain.ensures ∙ laid_so m a.at B e

pub returns-else-has_room : goal.returns-else-has_room
returns-else-has_room g c = let a = c.args in
    let s = g.S.Shape in
    let f = a.f in
    let B = four a.vertices.now a.normals.now a.uvs.now a.indices.now in
    let m = face_of s.POINTS f.positions f.normal f.uvs s.triangles in
    let z = face-size s.POINTS f.positions f.normal f.uvs s.triangles ∙ ap (λ (k : ℕ). counts s.POINTS (3 * k)) g.met.S.Shape.laws.triangles in
    let e = sized m a.at B _ _ _ _ c.counts_of.ensures z c.has_room.ensures c.if-has_room.false in
    laid-not m a.at B e
