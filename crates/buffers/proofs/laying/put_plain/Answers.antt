-- `put_plain`: the four buffers one by one, each by its law. Assumes nothing.
use borrow.Author.Rules.{rules}
use native.Mathlib.Omega.{arith}
use mathlib.Core.Path.{refl, sym, ◌∙◌}
use Prim.Native.Nat.{◌*◌}
use Rattle.face.specs.declared.inset.Inset.TheVariants.{None}
use Rattle.face.specs.Triangles.{counts}
use Rattle.buffers.specs.Laying.{four}
use Rattle.buffers.specs.Faces.{vertex_at}
use Rattle.buffers.proofs.Order.{same-four}
use Rattle.buffers.proofs.Faces.{written, vertices-laid}
use Rattle.buffers.proofs.laying.put_plain.Goals as goal

pub overflow_mul-b : goal.overflow_mul-b
overflow_mul-b g c = let a = c.args in
    let s = g.S.Shape in
    let w = written None s.POINTS s.TRIANGLES s.triangles a.at (counts s.POINTS (3 * s.TRIANGLES)) (four a.vertices.now a.normals.now a.uvs.now a.indices.now) g.met.S.Shape.laws.triangles refl c.requires in
    omega (arith, w.limit)

pub put_all-requires : goal.put_all-requires
put_all-requires g c = let a = c.args in
    let s = g.S.Shape in
    let w = written None s.POINTS s.TRIANGLES s.triangles a.at (counts s.POINTS (3 * s.TRIANGLES)) (four a.vertices.now a.normals.now a.uvs.now a.indices.now) g.met.S.Shape.laws.triangles refl c.requires in
    (search rules, (omega (arith, c.POINTS.ensures, g.met.S.Shape.laws.points), omega (arith, c.POINTS.ensures, w.vertices)))

pub overflow_mul-b-2 : goal.overflow_mul-b-2
overflow_mul-b-2 g c = let a = c.args in
    let s = g.S.Shape in
    let w = written None s.POINTS s.TRIANGLES s.triangles a.at (counts s.POINTS (3 * s.TRIANGLES)) (four a.vertices.now a.normals.now a.uvs.now a.indices.now) g.met.S.Shape.laws.triangles refl c.requires in
    omega (arith, w.limit)

pub put_normals-requires : goal.put_normals-requires
put_normals-requires g c = let a = c.args in
    let s = g.S.Shape in
    let w = written None s.POINTS s.TRIANGLES s.triangles a.at (counts s.POINTS (3 * s.TRIANGLES)) (four a.vertices.now a.normals.now a.uvs.now a.indices.now) g.met.S.Shape.laws.triangles refl c.requires in
    omega (arith, c.POINTS-2.ensures, w.normals)

pub overflow_mul-b-3 : goal.overflow_mul-b-3
overflow_mul-b-3 g c = let a = c.args in
    let s = g.S.Shape in
    let w = written None s.POINTS s.TRIANGLES s.triangles a.at (counts s.POINTS (3 * s.TRIANGLES)) (four a.vertices.now a.normals.now a.uvs.now a.indices.now) g.met.S.Shape.laws.triangles refl c.requires in
    omega (arith, w.limit)

pub put_all-requires-2 : goal.put_all-requires-2
put_all-requires-2 g c = let a = c.args in
    let s = g.S.Shape in
    let w = written None s.POINTS s.TRIANGLES s.triangles a.at (counts s.POINTS (3 * s.TRIANGLES)) (four a.vertices.now a.normals.now a.uvs.now a.indices.now) g.met.S.Shape.laws.triangles refl c.requires in
    (search rules, (omega (arith, c.POINTS-3.ensures, g.met.S.Shape.laws.points), omega (arith, c.POINTS-3.ensures, w.uvs)))

pub put_triangles-requires-clause-how_bound : goal.put_triangles-requires-clause-how_bound
put_triangles-requires-clause-how_bound g c = let a = c.args in
    let s = g.S.Shape in
    let w = written None s.POINTS s.TRIANGLES s.triangles a.at (counts s.POINTS (3 * s.TRIANGLES)) (four a.vertices.now a.normals.now a.uvs.now a.indices.now) g.met.S.Shape.laws.triangles refl c.requires in
    (w.limit, omega (arith, c.TRIANGLES.ensures, w.indices))

pub returns : goal.returns
returns g c = let a = c.args in
    let s = g.S.Shape in
    rw (c.POINTS.ensures, c.POINTS-2.ensures, c.POINTS-3.ensures, c.TRIANGLES.ensures) at (same-four c.put_all.ensures c.put_normals.ensures c.put_all-2.ensures c.put_triangles.ensures)
    ∙ sym (vertices-laid (vertex_at a.f.positions a.f.normal a.f.uvs) s.POINTS s.triangles s.TRIANGLES g.met.S.Shape.laws.triangles a.at (four a.vertices.now a.normals.now a.uvs.now a.indices.now))
