-- `put_face`: the four buffers one by one, each by its law. Assumes nothing.
use borrow.Author.Rules.{rules}
use native.Mathlib.Omega.{arith}
use mathlib.Core.Path.{sym, ◌∙◌}
use Rattle.buffers.specs.Laying.{four}
use Rattle.buffers.proofs.Order.{same-four}
use Rattle.buffers.proofs.Faces.{written, inset-laid}
use Rattle.buffers.proofs.laying.put_face.Goals as goal

pub overflow_mul-b : goal.overflow_mul-b
overflow_mul-b g c = let a = c.args in
    let s = g.S.Shape in
    let w = written a.how s.POINTS s.TRIANGLES s.triangles a.at c.counts_of-size.result (four a.vertices.now a.normals.now a.uvs.now a.indices.now) g.met.S.Shape.laws.triangles c.counts_of-size.ensures c.requires.room in
    omega (arith, w.limit)

pub put_stood-requires : goal.put_stood-requires
put_stood-requires g c = let a = c.args in
    let s = g.S.Shape in
    let w = written a.how s.POINTS s.TRIANGLES s.triangles a.at c.counts_of-size.result (four a.vertices.now a.normals.now a.uvs.now a.indices.now) g.met.S.Shape.laws.triangles c.counts_of-size.ensures c.requires.room in
    (search rules, (omega (arith, w.few, c.requires.points), w.vertices))

pub overflow_mul-b-2 : goal.overflow_mul-b-2
overflow_mul-b-2 g c = let a = c.args in
    let s = g.S.Shape in
    let w = written a.how s.POINTS s.TRIANGLES s.triangles a.at c.counts_of-size.result (four a.vertices.now a.normals.now a.uvs.now a.indices.now) g.met.S.Shape.laws.triangles c.counts_of-size.ensures c.requires.room in
    omega (arith, w.limit)

pub put_normals-requires : goal.put_normals-requires
put_normals-requires g c = let a = c.args in
    let s = g.S.Shape in
    let w = written a.how s.POINTS s.TRIANGLES s.triangles a.at c.counts_of-size.result (four a.vertices.now a.normals.now a.uvs.now a.indices.now) g.met.S.Shape.laws.triangles c.counts_of-size.ensures c.requires.room in
    w.normals

pub overflow_mul-b-3 : goal.overflow_mul-b-3
overflow_mul-b-3 g c = let a = c.args in
    let s = g.S.Shape in
    let w = written a.how s.POINTS s.TRIANGLES s.triangles a.at c.counts_of-size.result (four a.vertices.now a.normals.now a.uvs.now a.indices.now) g.met.S.Shape.laws.triangles c.counts_of-size.ensures c.requires.room in
    omega (arith, w.limit)

pub put_all-requires : goal.put_all-requires
put_all-requires g c = let a = c.args in
    let s = g.S.Shape in
    let w = written a.how s.POINTS s.TRIANGLES s.triangles a.at c.counts_of-size.result (four a.vertices.now a.normals.now a.uvs.now a.indices.now) g.met.S.Shape.laws.triangles c.counts_of-size.ensures c.requires.room in
    (search rules, (omega (arith, w.few, c.requires.points), w.uvs))

pub put_triangles-requires-clause-m_in_bounds : goal.put_triangles-requires-clause-m_in_bounds
put_triangles-requires-clause-m_in_bounds g c = let a = c.args in
    let s = g.S.Shape in
    let w = written a.how s.POINTS s.TRIANGLES s.triangles a.at c.counts_of-size.result (four a.vertices.now a.normals.now a.uvs.now a.indices.now) g.met.S.Shape.laws.triangles c.counts_of-size.ensures c.requires.room in
    w.third

pub put_triangles-requires-clause-how_bound : goal.put_triangles-requires-clause-how_bound
put_triangles-requires-clause-how_bound g c = let a = c.args in
    let s = g.S.Shape in
    let w = written a.how s.POINTS s.TRIANGLES s.triangles a.at c.counts_of-size.result (four a.vertices.now a.normals.now a.uvs.now a.indices.now) g.met.S.Shape.laws.triangles c.counts_of-size.ensures c.requires.room in
    (w.limit, w.indices)

pub returns : goal.returns
returns g c = let a = c.args in
    let s = g.S.Shape in
    rw (c.counts_of-size.ensures, c.stand_normal.ensures) at (same-four c.put_stood.ensures c.put_normals.ensures c.put_all.ensures c.put_triangles.ensures)
    ∙ sym (inset-laid a.how s.POINTS s.TRIANGLES s.triangles g.met.S.Shape.laws.triangles a.t a.ps a.normal a.ts a.at (four a.vertices.now a.normals.now a.uvs.now a.indices.now))
