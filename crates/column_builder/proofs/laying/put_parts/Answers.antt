use borrow.Author.Rules.{rules}
use Prim.Native.Nat.{ℕ}
use mathlib.Core.Path.{◌≡◌, sym, ap, ◌∙◌}
use native.Mathlib.Numerals.{add-one}
use native.Mathlib.Omega.{arith}
use lib.ListN.{length}
use Rattle.face.specs.Lists.{each}
use Rattle.buffers.specs.Mesh.{also, measure}
use Rattle.buffers.specs.Laying.{Buffers, four, lay_each}
use Rattle.buffers.proofs.Each.{so-far-none, so-far-one, each-lengths}
use Rattle.column.specs.Wall.{part_at, part_mesh}
use Rattle.column.proofs.Counts.{each-most, quad-small, wall-size}
use Rattle.column_builder.proofs.laying.put_parts.Goals as goal

pub loop-p-init : goal.loop-p-init
loop-p-init c = let a = c.args in
    (omega arith, so-far-none a.at (four a.vertices.now a.normals.now a.uvs.now a.indices.now))

pub overflow_cast-p : goal.overflow_cast-p
overflow_cast-p c = omega (arith, c.requires.0, c.loop-p-test.true)

pub add-place-requires : goal.add-place-requires
add-place-requires c = let a = c.args in
    let i = c.loop-p.invariant in
    let m = each-most a.w.inset (part_mesh a.w) (λ k. wall-size a.w.stand a.w.inset (part_at a.w k)) c.loop-p.p (omega (arith, i.0, c.requires.0)) in
    let q = quad-small a.w.inset in
    rw (i.1.0, c.counts_of-size.ensures) (omega (arith, m.0, q.0, c.requires.1), omega (arith, m.1, q.1, c.requires.2))

pub overflow_step-p : goal.overflow_step-p
overflow_step-p c = omega (arith, c.loop-p-test.true, c.requires.0)

pub loop-p-preserved : goal.loop-p-preserved
loop-p-preserved c = let a = c.args in
    let p = c.loop-p.p in
    let place = c.loop-p.place in
    let C = four c.loop-p.vertices c.loop-p.normals c.loop-p.uvs c.loop-p.indices in (
      search rules,
      rw (add-one p)
          (so-far-one (each (part_mesh a.w) p) (part_mesh a.w p) a.at (four a.vertices.now a.normals.now a.uvs.now a.indices.now) place c.add-place.result C _ c.loop-p.invariant.1
          (c.add-place.ensures ∙ ap (also place) (c.counts_of-size.ensures ∙ sym (wall-size a.w.stand a.w.inset (part_at a.w p))))
          c.put_part.ensures),
    )

pub shape_of-vertices : goal.shape_of-vertices
shape_of-vertices c = let a = c.args in
    ap (λ (X : Buffers). length X.vertices) c.loop-p.invariant.1.1 ∙ (each-lengths (each (part_mesh a.w) c.loop-p.p) a.at (four a.vertices.now a.normals.now a.uvs.now a.indices.now)).vertices

pub shape_of-normals : goal.shape_of-normals
shape_of-normals c = let a = c.args in
    ap (λ (X : Buffers). length X.normals) c.loop-p.invariant.1.1 ∙ (each-lengths (each (part_mesh a.w) c.loop-p.p) a.at (four a.vertices.now a.normals.now a.uvs.now a.indices.now)).normals

pub shape_of-uvs : goal.shape_of-uvs
shape_of-uvs c = let a = c.args in
    ap (λ (X : Buffers). length X.uvs) c.loop-p.invariant.1.1 ∙ (each-lengths (each (part_mesh a.w) c.loop-p.p) a.at (four a.vertices.now a.normals.now a.uvs.now a.indices.now)).uvs

pub shape_of-indices : goal.shape_of-indices
shape_of-indices c = let a = c.args in
    ap (λ (X : Buffers). length X.indices) c.loop-p.invariant.1.1 ∙ (each-lengths (each (part_mesh a.w) c.loop-p.p) a.at (four a.vertices.now a.normals.now a.uvs.now a.indices.now)).indices

pub returns : goal.returns
returns c = let a = c.args in
    let i = c.loop-p.invariant in
    let e : c.loop-p.p ≡ a.parts = omega (arith, i.0, c.loop-p-test.false) in record { place = i.1.0 ∙ ap (λ (k : ℕ). also a.at (measure (each (part_mesh a.w) k))) e; buffers = i.1.1 ∙ ap (λ (k : ℕ). lay_each (each (part_mesh a.w) k) a.at (four a.vertices.now a.normals.now a.uvs.now a.indices.now)) e }
