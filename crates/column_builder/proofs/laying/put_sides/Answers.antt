use borrow.Author.Rules.{rules}
use Prim.Native.Nat.{ℕ, ◌≤◌}
use mathlib.Core.Path.{◌≡◌, ap, ap₂, ◌∙◌}
use mathlib.Core.List.{List, [], map, map-append}
use native.Mathlib.Numerals.{add-one}
use native.Mathlib.Omega.{arith}
use lib.ListN.{length}
use Rattle.face.specs.Lists.{each, chain}
use Rattle.buffers.specs.Mesh.{Mesh, none, also, measure}
use Rattle.buffers.specs.Laying.{Buffers, four, lay_each}
use Rattle.buffers.proofs.Windows.{none-also}
use Rattle.buffers.proofs.Each.{so-far-none, so_far_more, each-lengths}
use Rattle.column.specs.declared.wall.Wall.{Wall}
use Rattle.column.specs.Column.{lists, parts_of, side_names, mesh_of}
use Rattle.column.specs.Counts.{sides_counts}
use Rattle.column.specs.Names.{side_faces}
use Rattle.column.specs.Wall.{part_mesh}
use Rattle.column.proofs.Counts.{sides-sum, sides-most}
use Rattle.column.proofs.Numbering.{faces-few}
use Rattle.column.proofs.Parts.{parts_are}
use Rattle.column_builder.proofs.laying.put_sides.Goals as goal

pub loop-d-init : goal.loop-d-init
loop-d-init c = let a = c.args in
    (omega arith, so-far-none none (four a.vertices.now a.normals.now a.uvs.now a.indices.now))

pub put_parts-place-requires : goal.put_parts-place-requires
put_parts-place-requires c = let a = c.args in
    let i = c.loop-d.invariant in
    let s : ℕ = parts_of a.job.subdivisions in
    let few = faces-few c.side_option.result c.parts_of-parts.result in
    let h : s ≤ 4294967295 = rw (← c.parts_of-parts.ensures) (omega (arith, c.parts_of-parts.type_inv)) in
    let e = i.1.0 ∙ none-also _ ∙ sides-sum a.job (lists a.pairs.now [] a.numbers.now a.marks.now) c.loop-d.d in
    let m = sides-most a.numbers.now a.marks.now s a.job.sides h c.loop-d.d in
    (omega (arith, few, c.side_faces-n.ensures, c.parts_of-parts.type_inv), rw e (omega (arith, m.0, i.0)), rw e (omega (arith, m.1, i.0)))

pub loop-d-preserved : goal.loop-d-preserved
loop-d-preserved c = let a = c.args in
    let d = c.loop-d.d in
    let place = c.loop-d.place in
    let C = four c.loop-d.vertices c.loop-d.normals c.loop-d.uvs c.loop-d.indices in
    let f = mesh_of a.job (lists a.pairs.now [] a.numbers.now a.marks.now) in
    let l = ap₂ (λ (w : Wall) (n : ℕ). each (part_mesh w) n) c.wall_of-w.ensures (c.side_faces-n.ensures ∙ ap₂ side_faces c.side_option.ensures c.parts_of-parts.ensures) ∙ parts_are a.job (lists a.pairs.now [] a.numbers.now a.marks.now) d in (
      search rules,
      rw (add-one d, map-append f (chain (side_names a.job) d) (side_names a.job d))
          (so_far_more (map f (chain (side_names a.job) d)) (map f (side_names a.job d)) none (four a.vertices.now a.normals.now a.uvs.now a.indices.now) place c.put_parts-place.result C _ c.loop-d.invariant.1
          (c.put_parts-place.ensures.place ∙ ap (λ (x : List Mesh). also place (measure x)) l)
          (c.put_parts-place.ensures.buffers ∙ ap (λ (x : List Mesh). lay_each x place C) l)),
    )

pub shape_of-vertices : goal.shape_of-vertices
shape_of-vertices c = let a = c.args in
    ap (λ (X : Buffers). length X.vertices) c.loop-d.invariant.1.1 ∙ (each-lengths (map (mesh_of a.job (lists a.pairs.now [] a.numbers.now a.marks.now)) (chain (side_names a.job) c.loop-d.d)) none (four a.vertices.now a.normals.now a.uvs.now a.indices.now)).vertices

pub shape_of-normals : goal.shape_of-normals
shape_of-normals c = let a = c.args in
    ap (λ (X : Buffers). length X.normals) c.loop-d.invariant.1.1 ∙ (each-lengths (map (mesh_of a.job (lists a.pairs.now [] a.numbers.now a.marks.now)) (chain (side_names a.job) c.loop-d.d)) none (four a.vertices.now a.normals.now a.uvs.now a.indices.now)).normals

pub shape_of-uvs : goal.shape_of-uvs
shape_of-uvs c = let a = c.args in
    ap (λ (X : Buffers). length X.uvs) c.loop-d.invariant.1.1 ∙ (each-lengths (map (mesh_of a.job (lists a.pairs.now [] a.numbers.now a.marks.now)) (chain (side_names a.job) c.loop-d.d)) none (four a.vertices.now a.normals.now a.uvs.now a.indices.now)).uvs

pub shape_of-indices : goal.shape_of-indices
shape_of-indices c = let a = c.args in
    ap (λ (X : Buffers). length X.indices) c.loop-d.invariant.1.1 ∙ (each-lengths (map (mesh_of a.job (lists a.pairs.now [] a.numbers.now a.marks.now)) (chain (side_names a.job) c.loop-d.d)) none (four a.vertices.now a.normals.now a.uvs.now a.indices.now)).indices

pub returns : goal.returns
returns c = let a = c.args in
    let i = c.loop-d.invariant in
    let e : c.loop-d.d ≡ 6 = omega (arith, i.0, c.loop-d-test.false) in
    let f = mesh_of a.job (lists a.pairs.now [] a.numbers.now a.marks.now) in
    let s : ℕ = parts_of a.job.subdivisions in
    let h : s ≤ 4294967295 = rw (← c.parts_of-parts.ensures) (omega (arith, c.parts_of-parts.type_inv)) in
    let m = sides-most a.numbers.now a.marks.now s a.job.sides h 6 in
    let r = i.1.0 ∙ none-also _ ∙ sides-sum a.job (lists a.pairs.now [] a.numbers.now a.marks.now) c.loop-d.d ∙ ap (sides_counts a.numbers.now a.marks.now s a.job.sides) e in record { place = r; small = (rw r (omega (arith, m.0), omega (arith, m.1))); buffers = i.1.1 ∙ ap (λ (k : ℕ). lay_each (map f (chain (side_names a.job) k)) none (four a.vertices.now a.normals.now a.uvs.now a.indices.now)) e }
