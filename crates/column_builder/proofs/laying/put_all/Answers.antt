-- `put_all`: the sides, then the caps, each at the place past what lies before it. Assumes nothing.
use mathlib.Core.Path.{ap, ◌∙◌}
use native.Mathlib.Omega.{arith}
use Rattle.buffers.specs.Mesh.{also}
use Rattle.buffers.specs.Laying.{four}
use Rattle.column.proofs.Counts.{cap-most}
use Rattle.column_builder.proofs.Laid.{three-laid}
use Rattle.column_builder.proofs.laying.put_all.Goals as goal

pub add-last-requires : goal.add-last-requires
add-last-requires c = let a = c.args in
    let s = c.put_sides-walls.ensures.small in
    let m = cap-most a.numbers.now a.marks.now a.job.top in
    rw c.cap_counts.ensures (omega (arith, s.0, m.0), omega (arith, s.1, m.1))

pub shape_of-vertices : goal.shape_of-vertices
shape_of-vertices c = c.put_cap-2.auto.vertices ∙ c.put_cap.auto.vertices ∙ c.put_sides-walls.auto.vertices

pub shape_of-normals : goal.shape_of-normals
shape_of-normals c = c.put_cap-2.auto.normals ∙ c.put_cap.auto.normals ∙ c.put_sides-walls.auto.normals

pub shape_of-uvs : goal.shape_of-uvs
shape_of-uvs c = c.put_cap-2.auto.uvs ∙ c.put_cap.auto.uvs ∙ c.put_sides-walls.auto.uvs

pub shape_of-indices : goal.shape_of-indices
shape_of-indices c = c.put_cap-2.auto.indices ∙ c.put_cap.auto.indices ∙ c.put_sides-walls.auto.indices

pub returns : goal.returns
returns c = let a = c.args in
    three-laid a.job a.pairs.now a.corners.now a.numbers.now a.marks.now (four a.vertices.now a.normals.now a.uvs.now a.indices.now) _ _ _ _ _ _ _
    c.put_sides-walls.ensures.place
    c.put_sides-walls.ensures.buffers
    c.top_stand-t.ensures
    c.put_cap.ensures
    (c.add-last.ensures ∙ ap (also _) c.cap_counts.ensures)
    c.bottom_stand-b.ensures
    c.put_cap-2.ensures
