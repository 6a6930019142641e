-- `hosirekar_plane_build`: the function below it, with what is given carried from C and its answer to C. Assumes nothing.
use Rattle.buffers.specs.Laying.{four}
use Rattle.plane_builder.specs.declared.Plane.{Plane}
use Rattle.plane_builder.specs.Plane.{lists, whole_answer, built}
use Rattle.boundary.specs.ToC.{answer_to_c}
use Rattle.exports.proofs.Carried.{carried}
use Rattle.exports.proofs.plane.hosirekar_plane_build.Goals as goal

pub shape_of-vertices : goal.shape_of-vertices
shape_of-vertices c = c.build.auto.vertices

pub shape_of-normals : goal.shape_of-normals
shape_of-normals c = c.build.auto.normals

pub shape_of-uvs : goal.shape_of-uvs
shape_of-uvs c = c.build.auto.uvs

pub shape_of-indices : goal.shape_of-indices
shape_of-indices c = c.build.auto.indices

pub returns : goal.returns
returns c = let a = c.args in
    let ls = lists a.corners.now a.numbers.now a.marks.now in
    let B = four a.vertices.now a.normals.now a.uvs.now a.indices.now in
    let same = c.from.ensures in record { answer = carried answer_to_c c.from-2.ensures (carried (λ (j : Plane). whole_answer j ls B) c.build.ensures.answer same); buffers = carried (λ (j : Plane). built j ls B) c.build.ensures.buffers same }
