-- `build`: every face, where the answer is done. Assumes nothing.
use Rattle.std.proofs.Common.{rules, ◌≡◌, ◌∙◌, Ok}
use Rattle.answer.proofs.Laws.{after-done}
use Rattle.buffers.specs.Mesh.{none}
use Rattle.buffers.specs.Laying.{four, lay_all}
use Rattle.heightmap.specs.HeightMap.{seen, map_faces}
use Rattle.heightmap.specs.Calls.{whole_answer}
use Rattle.heightmap_builder.proofs.Whole.{whole-laid}
use Rattle.heightmap_builder.proofs.build.Goals as goal

pub returns-clause-buffers : goal.returns-clause-buffers
returns-clause-buffers c = let a = c.args in
    let X = four a.vertices.now a.normals.now a.uvs.now a.indices.now in
    let ls = seen a.lists in
    let e : whole_answer a.job ls X ≡ Ok c.in_ok-counts.counts = search rules in
    c.put_all.ensures ∙ whole-laid a.job ls X _ e ∙ after-done (whole_answer a.job ls X) X (lay_all (map_faces a.job ls) none X) e
