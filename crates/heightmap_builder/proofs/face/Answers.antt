-- `face`: the one face at its place, where the answer is done. Assumes nothing.
use Rattle.std.proofs.Common.{rules, ◌≡◌, ◌∙◌, Ok, sym, ap}
use Rattle.answer.proofs.Laws.{after-done}
use Rattle.buffers.specs.Mesh.{none}
use Rattle.buffers.specs.Laying.{four, lay_one}
use Rattle.mesh.specs.Jobs.{roomed_in}
use Rattle.heightmap.specs.HeightMap.{seen, map_faces}
use Rattle.heightmap.specs.Calls.{face_answer}
use Rattle.heightmap_plan.specs.declared.window.Sought.{Sought}
use Rattle.heightmap_builder.proofs.Single.{face-laid}
use Rattle.heightmap_builder.proofs.face.Goals as goal

pub returns-clause-buffers : goal.returns-clause-buffers
returns-clause-buffers c = let a = c.args in
    let X = four a.vertices.now a.normals.now a.uvs.now a.indices.now in
    let ls = seen a.lists in
    let e : face_answer a.job ls a.number X ≡ Ok c.in_ok-whole.whole = sym (c.room-roomed.ensures ∙ ap (roomed_in X) (ap (λ (x : Sought). x.answer) c.seek-s.ensures)) ∙ (search rules) in
    c.put_named.ensures
    ∙ face-laid a.job ls a.number X _ c.seek-s.result.found e (ap (λ (x : Sought). x.found) c.seek-s.ensures)
    ∙ after-done (face_answer a.job ls a.number X) X (lay_one (map_faces a.job ls) a.number none X) e
