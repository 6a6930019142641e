-- `put`: nothing is laid, or the cap of its options where it stands. Assumes nothing.
use Rattle.std.proofs.Common.{◌≡◌, ◌∙◌, ap, ap₂, false}
use Rattle.answer.proofs.Laws.{after-done, after-refused}
use Rattle.placement.specs.declared.placement.Choice3.TheVariants.{Absent}
use Rattle.placement.specs.declared.options.FaceOptions.{FaceOptions}
use Rattle.placement.specs.declared.placement.Placement.{Placement}
use Rattle.placement.specs.declared.placement.Stand.{Stand}
use Rattle.placement.specs.Placing.{stand_by, settled}
use Rattle.buffers.specs.Mesh.{none}
use Rattle.buffers.specs.Laying.{Buffers, four, laid_if_fits}
use Rattle.plane_builder.specs.declared.Plane.{Plane}
use Rattle.plane_builder.specs.Cap.{cap_mesh}
use Rattle.plane_builder.specs.Plane.{Lists, lists, options_of, plane_mesh}
use Rattle.plane_builder.proofs.put.Goals as goal

-- what the steps give is the plane's own mesh
steps : (job : Plane) (ls : Lists) (p : Placement) (t : Stand) (o : FaceOptions) (B R : Buffers) → p ≡ settled job.placement job.position
    → t ≡ stand_by Absent false p → o ≡ options_of job ls → R ≡ laid_if_fits (cap_mesh t ls.corners o) none B → R ≡ laid_if_fits (plane_mesh job ls) none B
steps job ls p t o B R e f g h =
    h ∙ ap₂ (λ (u : Stand) (v : FaceOptions). laid_if_fits (cap_mesh u ls.corners v) none B) (f ∙ ap (stand_by Absent false) e) g

pub returns-in-Err : goal.returns-in-Err
returns-in-Err c =
    let a = c.args in
    let ls = lists a.corners.now a.numbers.now a.marks.now in
    let B = four a.vertices.now a.normals.now a.uvs.now a.indices.now in
    after-refused a.answer B (laid_if_fits (plane_mesh a.job ls) none B) c.in-Err.is

pub returns-in-Ok : goal.returns-in-Ok
returns-in-Ok c =
    let a = c.args in
    let ls = lists a.corners.now a.numbers.now a.marks.now in
    let B = four a.vertices.now a.normals.now a.uvs.now a.indices.now in
    let n = c.put_cap.new in
    let R = four n.vertices n.normals n.uvs n.indices in
    steps a.job ls c.settle.result c.stand_by-stand.result c.option_at-o.result B R c.settle.ensures c.stand_by-stand.ensures c.option_at-o.ensures c.put_cap.ensures
    ∙ after-done a.answer B (laid_if_fits (plane_mesh a.job ls) none B) c.in-Ok.is
