-- `put_named`: by the cases of the name. Assumes nothing.
use mathlib.Core.Path.{sym, ap, ◌∙◌}
use Rattle.buffers.specs.Laying.{four}
use Rattle.heightmap.specs.HeightMap.{seen}
use Rattle.buffers.specs.Mesh.{Mesh}
use Rattle.buffers.specs.Laying.{laid_if_fits}
use Rattle.heightmap.specs.HeightMap.{mesh_of}
use Rattle.heightmap_faces.specs.declared.named.CapFace.{CapFace}
use Rattle.heightmap_faces.specs.declared.named.SideFace.{SideFace}
use Rattle.heightmap_faces.proofs.Plain.{cap-is, side-is}
use Rattle.heightmap_laying.specs.Shared.{top_mesh, level_mesh}
use Rattle.heightmap_laying.proofs.put_named.Goals as goal

pub returns-in-Cap : goal.returns-in-Cap
returns-in-Cap c = let a = c.args in
    let X = four a.vertices.now a.normals.now a.uvs.now a.indices.now in
    let ls = seen a.lists in
    c.lay_hexagon.ensures.buffers
    ∙ ap (λ (x : CapFace). laid_if_fits (top_mesh x.stand x.top) a.at X) c.cap_of.ensures
    ∙ ap (λ (m : Mesh). laid_if_fits m a.at X) (sym (cap-is a.job ls c.in-Cap.k) ∙ ap (mesh_of a.job ls) (sym c.in-Cap.is))

pub returns-in-Side : goal.returns-in-Side
returns-in-Side c = let a = c.args in
    let X = four a.vertices.now a.normals.now a.uvs.now a.indices.now in
    let ls = seen a.lists in
    rw c.wall_quad-q.ensures at c.lay_wall.ensures
    ∙ ap (λ (x : SideFace). laid_if_fits (level_mesh x.stand x.level x.left x.right x.foot) a.at X) c.side_of-f.ensures
    ∙ ap (λ (m : Mesh). laid_if_fits m a.at X) (sym (side-is a.job ls c.in-Side.k c.in-Side.d) ∙ ap (mesh_of a.job ls) (sym c.in-Side.is))
