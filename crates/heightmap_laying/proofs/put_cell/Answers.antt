-- `put_cell`: the cap, then the walls, each at the place past what lies before it. Assumes nothing.
use mathlib.Core.Path.{ap, ap₂, ◌∙◌}
use native.Mathlib.Omega.{arith}
use Rattle.buffers.specs.Laying.{four, lay_each}
use Rattle.heightmap.specs.HeightMap.{seen}
use Rattle.placement.specs.declared.placement.Stand.{Stand}
use Rattle.buffers.specs.Mesh.{also, measure}
use Rattle.buffers.proofs.Each.{so_far_more}
use Rattle.heightmap.specs.HeightMap.{cap_offset, cap_stand}
use Rattle.heightmap_faces.specs.Speed.{lifted}
use Rattle.heightmap_laying.specs.declared.Shared.{Shared}
use Rattle.heightmap_laying.specs.Shared.{top_faces, sides_faces}
use Rattle.heightmap_laying.proofs.put_cell.Goals as goal

pub returns : goal.returns
returns c = let a = c.args in
    let X = four a.vertices.now a.normals.now a.uvs.now a.indices.now in
    let ls = seen a.lists in
    let caps = a.s.job.caps in
    let t = c.lift-t.ensures ∙ ap₂ lifted (ap (λ (x : Shared). x.stand) c.requires.s_value) (c.cap_offset-offset.ensures ∙ ap₂ cap_offset c.position_at-at_cell.ensures c.height_at.ensures) in
    let e = c.put_cap_if-next.ensures in
    let f = c.put_sides.ensures in
    let s = so_far_more (top_faces caps (cap_stand a.s.job ls.grid a.k) a.top) (sides_faces a.s.job ls a.k 6) a.at X _ _ _ _ (e.place ∙ ap (λ (x : Stand). also a.at (measure (top_faces caps x a.top))) t, e.buffers ∙ ap (λ (x : Stand). lay_each (top_faces caps x a.top) a.at X) t) f.place f.buffers in record { place = s.0; small = (omega (arith, e.small.0, f.small.0), omega (arith, e.small.1, f.small.1)); buffers = s.1 }
