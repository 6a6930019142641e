-- `put_all`: after k turns the first k cells are laid, the place is past them, and the cap kept is that of its number. Assumes nothing.
use mathlib.Core.Path.{◌≡◌}
use Rattle.buffers.specs.Laying.{four}
use Rattle.heightmap.specs.HeightMap.{seen}
use Prim.Native.Nat.{◌*◌, ◌≤◌}
use mathlib.Core.List.{map}
use Rattle.face.specs.Lists.{chain}
use Rattle.buffers.specs.Mesh.{none}
use Rattle.buffers.proofs.Each.{SoFar}
use Rattle.heightmap.specs.HeightMap.{cell_names, mesh_of}
use Rattle.heightmap_faces.specs.Kept.{top_by}
use Rattle.heightmap_laying.proofs.put_all.Given as goal

abbrev pub invariant-loop-k : goal.invariant-loop-k
invariant-loop-k l = (l.k ≤ l.n)
    × (SoFar (map (mesh_of l.job (seen l.lists)) (chain (cell_names l.job (seen l.lists).grid) l.k)) none (four l.initial.vertices l.initial.normals l.initial.uvs l.initial.indices) l.place (four l.vertices l.normals l.uvs l.indices)
    × (((l.place.vertices.0 ≤ 250 * l.k) × (l.place.indices.0 ≤ 250 * l.k))
    × (l.kept ≡ top_by (seen l.lists).corners (seen l.lists).numbers (seen l.lists).marks l.kept.number)))
