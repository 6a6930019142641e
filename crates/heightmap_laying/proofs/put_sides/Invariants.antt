-- `put_sides`: after d turns the first d walls are laid, the place is past them, and what is kept is made of its number. Assumes nothing.
use Prim.Native.Nat.{◌+◌, ◌*◌, ◌≤◌}
use mathlib.Core.Path.{◌≡◌}
use Rattle.buffers.specs.Laying.{four}
use Rattle.buffers.proofs.Each.{SoFar}
use Rattle.heightmap.specs.HeightMap.{seen}
use Rattle.heightmap_faces.specs.Kept.{level_by}
use Rattle.heightmap_laying.specs.Shared.{sides_faces}
use Rattle.heightmap_laying.proofs.put_sides.Given as goal

abbrev pub invariant-loop-d : goal.invariant-loop-d
invariant-loop-d l = (l.d ≤ 6)
    × (SoFar (sides_faces l.s.job (seen l.lists) l.k l.d) l.initial.place (four l.initial.vertices l.initial.normals l.initial.uvs l.initial.indices) l.place (four l.vertices l.normals l.uvs l.indices)
    × (((l.place.vertices.0 ≤ l.initial.place.vertices.0 + 32 * l.d) × (l.place.indices.0 ≤ l.initial.place.indices.0 + 32 * l.d))
    × (l.kept ≡ level_by l.s.span l.top (seen l.lists).numbers (seen l.lists).marks l.kept.number)))
