-- `put_sides`: after d turns the first d sides are laid, and the place is past them. Assumes nothing.
use Prim.Native.Nat.{◌≤◌}
use mathlib.Core.List.{[], map}
use Rattle.face.specs.Lists.{chain}
use Rattle.buffers.specs.Mesh.{none}
use Rattle.buffers.specs.Laying.{four}
use Rattle.buffers.proofs.Each.{SoFar}
use Rattle.column.specs.Column.{lists, side_names, mesh_of}
use Rattle.column_builder.proofs.laying.put_sides.Given as goal

abbrev pub invariant-loop-d : goal.invariant-loop-d
invariant-loop-d l = (l.d ≤ 6) × SoFar (map (mesh_of l.job (lists l.pairs [] l.numbers l.marks)) (chain (side_names l.job) l.d)) none (four l.initial.vertices l.initial.normals l.initial.uvs l.initial.indices) l.place (four l.vertices l.normals l.uvs l.indices)
