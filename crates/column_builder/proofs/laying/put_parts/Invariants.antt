-- `put_parts`: after p turns the first p parts are laid, and the place is past them. Assumes nothing.
use Prim.Native.Nat.{◌≤◌}
use Rattle.face.specs.Lists.{each}
use Rattle.buffers.specs.Laying.{four}
use Rattle.buffers.proofs.Each.{SoFar}
use Rattle.column.specs.Wall.{part_mesh}
use Rattle.column_builder.proofs.laying.put_parts.Given as goal

abbrev pub invariant-loop-p : goal.invariant-loop-p
invariant-loop-p l = (l.p ≤ l.parts) × SoFar (each (part_mesh l.w) l.p) l.initial.place (four l.initial.vertices l.initial.normals l.initial.uvs l.initial.indices) l.place (four l.vertices l.normals l.uvs l.indices)
