-- `indices_have_room`: what is left of the room and what is taken of it are the whole. Assumes nothing.
use mathlib.Core.Path.{◌≡◌}
use Prim.Native.Nat.{◌+◌}
use lib.ListN.{length}
use Rattle.face.specs.Lists.{chain}
use Rattle.sheet.specs.Meshes.{index_word}
use Rattle.sheet.proofs.writing_room.indices_have_room.Given as goal

abbrev pub invariant-loop-index : goal.invariant-loop-index
invariant-loop-index l = l.left + length (chain (index_word l.indices) l.index-index) ≡ l.room
