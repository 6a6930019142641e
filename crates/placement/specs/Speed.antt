-- What speed alone hangs on. Definitions only.
use Rattle.std.specs.Prelude.{Bool, true, false}
use Rattle.face.specs.declared.vec.Vec3.{Vec3}
use Rattle.placement.specs.declared.placement.Choice3.{Choice3}
use Rattle.placement.specs.declared.placement.Choice3.TheVariants as choice
use Rattle.placement.specs.declared.placement.Turn.{Turn}
use Rattle.placement.specs.declared.placement.Turn.TheVariants as turn
use Rattle.placement.specs.declared.placement.Stand.{Stand}
use Rattle.placement.specs.Placing.{moved}

-- neither turned nor scaled: what is left is to move
abbrev pub shifts : Bool → Choice3 → Turn → Bool
shifts false choice.Absent turn.Absent = true
shifts half scale t = false

abbrev pub shifts_alone : Stand → Bool
shifts_alone t = shifts t.half t.scale t.turn

abbrev pub shift_of : Stand → Vec3 → Vec3
shift_of t p = moved t.origin (moved t.offset (moved t.first p))
