-- A face that is neither turned nor scaled is moved alone. Assumes nothing.
use mathlib.Core.Path.{◌≡◌, refl}
use mathlib.Core.Bool.{Bool, true, false}
use Rattle.face.specs.declared.vec.Vec3.{Vec3}
use Rattle.placement.specs.declared.placement.Choice3.{Choice3}
use Rattle.placement.specs.declared.placement.Choice3.TheVariants as choice
use Rattle.placement.specs.declared.placement.Turn.{Turn}
use Rattle.placement.specs.declared.placement.Turn.TheVariants as turn
use Rattle.placement.specs.declared.placement.Stand.{Stand}
use Rattle.placement.specs.Placing.{stood, stood_normal}
use Rattle.placement.specs.Speed.{shifts, shifts_alone, shift_of}

none_so : (h : Bool) (s : Choice3) (r : Turn) → shifts h s r ≡ true → (h ≡ false) × (s ≡ choice.Absent) × (r ≡ turn.Absent)
none_so false choice.Absent turn.Absent e = (refl, refl, refl)
none_so false choice.Absent (turn.Rows a b c) e = let p : false ≡ true = e in cc
none_so false (choice.With v) r e = let p : false ≡ true = e in cc
none_so true s r e = let p : false ≡ true = e in cc

pub shift-stands : (t : Stand) → shifts_alone t ≡ true → (p : Vec3) → shift_of t p ≡ stood t p
shift-stands t e p = let g = none_so t.half t.scale t.turn e in rw (g.0, g.1, g.2)

pub shift-normal : (t : Stand) → shifts_alone t ≡ true → (n : Vec3) → n ≡ stood_normal t n
shift-normal t e n = let g = none_so t.half t.scale t.turn e in rw (g.0, g.2)
