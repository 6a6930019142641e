-- `cap_hexagon`: with an inset or without, the hexagon is the same. Assumes nothing.
use mathlib.Core.Path.{◌∙◌}
use Rattle.face.specs.Face.{hexagon_of}
use Rattle.plane_builder.specs.Cap.{corners_of}
use Rattle.plane_builder.proofs.Caps.{altered-first}
use Rattle.plane_builder.proofs.cap.cap_hexagon.Goals as goal

pub returns-in-None : goal.returns-in-None
returns-in-None c = let a = c.args in
    (rw (c.new_hexagon-plain.ensures, c.corners_of.ensures) at c.alter_first.ensures)
    ∙ altered-first a.o.uv (hexagon_of (corners_of a.corners.now)) a.o.inset c.in-None.is

pub returns-in_default : goal.returns-in_default
returns-in_default c = rw (c.alter.ensures, c.inset_hexagon.ensures, c.new_hexagon-plain.ensures, c.corners_of.ensures)
