-- A hexagon without an inset has its six uvs twice, so they may be altered before or after it; and whose vertices a cap
-- names, and how many indices it has. Assumes nothing.
use mathlib.Core.Path.{◌≡◌, sym, ap, ◌∙◌}
use mathlib.Core.List.{List, map-append}
use lib.Ieee.{Float}
use Rattle.face.specs.declared.face.Hexagon.{Hexagon}
use Rattle.face.specs.declared.inset.Inset.{Inset}
use Rattle.face.specs.declared.inset.Inset.TheVariants.{None}
use Rattle.face.specs.declared.uv_mapping.UvOptions.{UvOptions}
use Rattle.face.specs.Inset.{inset_hexagon_of}
use Rattle.placement.specs.declared.options.FaceOptions.{FaceOptions}
use Rattle.placement.specs.declared.placement.Stand.{Stand}
use Rattle.buffers.specs.Faces.{hexagon_mesh}
use Rattle.buffers.specs.Windows.{Own}
use Rattle.buffers.proofs.Faces.{FewIndices, standing-few, hexagon-few}
use Rattle.buffers.proofs.Joined.{hexagon-own, standing-own}
use Rattle.plane_builder.specs.Cap.{altered_outer, altered_hexagon, cap_hexagon, cap_mesh}

module _ (o : UvOptions) (h : Hexagon) where
  alike : inset_hexagon_of None (altered_outer o h) ≡ altered_hexagon o (inset_hexagon_of None h)
  alike = rw map-append

  pub altered-first : (how : Inset) → how ≡ None → inset_hexagon_of how (altered_outer o h) ≡ altered_hexagon o (inset_hexagon_of how h)
  altered-first how e =
      ap (λ (i : Inset). inset_hexagon_of i (altered_outer o h)) e
      ∙ alike
      ∙ ap (λ (i : Inset). altered_hexagon o (inset_hexagon_of i h)) (sym e)

module _ (t : Stand) (l : List Float) (o : FaceOptions) where
  pub cap-own : Own (cap_mesh t l o)
  cap-own = standing-own t (hexagon_mesh o.inset (cap_hexagon l o)) (hexagon-own o.inset (cap_hexagon l o))

  pub cap-few : FewIndices (cap_mesh t l o)
  cap-few = standing-few t (hexagon_mesh o.inset (cap_hexagon l o)) (hexagon-few o.inset (cap_hexagon l o))
