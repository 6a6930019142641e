-- `number_at`: what is past the end reads as NaN. Assumes nothing.
use borrow.Author.Rules.{rules}
use mathlib.Core.Path.{◌≡◌, refl, sym, ◌∙◌}
use lib.ListN.{get_or-eq_default}
use lib.Ieee.{nan, binary32, div, of_bits}
use Rattle.plane_builder.proofs.cap.number_at.Goals as goal

no_number : div binary32 (of_bits binary32 0) (of_bits binary32 0) ≡ nan
unfolding div of_bits
no_number = refl

pub returns : goal.returns
returns c = no_number ∙ sym (get_or-eq_default c.args.list.now nan {n = c.args.i} (search rules))
