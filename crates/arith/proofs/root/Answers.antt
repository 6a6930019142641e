-- `root`: the cases of the definition, told apart by the pattern. Assumes nothing.
use Rattle.std.proofs.Common.{◌≡◌, T, sym, refl, ap, ◌∙◌, subst, arith}
use lib.Ieee.{nan, binary32, div, of_bits, fits}
use lib.Ieee.Bits.{of_bits-to_bits, to_bits-lt}
use Rattle.arith.specs.Root.{root}
use Rattle.arith.proofs.RootCases.{above, below, own-zero, own-top, differs, same}
use Rattle.arith.proofs.root.Goals as goal
use Rattle.arith.proofs.root.Goals.{Start}

-- an `f32` fits its format
held : (c : Start) → T (fits binary32 c.args.x)
held c = subst T (sym c.well_formed.0.1) tt

no_number : div binary32 (of_bits binary32 0) (of_bits binary32 0) ≡ nan
unfolding div of_bits
no_number = refl

pub returns-then-x : goal.returns-then-x
returns-then-x c = differs _ c.if-x.true

pub float_to_bits-bits : goal.float_to_bits-bits
float_to_bits-bits c = same _ c.if-x.false

pub returns-then-bits-eq0 : goal.returns-then-bits-eq0
returns-then-bits-eq0 c = own-zero _ (held (goal.at.returns-then-bits-eq0 c).Start) c.if-bits-eq0.true

pub returns-then-bits-lt2139095040 : goal.returns-then-bits-lt2139095040
returns-then-bits-lt2139095040 c = c.above_zero.ensures ∙ sym (above _ _ (held (goal.at.returns-then-bits-lt2139095040 c).Start) refl (omega arith) c.if-bits-lt2139095040.true)

pub returns-then-bits-le2147483648 : goal.returns-then-bits-le2147483648
returns-then-bits-le2147483648 c = own-top _ (held (goal.at.returns-then-bits-le2147483648 c).Start) c.if-bits-lt2139095040.false c.if-bits-le2147483648.true

pub returns : goal.returns
returns c = no_number ∙ sym (below _ c.if-bits-le2147483648.false (to_bits-lt binary32 _ (held (goal.at.returns c).Start))) ∙ ap root (of_bits-to_bits binary32 _ (held (goal.at.returns c).Start))
