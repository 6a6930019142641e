-- `fused`: by way of `f64` where the pattern of the sum narrows, and else digit by digit. Assumes nothing.
use Rattle.std.proofs.Common.{not, T, sym, ◌∙◌, subst}
use lib.Ieee.{binary32, fits, is_nan}
use Rattle.arith.proofs.ByDouble.{equals_itself, widens, told-most, by-double, by-exact}
use Rattle.arith.proofs.fused.Goals as goal
use Rattle.arith.proofs.fused.Goals.{Start, Then-no_nan}

-- an `f32` fits its format
module _ (c : Start) where
  held-a : T (fits binary32 c.args.a)
  held-a = subst T (sym c.well_formed.0.1) tt

  held-b : T (fits binary32 c.args.b)
  held-b = subst T (sym c.well_formed.1.0.1) tt

  held-c : T (fits binary32 c.args.c)
  held-c = subst T (sym c.well_formed.1.1.0.1) tt

-- none of the three is a NaN
numbers : (c : Then-no_nan) → T (not (is_nan c.args.a)) × T (not (is_nan c.args.b)) × T (not (is_nan c.args.c))
numbers c = c.no_nan.ensures c.if-no_nan.true

pub float_to_float-s : goal.float_to_float-s
float_to_float-s c = widens _ (held-a (goal.at.float_to_float-s c).Start) (numbers (goal.at.float_to_float-s c).Then-no_nan).0

pub float_to_float-s-then-no_nan : goal.float_to_float-s-then-no_nan
float_to_float-s-then-no_nan c = widens _ (held-b (goal.at.float_to_float-s-then-no_nan c).Start) (numbers (goal.at.float_to_float-s-then-no_nan c).Then-no_nan).1

pub float_to_float-s-then-no_nan-2 : goal.float_to_float-s-then-no_nan-2
float_to_float-s-then-no_nan-2 c = widens _ (held-c (goal.at.float_to_float-s-then-no_nan-2 c).Start) (numbers (goal.at.float_to_float-s-then-no_nan-2 c).Then-no_nan).2

pub float_to_bits-bits : goal.float_to_bits-bits
float_to_bits-bits c = equals_itself _ c.if-s.true

pub narrowed-requires : goal.narrowed-requires
narrowed-requires c = c.narrows.ensures c.if-narrows.true

pub returns-then-narrows : goal.returns-then-narrows
returns-then-narrows c = c.narrowed.ensures ∙ by-double _ _ _ (held-a (goal.at.returns-then-narrows c).Start) (held-b (goal.at.returns-then-narrows c).Start) (held-c (goal.at.returns-then-narrows c).Start) (equals_itself _ c.if-s.true) (c.narrows.ensures c.if-narrows.true)

pub is_exact-requires : goal.is_exact-requires
is_exact-requires c = numbers (goal.at.is_exact-requires c).Then-no_nan

pub rounded-requires : goal.rounded-requires
rounded-requires c = told-most _ _ _ _ (c.is_exact.ensures c.if-is_exact.true)

pub returns-then-is_exact : goal.returns-then-is_exact
returns-then-is_exact c = c.rounded.ensures ∙ by-exact _ _ _ (held-a (goal.at.returns-then-is_exact c).Start) (held-b (goal.at.returns-then-is_exact c).Start) (held-c (goal.at.returns-then-is_exact c).Start) (equals_itself _ c.if-s.true) (c.is_exact.ensures c.if-is_exact.true)
