-- `by_digits`: exact where all three are finite, and else with nothing to round. Assumes nothing.
use Rattle.std.proofs.Common.{◌≡◌, Bool, true, T, sym, ◌∙◌, subst, inl, inr}
use Rattle.arith.proofs.Values.{addend-only, in-steps}
use Rattle.arith.proofs.multiply_add.by_digits.Goals as goal
use Rattle.arith.proofs.multiply_add.by_digits.Goals.{else-is_finite-via-then-is_finite+else-is_finite-2, else-is_finite-via-else-is_finite}

passed : {r b : Bool} → r ≡ b → r ≡ true → T b
passed e t = subst T (sym t ∙ e) tt

pub exact-requires : goal.exact-requires
exact-requires c = (passed c.is_finite.ensures c.if-is_finite.true, passed c.is_finite-then-is_finite.ensures c.if-is_finite-2.true, passed c.is_finite-then-is_finite-2.ensures c.if-is_finite-3.true)

pub returns-then-is_finite-2 : goal.returns-then-is_finite-2
returns-then-is_finite-2 c = addend-only _ _ _ (passed c.is_finite.ensures c.if-is_finite.true) (passed c.is_finite-then-is_finite.ensures c.if-is_finite-2.true) (sym c.is_finite-then-is_finite-2.ensures ∙ c.if-is_finite-3.false)

pub returns : goal.returns
returns c =
    in-steps _ _ _
    (elim c.else-is_finite.branch [
      | else-is_finite-via-then-is_finite+else-is_finite-2 w ↦ inr (sym w.is_finite-then-is_finite.ensures ∙ w.if-is_finite-2.false)
      | else-is_finite-via-else-is_finite w ↦ inl (sym c.is_finite.ensures ∙ w.if-is_finite.false)
    ])
