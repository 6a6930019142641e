-- `is_exact`: the tests one by one. Assumes nothing.
use Rattle.std.proofs.Common.{ℕ, ◌/◌, ◌%◌, ◌^◌, ◌≤◌, ◌∙◌, subst, inl, inr, ⊎_elim, leb-true}
use mathlib.Core.Bool.{false≢true}
use Rattle.arith.proofs.double.is_exact.Goals as goal

pub returns-then-size-eq0 : goal.returns-then-size-eq0
returns-then-size-eq0 c e = inl c.if-size-eq0.true

pub returns-then-size-lt4044232465378705408 : goal.returns-then-size-lt4044232465378705408
returns-then-size-lt4044232465378705408 c e = absurd (false≢true e)

pub returns-then-size-ge5179139571476070400 : goal.returns-then-size-ge5179139571476070400
returns-then-size-ge5179139571476070400 c e = absurd (false≢true e)

pub returns-then-wide-place : goal.returns-then-wide-place
returns-then-wide-place c e = absurd (false≢true e)

pub returns : goal.returns
returns c e = let place = c.args.bits % 2 ^ 63 / 2 ^ 52 in
    let l : place ≤ c.wide-2.result = leb-true _ _ e in
    inr record {
      least = c.if-size-lt4044232465378705408.false;
      most = c.if-size-ge5179139571476070400.false;
      product = subst (λ (x : ℕ). place ≤ x) (c.wide.ensures ∙ c.last_of_product.ensures) c.if-wide-place.false;
      addend = ⊎_elim (λ z. inl z) (λ g. inr (subst (λ (x : ℕ). place ≤ x) (c.wide-2.ensures ∙ g) l)) c.last_of_addend.ensures;
    }
