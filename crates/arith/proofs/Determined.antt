-- What equals one value is equal: so an equation with a definition fixes its left side. Assumes nothing.
use Rattle.std.proofs.Common.{◌≡◌, sym, ◌∙◌}

pub determined : {A : Type 0} {r s d : A} → r ≡ d → s ≡ d → r ≡ s
determined p q = p ∙ sym q
