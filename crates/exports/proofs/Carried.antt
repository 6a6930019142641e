-- A result that is known for one argument, carried over to an equal one, with nothing unfolded. Assumes nothing.
use mathlib.Core.Path.{◌≡◌, ap, ◌∙◌}

pub carried : {A B : Type 0} (f : A → B) {x : B} {a b : A} → x ≡ f a → a ≡ b → x ≡ f b
carried f p q = p ∙ ap f q
