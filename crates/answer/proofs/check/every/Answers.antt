-- `every`: what passed so far, and one more item. Assumes nothing.
use mathlib.Core.Path.{◌≡◌, refl, subst}
use mathlib.Core.Bool.{◌&&◌}
use mathlib.Core.List.{[], ◌∷◌, ◌++◌}
use borrow.Author.Rules.{rules}
use Rattle.std.proofs.lemmas.Fn.{fold_over, slice_gives, fronts}
use Rattle.answer.specs.Checks.{every}
use Rattle.answer.proofs.Laws.{every-push}
use Rattle.answer.proofs.check.every.Goals as goal

pub returns : goal.returns
returns g c ok tells =
    subst (λ l. c.fold.result ≡ every ok l) c.iter.ensures.rest
    (fold_over fronts (λ y. y.now) _ (λ ys good. good ≡ every ok ys) _
    (λ ys a x b f' j k. let p : every ok (ys ++ (x.now ∷ [])) ≡ every ok ys && ok x.now = every-push ok ys x.now in search rules)
    _ _ _ _ (slice_gives c.iter.result) refl c.fold.ensures.ran)
