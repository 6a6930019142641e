-- `&[T]::digested` has the words of all items: each call of the closure takes those of one more. Assumes nothing.
use mathlib.Core.Path.{refl, subst}
use Rattle.std.proofs.Common.{rules, ◌≡◌}
use Rattle.std.proofs.lemmas.Fn.{fold_over, slice_gives, fronts}
use Rattle.std.specs.List.{flat_map}
use Rattle.record.specs.Digests.{with_words}
use Rattle.record.proofs.Folds.{one-more}
use Rattle.record.proofs.digest.RefSliceDigested.digested.Goals as goal

pub returns : goal.returns
returns g c =
    let words = g.T.Digested.words in
    subst (λ l. c.fold.result ≡ with_words c.args.d (flat_map words l)) c.iter.ensures.rest
    (fold_over fronts (λ y. y.now) _ (λ ys a. a ≡ with_words c.args.d (flat_map words ys)) _
    (λ ys a x b f' j k. (one-more words c.args.d ys x.now a b j (search rules), search rules))
    _ _ _ _ (slice_gives c.iter.result) refl c.fold.ensures.ran)
