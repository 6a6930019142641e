-- A digest that takes items one behind the other has taken all their words. Assumes nothing.
use mathlib.Core.Path.{ap, sym, ◌∙◌}
use Rattle.std.specs.Prelude.{◌≡◌, List, [], ◌∷◌, ◌++◌, ℕ}
use Rattle.std.specs.List.{flat_map}
use Rattle.std.proofs.lemmas.List.{flat_map_more}
use Rattle.std.proofs.lemmas.List.Sums.{fold-append}
use Rattle.record.specs.declared.digest.Digest.{Digest}
use Rattle.record.specs.Digests.{with_word, with_words}

-- one item more
pub one-more : {A : Type 0} (words : A → List ℕ) (d : Digest) (ys : List A) (x : A) (a b : Digest) → a ≡ with_words d (flat_map words ys) → b ≡ with_words a (words x) → b ≡ with_words d (flat_map words (ys ++ (x ∷ [])))
one-more words d ys x a b before now =
    now ∙ ap (λ e. with_words e (words x)) before ∙ sym (fold-append with_word d (flat_map words ys) (words x)) ∙ ap (with_words d) (flat_map_more words [] ys x)
