-- `all_meant`: each mark is tested with its place. Assumes nothing.
use mathlib.Core.Path.{◌∙◌}
use borrow.Author.Rules.{rules}
use borrow.Author.Tests.{tests}
use Rattle.std.proofs.lemmas.Iterator.{YieldsList-from_slice}
use Rattle.std.proofs.lemmas.Iterator.Consumers.{YieldsList-from_enumerate}
use Rattle.std.proofs.lemmas.Iterator.Search.{all_from_yields_List}
use Rattle.placement.specs.Options.{means}
use Rattle.placement.proofs.Counting.{every-placed}
use Rattle.placement.proofs.options.all_meant.Goals as goal

pub returns : goal.returns
returns c =
    all_from_yields_List (λ p. means p.0 p.1) _ _ _ c.all.ensures.ran (YieldsList-from_enumerate (YieldsList-from_slice c.args.marks.now cc) (cc)) (λ x b q k. search (rules, tests))
    ∙ every-placed means c.args.marks.now
