use borrow.Author.Rules.{rules}
use mathlib.Core.Path.{refl}
use Rattle.placement.specs.declared.options.Choice.TheVariants as choice
use lib.Dec.{ltb}
use Rattle.sheet.specs.Answering.{plain_if}
use Rattle.sheet.proofs.Arrays.{made}
use Rattle.sheet.proofs.sides_of.Goals as goal

pub returns : goal.returns
returns c = made _ (λ d. record { option = plain_if (ltb d c.args.n) }) (λ p. p.0.now) c.args.n (λ p q i y s k. (search rules, search rules)) _ _ 6 (record { option = choice.Absent }) refl c.from_fn.ensures.items
