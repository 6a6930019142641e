-- `from_middle`: point by point. Assumes nothing.
use borrow.Author.Rules.{rules}
use mathlib.Core.Path.{◌≡◌, sym, ◌∙◌}
use lib.ListN.{get_or}
use Rattle.face.specs.Lists.{each}
use Rattle.face.specs.Vec.{off3, minus3}
use Rattle.face.proofs.Filling.{each_all, each_map}
use Rattle.cheap_column.proofs.from_middle.Goals as goal

pub returns : goal.returns
returns c = let a = c.args in
    let e : each (λ k. get_or c.map.result k off3) 6 ≡ each (λ k. minus3 (get_or a.top k off3) a.middle) 6 = search rules in
    sym (each_all c.map.result off3 6 (search rules)) ∙ e ∙ each_map (λ p. minus3 p a.middle) a.top off3 6 (search rules)
