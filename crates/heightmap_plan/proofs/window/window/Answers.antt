-- `window`: the number, then the face that is sought. Assumes nothing.
use mathlib.Core.Path.{ap, ◌∙◌}
use Rattle.heightmap.specs.HeightMap.{seen}
use Rattle.heightmap_plan.specs.declared.window.Sought.{Sought}
use Rattle.heightmap_plan.proofs.Telling.{window-found}
use Rattle.heightmap_plan.proofs.window.window.Goals as goal

pub returns : goal.returns
returns c = let a = c.args in
    c.window_if_done.ensures ∙ window-found a.job (seen a.lists) a.number _ (ap (λ (x : Sought). x.found) c.seek-answer.ensures) _ _ (ap (λ (x : Sought). x.answer) c.seek-answer.ensures) c.size_of.ensures
