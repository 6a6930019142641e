-- `why`: the walk and the tests, then the wall and its number. Assumes nothing.
use Rattle.std.proofs.Common.{rules, ◌≡◌, ap, refl, ◌∙◌}
use Rattle.heightmap.specs.HeightMap.{seen}
use Rattle.heightmap_plan.specs.declared.names.Placed.{Placed}
use Rattle.heightmap_why.specs.Why.{because, why_by}
use Rattle.heightmap_why.proofs.Telling.{why-so}
use Rattle.heightmap_why.proofs.why.Goals as goal

pub returns-in_err-counts : goal.returns-in_err-counts
returns-in_err-counts c = let a = c.args in
    let s = c.survey_side-placed.ensures in
    let e : c.from_residual.result ≡ why_by c.test_side.result _ = search rules in
    e ∙ why-so a.job (seen a.lists) a.cell a.side _ _ _ _ _ _
    c.side_in-d.ensures refl refl (ap (λ (x : Placed). x.all) s) c.test_side.ensures refl

pub returns : goal.returns
returns c = let a = c.args in
    let s = c.survey_side-placed.ensures in
    let e : because c.in_ok-counts.counts c.reason_by.result ≡ why_by c.test_side.result c.reason_by.result = search rules in
    e ∙ why-so a.job (seen a.lists) a.cell a.side _ _ _ _ _ _
    c.side_in-d.ensures (ap (λ (x : Placed). x.number) s) c.wall_at-wall.ensures (ap (λ (x : Placed). x.all) s) c.test_side.ensures c.reason_by.ensures
