-- `write_column`: the buffers have room for 1,024 vertices. Assumes nothing.
use mathlib.Core.Path.{sym, ◌∙◌}
use mathlib.Core.List.{[]}
use Rattle.column.specs.Column.{lists}
use Rattle.sheet.proofs.Printing.{blank, blank-roomy, refusal-written, mesh-written}
use Rattle.sheet.proofs.write_column.Goals as goal

pub returns-in-Err : goal.returns-in-Err
returns-in-Err c = let a = c.args in
    refusal-written a.job (lists a.pairs.now a.corners.now [] []) blank blank-roomy _ (sym c.build-answer.ensures.answer ∙ c.in-Err.is) _ _ _ c.write_refusal.ensures

pub returns-in-Ok : goal.returns-in-Ok
returns-in-Ok c = let a = c.args in
    mesh-written a.job (lists a.pairs.now a.corners.now [] []) blank blank-roomy _ (sym c.build-answer.ensures.answer ∙ c.in-Ok.is) _ c.build-answer.ensures.buffers _ _ _ c.write_mesh.ensures
