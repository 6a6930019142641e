-- `put_rows`: one row after the other. Assumes nothing.
use Rattle.cheap_column.proofs.Cheap.{two-rows}
use Rattle.cheap_column.proofs.put_rows.Goals as goal

pub returns : goal.returns
returns g c = two-rows g.T.Numbered.numbers g.row.N g.met.T.Numbered.sized _ _ _ c.put_row.ensures c.put_row-2.ensures
