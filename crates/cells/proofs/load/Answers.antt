-- `load`: all the cells are stored, or none. Assumes nothing.
use Rattle.cells.proofs.Storing.{loads-fit, numbers-loaded, neighbours-loaded}
use Rattle.cells.proofs.load.Goals as goal

pub load_first-requires : goal.load_first-requires
load_first-requires c = loads-fit _ _ _ _ c.load_count.ensures

pub returns : goal.returns
returns c =
    let a = c.args in
    let s = c.load_first.ensures in (
      c.load_answer.ensures,
      numbers-loaded a.records.now a.cells.now a.neighbours.now _ _ c.load_count.ensures s.0,
      neighbours-loaded a.records.now a.cells.now a.neighbours.now _ _ c.load_count.ensures s.1,
    )
