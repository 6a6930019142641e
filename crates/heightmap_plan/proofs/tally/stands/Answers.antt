-- `stands`: the neighbour or the edge is lower. Assumes nothing.
use mathlib.Core.Path.{sym, ◌∙◌}
use borrow.Author.Tests.{eq-eqb, ne_eqb}
use Rattle.heightmap.specs.Grid.{seen_grid}
use Rattle.heightmap.proofs.Reading.{no_number}
use Rattle.heightmap_plan.proofs.Walking.{against-stands, edge-stands}
use Rattle.heightmap_plan.proofs.tally.stands.Goals as goal

pub returns-then-n : goal.returns-then-n
returns-then-n c = let a = c.args in rw (← c.element_or-n.ensures, eq-eqb _ _ c.if-n.true) ((rw (c.element_or-own.ensures, no_number) at c.edge_stands.ensures) ∙ sym (edge-stands a.how (seen_grid a.grid) a.k a.d))

pub returns : goal.returns
returns c = rw (c.element_or.ensures, c.element_or-own.ensures, no_number, ← c.element_or-n.ensures, ne_eqb _ _ c.if-n.false) (sym (against-stands _ _))
