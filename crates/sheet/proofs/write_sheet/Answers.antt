use borrow.Author.Rules.{rules}
use lib.Ieee.{nan}
use Rattle.patterns.specs.Patterns.{float_of}
use Rattle.sheet.proofs.Arrays.{mapped}
use Rattle.sheet.proofs.write_sheet.Goals as goal

pub returns : goal.returns
returns c = let p = mapped _ _ float_of _ _ 24 0 nan (search rules) c.map-pairs.ensures.items (λ p q x y k. search rules) in
    let q = mapped _ _ float_of _ _ 12 0 nan (search rules) c.map-corners.ensures.items (λ p q x y k. search rules) in
    rw (p, q, c.column_of.ensures) at c.write_column.ensures
