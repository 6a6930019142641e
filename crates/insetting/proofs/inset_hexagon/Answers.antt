-- `inset_hexagon`: the lengths at hand are those of the definition. Assumes nothing.
use Rattle.insetting.proofs.Lengths.{edged3-by, edged2-by}
use Rattle.insetting.proofs.inset_hexagon.Goals as goal

pub returns-in-SmallestEdge : goal.returns-in-SmallestEdge
returns-in-SmallestEdge c = let f = c.args.h in
    rw (
      c.in-SmallestEdge.is,
      c.hexagon_around-in-SmallestEdge.ensures,
      c.move_along-in-SmallestEdge.ensures,
      c.move_along.ensures,
      c.edge_lengths-ls.ensures,
      edged3-by _ f.positions,
      edged2-by _ f.positions f.uvs,
    )
