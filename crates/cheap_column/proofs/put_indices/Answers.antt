-- `put_indices`: the table is copied whole. Assumes nothing.
use Rattle.buffers.proofs.Copying.{spliced}
use Rattle.buffers.specs.Laying.{corners, spread}
use Rattle.cheap_column.specs.CheapColumn.{cheap_triangles}
use Rattle.cheap_column.proofs.put_indices.Goals as goal

pub returns : goal.returns
returns c = rw c.copy_from_slice.ensures.after (spliced c.args.buffer.now 0 (spread (corners 0) cheap_triangles) c.requires)
