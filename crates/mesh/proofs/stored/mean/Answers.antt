-- `mean`: the sum over how many they are. Assumes nothing.
use Rattle.std.proofs.Common.{rules, ◌*◌}
use Rattle.mesh.proofs.Moving.{mean-middle}
use Rattle.mesh.proofs.stored.mean.Goals as goal

pub returns : goal.returns
returns g c = mean-middle g.P.Point.plus g.P.Point.zero g.P.Point.over (λ k. g.P.Packed.read c.args.buffer.now (g.P.Packed.SIZE * k)) c.args.m _ _ c.sum.ensures (search rules)
