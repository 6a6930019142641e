-- `sum`: a turn adds one part. Assumes nothing.
use Rattle.std.proofs.Common.{◌≡◌, ◌*◌}
use mathlib.Core.List.{foldl}
use Rattle.face.specs.Lists.{each}
use Rattle.mesh.proofs.stored.sum.Given as goal

abbrev pub invariant-loop-k : goal.invariant-loop-k
invariant-loop-k g l = let P = g.P.Packed in l.total ≡ foldl g.P.Point.plus g.P.Point.zero (each (λ k. P.read l.buffer (P.SIZE * k)) l.k)
