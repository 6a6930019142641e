-- `move_each`: a turn moves one part. Assumes nothing.
use Rattle.std.proofs.Common.{◌≡◌}
use Rattle.mesh.proofs.Moving.{Moving}
use Rattle.mesh.proofs.stored.move_each.Given as goal

abbrev pub invariant-loop-k : goal.invariant-loop-k
invariant-loop-k g l = let P = g.P.Packed in
    goal.F-IsAlwaysCallable g l.to
    × ((f : _) → ((p q : _) → goal.F-post g l.to p q → q ≡ f p) → Moving P.SIZE P.read P.numbers f l.m l.initial.buffer l.k l.buffer)
