-- `join`: so many of either list stand in their places. Assumes nothing.
use Rattle.std.proofs.Common.{◌≡◌, ℕ, ◌+◌, ◌<◌, length, get_or}
use Rattle.insetting.proofs.join.Given as goal

abbrev pub invariant-loop-i : goal.invariant-loop-i
invariant-loop-i g l =
    (length l.out ≡ g.row.M)
    × ((k : ℕ) → k < l.i → get_or l.out k g.P.Point.off ≡ get_or l.a k g.P.Point.off)
    × ((k : ℕ) → k < l.i → get_or l.out (g.row.N + k) g.P.Point.off ≡ get_or l.b k g.P.Point.off)
