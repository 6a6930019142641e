-- `place`: the zeros above the leading digit say how far it moves. Assumes nothing.
use Rattle.std.proofs.Common.{◌≡◌, ℕ, suc, ◌+◌, ◌-◌, ◌^◌, ◌<◌, ◌≤◌, arith}
use lib.Count.{count_leading_zeros, leading_top}
use Rattle.arith.proofs.Placing.{enough, spare, placed}
use Rattle.arith.proofs.pattern.place.Goals as goal
use Rattle.arith.proofs.pattern.place.Goals.{Start}

module _ (c : Start) where
  abbrev z : ℕ
  z = count_leading_zeros 64 c.args.sig

  top_of : (j : ℕ) × (z + suc j ≡ 64) × (2 ^ j ≤ c.args.sig) × (c.args.sig < 2 ^ suc j)
  top_of = leading_top 64 c.args.sig c.requires.0 c.ranges.sig.fits

  few : z ≤ 63
  few = let e : z + suc top_of.0 ≡ 64 = top_of.1 in omega arith

  enough-zeros : c.args.zeros ≤ z
  enough-zeros = let t = top_of in enough _ c.args.exp _ z t.0 t.1 t.2 t.3 c.requires.1 c.requires.2 c.requires.3

  within : z - c.args.zeros ≤ c.args.exp
  within = let t = top_of in spare c.args.sig _ _ z t.0 t.1 t.2 t.3 c.requires.1 c.requires.2 c.requires.3

pub overflow_sub-n : goal.overflow_sub-n
overflow_sub-n c = enough-zeros c

pub overflow_cast-result : goal.overflow_cast-result
overflow_cast-result c = let l : z c ≤ 63 = few c in omega arith

pub overflow_shl-result : goal.overflow_shl-result
overflow_shl-result c = let l : z c ≤ 63 = few c in omega arith

pub overflow_sub-result : goal.overflow_sub-result
overflow_sub-result c = within c

pub returns : goal.returns
returns c = let t = top_of c in placed _ _ _ (z c) t.0 t.1 t.2 t.3 c.requires.1 c.requires.2 c.requires.3
