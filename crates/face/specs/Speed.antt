-- What speed alone hangs on: two points that are as far from the origin share a reciprocal length. Definitions only.
use Rattle.std.specs.Prelude.{Bool, ◌&&◌, cond, eqb, Float}
use Rattle.std.specs.Float.{binary32}
use Rattle.std.specs.Float.Ieee.{lt, le, eq, of_bits, to_bits}
use Rattle.face.specs.declared.vec.Vec2.{Vec2}
use Rattle.face.specs.Vec.{f0, square2, length2, reciprocal}

-- two numbers of one pattern, and no NaN
abbrev pub same : Float → Float → Bool
same a b = eq a b && eqb (to_bits binary32 a) (to_bits binary32 b)

-- two points whose squares are the same
abbrev pub alike : Vec2 → Vec2 → Bool
alike a b = same (square2 a) (square2 b)

-- the one reciprocal length of two points that are alike; else +0, which does not serve
abbrev pub one_of_both : Vec2 → Vec2 → Float
one_of_both p q = cond (alike p q) (reciprocal (length2 p)) f0

-- 2 ^ 32, by its pattern
abbrev pub large : Float
large = of_bits binary32 0x4f80_0000

-- above 0 and at most 2 ^ 32, so that it serves
abbrev pub ordinary : Float → Bool
ordinary k = lt f0 k && le k large
