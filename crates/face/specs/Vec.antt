-- Points of the plane and of space. Each float step is rounded once, in the order written. Definitions only.
use mathlib.Core.List.{List, foldl}
use Rattle.std.specs.Prelude.{Bool, ◌&&◌, length, pos, Float}
use Rattle.std.specs.Float.{nan, binary32}
use Rattle.std.specs.Float.Ieee.{add, sub, mul, div, lt, of_bits, of_int}
use Rattle.arith.specs.Root.{root}
use Rattle.face.specs.declared.vec.Vec2.{Vec2}
use Rattle.face.specs.declared.vec.Vec3.{Vec3}

abbrev pub v2 : Float → Float → Vec2
v2 x y = record { x = x; y = y }

abbrev pub v3 : Float → Float → Float → Vec3
v3 x y z = record { x = x; y = y; z = z }

-- +0, 1, 2, one half and +infinity, by their patterns
abbrev pub f0 : Float
f0 = of_bits binary32 0

abbrev pub f1 : Float
f1 = of_bits binary32 0x3f80_0000

abbrev pub f2 : Float
f2 = of_bits binary32 0x4000_0000

abbrev pub half : Float
half = of_bits binary32 0x3f00_0000

abbrev pub infinity : Float
infinity = of_bits binary32 0x7f80_0000

-- the four steps
abbrev pub plus : Float → Float → Float
plus = add binary32

abbrev pub diff : Float → Float → Float
diff = sub binary32

abbrev pub times : Float → Float → Float
times = mul binary32

abbrev pub over : Float → Float → Float
over = div binary32

abbrev pub plus2 : Vec2 → Vec2 → Vec2
plus2 a b = v2 (plus a.x b.x) (plus a.y b.y)

abbrev pub minus2 : Vec2 → Vec2 → Vec2
minus2 a b = v2 (diff a.x b.x) (diff a.y b.y)

abbrev pub times2 : Vec2 → Float → Vec2
times2 a k = v2 (times a.x k) (times a.y k)

abbrev pub over2 : Vec2 → Float → Vec2
over2 a k = v2 (over a.x k) (over a.y k)

abbrev pub plus3 : Vec3 → Vec3 → Vec3
plus3 a b = v3 (plus a.x b.x) (plus a.y b.y) (plus a.z b.z)

abbrev pub minus3 : Vec3 → Vec3 → Vec3
minus3 a b = v3 (diff a.x b.x) (diff a.y b.y) (diff a.z b.z)

abbrev pub times3 : Vec3 → Float → Vec3
times3 a k = v3 (times a.x k) (times a.y k) (times a.z k)

abbrev pub over3 : Vec3 → Float → Vec3
over3 a k = v3 (over a.x k) (over a.y k) (over a.z k)

abbrev pub zero2 : Vec2
zero2 = v2 f0 f0

abbrev pub zero3 : Vec3
zero3 = v3 f0 f0 f0

-- what a list of points has past its end
abbrev pub off2 : Vec2
off2 = v2 nan nan

abbrev pub off3 : Vec3
off3 = v3 nan nan nan

-- a point of the plane at a height, and at height 0
abbrev pub upright : Vec2 → Float → Vec3
upright p y = v3 p.x y p.y

abbrev pub flat : Vec2 → Vec3
flat p = upright p f0

-- the normal of what lies flat
abbrev pub upward : Vec3
upward = v3 f0 f1 f0

-- the squared length: products from left to right
abbrev pub square2 : Vec2 → Float
square2 a = plus (times a.x a.x) (times a.y a.y)

abbrev pub square3 : Vec3 → Float
square3 a = plus (plus (times a.x a.x) (times a.y a.y)) (times a.z a.z)

abbrev pub length2 : Vec2 → Float
length2 a = root (square2 a)

abbrev pub length3 : Vec3 → Float
length3 a = root (square3 a)

-- the reciprocal of a length, and when it serves: finite and above 0
abbrev pub reciprocal : Float → Float
reciprocal l = over f1 l

abbrev pub serves : Float → Bool
serves k = lt f0 k && lt k infinity

-- normalised: each component by the reciprocal of the length, which in space is at hand
abbrev pub unit2 : Vec2 → Vec2
unit2 a = times2 a (reciprocal (length2 a))

abbrev pub unit3 : Vec3 → Float → Vec3
unit3 a l = times3 a (reciprocal l)

-- the centroid: points summed one by one onto +0, and the sum divided by how many they are
abbrev pub middle : {A : Type 0} → (A → A → A) → A → (A → Float → A) → List A → A
middle plus zero over ps = over (foldl plus zero ps) (of_int binary32 (pos (length ps)))

abbrev pub middle2 : List Vec2 → Vec2
middle2 = middle plus2 zero2 over2

abbrev pub middle3 : List Vec3 → Vec3
middle3 = middle plus3 zero3 over3
