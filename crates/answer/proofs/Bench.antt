-- Worked facts of the range and of refusals, by computation. Assumes nothing.
use mathlib.Core.Path.{◌≡◌, refl}
use mathlib.Core.Bool.{Bool, true, false}
use mathlib.Core.List.{[], ◌∷◌, map}
use Prim.Native.Nat.{ℕ}
use lib.Ieee.{nan, binary32, of_bits, neg, le}
use Rattle.face.specs.Triangles.{counts}
use Rattle.face.specs.declared.vec.Vec2.{Vec2}
use Rattle.face.specs.declared.vec.Vec3.{Vec3}
use Rattle.face.specs.Vec.{v2, v3, f0}
use Rattle.face.specs.declared.triangle.Counts.{Counts}
use Rattle.answer.specs.declared.answer.Buffer.{Buffer}
use Rattle.answer.specs.declared.answer.Buffer.TheVariants.{Vertices, Normals, Uvs, Indices}
use Rattle.answer.specs.declared.answer.Refusal.{Refusal}
use Rattle.answer.specs.declared.answer.Refusal.TheVariants.{Shape, Range, Neighbour, Limit, Room, NoFace, Index, Empty, Sheet, Triangles, File, Bytes}
use Rattle.std.specs.Prelude.{Ok, Err}
use Rattle.answer.specs.Answers.{number_of, counts_of, need_of, value_of2, value_of3, after, limited, room_for}
use Rattle.answer.specs.Checks.{in_range, names_option, is_neighbour, cell_count}

-- the number of a pattern is in range
abbrev RangedAt : ℕ → Bool
RangedAt p = in_range (of_bits binary32 p)

-- 1,000,000 and -1,000,000, both zeros, the least above 0
pub in-range : map RangedAt (0x4974_2400 ∷ 0xc974_2400 ∷ 0 ∷ 0x8000_0000 ∷ 1 ∷ []) ≡ true ∷ true ∷ true ∷ true ∷ true ∷ []
unfolding of_bits neg le
in-range = refl

-- the next numbers outside, both infinities, a NaN's pattern
pub out_of_range : map RangedAt (0x4974_2401 ∷ 0xc974_2401 ∷ 0x7f80_0000 ∷ 0xff80_0000 ∷ 0x7fc0_0000 ∷ []) ≡ false ∷ false ∷ false ∷ false ∷ false ∷ []
unfolding of_bits neg le
out_of_range = refl

pub nan-out-of-range : in_range nan ≡ false
unfolding of_bits neg le
nan-out-of-range = refl

-- each refusal's number, whatever a short buffer needs
pub refusal-numbers : (n : ℕ) → map (λ e. number_of (Err e)) (Shape ∷ Range ∷ Neighbour ∷ Limit ∷ Room Vertices n ∷ Room Normals n ∷ Room Uvs n ∷ Room Indices n ∷ NoFace ∷ Index ∷ Empty ∷ Sheet ∷ Triangles ∷ File ∷ Bytes n ∷ []) ≡ 1 ∷ 2 ∷ 3 ∷ 4 ∷ 51 ∷ 52 ∷ 53 ∷ 54 ∷ 6 ∷ 7 ∷ 8 ∷ 9 ∷ 10 ∷ 11 ∷ 55 ∷ []
refusal-numbers n = refl

-- a short buffer's need is told; every other answer has none
pub refusal-needs : (b : Buffer) (n : ℕ) (c : Counts) → map need_of (Ok c ∷ map Err (Shape ∷ Range ∷ Neighbour ∷ Limit ∷ Room b n ∷ NoFace ∷ Index ∷ Empty ∷ Sheet ∷ Triangles ∷ File ∷ Bytes n ∷ [])) ≡ 0 ∷ 0 ∷ 0 ∷ 0 ∷ 0 ∷ n ∷ 0 ∷ 0 ∷ 0 ∷ 0 ∷ 0 ∷ 0 ∷ n ∷ []
refusal-needs b n c = refl

-- 36 vertices and 60 indices: the first short buffer with the whole length that it needs, and none at the exact lengths
pub short-vertices : (n t i : ℕ) → room_for (counts 36 60) 107 n t i ≡ Err (Room Vertices 108)
short-vertices n t i = refl

pub short-normals : (t i : ℕ) → room_for (counts 36 60) 108 107 t i ≡ Err (Room Normals 108)
short-normals t i = refl

pub short-uvs : (i : ℕ) → room_for (counts 36 60) 108 108 71 i ≡ Err (Room Uvs 72)
short-uvs i = refl

pub short-indices : room_for (counts 36 60) 108 108 72 59 ≡ Err (Room Indices 60)
short-indices = refl

pub exact-room : room_for (counts 36 60) 108 108 72 60 ≡ Ok (counts 36 60)
exact-room = refl

-- counts that no call has: a product above 64 bits is told as the greatest number of 64 bits
pub greatest-need : room_for (counts 6148914691236517206 0) 18446744073709551615 0 0 0 ≡ Err (Room Vertices 18446744073709551615)
greatest-need = refl

-- whatever the refusal: both counts 0, other values +0, what is lent as it was
pub refusal-counts : (e : Refusal) → counts_of (Err e) ≡ counts 0 0
refusal-counts e = refl

pub refusal-values : (e : Refusal) (p : Vec2) (q : Vec3) → (value_of2 (Err e) p ≡ v2 f0 f0) × (value_of3 (Err e) q ≡ v3 f0 f0 f0)
refusal-values e p q = (refl, refl)

pub refusal-leaves : {A : Type 0} (e : Refusal) (old new : A) → after (Err e) old new ≡ old
refusal-leaves e old new = refl

-- 65,536 vertices can be numbered, and one more cannot
pub limit-passes : (i : ℕ) → limited (counts 65536 i) ≡ Ok (counts 65536 i)
limit-passes i = refl

pub limit-refuses : (i : ℕ) → limited (counts 65537 i) ≡ Err Limit
limit-refuses i = refl

-- N5, N8, N9: the last number that passes, and the first that does not
pub cells-and-options : (cell_count 65536 ≡ true) × (cell_count 65537 ≡ false) × (names_option 255 0 ≡ true) × (names_option 63 64 ≡ true) × (names_option 64 64 ≡ false) × (is_neighbour 4294967295 0 ≡ true) × (is_neighbour 4 5 ≡ true) × (is_neighbour 5 5 ≡ false) × (is_neighbour 4294967294 65536 ≡ false)
cells-and-options = (refl, refl, refl, refl, refl, refl, refl, refl, refl)
