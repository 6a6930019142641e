-- What a job may carry; N1 to R3 and R7 are rows of docs/TRACE.md. Definitions only.
use Rattle.std.specs.Prelude.{ℕ, ◌*◌, Bool, ◌&&◌, ◌||◌, List, leb, ltb, eqb, Float}
use Rattle.std.specs.List.{list_all}
use Rattle.std.specs.Float.{binary32}
use Rattle.std.specs.Float.Ieee.{of_bits, neg, le}
use Rattle.face.specs.declared.vec.Vec2.{Vec2}
use Rattle.face.specs.declared.vec.Vec3.{Vec3}

-- N1: 1,000,000
abbrev pub million : Float
million = of_bits binary32 0x4974_2400

-- N1, N2: from -1,000,000 to 1,000,000, both ends in; no NaN and no infinity is
abbrev pub in_range : Float → Bool
in_range x = le (neg million) x && le x million

abbrev pub in_range2 : Vec2 → Bool
in_range2 p = in_range p.x && in_range p.y

abbrev pub in_range3 : Vec3 → Bool
in_range3 p = in_range p.x && (in_range p.y && in_range p.z)

abbrev pub every : {A : Type 0} → (A → Bool) → List A → Bool
every = list_all

abbrev pub all_in_range : List Float → Bool
all_in_range = every in_range

-- R1: the length of a job's list, for so many entries of so many numbers each
abbrev pub exactly : ℕ → ℕ → ℕ → Bool
exactly l n each = eqb l (n * each)

-- N8: an entry, or 255 for the default
abbrev pub names_option : ℕ → ℕ → Bool
names_option k entries = eqb k 255 || ltb k entries

-- N9: a cell, or 4,294,967,295 for none
abbrev pub is_neighbour : ℕ → ℕ → Bool
is_neighbour k cells = eqb k 4294967295 || ltb k cells

-- R7: an index of a mesh with so many vertices
abbrev pub below : ℕ → ℕ → Bool
below m x = ltb x m

-- N5
abbrev pub cell_count : ℕ → Bool
cell_count cells = leb cells 65536
