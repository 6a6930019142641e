-- Worked facts of the table and of placing, by computation. Assumes nothing.
use mathlib.Core.Path.{◌≡◌, refl}
use mathlib.Core.Bool.{true, false}
use mathlib.Core.List.{List, [], ◌∷◌, map}
use Prim.Native.Nat.{ℕ}
use lib.Ieee.{Float, binary32, of_bits, neg, add, mul}
use Rattle.face.specs.declared.vec.Vec3.{Vec3}
use Rattle.face.specs.Lists.{each}
use Rattle.face.specs.Vec.{v3, f0, f1}
use Rattle.placement.specs.declared.placement.Choice3.TheVariants as choice
use Rattle.placement.specs.declared.placement.Turn.TheVariants as turn
use Rattle.placement.specs.declared.placement.Placement.{Placement}
use Rattle.placement.specs.declared.placement.Stand.{Stand}
use Rattle.placement.specs.Options.{marks_mean, is_table, plain_options, option_at}
use Rattle.placement.specs.Placing.{half_turned, stood, stood_normal, stand_by, placement_in_range}

-- ---- the half turn of a cap's normal
pub normal-half-turned : half_turned true (v3 f0 f1 f0) ≡ v3 (of_bits binary32 0x8000_0000) (of_bits binary32 0xbf80_0000) f0
unfolding of_bits neg
normal-half-turned = refl

-- ---- nothing supplied: nothing is touched, and nothing is out of range
abbrev nowhere : Placement
nowhere = record { scale = choice.Absent; turn = turn.Absent; offset = choice.Absent }

-- a face of a job, by its placement alone
abbrev by : Placement → Stand
by s = stand_by choice.Absent false s

pub absent-keeps : (p : Vec3) → (stood (by nowhere) p ≡ p) × (stood_normal (by nowhere) p ≡ p)
absent-keeps p = (refl, refl)

pub absent-passes : placement_in_range nowhere ≡ true
absent-passes = refl

-- neither scale nor offset reaches a normal
pub normal-unscaled : (s o n : Vec3) → stood_normal (by (record { scale = choice.With s; turn = turn.Absent; offset = choice.With o })) n ≡ n
normal-unscaled s o n = refl

-- ---- 255 is the default, whatever the lists
pub default-number : (ns : List Float) (ms : List ℕ) → option_at ns ms 255 ≡ plain_options
default-number ns ms = refl

-- an empty table is one, which holds no number
pub empty-table : is_table [] [] ≡ true
empty-table = refl

pub empty-holds-none : map (option_at [] []) (0 ∷ 63 ∷ 64 ∷ []) ≡ plain_options ∷ plain_options ∷ plain_options ∷ []
empty-holds-none = refl

-- 64 entries are a table, and 65 are none
pub most-entries : (is_table (each (λ i. f0) 576) (each (λ i. 0) 256) ≡ true) × (is_table (each (λ i. f0) 585) (each (λ i. 0) 260) ≡ false)
most-entries = (refl, refl)

-- the greatest marks, and one more in each place
pub greatest-marks : marks_mean (1 ∷ 1 ∷ 2 ∷ 1 ∷ []) ≡ true
greatest-marks = refl

pub marks-of-nothing : map marks_mean ((2 ∷ 1 ∷ 2 ∷ 1 ∷ []) ∷ (1 ∷ 2 ∷ 2 ∷ 1 ∷ []) ∷ (1 ∷ 1 ∷ 3 ∷ 1 ∷ []) ∷ (1 ∷ 1 ∷ 2 ∷ 2 ∷ []) ∷ []) ≡ false ∷ false ∷ false ∷ false ∷ []
marks-of-nothing = refl

-- ---- the rows of the identity do not keep bits: they add +0 to -0
pub identity-loses-minus-zero :
    stood (by (record { scale = choice.Absent; turn = turn.Rows (v3 f1 f0 f0) (v3 f0 f1 f0) (v3 f0 f0 f1); offset = choice.Absent })) (v3 (of_bits binary32 0x8000_0000) f1 f1) ≡ v3 f0 f1 f1
unfolding of_bits add mul
identity-loses-minus-zero = refl
