-- Reasons and faces worked out, by computation. Assumes nothing.
use mathlib.Core.Path.{◌≡◌, refl}
use Prim.Native.Nat.{ℕ, ◌/◌, ◌%◌}
use mathlib.Core.List.{[], ◌++◌, map}
use Rattle.face.specs.Lists.{each}
use Rattle.face.specs.Triangles.{counts}
use Rattle.answer.specs.declared.answer.Refusal.TheVariants.{Shape, Range, Neighbour, NoFace}
use Rattle.std.specs.Prelude.{Err}
use Rattle.placement.specs.declared.options.Choice.TheVariants as option
use Rattle.heightmap.specs.declared.Fringe.TheVariants as fringe
use Rattle.heightmap.specs.declared.Customs.TheVariants as customs
use Rattle.heightmap.specs.declared.HeightRange.TheVariants as heights
use Rattle.heightmap.specs.declared.Origin.TheVariants as origin
use Rattle.heightmap.specs.declared.Name.TheVariants.{Cap, Side}
use Rattle.heightmap.specs.declared.HeightMap.{HeightMap}
use Rattle.heightmap.specs.Grid.{grid}
use Rattle.heightmap.specs.HeightMap.{Lists}
use Rattle.heightmap.proofs.Worked.{opened, bits, job_of, default, bare, fringed, cell, linked, pair, plainly, faulty}
use Rattle.heightmap_why.specs.declared.Reason.{Reason}
use Rattle.heightmap_why.specs.declared.Reason.TheVariants.{SidesOff, NothingBeyond, AsHigh, Present}
use Rattle.heightmap_why.specs.Why.{WhyAnswer, because, names, why_told, which_told}

-- cells of heights 2 and 1, each the other's neighbour across sides 0 and 3
abbrev two : Lists
two = plainly (pair 0x4000_0000 0x3f80_0000)

abbrev told : Reason → WhyAnswer
told r = because (counts 16 30) r

pub three-faces :
    (which_told bare two 0 ≡ names (counts 16 30) (Cap 0))
    × (which_told bare two 1 ≡ names (counts 16 30) (Side 0 0))
    × (which_told bare two 2 ≡ names (counts 16 30) (Cap 1))
    × (which_told bare two 3 ≡ Err NoFace)
unfolding opened
three-faces = (refl, refl, refl, refl)

pub reasons :
    (why_told bare two 0 0 ≡ told (Present 1))
    × (why_told bare two 1 3 ≡ told (AsHigh (bits 0x4000_0000)))
    × (why_told bare two 0 1 ≡ told NothingBeyond)
    × (why_told bare two 2 0 ≡ Err NoFace)
    × (why_told bare two 0 6 ≡ Err NoFace)
    × (why_told bare two 0 256 ≡ Err NoFace)
unfolding opened
reasons = (refl, refl, refl, refl, refl, refl)

-- sides that are off come before all else, whatever lies beyond
abbrev off : HeightMap
off = job_of default option.Absent heights.OfAll fringe.Bare customs.Absent origin.Centred

pub sides-off : map (λ i. why_told off two (i / 6) (i % 6)) (each (λ i. i) 12) ≡ each (λ i. because (counts 12 24) SidesOff) 12
unfolding opened
sides-off = refl

-- with caps off the wall is the first face
abbrev walls-alone : HeightMap
walls-alone = job_of option.Absent default heights.OfAll fringe.Bare customs.Absent origin.Centred

pub caps-off : (why_told walls-alone two 0 0 ≡ because (counts 4 6) (Present 0)) × (which_told walls-alone two 0 ≡ names (counts 4 6) (Side 0 0))
unfolding opened
caps-off = (refl, refl)

-- ---- the same cells with a fringe of one height
abbrev edged : ℕ → Lists
edged h = plainly (grid (cell 0x4000_0000 0 0 ++ cell 0x3f80_0000 0x3fc0_0000 0x3f40_0000) linked (each (λ i. bits h) 12))

pub fringe-told :
    (why_told fringed (edged 0x4000_0000) 0 1 ≡ told (AsHigh (bits 0x4000_0000)))
    × (why_told fringed (edged 0x3f00_0000) 0 1 ≡ because (counts 56 90) (Present 2))
    × (which_told fringed (edged 0x3f00_0000) 2 ≡ names (counts 56 90) (Side 0 1))
unfolding opened
fringe-told = (refl, refl, refl)

-- beside a neighbour the fringe is not asked, and with sides off nothing is
pub fringe-not-asked :
    (why_told fringed (edged 0x3f00_0000) 1 3 ≡ because (counts 56 90) (AsHigh (bits 0x4000_0000)))
    × (why_told fringed (edged 0x4040_0000) 0 0 ≡ told (Present 1))
    × (why_told (job_of default option.Absent heights.OfAll fringe.Listed customs.Absent origin.Centred) (edged 0x3f00_0000) 0 1 ≡ because (counts 12 24) SidesOff)
unfolding opened
fringe-not-asked = (refl, refl, refl)

-- a map of no cells has no side and no face
pub no_cells : (why_told bare (plainly (grid [] [] [])) 0 0 ≡ Err NoFace) × (which_told bare (plainly (grid [] [] [])) 0 ≡ Err NoFace)
unfolding opened
no_cells = (refl, refl)

-- both zeros are as high as each other, and the one beyond is told
pub zeros :
    (why_told bare (plainly (pair 0 0x8000_0000)) 0 0 ≡ because (counts 12 24) (AsHigh (bits 0x8000_0000)))
    × (why_told bare (plainly (pair 0x8000_0000 0)) 0 0 ≡ because (counts 12 24) (AsHigh (bits 0)))
unfolding opened
zeros = (refl, refl)

-- ---- 1, 2, 3, 6 in their order, each with the faults of those behind it: one cell, and the second is asked for
pub refusals :
    (why_told bare (faulty 1 0x4974_2401 11 []) 1 6 ≡ Err Shape)
    × (why_told bare (faulty 1 0x4974_2401 12 []) 1 6 ≡ Err Range)
    × (why_told bare (faulty 1 0x4974_2400 12 []) 1 6 ≡ Err Neighbour)
    × (why_told bare (faulty 0 0x4974_2400 12 []) 1 6 ≡ Err NoFace)
    × (which_told bare (faulty 1 0x4974_2401 11 []) 1 ≡ Err Shape)
    × (which_told bare (faulty 1 0x4974_2401 12 []) 1 ≡ Err Range)
    × (which_told bare (faulty 1 0x4974_2400 12 []) 1 ≡ Err Neighbour)
    × (which_told bare (faulty 0 0x4974_2400 12 []) 1 ≡ Err NoFace)
unfolding opened
refusals = (refl, refl, refl, refl, refl, refl, refl, refl)
