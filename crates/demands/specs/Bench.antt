-- The bench cases that are proved, as one list; C1 is a row of docs/TRACE.md. Definitions only.
use Rattle.std.specs.Prelude.{◌≡◌, Bool, true, false, List, [], ◌∷◌, ◌++◌, ℕ, take, Float}
use Rattle.std.specs.Float.{binary32}
use Rattle.std.specs.Float.Ieee.{of_bits}
use Rattle.arith.specs.Root.{root}
use Rattle.arith.specs.Fused.{fma}
use Rattle.face.specs.declared.inset.Inset.TheVariants.{Centroid, SmallestEdge}
use Rattle.face.specs.declared.inset.InsetQuad.{InsetQuad}
use Rattle.face.specs.declared.inset.InsetHexagon.{InsetHexagon}
use Rattle.face.specs.declared.triangle.Triangle.{Triangle}
use Rattle.face.specs.declared.triangle.Counts.{Counts}
use Rattle.face.specs.Lists.{each}
use Rattle.face.specs.Vec.{f0, f1, zero2}
use Rattle.face.specs.Triangles.{tri, counts, quad_triangles, inset_triangles}
use Rattle.answer.specs.Answers.{number_of, counts_of}
use Rattle.buffers.specs.Mesh.{size_of, measure}
use Rattle.buffers.specs.Faces.{quad_mesh, hexagon_mesh}
use Rattle.placement.specs.declared.options.Choice.{Choice}
use Rattle.placement.specs.declared.options.Choice.TheVariants as option
use Rattle.placement.specs.declared.placement.Choice3.TheVariants as choice
use Rattle.placement.specs.declared.placement.Turn.TheVariants as turn
use Rattle.column.specs.declared.Subdivisions.{Subdivisions}
use Rattle.column.specs.declared.Subdivisions.TheVariants as subdivisions
use Rattle.column.specs.declared.Side.{Side}
use Rattle.column.specs.declared.Column.{Column}
use Rattle.column.specs.Column.{Lists, lists}
use Rattle.demands.specs.Job.{OfColumn, faces, planned}

-- ---- plain columns of height 1 about zero
abbrev pub on : Side
on = record { option = option.With 255 }

abbrev pub off : Side
off = record { option = option.Absent }

abbrev pub plain : Choice
plain = option.With 255

abbrev pub column : List Side → Choice → Choice → Subdivisions → Column
column ss t b s =
    record {
      height = f1;
      subdivisions = s;
      sides = ss;
      top = t;
      bottom = b;
      position = zero2;
      placement = record { scale = choice.Absent; turn = turn.Absent; offset = choice.Absent };
    }

abbrev pub six : List Side
six = each (λ d. on) 6

abbrev pub three : List Side
three = on ∷ on ∷ on ∷ off ∷ off ∷ off ∷ []

abbrev pub one : List Side
one = on ∷ off ∷ off ∷ off ∷ off ∷ off ∷ []

abbrev pub zero_lists : Lists
zero_lists = lists (each (λ i. f0) 24) (each (λ i. f0) 12) [] []

-- ---- what a case says
pub data Case : Type 0 where
  -- a column's plan: its number and its counts
  Plan : Column → ℕ → Counts → Case
  -- the sums over a column's faces, whether or not it is refused
  Summed : Column → Counts → Case
  -- an inset quad, and an inset hexagon, kept or not: its counts, for both scaled kinds and every scale
  Quads : Bool → Counts → Case
  Hexagons : Bool → Counts → Case
  -- the first connection of an inset quad at a scale, for both kinds, kept or not
  Connected : Float → List Triangle → Case
  Rooted : Float → Float → Case
  Fused : Float → Float → Float → Float → Case

abbrev pub Holds : Case → Type 0
Holds (Plan job n c) = (number_of (planned (OfColumn job zero_lists)) ≡ n) × (counts_of (planned (OfColumn job zero_lists)) ≡ c)
Holds (Summed job c) = measure (faces (OfColumn job zero_lists)) ≡ c
Holds (Quads keep c) = (k : Float) (q : InsetQuad) → (size_of (quad_mesh (Centroid k keep) q) ≡ c) × (size_of (quad_mesh (SmallestEdge k keep) q) ≡ c)
Holds (Hexagons keep c) = (k : Float) (h : InsetHexagon) → (size_of (hexagon_mesh (Centroid k keep) h) ≡ c) × (size_of (hexagon_mesh (SmallestEdge k keep) h) ≡ c)
Holds (Connected k ts) = (keep : Bool) → (take 2 (inset_triangles (Centroid k keep) 4 quad_triangles) ≡ ts) × (take 2 (inset_triangles (SmallestEdge k keep) 4 quad_triangles) ≡ ts)
Holds (Rooted x y) = root x ≡ y
Holds (Fused a b c y) = fma a b c ≡ y

abbrev pub All : List Case → Type 0
All [] = Unit {0}
All (c ∷ cs) = Holds c × All cs

-- ---- the cases
abbrev pub bits : ℕ → Float
bits = of_bits binary32

abbrev pub plans : List Case
plans =
    Plan (column six plain plain subdivisions.Absent) 0 (counts 36 60)
    ∷ Plan (column six plain plain (subdivisions.Of 0)) 0 (counts 36 60)
    ∷ Plan (column six plain plain (subdivisions.Of 1)) 0 (counts 36 60)
    ∷ Plan (column six plain plain (subdivisions.Of 2730)) 0 (counts 65532 98304)
    ∷ Plan (column six plain plain (subdivisions.Of 2731)) 4 (counts 0 0)
    ∷ Plan (column three plain option.Absent (subdivisions.Of 5461)) 4 (counts 0 0)
    ∷ Summed (column three plain option.Absent (subdivisions.Of 5461)) (counts 65538 98310)
    ∷ Plan (column one option.Absent option.Absent (subdivisions.Of 16384)) 0 (counts 65536 98304)
    ∷ Plan (column one option.Absent option.Absent (subdivisions.Of 16385)) 4 (counts 0 0)
    ∷ Plan (column (each (λ d. off) 6) option.Absent option.Absent (subdivisions.Of 4294967295)) 0 (counts 0 0)
    ∷ []

-- -0 is not below 0, so it turns nothing back
abbrev pub insets : List Case
insets =
    Quads false (counts 8 24)
    ∷ Quads true (counts 8 30)
    ∷ Hexagons false (counts 12 36)
    ∷ Hexagons true (counts 12 48)
    ∷ Connected f1 (tri 5 1 0 ∷ tri 0 4 5 ∷ [])
    ∷ Connected (bits 0x80000000) (tri 5 1 0 ∷ tri 0 4 5 ∷ [])
    ∷ Connected (bits 0xbf800000) (tri 0 1 5 ∷ tri 5 4 0 ∷ [])
    ∷ []

abbrev pub numbers : List Case
numbers =
    Rooted (bits 0x40000000) (bits 0x3fb504f3)
    ∷ Rooted (bits 0x00000001) (bits 0x1a3504f3)
    ∷ Fused (bits 0x3f800001) (bits 0x3f800001) (bits 0xbf800002) (bits 0x28800000)
    ∷ []

abbrev pub bench_cases : List Case
bench_cases = plans ++ (insets ++ numbers)
