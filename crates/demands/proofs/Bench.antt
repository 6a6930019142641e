-- Every bench case holds: plans through their counts in closed form, with no walk over thousands of faces, and
-- the rest by laws of the crates below. Beside them the windows of a small column. Assumes nothing.
use mathlib.Core.Path.{◌≡◌, refl, ap, ◌∙◌}
use mathlib.Core.Bool.{Bool, true, false}
use mathlib.Core.List.{List, [], ◌∷◌, ◌++◌}
use lib.ListN.{take}
use lib.Ieee.{Float, of_bits, neg, le, lt}
use Rattle.arith.proofs.Bench.{root-of-two, root-of-least, fused-once}
use Rattle.face.specs.declared.triangle.Counts.{Counts}
use Rattle.face.specs.declared.inset.Inset.TheVariants.{Centroid, SmallestEdge}
use Rattle.face.specs.Vec.{f0, f1}
use Rattle.face.specs.Triangles.{tri, counts, quad_triangles, inset_triangles, inset_counts}
use Rattle.buffers.specs.Mesh.{none}
use Rattle.buffers.specs.Faces as Faces
use Rattle.buffers.proofs.Faces.{quad-size, hexagon-size}
use Rattle.face.proofs.Bench as face
use Rattle.answer.specs.declared.answer.Refusal.TheVariants.{NoFace}
use Rattle.answer.specs.Answers.{Answer}
use Rattle.std.specs.Prelude.{Ok, Err}
use Rattle.answer.specs.Answers.{limited, number_of, counts_of}
use Rattle.placement.specs.declared.options.Choice.TheVariants as option
use Rattle.column.specs.declared.Subdivisions.TheVariants as subdivisions
use Rattle.column.specs.declared.Column.{Column}
use Rattle.column.specs.Column.{column_names, mesh_of, checked}
use Rattle.column.specs.Counts.{column_counts}
use Rattle.column.proofs.Counts.{column-counts}
use Rattle.demands.specs.Job.{Job, OfColumn, planned, faces_told, window_told}
use Rattle.demands.specs.Bench.{plain, column, three, zero_lists, Case, Plan, Summed, Quads, Hexagons, Connected, Rooted, Fused, Holds, All, bits, plans, insets, numbers, bench_cases}

-- ---- plans: the answer by the counts in closed form is the plan
abbrev by_counts : Column → Answer
by_counts job = checked job zero_lists (limited (column_counts job [] []))

by-counts : (job : Column) → planned (OfColumn job zero_lists) ≡ by_counts job
by-counts job = ap (λ (c : Counts). checked job zero_lists (limited c)) (column-counts job zero_lists)

-- a case with its plan by counts
abbrev Shown : Case → Type 0
Shown (Plan job n c) = (number_of (by_counts job) ≡ n) × (counts_of (by_counts job) ≡ c)
Shown (Summed job c) = column_counts job [] [] ≡ c
Shown (Quads keep c) = Holds (Quads keep c)
Shown (Hexagons keep c) = Holds (Hexagons keep c)
Shown (Connected k ts) = Holds (Connected k ts)
Shown (Rooted x y) = Holds (Rooted x y)
Shown (Fused a b c y) = Holds (Fused a b c y)

so-holds : (c : Case) → Shown c → Holds c
so-holds (Plan job n c) s = (ap number_of (by-counts job) ∙ s.0, ap counts_of (by-counts job) ∙ s.1)
so-holds (Summed job c) s = column-counts job zero_lists ∙ s
so-holds (Quads keep c) s = s
so-holds (Hexagons keep c) s = s
so-holds (Connected k ts) s = s
so-holds (Rooted x y) s = s
so-holds (Fused a b c y) s = s

abbrev AllShown : List Case → Type 0
AllShown [] = Unit {0}
AllShown (c ∷ cs) = Shown c × AllShown cs

all_hold : (cs : List Case) → AllShown cs → All cs
all_hold [] s = tt
all_hold (c ∷ cs) s = (so-holds c s.0, all_hold cs s.1)

plans-shown : AllShown plans
unfolding of_bits neg le
plans-shown = ((refl, refl), ((refl, refl), ((refl, refl), ((refl, refl), ((refl, refl), ((refl, refl), (refl, ((refl, refl), ((refl, refl), ((refl, refl), tt))))))))))

-- ---- insets: counts at every scale; a connection turns back at a scale below 0 alone
connected : (k : Float) (keep : Bool) → lt k f0 ≡ false → (take 2 (inset_triangles (Centroid k keep) 4 quad_triangles) ≡ tri 5 1 0 ∷ tri 0 4 5 ∷ []) × (take 2 (inset_triangles (SmallestEdge k keep) 4 quad_triangles) ≡ tri 5 1 0 ∷ tri 0 4 5 ∷ [])
connected k keep e = (rw e, rw e)

reversed : (k : Float) (keep : Bool) → lt k f0 ≡ true → (take 2 (inset_triangles (Centroid k keep) 4 quad_triangles) ≡ tri 0 1 5 ∷ tri 5 4 0 ∷ []) × (take 2 (inset_triangles (SmallestEdge k keep) 4 quad_triangles) ≡ tri 0 1 5 ∷ tri 5 4 0 ∷ [])
reversed k keep e = (rw e, rw e)

one-not-below : lt f1 f0 ≡ false
unfolding lt of_bits
one-not-below = refl

minus-zero-not-below : lt (bits 0x80000000) f0 ≡ false
unfolding lt of_bits
minus-zero-not-below = refl

minus-one-below : lt (bits 0xbf800000) f0 ≡ true
unfolding lt of_bits
minus-one-below = refl

quads : (keep : Bool) (c : Counts) → ((k : Float) → (inset_counts (Centroid k keep) 4 2 ≡ c) × (inset_counts (SmallestEdge k keep) 4 2 ≡ c)) → Holds (Quads keep c)
quads keep c h k q = (quad-size (Centroid k keep) q ∙ (h k).0, quad-size (SmallestEdge k keep) q ∙ (h k).1)

hexagons : (keep : Bool) (c : Counts) → ((k : Float) → (inset_counts (Centroid k keep) 6 4 ≡ c) × (inset_counts (SmallestEdge k keep) 6 4 ≡ c)) → Holds (Hexagons keep c)
hexagons keep c h k x = (hexagon-size (Centroid k keep) x ∙ (h k).0, hexagon-size (SmallestEdge k keep) x ∙ (h k).1)

insets-shown : AllShown insets
insets-shown = (
  quads false _ face.quad-inset,
  (
    quads true _ face.quad-kept,
    (
      hexagons false _ face.hexagon-inset,
      (
        hexagons true _ face.hexagon-kept,
        (
          (λ keep. connected f1 keep one-not-below),
          (
            (λ keep. connected (bits 0x80000000) keep minus-zero-not-below),
            (
              (λ keep. reversed (bits 0xbf800000) keep minus-one-below),
              tt,
            ),
          ),
        ),
      ),
    ),
  ),
)

numbers-shown : AllShown numbers
numbers-shown = (root-of-two, (root-of-least, (fused-once, tt)))

both-shown : (cs ds : List Case) → AllShown cs → AllShown ds → AllShown (cs ++ ds)
both-shown [] ds s t = t
both-shown (c ∷ cs) ds s t = (s.0, both-shown cs ds s.1 t)

-- C1: all of them, as one statement
pub bench-cases : All bench_cases
bench-cases = all_hold bench_cases (both-shown plans (insets ++ numbers) plans-shown (both-shown insets numbers insets-shown numbers-shown))

-- ---- three sides of two parts and a top: the last part, the top after it, and no eighth face
abbrev small : Job
small = OfColumn (column three plain option.Absent (subdivisions.Of 2)) zero_lists

pub column-windows :
    (faces_told small ≡ Ok (record { counts = (counts 30 48); faces = 7 }))
    × (window_told small 5 ≡ Ok (record { counts = (counts 30 48); start = counts 20 30; size = counts 4 6 }))
    × (window_told small 6 ≡ Ok (record { counts = (counts 30 48); start = counts 24 36; size = counts 6 12 }))
    × (window_told small 7 ≡ Err NoFace)
unfolding of_bits neg le column_names mesh_of Faces.quad_mesh Faces.hexagon_mesh
column-windows = (refl, refl, refl, refl)
