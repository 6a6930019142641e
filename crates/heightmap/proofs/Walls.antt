-- Why a side is there or is not: of the four reasons exactly one holds, and a side is there exactly where sides are on and
-- the height beyond it, of the neighbour or of the fringe where the neighbour is none, exists and is below the cell's (B13,
-- a row of docs/TRACE.md). Assumes nothing.
use mathlib.Core.Path.{◌≡◌, refl, ap, ◌∙◌}
use mathlib.Core.Logic.{inl, inr}
use mathlib.Core.Bool.{Bool, true, false, cond}
use Prim.Native.Nat.{ℕ}
use native.Mathlib.Omega.{arith}
use borrow.Author.Tests.{eqb-true, eqb-false, eq-eqb, ne_eqb}
use lib.Dec.{eqb}
use lib.Ieee.{Float, lt}
use Rattle.placement.specs.declared.options.Choice.{Choice}
use Rattle.placement.specs.declared.options.Choice.TheVariants as option
use Rattle.heightmap.specs.declared.Fringe.{Fringe}
use Rattle.heightmap.specs.declared.Fringe.TheVariants as fringe
use Rattle.heightmap.specs.declared.Wall.{Wall}
use Rattle.heightmap.specs.declared.Wall.TheVariants.{SidesOff, NothingBeyond, AsHigh, Present}
use Rattle.heightmap.specs.declared.HeightMap.{HeightMap}
use Rattle.heightmap.specs.Grid.{Grid, height_at, nobody, neighbour_at, fringe_at, against, edge_by, beside_by, wall_by, wall, present, On, BeyondEdge, Beyond, Lower}

-- ---- the four reasons
abbrev pub WhyBy : Choice → Fringe → Grid → ℕ → ℕ → Wall → Type 0
WhyBy c f g k d SidesOff = c ≡ option.Absent
WhyBy c f g k d NothingBeyond = On c × ((neighbour_at g.neighbours k d ≡ nobody) × (f ≡ fringe.Bare))
WhyBy c f g k d (AsHigh x) = On c × (Beyond f g k d x × (lt x (height_at g.cells k) ≡ false))
WhyBy c f g k d (Present x) = On c × (Beyond f g k d x × (lt x (height_at g.cells k) ≡ true))

abbrev pub Why : HeightMap → Grid → ℕ → ℕ → Wall → Type 0
Why job = WhyBy job.sides job.fringe

module _ (g : Grid) (k d : ℕ) where
  -- the wall's reason holds
  height-why : (o : ℕ) (f : Fringe) (x : Float) → Beyond f g k d x → WhyBy (option.With o) f g k d (against x (height_at g.cells k))
  height-why o f x b = go (lt x (height_at g.cells k)) refl
    where
      go : (t : Bool) → lt x (height_at g.cells k) ≡ t → WhyBy (option.With o) f g k d (cond t (Present x) (AsHigh x))
      go true e = (tt, (b, e))
      go false e = (tt, (b, e))

  edge-why : (o : ℕ) (f : Fringe) → neighbour_at g.neighbours k d ≡ nobody → WhyBy (option.With o) f g k d (edge_by f g k d)
  edge-why o fringe.Bare e = (tt, (e, refl))
  edge-why o fringe.Listed e = height-why o fringe.Listed (fringe_at g.fringe k d) (inr (e, refl))

  beside-why : (o : ℕ) (f : Fringe) → WhyBy (option.With o) f g k d (beside_by f g k d)
  beside-why o f = go (eqb n nobody) refl
    where
      n : ℕ
      n = neighbour_at g.neighbours k d

      go : (t : Bool) → eqb n nobody ≡ t → WhyBy (option.With o) f g k d (cond t (edge_by f g k d) (against (height_at g.cells n) (height_at g.cells k)))
      go true e = edge-why o f (eqb-true n nobody e)
      go false e = height-why o f (height_at g.cells n) (inl (eqb-false n nobody e, refl))

  wall-why : (c : Choice) (f : Fringe) → WhyBy c f g k d (wall_by c f g k d)
  wall-why option.Absent f = refl
  wall-why (option.With o) f = beside-why o f

  -- and no other does
  edge-wall : (f : Fringe) (x : Float) → BeyondEdge f g k d x → against x (height_at g.cells k) ≡ edge_by f g k d
  edge-wall fringe.Bare x b = absurd b
  edge-wall fringe.Listed x b = ap (λ (y : Float). against y (height_at g.cells k)) b

  beyond-wall : (f : Fringe) (x : Float) → Beyond f g k d x → against x (height_at g.cells k) ≡ beside_by f g k d
  beyond-wall f x (inl b) = rw (ne_eqb (neighbour_at g.neighbours k d) nobody b.0) (ap (λ (y : Float). against y (height_at g.cells k)) b.1)
  beyond-wall f x (inr b) = rw (eq-eqb (neighbour_at g.neighbours k d) nobody b.0) (edge-wall f x b.1)

  only-wall : (c : Choice) (f : Fringe) (w : Wall) → WhyBy c f g k d w → w ≡ wall_by c f g k d
  only-wall option.Absent f SidesOff h = refl
  only-wall (option.With o) f SidesOff h = absurd (let z : ◌≡◌ {A = ℕ} 0 1 = cc in omega arith)
  only-wall option.Absent f NothingBeyond h = absurd h.0
  only-wall (option.With o) f NothingBeyond h = rw (eq-eqb (neighbour_at g.neighbours k d) nobody h.1.0, h.1.1)
  only-wall option.Absent f (AsHigh x) h = absurd h.0
  only-wall (option.With o) f (AsHigh x) h = (rw h.1.1) ∙ beyond-wall f x h.1.0
  only-wall option.Absent f (Present x) h = absurd h.0
  only-wall (option.With o) f (Present x) h = (rw h.1.1) ∙ beyond-wall f x h.1.0

module _ (job : HeightMap) (g : Grid) (k d : ℕ) where
  pub why : Why job g k d (wall job g k d)
  why = wall-why g k d job.sides job.fringe

  pub only-why : (w : Wall) → Why job g k d w → w ≡ wall job g k d
  only-why = only-wall g k d job.sides job.fringe

  -- B13
  pub side-there : Lower job g k d → present (wall job g k d) ≡ true
  side-there l = rw (← only-why (Present l.height) (l.on, (l.beyond, l.below)))

  pub there-why : present (wall job g k d) ≡ true → Lower job g k d
  there-why e = go (wall job g k d) why e
    where
      go : (w : Wall) → Why job g k d w → present w ≡ true → Lower job g k d
      go SidesOff h p = absurd (let z : ◌≡◌ {A = ℕ} 0 1 = cc in omega arith)
      go NothingBeyond h p = absurd (let z : ◌≡◌ {A = ℕ} 0 1 = cc in omega arith)
      go (AsHigh x) h p = absurd (let z : ◌≡◌ {A = ℕ} 0 1 = cc in omega arith)
      go (Present x) h p = record { on = h.0; height = x; beyond = h.1.0; below = h.1.1 }
