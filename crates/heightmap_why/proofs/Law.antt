-- L3e to L3g: of the four reasons the first that holds is told, and no other; a wall is told to be there exactly where it
-- is lower beyond; a face and its number name each other. Assumes nothing.
use mathlib.Core.Path.{◌≡◌, refl, sym, ap, subst, ◌∙◌}
use mathlib.Core.Logic.{◌⊎◌, ⊎_elim, inl, inr}
use mathlib.Core.Bool.{true}
use Prim.Native.Nat.{ℕ, ◌<◌, ◌≤◌}
use native.Mathlib.Omega.{arith}
use Rattle.placement.specs.declared.options.Choice.{Choice}
use Rattle.placement.specs.declared.options.Choice.TheVariants as option
use Rattle.buffers.proofs.Named.{Stands, stands-name, stands-below}
use Rattle.heightmap.specs.declared.Wall.{Wall}
use Rattle.heightmap.specs.declared.Wall.TheVariants as wall
use Rattle.heightmap.specs.declared.Name.{Name}
use Rattle.heightmap.specs.declared.Name.TheVariants.{Cap, Side}
use Rattle.heightmap.specs.declared.HeightMap.{HeightMap}
use Rattle.heightmap.specs.Grid.{Grid, wall, present, On, Lower}
use Rattle.heightmap.specs.HeightMap.{map_names}
use Rattle.heightmap.specs.Names.{number_of, There, NamedAt, Has}
use Rattle.heightmap.proofs.Walls.{Why, why, only-why, side-there, there-why}
use Rattle.heightmap.proofs.Numbering.{stands-cap, stands-side, number-named, name-has}
use Rattle.heightmap_why.specs.declared.Reason.{Reason}
use Rattle.heightmap_why.specs.declared.Reason.TheVariants.{SidesOff, NothingBeyond, AsHigh, Present}
use Rattle.heightmap_why.specs.Why.{reason_by, reason_of, reason_code}
use Rattle.heightmap_why.specs.Law.{Says, First}

-- ---- L3g: a face and its number
module _ (job : HeightMap) (g : Grid) where
  has-stands : (n : Name) → Has job g n → Stands (map_names job g) (number_of job g n) n
  has-stands (Side k d) h = stands-side job g k d h.0.0 h.0.1 (side-there job g k d h.1)
  has-stands (Cap k) h = go job.caps refl h.1
    where
      go : (c : Choice) → job.caps ≡ c → On c → Stands (map_names job g) (number_of job g (Cap k)) (Cap k)
      go option.Absent e o = absurd o
      go (option.With x) e o = stands-cap job g k x h.0 e

  -- a face that the map has is found at its number
  pub has_named : (n : Name) → Has job g n → NamedAt job g (number_of job g n) n
  has_named n h = let s = has-stands n h in (stands-below (map_names job g) (number_of job g n) n s, stands-name (map_names job g) (number_of job g n) n (Cap 0) s)

  -- what is found at a number is a face that the map has, and the number is that face's
  pub named-has : {i : ℕ} (n : Name) → NamedAt job g i n → Has job g n × (number_of job g n ≡ i)
  named-has {i} n h =
      (subst (Has job g) h.1 (name-has job g i h.0), ap (number_of job g) (sym h.1) ∙ number-named job g i h.0)

  -- no face has two numbers
  pub only-number : {i j : ℕ} {n : Name} → NamedAt job g i n → NamedAt job g j n → i ≡ j
  only-number {i} {j} {n} h l = sym (named-has n h).1 ∙ (named-has n l).1

-- ---- L3e: the reason of a side
off-or-on : (c : Choice) → (c ≡ option.Absent) ⊎ On c
off-or-on option.Absent = inl refl
off-or-on (option.With o) = inr tt

from_one : (r : Reason) → 1 ≤ reason_code r
from_one SidesOff = omega arith
from_one NothingBeyond = omega arith
from_one (AsHigh x) = omega arith
from_one (Present i) = omega arith

module _ (job : HeightMap) (g : Grid) (k d : ℕ) where
  wall-told : (w : Wall) → Why job g k d w → reason_by w (number_of job g (Side k d)) ≡ reason_of job g k d
  wall-told w h = ap (λ (x : Wall). reason_by x (number_of job g (Side k d))) (only-why job g k d w h)

  present-so : {i : ℕ} → reason_of job g k d ≡ Present i → (present (wall job g k d) ≡ true) × (number_of job g (Side k d) ≡ i)
  present-so {i} e = go (wall job g k d) e
    where
      go : (w : Wall) → reason_by w (number_of job g (Side k d)) ≡ Present i → (present w ≡ true) × (number_of job g (Side k d) ≡ i)
      go wall.SidesOff p = absurd (let z : ◌≡◌ {A = ℕ} 0 1 = cc in omega arith)
      go wall.NothingBeyond p = absurd (let z : ◌≡◌ {A = ℕ} 0 1 = cc in omega arith)
      go (wall.AsHigh x) p = absurd (let z : ◌≡◌ {A = ℕ} 0 1 = cc in omega arith)
      go (wall.Present x) p = (refl, cc)

  -- a wall is told to be there only where it is lower beyond
  pub present-lower : {i : ℕ} → reason_of job g k d ≡ Present i → Lower job g k d
  present-lower e = there-why job g k d (present-so e).0

  -- where it is lower beyond, the wall is told to be there, by its face number
  pub lower-present : Lower job g k d → reason_of job g k d ≡ Present (number_of job g (Side k d))
  lower-present l = sym (wall-told (wall.Present l.height) (l.on, (l.beyond, l.below)))

  -- the face number that is told with a wall is that of the wall
  pub present-named : {i : ℕ} → There g k d → reason_of job g k d ≡ Present i → NamedAt job g i (Side k d)
  present-named t e = subst (λ (j : ℕ). NamedAt job g j (Side k d)) (present-so e).1 (has_named job g (Side k d) (t, present-lower e))

  -- a side that has a number is told to be there, by that number
  pub named-present : {i : ℕ} → NamedAt job g i (Side k d) → There g k d × (reason_of job g k d ≡ Present i)
  named-present h = let x = named-has job g (Side k d) h in (x.0.0, lower-present x.0.1 ∙ ap Present x.1)

  -- ---- the four in their order
  off-told : job.sides ≡ option.Absent → SidesOff ≡ reason_of job g k d
  off-told e = wall-told wall.SidesOff e

  -- with sides on, a reason that holds is the one that is told
  on-told : On job.sides → (r : Reason) → Says job g k d r → r ≡ reason_of job g k d
  on-told o SidesOff h = absurd (subst (λ (c : Choice). On c) h o)
  on-told o NothingBeyond h = wall-told wall.NothingBeyond (o, h)
  on-told o (AsHigh x) h = wall-told (wall.AsHigh x) (o, h)
  on-told o (Present i) h = sym (named-present h).1

  says_so : There g k d → Says job g k d (reason_of job g k d)
  says_so t = go (wall job g k d) refl (why job g k d)
    where
      go : (w : Wall) → wall job g k d ≡ w → Why job g k d w → Says job g k d (reason_by w (number_of job g (Side k d)))
      go wall.SidesOff e h = h
      go wall.NothingBeyond e h = h.1
      go (wall.AsHigh x) e h = h.1
      go (wall.Present x) e h = present-named t (ap (λ (y : Wall). reason_by y (number_of job g (Side k d))) e)

  -- the reason that is told holds, and none before it does
  pub reason-first : There g k d → First job g k d (reason_of job g k d)
  reason-first t = record { says = says_so t; first = λ s l h. ⊎_elim (off s l) (on s l h) (off-or-on job.sides) }
    where
      off : (s : Reason) → reason_code s < reason_code (reason_of job g k d) → job.sides ≡ option.Absent → ⊥
      off s l e = let c = ap reason_code (off-told e) in omega (arith, l, c, from_one s)

      on : (s : Reason) → reason_code s < reason_code (reason_of job g k d) → Says job g k d s → On job.sides → ⊥
      on s l h o = let c = ap reason_code (on-told o s h) in omega (arith, l, c)

  -- a reason that holds where none before it does is the one that is told
  pub only-first : (r : Reason) → First job g k d r → r ≡ reason_of job g k d
  only-first r f = ⊎_elim (λ e. off e r f) (λ o. on-told o r f.says) (off-or-on job.sides)
    where
      off : job.sides ≡ option.Absent → (s : Reason) → First job g k d s → s ≡ reason_of job g k d
      off e SidesOff h = off-told e
      off e NothingBeyond h = absurd (h.first SidesOff (omega arith) e)
      off e (AsHigh x) h = absurd (h.first SidesOff (omega arith) e)
      off e (Present i) h = absurd (h.first SidesOff (omega arith) e)
