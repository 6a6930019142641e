-- A walk over the cells of a map: what it counts, how great that can be, and which cell it finds. Assumes nothing.
use mathlib.Core.Path.{◌≡◌, refl, sym, ap, ap₂, subst, ◌∙◌}
use mathlib.Core.Bool.{Bool, true, false, cond}
use mathlib.Core.List.{[], ◌∷◌}
use Prim.Native.Nat.{ℕ, zero, suc, ◌+◌, ◌*◌, ◌≤◌}
use native.Mathlib.Nat.{add-mul, mul-le-mul}
use native.Mathlib.Omega.{arith}
use mir.Val.{bool_byte}
use lib.Ieee.{Float, lt}
use lib.ListN.{length, length-append}
use Rattle.face.specs.declared.inset.Inset.{Inset}
use Rattle.face.specs.declared.triangle.Counts.{Counts}
use Rattle.face.specs.Lists.{chain}
use Rattle.face.specs.Triangles.{counts, inset_counts, quad_triangles, hexagon_triangles}
use Rattle.placement.specs.declared.options.Choice.{Choice}
use Rattle.placement.specs.declared.options.Choice.TheVariants as option
use Rattle.buffers.specs.Mesh.{none, also, summed}
use Rattle.buffers.proofs.Faces.{counted}
use Rattle.heightmap.specs.declared.Fringe.{Fringe}
use Rattle.heightmap.specs.declared.Fringe.TheVariants as fringe
use Rattle.heightmap.specs.declared.Customs.TheVariants as customs
use Rattle.heightmap.specs.declared.HeightMap.{HeightMap}
use Rattle.heightmap.specs.declared.Name.TheVariants.{Cap, Side}
use Rattle.heightmap_plan.specs.declared.tally.Goal.{Goal}
use Rattle.heightmap_plan.specs.declared.tally.Tally.{Tally}
use Rattle.heightmap_plan.specs.declared.tally.Walk.{Walk}
use Rattle.heightmap.specs.Grid.{Grid, cells_in, height_at, fringe_at, against, edge_by, wall_by, wall, present}
use Rattle.heightmap.specs.HeightMap.{Lists, cap_names, side_names, cell_names, map_names, option_of}
use Rattle.heightmap.specs.Counts.{size_by, if_on, cap_counts, side_counts, map_counts}
use Rattle.heightmap_plan.specs.Walking.{Walls, tally_by, both, cap_tally, side_tally, sides_tally, cell_tally, tally_to, up_to, marked, walked, one_if, edge_stands, walls_to, caps_in, marked_walls, walked_walls, many, own_cap, own_wall, own_tally, own_walk}

-- ---- at most so many faces, each with at most 50 vertices and 50 indices
pub record Small (m : ℕ) (t : Tally) : Type 0 where
  pub faces : t.faces ≤ m
  pub vertices : t.counts.vertices.0 ≤ 50 * m
  pub indices : t.counts.indices.0 ≤ 50 * m

small-none : Small 0 (tally_by 0 none)
small-none = record { faces = omega arith; vertices = omega arith; indices = omega arith }

small-more : {t : Tally} (m : ℕ) → Small m t → Small (suc m) t
small-more m s = record { faces = omega arith; vertices = omega arith; indices = omega arith }

small-both : {m n : ℕ} {s t : Tally} → Small m s → Small n t → Small (m + n) (both s t)
small-both p q = record { faces = omega arith; vertices = omega arith; indices = omega arith }

pub quad-few : (how : Inset) → ((inset_counts how 4 2).vertices.0 ≤ 50) × ((inset_counts how 4 2).indices.0 ≤ 50)
quad-few how = let k = counted how 4 quad_triangles in (omega (arith, k.few), omega (arith, k.most))

pub hexagon-few : (how : Inset) → ((inset_counts how 6 4).vertices.0 ≤ 50) × ((inset_counts how 6 4).indices.0 ≤ 50)
hexagon-few how = let k = counted how 6 hexagon_triangles in (omega (arith, k.few), omega (arith, k.most))

module _ (job : HeightMap) (ls : Lists) where
  pub side-small : (k d : ℕ) → Small 1 (side_tally job ls k d)
  side-small k d = go (present (wall job ls.grid k d))
    where
      go : (b : Bool) → Small 1 (tally_by (length (cond b (Side k d ∷ []) [])) (cond b (size_by job ls (Side k d)) none))
      go true = let q = quad-few (option_of job ls (Side k d)).inset in record { faces = omega arith; vertices = omega (arith, q.0); indices = omega (arith, q.1) }
      go false = small-more 0 small-none

  pub cap-small : (k : ℕ) → Small 1 (cap_tally job ls k)
  cap-small k = go job.caps
    where
      go : (c : Choice) → Small 1 (tally_by (length (cap_names c k)) (if_on c (size_by job ls (Cap k))))
      go option.Absent = small-more 0 small-none
      go (option.With o) = let q = hexagon-few (option_of job ls (Cap k)).inset in record { faces = omega arith; vertices = omega (arith, q.0); indices = omega (arith, q.1) }

  -- one side more, the cap before them, and one cell more
  pub sides-more : (k d : ℕ) → both (sides_tally job ls k d) (side_tally job ls k d) ≡ sides_tally job ls k (suc d)
  sides-more k d = ap (λ (n : ℕ). tally_by n (summed (side_counts job ls k) (suc d))) (sym (length-append (chain (side_names job ls.grid k) d) (side_names job ls.grid k d)))

  pub cell-whole : (k : ℕ) → both (cap_tally job ls k) (sides_tally job ls k 6) ≡ cell_tally job ls k
  cell-whole k = ap (λ (n : ℕ). tally_by n (also (cap_counts job ls k) (summed (side_counts job ls k) 6))) (sym (length-append (cap_names job.caps k) (chain (side_names job ls.grid k) 6)))

  pub cells-more : (k : ℕ) → both (tally_to job ls k) (cell_tally job ls k) ≡ tally_to job ls (suc k)
  cells-more k = ap (λ (n : ℕ). tally_by n (tally_to job ls (suc k)).counts) (sym (length-append (chain (cell_names job ls.grid) k) (cell_names job ls.grid k)))

  pub sides-small : (k d : ℕ) → Small d (sides_tally job ls k d)
  sides-small k zero = small-none
  sides-small k (suc d) = rw (← sides-more k d) (let s = small-both (sides-small k d) (side-small k d) in record { faces = omega arith; vertices = omega arith; indices = omega arith })

  pub cell-small : (k : ℕ) → Small 7 (cell_tally job ls k)
  cell-small k = rw (← cell-whole k) (small-both (cap-small k) (sides-small k 6))

  pub cells-small : (k : ℕ) → Small (7 * k) (tally_to job ls k)
  cells-small zero = small-none
  cells-small (suc k) = rw (← cells-more k) (let s = small-both (cells-small k) (cell-small k) in record { faces = omega arith; vertices = omega arith; indices = omega arith })

-- ---- what the walk has counted
pub marked_all : (w : Walk Tally) (k : ℕ) (goal : Goal) → (marked w k goal).all ≡ w.all
marked_all w k goal = go (up_to goal k w.all.faces)
  where
    go : (b : Bool) → (cond b (record { all = w.all; cell = k; before = w.all }) w).all ≡ w.all
    go true = refl
    go false = refl

module _ (job : HeightMap) (ls : Lists) (goal : Goal) where
  pub walked_all : (k : ℕ) → (walked job ls goal k).all ≡ tally_to job ls k
  walked_all zero = refl
  walked_all (suc k) = ap (λ (t : Tally). both t (cell_tally job ls k)) (marked_all (walked job ls goal k) k goal ∙ walked_all k) ∙ cells-more job ls k

  pub walk-small : (k : ℕ) (w m : Walk Tally) → w ≡ walked job ls goal k → m ≡ marked w k goal → Small (7 * k) m.all
  walk-small k w m p q =
      subst (λ (t : Tally). Small (7 * k) t)
      (sym (ap (λ (v : Walk Tally). v.all) q ∙ marked_all w k goal ∙ ap (λ (v : Walk Tally). v.all) p ∙ walked_all k))
      (cells-small job ls k)

-- ---- the walls alone
pub byte-is : (b : Bool) → bool_byte b ≡ one_if b
byte-is true = refl
byte-is false = refl

pub walls-most : (s : Choice) (how : Fringe) (g : Grid) (k d : ℕ) → walls_to s how g k d ≤ d
walls-most s how g k zero = omega arith
walls-most s how g k (suc d) = go (present (wall_by s how g k d)) (walls-most s how g k d)
  where
    go : (b : Bool) → walls_to s how g k d ≤ d → walls_to s how g k d + one_if b ≤ suc d
    go true h = omega arith
    go false h = omega arith

pub no-walls : (how : Fringe) (g : Grid) (k d : ℕ) → walls_to option.Absent how g k d ≡ 0
no-walls how g k zero = refl
no-walls how g k (suc d) = omega (arith, no-walls how g k d)

pub against-stands : (beyond own : Float) → present (against beyond own) ≡ lt beyond own
against-stands beyond own = go (lt beyond own) refl
  where
    go : (b : Bool) → lt beyond own ≡ b → present (against beyond own) ≡ b
    go true e = rw e
    go false e = rw e

pub edge-stands : (f : Fringe) (g : Grid) (k d : ℕ) → present (edge_by f g k d) ≡ edge_stands f g.fringe (6 * k + d) (height_at g.cells k)
edge-stands fringe.Bare g k d = refl
edge-stands fringe.Listed g k d = against-stands (fringe_at g.fringe k d) (height_at g.cells k)

pub record FewWalls (k : ℕ) (w : Walls) : Type 0 where
  pub all : w.all ≤ 6 * k
  pub cell : w.cell ≤ k
  pub before : w.before ≤ 6 * k

pub marked-few : (c : Choice) (w : Walls) (k : ℕ) (goal : Goal) → FewWalls k w → FewWalls k (marked_walls c w k goal)
marked-few c w k goal h = go (up_to goal k (caps_in c k + w.all))
  where
    go : (b : Bool) → FewWalls k (cond b (record { all = w.all; cell = k; before = w.all }) w)
    go true = record { all = h.all; cell = omega arith; before = h.all }
    go false = h

pub walls-few : (c s : Choice) (how : Fringe) (g : Grid) (goal : Goal) (k : ℕ) → FewWalls k (walked_walls c s how g goal k)
walls-few c s how g goal zero = record { all = omega arith; cell = omega arith; before = omega arith }
walls-few c s how g goal (suc k) =
    let h = marked-few c (walked_walls c s how g goal k) k goal (walls-few c s how g goal k) in
    let m = walls-most s how g k 6 in
    record { all = omega arith; cell = omega arith; before = omega arith }

pub side-length : (job : HeightMap) (g : Grid) (k d : ℕ) → length (chain (side_names job g k) d) ≡ walls_to job.sides job.fringe g k d
side-length job g k zero = refl
side-length job g k (suc d) = length-append (chain (side_names job g k) d) (side_names job g k d) ∙ ap₂ ◌+◌ (side-length job g k d) (go (present (wall job g k d)))
  where
    go : (b : Bool) → length (cond b (Side k d ∷ []) []) ≡ one_if b
    go true = refl
    go false = refl

pub caps-more : (c : Choice) (k : ℕ) → caps_in c (suc k) ≡ caps_in c k + length (cap_names c k)
caps-more option.Absent k = refl
caps-more (option.With o) k = omega arith

no-caps : (c : Choice) → caps_in c 0 ≡ 0
no-caps option.Absent = refl
no-caps (option.With o) = refl

pub caps-most : (c : Choice) (k : ℕ) → caps_in c k ≤ k
caps-most option.Absent k = omega arith
caps-most (option.With o) k = omega arith

pub caps-few : (c : Choice) (k r : ℕ) → r ≡ caps_in c k → r ≤ k
caps-few c k r e = omega (arith, e, caps-most c k)

pub faces-by-walls : (job : HeightMap) (g : Grid) (k : ℕ) → length (cell_names job g k) ≡ length (cap_names job.caps k) + walls_to job.sides job.fringe g k 6
faces-by-walls job g k = length-append (cap_names job.caps k) (chain (side_names job g k) 6) ∙ ap (λ (n : ℕ). length (cap_names job.caps k) + n) (side-length job g k 6)

-- so many of one size, and so many more; of two sizes
many_more : (m n l o : ℕ) (x y : Counts) → also (also (many m x) (many n y)) (also (many l x) (many o y)) ≡ also (many (m + l) x) (many (n + o) y)
many_more m n l o x y = ap₂ counts (at x.vertices.0 y.vertices.0) (at x.indices.0 y.indices.0)
  where
    at : (v w : ℕ) → (m * v + n * w) + (l * v + o * w) ≡ (m + l) * v + (n + o) * w
    at v w = omega (arith, add-mul m l v, add-mul n o w)

-- ---- with no option of its own for any face
module _ (job : HeightMap) (ls : Lists) (e : job.customs ≡ customs.Absent) where
  own-side : (k d : ℕ) → side_counts job ls k d ≡ many (one_if (present (wall job ls.grid k d))) (own_wall job ls)
  own-side k d = go (present (wall job ls.grid k d))
    where
      go : (b : Bool) → cond b (size_by job ls (Side k d)) none ≡ many (one_if b) (own_wall job ls)
      go true = rw e (ap₂ counts (omega arith) (omega arith))
      go false = ap₂ counts (omega arith) (omega arith)

  own-sides : (k d : ℕ) → summed (side_counts job ls k) d ≡ many (walls_to job.sides job.fringe ls.grid k d) (own_wall job ls)
  own-sides k zero = ap₂ counts (omega arith) (omega arith)
  own-sides k (suc d) =
      let w = walls_to job.sides job.fringe ls.grid k d in
      let o = one_if (present (wall job ls.grid k d)) in
      ap₂ also (own-sides k d) (own-side k d) ∙ ap₂ counts (sym (add-mul w o (own_wall job ls).vertices.0)) (sym (add-mul w o (own_wall job ls).indices.0))

  own-cap : (k : ℕ) → cap_counts job ls k ≡ many (length (cap_names job.caps k)) (own_cap job ls)
  own-cap k = go job.caps
    where
      go : (c : Choice) → if_on c (size_by job ls (Cap k)) ≡ many (length (cap_names c k)) (own_cap job ls)
      go option.Absent = ap₂ counts (omega arith) (omega arith)
      go (option.With o) = rw e (ap₂ counts (omega arith) (omega arith))

  own-cell : (k a : ℕ) → own_tally job ls (suc k) (a + walls_to job.sides job.fringe ls.grid k 6) ≡ both (own_tally job ls k a) (cell_tally job ls k)
  own-cell k a =
      let c = job.caps in
      let w = walls_to job.sides job.fringe ls.grid k 6 in
      let l = length (cap_names c k) in
      let f : caps_in c (suc k) + (a + w) ≡ (caps_in c k + a) + length (cell_names job ls.grid k) = omega (arith, caps-more c k, faces-by-walls job ls.grid k) in
      ap₂ tally_by f
      (ap (λ (m : ℕ). also (many m (own_cap job ls)) (many (a + w) (own_wall job ls))) (caps-more c k)
      ∙ sym (many_more (caps_in c k) a l w (own_cap job ls) (own_wall job ls))
      ∙ ap (also (own_tally job ls k a).counts) (ap₂ also (sym (own-cap k)) (sym (own-sides k 6))))

  own-none : own_tally job ls 0 0 ≡ tally_by 0 none
  own-none = rw (no-caps job.caps) (ap (tally_by 0) (ap₂ counts (omega arith) (omega arith)))

  pub own-walk : (goal : Goal) (k : ℕ) → own_walk job ls (walked_walls job.caps job.sides job.fringe ls.grid goal k) k ≡ walked job ls goal k
  own-walk goal zero = rw own-none
  own-walk goal (suc k) = go (up_to goal k (caps_in job.caps k + w.all)) ∙ ap (λ (v : Walk Tally). grown_by (marked v k goal)) (own-walk goal k)
    where
      w : Walls
      w = walked_walls job.caps job.sides job.fringe ls.grid goal k

      grown_by : Walk Tally → Walk Tally
      grown_by v = record { all = both v.all (cell_tally job ls k); cell = v.cell; before = v.before }

      go : (b : Bool)
          → own_walk job ls (record { all = (cond b (record { all = w.all; cell = k; before = w.all }) w).all + walls_to job.sides job.fringe ls.grid k 6; cell = (cond b (record { all = w.all; cell = k; before = w.all }) w).cell; before = (cond b (record { all = w.all; cell = k; before = w.all }) w).before }) (suc k)
          ≡ grown_by (cond b (record { all = own_tally job ls k w.all; cell = k; before = own_tally job ls k w.all }) (own_walk job ls w k))
      go true = ap (λ (t : Tally). record { all = t; cell = k; before = own_tally job ls k w.all }) (own-cell k w.all)
      go false = ap (λ (t : Tally). record { all = t; cell = w.cell; before = own_tally job ls w.cell w.before }) (own-cell k w.all)

-- ---- in the words of the code
pub cap-on : (job : HeightMap) (ls : Lists) (k o : ℕ) → job.caps ≡ option.With o → cap_tally job ls k ≡ tally_by 1 (size_by job ls (Cap k))
cap-on job ls k o e = go job.caps e
  where
    go : (c : Choice) → c ≡ option.With o → tally_by (length (cap_names c k)) (if_on c (size_by job ls (Cap k))) ≡ tally_by 1 (size_by job ls (Cap k))
    go c p = rw p

pub many-few : (n : ℕ) (c : Counts) → n ≤ 393216 → (c.vertices.0 ≤ 50) × (c.indices.0 ≤ 50) → ((many n c).vertices.0 ≤ 19660800) × ((many n c).indices.0 ≤ 19660800)
many-few n c h q =
    let a : n * c.vertices.0 ≤ 393216 * 50 = mul-le-mul h q.0 in
    let b : n * c.indices.0 ≤ 393216 * 50 = mul-le-mul h q.1 in
    (omega arith, omega arith)

module _ (job : HeightMap) (ls : Lists) (goal : Goal) (n : ℕ) (w : Walk Tally) (e : w ≡ walked job ls goal n) where
  pub walk-counted : w.all ≡ tally_to job ls n
  walk-counted = ap (λ (v : Walk Tally). v.all) e ∙ walked_all job ls goal n

  -- all cells
  pub map-counted : n ≡ cells_in ls.grid.cells → w.all ≡ tally_by (length (map_names job ls.grid)) (map_counts job ls)
  unfolding map_names
  map-counted p = walk-counted ∙ ap (tally_to job ls) p
