-- The face of a number: in a cell, and in the map by the cell that a walk has found. Assumes nothing.
use mathlib.Core.Path.{◌≡◌, refl, sym, ap, ap₂, subst, ◌∙◌}
use mathlib.Core.Logic.{◌⊎◌, inl, inr}
use mathlib.Core.Bool.{Bool, true, false, ◌&&◌, cond}
use mathlib.Core.List.{[], ◌∷◌, ◌++◌, map}
use Prim.Native.Nat.{ℕ, zero, suc, ◌+◌, ◌*◌, ◌-◌, ◌<◌, ◌≤◌}
use native.Mathlib.Omega.{arith}
use borrow.Author.Tests.{leb-true, leb-false}
use lib.Dec.{leb, ltb}
use lib.ListN.{length, get_or, length-append, length-map, get_or-eq_default}
use lib.Seq.{take_all, get_or-append-add}
use Rattle.face.specs.declared.triangle.Counts.{Counts}
use Rattle.face.specs.Lists.{chain}
use Rattle.answer.specs.Checks.{cell_count}
use Rattle.placement.specs.declared.options.Choice.{Choice}
use Rattle.placement.specs.declared.options.Choice.TheVariants as option
use Rattle.buffers.specs.Mesh.{none, also, measure, start_of, summed}
use Rattle.buffers.proofs.Windows.{also-assoc, also-none}
use Rattle.buffers.proofs.Named.{chain-name, chain-start, start_right}
use Rattle.heightmap.specs.declared.Name.TheVariants.{Cap, Side}
use Rattle.heightmap.specs.declared.HeightMap.{HeightMap}
use Rattle.heightmap.specs.Grid.{Grid, cells_in, wall, present}
use Rattle.heightmap.specs.HeightMap.{Lists, cap_names, side_names, cell_names, map_names, mesh_of, map_faces}
use Rattle.heightmap.specs.Counts.{cap_counts, side_counts, cell_start}
use Rattle.heightmap.specs.Names.{name_at, start_by, faces_before, number_of}
use Rattle.heightmap.proofs.Counts.{cap-sum, sides-sum, cells-sum, map-counts}
use Rattle.heightmap_plan.specs.declared.tally.Goal.{Goal}
use Rattle.heightmap_plan.specs.declared.tally.Goal.TheVariants.{Face, Cell}
use Rattle.heightmap_plan.specs.declared.tally.Tally.{Tally}
use Rattle.heightmap_plan.specs.declared.tally.Walk.{Walk}
use Rattle.heightmap_plan.specs.Walking.{Walls, tally_to, tally_of, up_to, marked, walked, caps_in, marked_walls, walked_walls}
use Rattle.heightmap_plan.specs.Finding.{found_by, found_in, found_in_sides, found_in_cell, placed_by, placed_at}
use Rattle.heightmap_plan.proofs.Walking.{Small, cells-small, walked_all, walk-counted, map-counted, caps-more, faces-by-walls}

-- ---- how many faces lie before a cell, by its walls
marked-walls-all : (c : Choice) (w : Walls) (k : ℕ) (goal : Goal) → (marked_walls c w k goal).all ≡ w.all
marked-walls-all c w k goal = go (up_to goal k (caps_in c k + w.all))
  where
    go : (b : Bool) → (cond b (record { all = w.all; cell = k; before = w.all }) w).all ≡ w.all
    go true = refl
    go false = refl

no-caps : (c : Choice) → 0 ≡ caps_in c 0 + 0
no-caps option.Absent = refl
no-caps (option.With o) = refl

pub faces-walked : (job : HeightMap) (g : Grid) (goal : Goal) (k : ℕ) → faces_before job g k ≡ caps_in job.caps k + (walked_walls job.caps job.sides job.fringe g goal k).all
faces-walked job g goal zero = no-caps job.caps
faces-walked job g goal (suc k) =
    let w = walked_walls job.caps job.sides job.fringe g goal k in
    let a = length-append (chain (cell_names job g) k) (cell_names job g k) in
    let b = marked-walls-all job.caps w k goal in
    let e = faces-walked job g goal k in
    let f = faces-by-walls job g k in
    let h = caps-more job.caps k in
    omega arith

pub cap-length : (c : Choice) (k : ℕ) → caps_in c 1 ≡ length (cap_names c k)
cap-length option.Absent k = refl
cap-length (option.With o) k = refl

pub map-faces : (job : HeightMap) (g : Grid) (n : ℕ) → n ≡ cells_in g.cells → faces_before job g n ≡ length (map_names job g)
unfolding map_names
map-faces job g n e = ap (faces_before job g) e

-- ---- in a cell
module _ (job : HeightMap) (ls : Lists) (k : ℕ) where
  only-name : (d t : ℕ) (b : Bool) → t < length (cond b (Side k d ∷ []) []) → get_or (cond b (Side k d ∷ []) []) t (Cap 0) ≡ Side k d
  only-name d zero true h = refl
  only-name d (suc t) true h = absurd (let g : suc t < 1 = h in omega arith)
  only-name d t false h = absurd (let g : t < 0 = h in omega arith)

  only-start : (d t : ℕ) (b : Bool) → t < length (cond b (Side k d ∷ []) []) → start_of (map (mesh_of job ls) (cond b (Side k d ∷ []) [])) t ≡ none
  only-start d zero true h = refl
  only-start d (suc t) true h = absurd (let g : suc t < 1 = h in omega arith)
  only-start d t false h = absurd (let g : t < 0 = h in omega arith)

  -- a side, after those before it
  pub side-found : (d t left : ℕ) (from at : Counts) → d < 6 → t < length (side_names job ls.grid k d) → left ≡ length (chain (side_names job ls.grid k) d) + t
      → at ≡ also from (summed (side_counts job ls k) d) → found_by (Side k d) at ≡ found_in_sides job ls k left from
  side-found d t left from at h l e p =
      let s = side_names job ls.grid k in
      let b = present (wall job ls.grid k d) in
      let name : get_or (chain s 6) (length (chain s d) + t) (Cap 0) ≡ Side k d = chain-name s 6 d t (Cap 0) h l ∙ only-name d t b l in
      let start : start_of (map (mesh_of job ls) (chain s 6)) (length (chain s d) + t) ≡ summed (side_counts job ls k) d =
      chain-start (mesh_of job ls) s 6 d t h l ∙ ap₂ also (sides-sum job ls k d) (only-start d t b l) ∙ also-none (summed (side_counts job ls k) d) in
      ap₂ found_by (sym name) (p ∙ ap (also from) (sym start)) ∙ ap (λ (i : ℕ). found_in_sides job ls k i from) (sym e)

  -- the cap, where there is one
  pub cap-found : (left : ℕ) (from : Counts) → left < length (cap_names job.caps k) → found_by (Cap k) from ≡ found_in_cell job ls k left from
  cap-found left from h = go job.caps left h
    where
      go : (c : Choice) (i : ℕ) → i < length (cap_names c k) → found_by (Cap k) from ≡ found_in job ls (cap_names c k ++ chain (side_names job ls.grid k) 6) i from
      go option.Absent i l = absurd (let g : i < 0 = l in omega arith)
      go (option.With o) zero l = ap (found_by (Cap k)) (sym (also-none from))
      go (option.With o) (suc i) l = absurd (let g : suc i < 1 = l in omega arith)

  -- a side, after the cap
  pub cell-found : (left i : ℕ) (from : Counts) → left ≡ length (cap_names job.caps k) + i → found_in_sides job ls k i (also from (cap_counts job ls k)) ≡ found_in_cell job ls k left from
  cell-found left i from e =
      let c = cap_names job.caps k in
      let s = chain (side_names job ls.grid k) 6 in
      let f = mesh_of job ls in
      ap₂ found_by
      (sym (get_or-append-add c s i (Cap 0)))
      (also-assoc from (cap_counts job ls k) (start_of (map f s) i)
      ∙ ap (also from) (ap (λ (x : Counts). also x (start_of (map f s) i)) (sym (cap-sum job ls k)) ∙ sym (start_right f c s i)))
      ∙ ap (λ (j : ℕ). found_in_cell job ls k j from) (sym e)

-- ---- what lies before a cell that is looked for by its own number
module _ (job : HeightMap) (ls : Lists) (c : ℕ) where
  cell-before : (n : ℕ) → c < n → (walked job ls (Cell c) n).before ≡ tally_to job ls c
  cell-before zero h = absurd (let u : c < 0 = h in omega arith)
  cell-before (suc n) h = go (leb n c) refl (cell-before n)
    where
      w : Walk Tally
      w = walked job ls (Cell c) n

      go : (b : Bool) → leb n c ≡ b → (c < n → w.before ≡ tally_to job ls c) → (cond b (record { all = w.all; cell = n; before = w.all }) w).before ≡ tally_to job ls c
      go true e earlier = let u = leb-true n c e in let s : n ≡ c = omega arith in walked_all job ls (Cell c) n ∙ ap (tally_to job ls) s
      go false e earlier = earlier (leb-false n c e)

  pub side_before : (n : ℕ) (w : Walk Tally) → w ≡ walked job ls (Cell c) n → c < n → n ≤ 65536
      → ((c ≤ 65536) × (w.before.faces ≤ 458752)) × (w.before.faces ≡ faces_before job ls.grid c)
  side_before n w e h m =
      let f : w.before.faces ≡ faces_before job ls.grid c = ap (λ (v : Walk Tally). v.before.faces) e ∙ ap (λ (t : Tally). t.faces) (cell-before n h) in
      let s = cells-small job ls c in
      ((omega arith, omega (arith, s.faces)), f)

  pub all-walked : (n : ℕ) (w : Walk Tally) → w ≡ walked job ls (Cell c) n → n ≡ cells_in ls.grid.cells → cell_count (cells_in ls.grid.cells) ≡ true → w.all ≡ tally_of job ls
  all-walked n w e p f = map-counted job ls (Cell c) n w e p ∙ sym (rw f)

-- the number of a side, of a cell that is there and of one that is not
module _ (job : HeightMap) (ls : Lists) (k d : ℕ) (t : Tally) (e : t ≡ tally_of job ls) where
  pub side-placed : (m : ℕ) → cell_count (cells_in ls.grid.cells) ≡ true → ltb k (cells_in ls.grid.cells) ≡ true → m ≡ number_of job ls.grid (Side k d)
      → placed_by t m ≡ placed_at job ls k d
  side-placed m f h p = ap₂ placed_by e (p ∙ sym (rw (f, h)))

  pub no_cell_lem : ltb k (cells_in ls.grid.cells) ≡ false → placed_by t 0 ≡ placed_at job ls k d
  no_cell_lem h = ap₂ placed_by e (go (cell_count (cells_in ls.grid.cells)))
    where
      go : (b : Bool) → 0 ≡ cond (b && ltb k (cells_in ls.grid.cells)) (number_of job ls.grid (Side k d)) 0
      go true = rw h
      go false = refl

  pub too_many : cell_count (cells_in ls.grid.cells) ≡ false → placed_by t 0 ≡ placed_at job ls k d
  too_many f = ap₂ placed_by e (rw f)

-- ---- in the map: the cell of the face that the walk has found
pub record Located (job : HeightMap) (ls : Lists) (i k : ℕ) (w : Walk Tally) : Type 0 where
  pub before : w.before ≡ tally_to job ls w.cell
  pub low : faces_before job ls.grid w.cell ≤ i
  pub within : w.cell ≤ k
  pub high : (k ≤ suc w.cell) ⊎ (i < faces_before job ls.grid (suc w.cell))

module _ (job : HeightMap) (ls : Lists) (i : ℕ) where
  mark-located : (k : ℕ) (w : Walk Tally) → w.all ≡ tally_to job ls k → Located job ls i k w → Located job ls i (suc k) (marked w k (Face i))
  mark-located k w a h = go (leb w.all.faces i) refl
    where
      same : w.all.faces ≡ faces_before job ls.grid k
      same = ap (λ (t : Tally). t.faces) a

      reach : (i < faces_before job ls.grid k) → (k ≤ suc w.cell) ⊎ (i < faces_before job ls.grid (suc w.cell)) → (suc k ≤ suc w.cell) ⊎ (i < faces_before job ls.grid (suc w.cell))
      reach l (inr r) = inr r
      reach l (inl r) = end (last w.cell k h.within r)
        where
          last : (c m : ℕ) → c ≤ m → m ≤ suc c → (m ≡ c) ⊎ (m ≡ suc c)
          last c m p q = split (leb m c) refl
            where
              split : (b : Bool) → leb m c ≡ b → (m ≡ c) ⊎ (m ≡ suc c)
              split true e = inl (let u = leb-true m c e in omega arith)
              split false e = inr (let u = leb-false m c e in omega arith)

          end : (k ≡ w.cell) ⊎ (k ≡ suc w.cell) → (suc k ≤ suc w.cell) ⊎ (i < faces_before job ls.grid (suc w.cell))
          end (inl e) = inl (omega arith)
          end (inr e) = inr (subst (λ (m : ℕ). i < faces_before job ls.grid m) e l)

      go : (b : Bool) → leb w.all.faces i ≡ b → Located job ls i (suc k) (cond b (record { all = w.all; cell = k; before = w.all }) w)
      go true e = record { before = a; low = (let u = leb-true w.all.faces i e in omega (arith, same)); within = omega arith; high = inl (omega arith) }
      go false e = record { before = h.before; low = h.low; within = (let u = h.within in omega arith); high = reach (let u = leb-false w.all.faces i e in omega (arith, same)) h.high }

  pub located : (k : ℕ) → Located job ls i k (walked job ls (Face i) k)
  located zero = record { before = refl; low = omega arith; within = omega arith; high = inl (omega arith) }
  located (suc k) =
      let h = mark-located k (walked job ls (Face i) k) (walked_all job ls (Face i) k) (located k) in
      record { before = h.before; low = h.low; within = h.within; high = h.high }

module _ (job : HeightMap) (ls : Lists) (i n : ℕ) (w : Walk Tally) (e : w ≡ walked job ls (Face i) n) (p : n ≡ cells_in ls.grid.cells) where
  here : Located job ls i n w
  here = subst (λ (v : Walk Tally). Located job ls i n v) (sym e) (located job ls i n)

  all-faces : w.all.faces ≡ faces_before job ls.grid n
  all-faces = ap (λ (t : Tally). t.faces) (walk-counted job ls (Face i) n w e)

  before-faces : w.before.faces ≡ faces_before job ls.grid w.cell
  before-faces = ap (λ (t : Tally). t.faces) here.before

  before-counts : w.before.counts ≡ cell_start job ls w.cell
  before-counts = ap (λ (t : Tally). t.counts) here.before

  pub not-before : w.before.faces ≤ i
  not-before = let u = here.low in omega (arith, before-faces)

  pub before_small : n ≤ 65536 → (w.before.counts.vertices.0 ≤ 22937600) × (w.before.counts.indices.0 ≤ 22937600)
  before_small h =
      let s : Small (7 * w.cell) w.before = subst (λ (t : Tally). Small (7 * w.cell) t) (sym here.before) (cells-small job ls w.cell) in
      let u = here.within in
      (omega arith, omega arith)

  -- no such face
  pub none_found : w.all.faces ≤ i → found_by (Cap 0) w.all.counts ≡ found_by (name_at job ls.grid i) (start_by job ls i)
  none_found h =
      let all = map-counted job ls (Face i) n w e p in
      let m : length (map_names job ls.grid) ≤ i = omega (arith, ap (λ (t : Tally). t.faces) all) in
      ap₂ found_by
      (sym (get_or-eq_default (map_names job ls.grid) (Cap 0) m))
      (ap (λ (t : Tally). t.counts) all ∙ sym (map-counts job ls)
      ∙ ap measure (sym (take_all i (map_faces job ls) (let l = length-map (map_names job ls.grid) (mesh_of job ls) in omega arith))))

  module _ (h : i < w.all.faces) where
    in_cells : w.cell < n
    in_cells = go (leb n w.cell) refl
      where
        go : (b : Bool) → leb n w.cell ≡ b → w.cell < n
        go true q =
            let u = leb-true n w.cell q in
            let v = here.within in
            let x : w.cell ≡ n = omega arith in
            absurd (let l = subst (λ (m : ℕ). faces_before job ls.grid m ≤ i) x here.low in omega (arith, all-faces))
        go false q = leb-false n w.cell q

    after : i < faces_before job ls.grid (suc w.cell)
    after = go here.high
      where
        go : (n ≤ suc w.cell) ⊎ (i < faces_before job ls.grid (suc w.cell)) → i < faces_before job ls.grid (suc w.cell)
        go (inr r) = r
        go (inl r) =
            let u = in_cells in
            let x : n ≡ suc w.cell = omega arith in
            subst (λ (m : ℕ). i < faces_before job ls.grid m) x (omega (arith, all-faces))

    pub left_in : i - w.before.faces < length (cell_names job ls.grid w.cell)
    left_in =
        let a = length-append (chain (cell_names job ls.grid) w.cell) (cell_names job ls.grid w.cell) in
        let u = after in
        let v = not-before in
        omega (arith, before-faces)

    pub map_found : found_in_cell job ls w.cell (i - w.before.faces) w.before.counts ≡ found_by (name_at job ls.grid i) (start_by job ls i)
    unfolding map_names
    map_found =
        let f = mesh_of job ls in
        let g = cell_names job ls.grid in
        let j = i - w.before.faces in
        let x : length (chain g w.cell) + j ≡ i = (let u = not-before in omega (arith, before-faces)) in
        ap₂ found_by
        (sym (chain-name g n w.cell j (Cap 0) in_cells left_in) ∙ ap₂ (λ (m k : ℕ). get_or (chain g m) k (Cap 0)) p x)
        (ap (λ (c : Counts). also c (start_of (map f (g w.cell)) j)) (before-counts ∙ sym (cells-sum job ls w.cell))
        ∙ sym (chain-start f g n w.cell j in_cells left_in)
        ∙ ap₂ (λ (m k : ℕ). start_of (map f (chain g m)) k) p x)
