-- Every face stands at its number and starts where the counts say: a cap is the first face of its cell, a side comes after
-- the cap and the sides before it. Every number below their count is that of a face that the map has. Assumes nothing.
use mathlib.Core.Path.{◌≡◌, refl, sym, ap, ap₂, subst, ◌∙◌}
use mathlib.Core.Bool.{Bool, true, false, not, cond}
use mathlib.Core.List.{List, [], ◌∷◌, ◌++◌, map}
use Prim.Native.Nat.{ℕ, zero, suc, ◌+◌, ◌-◌, ◌<◌, ◌≤◌}
use native.Mathlib.Omega.{arith}
use lib.Dec.{T, ltb, ltb→lt, nltb→le}
use lib.ListN.{length, get_or, length-append}
use Rattle.face.specs.Lists.{chain}
use Rattle.placement.specs.declared.options.Choice.{Choice}
use Rattle.placement.specs.declared.options.Choice.TheVariants as option
use Rattle.buffers.specs.Mesh.{also, measure, start_of, summed}
use Rattle.buffers.proofs.Windows.{also-none}
use Rattle.buffers.proofs.Named.{Stands, stands-name, stands-below, stands-first, stands-left, stands-right, stands-chain, chain-name, chain-start, start_right}
use Rattle.heightmap.specs.declared.Name.{Name}
use Rattle.heightmap.specs.declared.Name.TheVariants.{Cap, Side}
use Rattle.heightmap.specs.declared.HeightMap.{HeightMap}
use Rattle.heightmap.specs.Grid.{Grid, cells_in, wall, present}
use Rattle.heightmap.specs.HeightMap.{Lists, cap_names, side_names, cell_names, map_names, mesh_of}
use Rattle.heightmap.specs.Counts.{cap_counts, side_counts, cell_start}
use Rattle.heightmap.specs.Names.{name_at, start_by, faces_before, number_of, Has}
use Rattle.heightmap.proofs.Counts.{cap-sum, sides-sum, cells-sum}
use Rattle.heightmap.proofs.Walls.{there-why}

module _ (job : HeightMap) (g : Grid) where
  pub stands-cap : (k o : ℕ) → k < cells_in g.cells → job.caps ≡ option.With o → Stands (map_names job g) (number_of job g (Cap k)) (Cap k)
  unfolding map_names
  stands-cap k o h e =
      subst (λ (i : ℕ). Stands (map_names job g) i (Cap k)) (omega arith)
      (stands-chain (cell_names job g) (cells_in g.cells) k 0 (Cap k) h (stands-left (cap_names job.caps k) (chain (side_names job g k) 6) 0 (Cap k) (go job.caps e)))
    where
      go : (c : Choice) → c ≡ option.With o → Stands (cap_names c k) 0 (Cap k)
      go c p = rw p (stands-first (Cap k) [])

  pub stands-side : (k d : ℕ) → k < cells_in g.cells → d < 6 → present (wall job g k d) ≡ true → Stands (map_names job g) (number_of job g (Side k d)) (Side k d)
  unfolding map_names
  stands-side k d h l e =
      subst (λ (i : ℕ). Stands (map_names job g) i (Side k d)) (omega arith)
      (stands-chain (cell_names job g) (cells_in g.cells) k (length (cap_names job.caps k) + (length (chain (side_names job g k) d) + 0)) (Side k d) h
      (stands-right (cap_names job.caps k) (chain (side_names job g k) 6) (length (chain (side_names job g k) d) + 0) (Side k d)
      (stands-chain (side_names job g k) 6 d 0 (Side k d) l (rw e (stands-first (Side k d) [])))))

  -- so the name of its number is its own
  pub cap-named : (k o : ℕ) → k < cells_in g.cells → job.caps ≡ option.With o → name_at job g (number_of job g (Cap k)) ≡ Cap k
  cap-named k o h e = stands-name (map_names job g) (number_of job g (Cap k)) (Cap k) (Cap 0) (stands-cap k o h e)

  pub side-named : (k d : ℕ) → k < cells_in g.cells → d < 6 → present (wall job g k d) ≡ true → name_at job g (number_of job g (Side k d)) ≡ Side k d
  side-named k d h l e = stands-name (map_names job g) (number_of job g (Side k d)) (Side k d) (Cap 0) (stands-side k d h l e)

-- ---- and every number is that of its name
-- the list of a chain in which a number falls
record Falls {N : Type 0} (g : ℕ → List N) (m i : ℕ) : Type 0 where
  pub list : ℕ
  pub rest : ℕ
  pub below : list < m
  pub inside : rest < length (g list)
  pub sum : i ≡ length (chain g list) + rest

falls : {N : Type 0} (g : ℕ → List N) (m i : ℕ) → i < length (chain g m) → Falls g m i
falls g zero i h = absurd (let u : i < 0 = h in omega arith)
falls g (suc m) i h = go (ltb i (length (chain g m))) (ltb→lt i (length (chain g m))) (nltb→le i (length (chain g m))) (falls g m i)
  where
    go : (b : Bool) → (T b → i < length (chain g m)) → (T (not b) → length (chain g m) ≤ i) → (i < length (chain g m) → Falls g m i) → Falls g (suc m) i
    go true l r before = let f = before (l tt) in record { list = f.list; rest = f.rest; below = (let u = f.below in omega arith); inside = f.inside; sum = f.sum }
    go false l r before = let a = length-append (chain g m) (g m) in let u = r tt in record { list = m; rest = i - length (chain g m); below = omega arith; inside = omega arith; sum = omega arith }

module _ (job : HeightMap) (g : Grid) where
  side-number : (k j : ℕ) → Falls (side_names job g k) 6 j → (n : Name) → get_or (chain (side_names job g k) 6) j (Cap 0) ≡ n
      → number_of job g n ≡ faces_before job g k + (length (cap_names job.caps k) + j)
  side-number k j f n e = go (present (wall job g k f.list)) f.rest f.inside f.sum (chain-name (side_names job g k) 6 f.list f.rest (Cap 0) f.below f.inside)
    where
      at : ℕ
      at = length (chain (side_names job g k) f.list)

      go : (b : Bool) (t : ℕ) → t < length (cond b (Side k f.list ∷ []) []) → j ≡ at + t → get_or (chain (side_names job g k) 6) (at + t) (Cap 0) ≡ get_or (cond b (Side k f.list ∷ []) []) t (Cap 0)
          → number_of job g n ≡ faces_before job g k + (length (cap_names job.caps k) + j)
      go false t h p q = absurd (let u : t < 0 = h in omega arith)
      go true (suc t) h p q = absurd (let u : suc t < 1 = h in omega arith)
      go true zero h p q =
          ap (number_of job g) (sym e ∙ ap (λ (i : ℕ). get_or (chain (side_names job g k) 6) i (Cap 0)) p ∙ q)
          ∙ (let u : at ≡ j = omega arith in ap (λ (i : ℕ). faces_before job g k + (length (cap_names job.caps k) + i)) u)

  cell-number : (k j : ℕ) → j < length (cell_names job g k) → number_of job g (get_or (cell_names job g k) j (Cap 0)) ≡ faces_before job g k + j
  cell-number k j h = go job.caps refl j h
    where
      go : (c : Choice) → job.caps ≡ c → (i : ℕ) → i < length (cap_names c k ++ chain (side_names job g k) 6)
          → number_of job g (get_or (cap_names c k ++ chain (side_names job g k) 6) i (Cap 0)) ≡ faces_before job g k + i
      go option.Absent e i l = side-number k i (falls (side_names job g k) 6 i l) _ refl ∙ ap (λ (c : Choice). faces_before job g k + (length (cap_names c k) + i)) e ∙ omega arith
      go (option.With o) e zero l = omega arith
      go (option.With o) e (suc i) l =
          side-number k i (falls (side_names job g k) 6 i (let u : suc i < suc (length (chain (side_names job g k) 6)) = l in omega arith)) _ refl
          ∙ ap (λ (c : Choice). faces_before job g k + (length (cap_names c k) + i)) e
          ∙ omega arith

  pub number-named : (i : ℕ) → i < length (map_names job g) → number_of job g (name_at job g i) ≡ i
  unfolding map_names
  number-named i h =
      let n = cells_in g.cells in
      let f = falls (cell_names job g) n i h in
      ap (λ (j : ℕ). number_of job g (get_or (chain (cell_names job g) n) j (Cap 0))) f.sum
      ∙ ap (number_of job g) (chain-name (cell_names job g) n f.list f.rest (Cap 0) f.below f.inside)
      ∙ cell-number f.list f.rest f.inside
      ∙ sym f.sum

-- ---- and every name is that of a face that the map has
-- what holds of each name of each list holds of each name of the chain
chain-all : {N : Type 0} (P : N → Type 0) (g : ℕ → List N) (m : ℕ) (z : N) → ((k j : ℕ) → k < m → j < length (g k) → P (get_or (g k) j z))
    → (i : ℕ) → i < length (chain g m) → P (get_or (chain g m) i z)
chain-all P g m z h i l =
    let f = falls g m i l in
    subst P
    (sym (ap (λ (j : ℕ). get_or (chain g m) j z) f.sum ∙ chain-name g m f.list f.rest z f.below f.inside))
    (h f.list f.rest f.below f.inside)

module _ (job : HeightMap) (g : Grid) (k : ℕ) (h : k < cells_in g.cells) where
  side-has : (d j : ℕ) → d < 6 → j < length (side_names job g k d) → Has job g (get_or (side_names job g k d) j (Cap 0))
  side-has d j l u = go (present (wall job g k d)) refl j u
    where
      go : (b : Bool) → present (wall job g k d) ≡ b → (j : ℕ) → j < length (cond b (Side k d ∷ []) []) → Has job g (get_or (cond b (Side k d ∷ []) []) j (Cap 0))
      go false e j u = absurd (let x : j < 0 = u in omega arith)
      go true e zero u = ((h, l), there-why job g k d e)
      go true e (suc j) u = absurd (let x : suc j < 1 = u in omega arith)

  cell-has : (j : ℕ) → j < length (cell_names job g k) → Has job g (get_or (cell_names job g k) j (Cap 0))
  cell-has j u = go job.caps refl j u
    where
      sides : (j : ℕ) → j < length (chain (side_names job g k) 6) → Has job g (get_or (chain (side_names job g k) 6) j (Cap 0))
      sides = chain-all (Has job g) (side_names job g k) 6 (Cap 0) side-has

      go : (c : Choice) → job.caps ≡ c → (j : ℕ) → j < length (cap_names c k ++ chain (side_names job g k) 6)
          → Has job g (get_or (cap_names c k ++ chain (side_names job g k) 6) j (Cap 0))
      go option.Absent e j u = sides j u
      go (option.With o) e zero u = (h, rw e tt)
      go (option.With o) e (suc j) u = sides j (let x : suc j < suc (length (chain (side_names job g k) 6)) = u in omega arith)

pub name-has : (job : HeightMap) (g : Grid) (i : ℕ) → i < length (map_names job g) → Has job g (name_at job g i)
unfolding map_names
name-has job g = chain-all (Has job g) (cell_names job g) (cells_in g.cells) (Cap 0) (λ k j h. cell-has job g k h j)

-- ---- where it starts
module _ (job : HeightMap) (ls : Lists) where
  pub cap-start : (k o : ℕ) → k < cells_in ls.grid.cells → job.caps ≡ option.With o → start_by job ls (number_of job ls.grid (Cap k)) ≡ cell_start job ls k
  unfolding map_names
  cap-start k o h e =
      let g = cell_names job ls.grid in
      let f = mesh_of job ls in
      let first : 0 < length (g k) = go job.caps e in
      let at : length (chain g k) ≡ length (chain g k) + 0 = omega arith in
      ap (start_of (map f (chain g (cells_in ls.grid.cells)))) at
      ∙ chain-start f g (cells_in ls.grid.cells) k 0 h first
      ∙ also-none (measure (map f (chain g k)))
      ∙ cells-sum job ls k
    where
      go : (c : Choice) → c ≡ option.With o → 0 < length (cap_names c k ++ chain (side_names job ls.grid k) 6)
      go c p = rw p (omega arith)

  pub side-start : (k d : ℕ) → k < cells_in ls.grid.cells → d < 6 → present (wall job ls.grid k d) ≡ true
      → start_by job ls (number_of job ls.grid (Side k d)) ≡ also (cell_start job ls k) (also (cap_counts job ls k) (summed (side_counts job ls k) d))
  unfolding map_names
  side-start k d h l e =
      let g = cell_names job ls.grid in
      let c = cap_names job.caps k in
      let s = side_names job ls.grid k in
      let f = mesh_of job ls in
      let there : Stands (s d) 0 (Side k d) = rw e (stands-first (Side k d) []) in
      let in-sides : Stands (chain s 6) (length (chain s d) + 0) (Side k d) = stands-chain s 6 d 0 (Side k d) l there in
      let in_cell : Stands (g k) (length c + (length (chain s d) + 0)) (Side k d) = stands-right c (chain s 6) (length (chain s d) + 0) (Side k d) in-sides in
      let at : length (chain g k) + (length c + length (chain s d)) ≡ length (chain g k) + (length c + (length (chain s d) + 0)) = omega arith in
      ap (start_of (map f (chain g (cells_in ls.grid.cells)))) at
      ∙ chain-start f g (cells_in ls.grid.cells) k (length c + (length (chain s d) + 0)) h (stands-below (g k) (length c + (length (chain s d) + 0)) (Side k d) in_cell)
      ∙ ap₂ also (cells-sum job ls k)
      (start_right f c (chain s 6) (length (chain s d) + 0)
      ∙ ap₂ also (cap-sum job ls k)
      (chain-start f s 6 d 0 l (stands-below (s d) 0 (Side k d) there) ∙ also-none (measure (map f (chain s d))) ∙ sides-sum job ls k d))
