-- Caps and walls laid cell by cell with what they share are the faces of the map. Assumes nothing.
use mathlib.Core.Path.{◌≡◌, refl, sym, ap, ◌∙◌}
use mathlib.Core.Bool.{Bool, true, false, cond}
use mathlib.Core.List.{List, [], ◌∷◌, ◌++◌, map, map-append}
use mathlib.Core.Logic.{◌⊎◌, inl, inr}
use Prim.Native.Nat.{ℕ, suc}
use borrow.Author.Tests.{eqb-true}
use lib.Dec.{eqb}
use lib.Ieee.{Float}
use Rattle.face.specs.declared.triangle.Counts.{Counts}
use Rattle.face.specs.Lists.{chain}
use Rattle.answer.specs.Checks.{cell_count}
use Rattle.placement.specs.declared.options.Choice.{Choice}
use Rattle.placement.specs.declared.options.Choice.TheVariants as option
use Rattle.placement.specs.Options.{option_at}
use Rattle.buffers.specs.Mesh.{Mesh, none, also, measure}
use Rattle.buffers.specs.Laying.{Buffers, lay_each}
use Rattle.buffers.proofs.Each.{SoFar, so_far_more, each_none}
use Rattle.heightmap.specs.declared.Name.{Name}
use Rattle.heightmap.specs.declared.Name.TheVariants.{Cap}
use Rattle.heightmap.specs.declared.HeightMap.{HeightMap}
use Rattle.heightmap.specs.Grid.{cells_in}
use Rattle.heightmap.specs.HeightMap.{Lists, cap_names, side_names, cell_names, map_names, option_of, cap_stand, mesh_of}
use Rattle.heightmap_faces.specs.declared.Top.{Top}
use Rattle.heightmap_faces.specs.declared.kept.KeptTop.{KeptTop}
use Rattle.heightmap_faces.specs.Speed.{top_of}
use Rattle.heightmap_faces.specs.Kept.{top_by}
use Rattle.heightmap_faces.proofs.Plain.{cap-is}
use Rattle.heightmap_laying.specs.declared.Shared.{Shared}
use Rattle.heightmap_laying.specs.Shared.{shared_of, top_faces, sides_faces, cell_faces, all_laid}

-- of the caps that are kept, the one of a number: the first where it is that number's, else the other, made anew if need be
module _ (cs ns : List Float) (ms : List ℕ) where
  kept-or : (kept : KeptTop) (n : ℕ) (b : Bool) → kept ≡ top_by cs ns ms kept.number → eqb n kept.number ≡ b → cond b kept (top_by cs ns ms n) ≡ top_by cs ns ms n
  kept-or kept n true k e = k ∙ ap (top_by cs ns ms) (sym (eqb-true n kept.number e))
  kept-or kept n false k e = refl

  of-its-own : (next : KeptTop) (n : ℕ) → next ≡ top_by cs ns ms n → next ≡ top_by cs ns ms next.number
  of-its-own next n e = e ∙ ap (top_by cs ns ms) (sym (ap (λ (y : KeptTop). y.number) e))

  pub tops-kept : (own kept next : KeptTop) (o n : ℕ) (top : Top)
      → own ≡ top_by cs ns ms o
      → kept ≡ top_by cs ns ms kept.number
      → ((n ≡ own.number → ⊥) × ((next ≡ cond (eqb n kept.number) kept (top_by cs ns ms n)) × (top ≡ next.top))) ⊎ ((n ≡ own.number) × ((next ≡ kept) × (top ≡ own.top)))
      → (next ≡ top_by cs ns ms next.number) × (top ≡ top_of cs (option_at ns ms n))
  tops-kept own kept next o n top w k (inl (d, (e, t))) =
      let m = e ∙ kept-or kept n (eqb n kept.number) k refl in
      (of-its-own next n m, t ∙ ap (λ (y : KeptTop). y.top) m)
  tops-kept own kept next o n top w k (inr (d, (e, t))) =
      let m = w ∙ ap (top_by cs ns ms) (sym (d ∙ ap (λ (y : KeptTop). y.number) w)) in
      (e ∙ k ∙ ap (top_by cs ns ms) (sym (ap (λ (y : KeptTop). y.number) e)), t ∙ ap (λ (y : KeptTop). y.top) m)

module _ (job : HeightMap) (ls : Lists) (k : ℕ) where
  cap-are : top_faces job.caps (cap_stand job ls.grid k) (top_of ls.corners (option_of job ls (Cap k))) ≡ map (mesh_of job ls) (cap_names job.caps k)
  cap-are = go job.caps
    where
      go : (c : Choice) → top_faces c (cap_stand job ls.grid k) (top_of ls.corners (option_of job ls (Cap k))) ≡ map (mesh_of job ls) (cap_names c k)
      go option.Absent = refl
      go (option.With o) = ap (λ (m : Mesh). m ∷ []) (sym (cap-is job ls k))

  cell-are : (top : Top) → top ≡ top_of ls.corners (option_of job ls (Cap k))
      → cell_faces job ls k top ≡ map (mesh_of job ls) (cell_names job ls.grid k)
  cell-are top e =
      ap (λ (t : Top). cell_faces job ls k t) e
      ∙ ap (λ (m : List Mesh). m ++ sides_faces job ls k 6) cap-are
      ∙ sym (map-append (mesh_of job ls) (cap_names job.caps k) (chain (side_names job ls.grid k) 6))

  -- one cell more
  pub cell-more : (at place next : Counts) (B C D : Buffers) (own : HeightMap) (top : Top)
      → SoFar (map (mesh_of job ls) (chain (cell_names job ls.grid) k)) at B place C
      → own ≡ job
      → top ≡ top_of ls.corners (option_of job ls (Cap k))
      → next ≡ also place (measure (cell_faces own ls k top))
      → D ≡ lay_each (cell_faces own ls k top) place C
      → SoFar (map (mesh_of job ls) (chain (cell_names job ls.grid) (suc k))) at B next D
  cell-more at place next B C D own top h o t n x =
      let f = mesh_of job ls in
      let more : List Mesh = map f (cell_names job ls.grid k) in
      let e : cell_faces own ls k top ≡ more = ap (λ (j : HeightMap). cell_faces j ls k top) o ∙ cell-are top t in
      rw (map-append f (chain (cell_names job ls.grid) k) (cell_names job ls.grid k))
      (so_far_more (map f (chain (cell_names job ls.grid) k)) more at B place next C D h (n ∙ ap (λ (y : List Mesh). also place (measure y)) e) (x ∙ ap (λ (y : List Mesh). lay_each y place C) e))

-- every cell, or none of too many
pub all_laid_lem : (job : HeightMap) (ls : Lists) (B : Buffers)
    → lay_each (map (mesh_of job ls) (chain (cell_names job ls.grid) (cond (cell_count (cells_in ls.grid.cells)) (cells_in ls.grid.cells) 0))) none B ≡ all_laid job ls B
unfolding map_names
all_laid_lem job ls B = go (cell_count (cells_in ls.grid.cells))
  where
    f : Name → Mesh
    f = mesh_of job ls

    n : ℕ
    n = cells_in ls.grid.cells

    go : (b : Bool) → lay_each (map f (chain (cell_names job ls.grid) (cond b n 0))) none B ≡ cond b (lay_each (map f (chain (cell_names job ls.grid) n)) none B) B
    go true = refl
    go false = each_none none B
