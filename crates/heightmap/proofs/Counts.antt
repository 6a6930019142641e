-- A map's counts by its names are the sums over its faces, cell by cell. Assumes nothing.
use mathlib.Core.Path.{◌≡◌, refl, ap₂, ◌∙◌}
use mathlib.Core.Bool.{Bool, true, false, cond}
use mathlib.Core.List.{[], ◌∷◌, map}
use Prim.Native.Nat.{ℕ}
use Rattle.face.specs.Lists.{chain}
use Rattle.face.specs.Face.{altered_quad}
use Rattle.face.specs.Inset.{inset_quad_of}
use Rattle.placement.specs.declared.options.Choice.{Choice}
use Rattle.placement.specs.declared.options.Choice.TheVariants as option
use Rattle.buffers.specs.Mesh.{none, also, size_of, measure, summed}
use Rattle.buffers.specs.Faces.{quad_mesh, hexagon_mesh}
use Rattle.buffers.proofs.Windows.{also-none}
use Rattle.buffers.proofs.Faces.{quad-size, hexagon-size, standing-size}
use Rattle.buffers.proofs.Named.{measure-map, chain-sum}
use Rattle.plane_builder.specs.Cap.{cap_hexagon}
use Rattle.heightmap.specs.declared.Name.{Name}
use Rattle.heightmap.specs.declared.Name.TheVariants.{Cap, Side}
use Rattle.heightmap.specs.declared.HeightMap.{HeightMap}
use Rattle.heightmap.specs.Grid.{cells_in, wall, present}
use Rattle.heightmap.specs.HeightMap.{Lists, cap_names, side_names, cell_names, map_names, option_of, side_stand, cap_stand, wall_quad, mesh_of, map_faces}
use Rattle.heightmap.specs.Counts.{size_by, if_on, cap_counts, side_counts, cell_counts, cell_start, map_counts}

module _ (job : HeightMap) (ls : Lists) where
  pub size-of : (n : Name) → size_of (mesh_of job ls n) ≡ size_by job ls n
  unfolding mesh_of
  size-of (Cap k) =
      let o = option_of job ls (Cap k) in
      let h = cap_hexagon ls.corners o in
      standing-size (cap_stand job ls.grid k) (hexagon_mesh o.inset h) ∙ hexagon-size o.inset h
  size-of (Side k d) =
      let o = option_of job ls (Side k d) in
      let q = inset_quad_of o.inset (altered_quad o.uv (wall_quad job ls.grid k d)) in
      standing-size (side_stand job) (quad_mesh o.inset q) ∙ quad-size o.inset q

  pub cap-sum : (k : ℕ) → measure (map (mesh_of job ls) (cap_names job.caps k)) ≡ cap_counts job ls k
  cap-sum k = go job.caps
    where
      go : (c : Choice) → measure (map (mesh_of job ls) (cap_names c k)) ≡ if_on c (size_by job ls (Cap k))
      go option.Absent = refl
      go (option.With o) = also-none (size_of (mesh_of job ls (Cap k))) ∙ size-of (Cap k)

  side-sum : (k d : ℕ) → measure (map (mesh_of job ls) (side_names job ls.grid k d)) ≡ side_counts job ls k d
  side-sum k d = go (present (wall job ls.grid k d))
    where
      go : (b : Bool) → measure (map (mesh_of job ls) (cond b (Side k d ∷ []) [])) ≡ cond b (size_by job ls (Side k d)) none
      go true = also-none (size_of (mesh_of job ls (Side k d))) ∙ size-of (Side k d)
      go false = refl

  pub sides-sum : (k m : ℕ) → measure (map (mesh_of job ls) (chain (side_names job ls.grid k) m)) ≡ summed (side_counts job ls k) m
  sides-sum k = chain-sum (mesh_of job ls) (side_names job ls.grid k) (side_counts job ls k) (side-sum k)

  pub cell-sum : (k : ℕ) → measure (map (mesh_of job ls) (cell_names job ls.grid k)) ≡ cell_counts job ls k
  cell-sum k = measure-map (mesh_of job ls) (cap_names job.caps k) (chain (side_names job ls.grid k) 6) ∙ ap₂ also (cap-sum k) (sides-sum k 6)

  -- what lies before a cell, and all of it
  pub cells-sum : (m : ℕ) → measure (map (mesh_of job ls) (chain (cell_names job ls.grid) m)) ≡ cell_start job ls m
  cells-sum = chain-sum (mesh_of job ls) (cell_names job ls.grid) (cell_counts job ls) cell-sum

  pub map-counts : measure (map_faces job ls) ≡ map_counts job ls
  unfolding map_names
  map-counts = cells-sum (cells_in ls.grid.cells)
