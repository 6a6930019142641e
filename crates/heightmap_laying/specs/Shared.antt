-- The faces of a height map by what they share, which speed alone asks for; proofs/Walls.antt and Cells.antt say that
-- they are the map's own. Definitions only.
use Rattle.std.specs.Prelude.{ℕ, cond, List, [], ◌∷◌, ◌++◌, map, Float}
use Rattle.face.specs.declared.vec.Vec2.{Vec2}
use Rattle.face.specs.Lists.{chain}
use Rattle.answer.specs.Checks.{cell_count}
use Rattle.placement.specs.declared.options.Choice.{Choice}
use Rattle.placement.specs.declared.options.Choice.TheVariants as option
use Rattle.placement.specs.declared.placement.Stand.{Stand}
use Rattle.face.specs.declared.triangle.Counts.{Counts}
use Rattle.placement.specs.Options.{option_at}
use Rattle.buffers.specs.Mesh.{Mesh, none}
use Rattle.buffers.specs.Laying.{Buffers, laid_if_fits, lay_each}
use Rattle.buffers.specs.Faces.{standing, hexagon_mesh, wall_mesh}
use Rattle.heightmap.specs.declared.Wall.{Wall}
use Rattle.heightmap.specs.declared.Name.{Name}
use Rattle.heightmap.specs.declared.Name.TheVariants.{Side}
use Rattle.heightmap.specs.declared.HeightMap.{HeightMap}
use Rattle.heightmap.specs.Grid.{cells_in, span_of, present, foot_of}
use Rattle.heightmap.specs.HeightMap.{Lists, side_names, custom_at, custom_place, own_choice, chosen, side_stand, cap_stand, mesh_of, map_faces}
use Rattle.heightmap_faces.specs.declared.Level.{Level}
use Rattle.heightmap_faces.specs.declared.Top.{Top}
use Rattle.heightmap_faces.specs.Speed.{skin_of, level_quad}
use Rattle.heightmap_faces.specs.Kept.{number_in}
use Rattle.heightmap_laying.specs.declared.Shared.{Shared}

-- what a job works out once: the range, where its walls stand, and the skin of its own option
abbrev pub shared_of : HeightMap → Lists → Shared
shared_of job ls =
    let s = span_of job ls.grid in
    record {
      job = job;
      span = s;
      stand = side_stand job;
      own = number_in job.sides;
      skin = skin_of (option_at ls.numbers ls.marks (number_in job.sides)) s;
    }

-- a cap, and the list of it or of none
abbrev pub top_mesh : Stand → Top → Mesh
top_mesh t c = standing t (hexagon_mesh c.inset c.whole)

abbrev pub top_faces : Choice → Stand → Top → List Mesh
top_faces option.Absent t c = []
top_faces (option.With o) t c = top_mesh t c ∷ []

-- a wall, and the list of it or of none
abbrev pub level_mesh : Stand → Level → Vec2 → Vec2 → Float → Mesh
level_mesh t v l r foot = wall_mesh t v.skin.inset (level_quad v l r foot)

abbrev pub level_faces : Wall → Stand → Level → Vec2 → Vec2 → List Mesh
level_faces w t v l r = cond (present w) (level_mesh t v l r (foot_of w) ∷ []) []

-- the number of the option of a wall, or any where it is not present
abbrev pub wall_number : HeightMap → Wall → ℕ → ℕ → ℕ → List ℕ → ℕ
wall_number job w any k d us = cond (present w) (number_in (chosen (own_choice job (Side k d)) (custom_at job.customs us (custom_place (Side k d))))) any

-- the first walls of a cell
abbrev pub sides_faces : HeightMap → Lists → ℕ → ℕ → List Mesh
sides_faces job ls k n = map (mesh_of job ls) (chain (side_names job ls.grid k) n)

-- a cell's cap, whatever is made of its option, and its walls
abbrev pub cell_faces : HeightMap → Lists → ℕ → Top → List Mesh
cell_faces job ls k c = top_faces job.caps (cap_stand job ls.grid k) c ++ sides_faces job ls k 6

-- ---- laid where they fit: the walls of a cell, a cell, one face by its name, all of them where they are not too many
abbrev pub sides_laid : HeightMap → Lists → ℕ → Counts → Buffers → Buffers
sides_laid job ls k at B = lay_each (sides_faces job ls k 6) at B

abbrev pub cell_laid : HeightMap → Lists → ℕ → Top → Counts → Buffers → Buffers
cell_laid job ls k c at B = lay_each (cell_faces job ls k c) at B

abbrev pub name_laid : HeightMap → Lists → Name → Counts → Buffers → Buffers
name_laid job ls n at B = laid_if_fits (mesh_of job ls n) at B

abbrev pub all_laid : HeightMap → Lists → Buffers → Buffers
all_laid job ls B = cond (cell_count (cells_in ls.grid.cells)) (lay_each (map_faces job ls) none B) B
