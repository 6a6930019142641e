-- Which face a number is and where it starts, guarded by the number of cells so that no sum wraps on lists that are not
-- tested; R12, R16 and L3d are rows of docs/TRACE.md. Definitions only.
use Rattle.std.specs.Prelude.{ℕ, ◌&&◌, cond, List, map, ltb, length, get_or}
use Rattle.face.specs.declared.triangle.Counts.{Counts}
use Rattle.face.specs.Lists.{chain}
use Rattle.answer.specs.Answers.{Answer}
use Rattle.answer.specs.Answers.{named}
use Rattle.answer.specs.Checks.{cell_count}
use Rattle.buffers.specs.Mesh.{none, also, start_of}
use Rattle.heightmap.specs.declared.Name.{Name}
use Rattle.heightmap.specs.declared.Name.TheVariants.{Cap, Side}
use Rattle.heightmap.specs.declared.HeightMap.{HeightMap}
use Rattle.heightmap.specs.Grid.{Grid, cells_in}
use Rattle.heightmap.specs.HeightMap.{Lists, side_names, cell_names, map_names, mesh_of, map_faces}
use Rattle.heightmap.specs.Tests.{planned}
use Rattle.heightmap.specs.Names.{name_at, start_by, number_of}
use Rattle.heightmap_plan.specs.declared.names.Found.{Found}
use Rattle.heightmap_plan.specs.declared.names.Survey.{Survey}
use Rattle.heightmap_plan.specs.declared.names.Placed.{Placed}
use Rattle.heightmap_plan.specs.declared.window.Sought.{Sought}
use Rattle.heightmap_plan.specs.declared.tally.Tally.{Tally}
use Rattle.heightmap_plan.specs.Walking.{tally_of}

abbrev pub found_by : Name → Counts → Found
found_by n c = record { name = n; start = c }

-- past the last face the first cap's name, and the end of all faces; with too many cells that name and no counts
abbrev pub found_at : HeightMap → Lists → ℕ → Found
found_at job ls i = cond (cell_count (cells_in ls.grid.cells)) (found_by (name_at job ls.grid i) (start_by job ls i)) (found_by (Cap 0) none)

abbrev pub survey_by : Tally → Found → Survey
survey_by t f = record { all = t; found = f }

abbrev pub survey_of : HeightMap → Lists → ℕ → Survey
survey_of job ls i = survey_by (tally_of job ls) (found_at job ls i)

-- in a list of names, after what lies before it
abbrev pub found_in : HeightMap → Lists → List Name → ℕ → Counts → Found
found_in job ls names i at = found_by (get_or names i (Cap 0)) (also at (start_of (map (mesh_of job ls) names) i))

abbrev pub found_in_sides : HeightMap → Lists → ℕ → ℕ → Counts → Found
found_in_sides job ls k = found_in job ls (chain (side_names job ls.grid k) 6)

abbrev pub found_in_cell : HeightMap → Lists → ℕ → ℕ → Counts → Found
found_in_cell job ls k = found_in job ls (cell_names job ls.grid k)

abbrev pub face_count : HeightMap → Grid → ℕ
face_count job g = cond (cell_count (cells_in g.cells)) (length (map_names job g)) 0

-- L3d: the cell of a face
abbrev pub cell_of : Name → ℕ
cell_of (Cap k) = k
cell_of (Side k d) = k

abbrev pub number_in : HeightMap → Grid → Name → ℕ
number_in job g n = cond (cell_count (cell_of n)) (number_of job g n) 0

-- all faces, and the number that a side has where it stands; 0 where the map has no such cell, or too many cells
abbrev pub placed_by : Tally → ℕ → Placed
placed_by t n = record { all = t; number = n }

abbrev pub side_number : HeightMap → Grid → ℕ → ℕ → ℕ
side_number job g k d = cond (cell_count (cells_in g.cells) && ltb k (cells_in g.cells)) (number_of job g (Side k d)) 0

abbrev pub placed_at : HeightMap → Lists → ℕ → ℕ → Placed
placed_at job ls k d = placed_by (tally_of job ls) (side_number job ls.grid k d)

-- R12: what a face call answers before the room is asked for
abbrev pub numbered : HeightMap → Lists → ℕ → Answer
numbered job ls k = named (planned job ls) k (length (map_faces job ls))

-- with the face of the number
abbrev pub sought_at : HeightMap → Lists → ℕ → Sought
sought_at job ls k = record { answer = numbered job ls k; found = found_at job ls k }
