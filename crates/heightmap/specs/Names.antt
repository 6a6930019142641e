-- Which face a number is, where it starts, and which number a face has; B10, R16, L3f and L3g are rows of docs/TRACE.md.
-- Definitions only.
use Rattle.std.specs.Prelude.{◌≡◌, ℕ, ◌+◌, ◌<◌, length, get_or}
use Rattle.face.specs.declared.triangle.Counts.{Counts}
use Rattle.face.specs.Lists.{chain}
use Rattle.buffers.specs.Mesh.{start_of}
use Rattle.heightmap.specs.declared.Name.{Name}
use Rattle.heightmap.specs.declared.Name.TheVariants.{Cap, Side}
use Rattle.heightmap.specs.declared.HeightMap.{HeightMap}
use Rattle.heightmap.specs.Grid.{Grid, cells_in, On, Lower}
use Rattle.heightmap.specs.HeightMap.{Lists, cap_names, side_names, cell_names, map_names, map_faces}

-- B10: the name of a number; past the last it is that of the first cap
abbrev pub name_at : HeightMap → Grid → ℕ → Name
name_at job g i = get_or (map_names job g) i (Cap 0)

-- R16: what lies before the face of a number
abbrev pub start_by : HeightMap → Lists → ℕ → Counts
start_by job ls i = start_of (map_faces job ls) i

-- how many faces come before those of a cell
abbrev pub faces_before : HeightMap → Grid → ℕ → ℕ
faces_before job g k = length (chain (cell_names job g) k)

-- the number of a face that is there
abbrev pub number_of : HeightMap → Grid → Name → ℕ
number_of job g (Cap k) = faces_before job g k
number_of job g (Side k d) = faces_before job g k + (length (cap_names job.caps k) + length (chain (side_names job g k) d))

-- ---- a cell of the map, and one of its six sides
abbrev pub There : Grid → ℕ → ℕ → Type 0
There g k d = (k < cells_in g.cells) × (d < 6)

-- L3f: the i-th name of the job
abbrev pub NamedAt : HeightMap → Grid → ℕ → Name → Type 0
NamedAt job g i n = (i < length (map_names job g)) × (name_at job g i ≡ n)

-- L3g: a face that the map has: the cap of a cell where caps are on, a side where it is lower beyond
abbrev pub Has : HeightMap → Grid → Name → Type 0
Has job g (Cap k) = (k < cells_in g.cells) × On job.caps
Has job g (Side k d) = There g k d × Lower job g k d
