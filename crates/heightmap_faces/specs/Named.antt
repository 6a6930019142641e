-- What is laid of a face by its cell and side. Definitions only.
use Rattle.std.specs.Prelude.{ℕ}
use Rattle.heightmap.specs.declared.HeightMap.{HeightMap}
use Rattle.heightmap.specs.declared.Name.TheVariants.{Cap, Side}
use Rattle.heightmap.specs.Grid.{height_at, left_at, right_at, span_of, wall, foot_of}
use Rattle.heightmap.specs.HeightMap.{Lists, option_of, side_stand, cap_stand}
use Rattle.heightmap_faces.specs.declared.named.CapFace.{CapFace}
use Rattle.heightmap_faces.specs.declared.named.SideFace.{SideFace}
use Rattle.heightmap_faces.specs.Speed.{skin_of, level_of, top_of}

abbrev pub cap_of : HeightMap → Lists → ℕ → CapFace
cap_of job ls k = record { top = top_of ls.corners (option_of job ls (Cap k)); stand = cap_stand job ls.grid k }

abbrev pub side_of : HeightMap → Lists → ℕ → ℕ → SideFace
side_of job ls k d =
    let cs = ls.grid.cells in
    record {
      level = level_of (skin_of (option_of job ls (Side k d)) (span_of job ls.grid)) (height_at cs k);
      stand = side_stand job;
      left = left_at cs k d;
      right = right_at cs k d;
      foot = foot_of (wall job ls.grid k d);
    }
