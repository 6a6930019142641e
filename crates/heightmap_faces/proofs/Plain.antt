-- The faces with what they share are the plain ones. Assumes nothing.
use mathlib.Core.Path.{◌≡◌, refl}
use mathlib.Core.List.{List}
use Prim.Native.Nat.{ℕ}
use lib.Ieee.{Float}
use Rattle.face.specs.declared.vec.Vec2.{Vec2}
use Rattle.face.specs.Face.{bounded_quad_of, altered_quad}
use Rattle.placement.specs.declared.options.FaceOptions.{FaceOptions}
use Rattle.placement.specs.declared.placement.Stand.{Stand}
use Rattle.buffers.specs.Faces.{standing, hexagon_mesh, wall_mesh}
use Rattle.plane_builder.specs.Cap.{cap_mesh}
use Rattle.heightmap.specs.declared.Span.{Span}
use Rattle.heightmap.specs.declared.HeightMap.{HeightMap}
use Rattle.heightmap.specs.declared.Name.TheVariants.{Cap, Side}
use Rattle.heightmap.specs.Grid.{Grid, height_at, position_at, left_at, right_at, wall, foot_of, span_of}
use Rattle.heightmap.specs.HeightMap.{Lists, option_of, cap_offset, side_stand, cap_stand, mesh_of}
use Rattle.heightmap_faces.specs.Speed.{skin_of, level_of, level_quad, top_of, lifted}

-- ---- B5, B17: a wall is the bounded quad, altered
pub skin-is : (o : FaceOptions) (s : Span) (l r : Vec2) (foot top : Float)
    → level_quad (level_of (skin_of o s) top) l r foot ≡ altered_quad o.uv (bounded_quad_of l r foot top s.min s.max)
skin-is o s l r foot top = refl

-- ---- B8: a cap stands as a wall does, moved first to its cell
pub lifted-is : (job : HeightMap) (g : Grid) (k : ℕ) → lifted (side_stand job) (cap_offset (position_at g.cells k) (height_at g.cells k)) ≡ cap_stand job g k
lifted-is job g k = refl

pub top-is : (t : Stand) (l : List Float) (o : FaceOptions) → standing t (hexagon_mesh (top_of l o).inset (top_of l o).whole) ≡ cap_mesh t l o
top-is t l o = refl

-- ---- so the faces of a map are made of what they share
module _ (job : HeightMap) (ls : Lists) where
  pub cap-is : (k : ℕ)
      → mesh_of job ls (Cap k)
      ≡ standing (lifted (side_stand job) (cap_offset (position_at ls.grid.cells k) (height_at ls.grid.cells k)))
      (hexagon_mesh (top_of ls.corners (option_of job ls (Cap k))).inset (top_of ls.corners (option_of job ls (Cap k))).whole)
  unfolding mesh_of
  cap-is k = refl

  pub side-is : (k d : ℕ)
      → mesh_of job ls (Side k d)
      ≡ wall_mesh (side_stand job) (option_of job ls (Side k d)).inset
      (level_quad (level_of (skin_of (option_of job ls (Side k d)) (span_of job ls.grid)) (height_at ls.grid.cells k)) (left_at ls.grid.cells k d) (right_at ls.grid.cells k d) (foot_of (wall job ls.grid k d)))
  unfolding mesh_of
  side-is k d = refl
