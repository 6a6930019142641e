-- What a map's own tests pass on, whose vertices each of its faces names, and how many indices it has. Assumes nothing.
use mathlib.Core.Path.{◌≡◌}
use Prim.Native.Nat.{ℕ, ◌<◌}
use lib.ListN.{length}
use Rattle.face.specs.declared.triangle.Counts.{Counts}
use Rattle.face.specs.Face.{altered_quad}
use Rattle.answer.specs.declared.answer.Refusal.TheVariants.{Shape, Range, Neighbour}
use Rattle.answer.specs.Answers.{Answer}
use Rattle.std.specs.Prelude.{Ok}
use Rattle.answer.proofs.Laws.{given-done}
use Rattle.buffers.specs.Windows.{face_at, Own, AllOwn}
use Rattle.buffers.proofs.Faces.{FewIndices, wall-few}
use Rattle.buffers.proofs.Joined.{wall-own}
use Rattle.buffers.proofs.Named.{names-all}
use Rattle.plane_builder.proofs.Caps.{cap-own, cap-few}
use Rattle.heightmap.specs.declared.Name.{Name}
use Rattle.heightmap.specs.declared.Name.TheVariants.{Cap, Side}
use Rattle.heightmap.specs.declared.HeightMap.{HeightMap}
use Rattle.heightmap.specs.HeightMap.{Lists, map_names, option_of, side_stand, cap_stand, wall_quad, mesh_of, map_faces}
use Rattle.heightmap.specs.Tests.{shape_of, range_of, linked_of, checked}

module _ (job : HeightMap) (ls : Lists) where
  pub passes : (a : Answer) (d : Counts) → checked job ls a ≡ Ok d → a ≡ Ok d
  passes a d e =
      let s = given-done (shape_of job ls) Shape _ e in
      let r = given-done (range_of job ls) Range _ s.1 in
      (given-done (linked_of ls.grid) Neighbour a r.1).1

  -- ---- X8: every face's triangles name its own vertices
  name-own : (n : Name) → Own (mesh_of job ls n)
  unfolding mesh_of
  name-own (Cap k) = cap-own (cap_stand job ls.grid k) ls.corners (option_of job ls (Cap k))
  name-own (Side k d) = let o = option_of job ls (Side k d) in wall-own (side_stand job) o.inset (altered_quad o.uv (wall_quad job ls.grid k d))

  pub map-own : AllOwn (map_faces job ls)
  map-own = names-all (mesh_of job ls) Own name-own (map_names job ls.grid)

  -- ---- N4: at most four indices a vertex
  name-few : (n : Name) → FewIndices (mesh_of job ls n)
  unfolding mesh_of
  name-few (Cap k) = cap-few (cap_stand job ls.grid k) ls.corners (option_of job ls (Cap k))
  name-few (Side k d) = let o = option_of job ls (Side k d) in wall-few (side_stand job) o.inset (altered_quad o.uv (wall_quad job ls.grid k d))

  pub map-few : (k : ℕ) → k < length (map_faces job ls) → FewIndices (face_at (map_faces job ls) k)
  map-few = names-all (mesh_of job ls) FewIndices name-few (map_names job ls.grid)
