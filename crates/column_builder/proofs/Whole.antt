-- What a done answer says of the room, whose vertices a face names, and how many indices it has. Assumes nothing.
use mathlib.Core.Path.{◌≡◌}
use mathlib.Core.Bool.{true}
use Prim.Native.Nat.{ℕ, ◌<◌}
use lib.ListN.{length}
use Rattle.face.specs.declared.triangle.Counts.{Counts}
use Rattle.face.specs.Face.{altered_quad}
use Rattle.answer.specs.declared.answer.Refusal.TheVariants.{Shape, Range}
use Rattle.answer.specs.Answers.{Answer}
use Rattle.std.specs.Prelude.{Ok}
use Rattle.answer.specs.Answers.{given}
use Rattle.answer.proofs.Laws.{given-done}
use Rattle.placement.specs.Options.{option_for}
use Rattle.mesh.proofs.Jobs.{whole_room}
use Rattle.buffers.specs.Mesh.{none, measure}
use Rattle.buffers.specs.Laying.{Buffers, fits}
use Rattle.buffers.specs.Windows.{face_at, Own, AllOwn}
use Rattle.buffers.proofs.Joined.{wall-own}
use Rattle.buffers.proofs.Faces.{FewIndices, wall-few}
use Rattle.buffers.proofs.Named.{names-all}
use Rattle.plane_builder.proofs.Caps.{cap-own, cap-few}
use Rattle.column.specs.declared.Column.{Column}
use Rattle.column.specs.declared.Name.{Name}
use Rattle.column.specs.declared.Name.TheVariants.{OfSide, Top, Bottom}
use Rattle.column.specs.Column.{Lists, side_at, column_names, part_quad, wall_stand, top_stand, bottom_stand, mesh_of, column_faces, shape_of, range_of, checked}
use Rattle.column_builder.specs.Calls.{whole_answer}

-- ---- what a done answer says: there is room for every face
module _ (job : Column) (ls : Lists) where
  pub passes : (a : Answer) (d : Counts) → checked job ls a ≡ Ok d → a ≡ Ok d
  passes a d e = (given-done (range_of job ls) Range a (given-done (shape_of job ls) Shape (given (range_of job ls) Range a) e).1).1

  pub whole_ready : (B : Buffers) (d : Counts) → whole_answer job ls B ≡ Ok d → fits none (measure (column_faces job ls)) B ≡ true
  whole_ready = whole_room (checked job ls) (column_faces job ls) passes

-- ---- X8: every face's triangles name its own vertices
module _ (job : Column) (ls : Lists) where
  name-own : (n : Name) → Own (mesh_of job ls n)
  unfolding mesh_of
  name-own (OfSide d p) = let o = option_for ls.numbers ls.marks (side_at job.sides d) in wall-own (wall_stand job) o.inset (altered_quad o.uv (part_quad job ls.pairs d p))
  name-own Top = cap-own (top_stand job) ls.corners (option_for ls.numbers ls.marks job.top)
  name-own Bottom = cap-own (bottom_stand job) ls.corners (option_for ls.numbers ls.marks job.bottom)

  pub column-own : AllOwn (column_faces job ls)
  column-own = names-all (mesh_of job ls) Own name-own (column_names job)

  -- ---- N4: at most four indices a vertex
  name-few : (n : Name) → FewIndices (mesh_of job ls n)
  unfolding mesh_of
  name-few (OfSide d p) = let o = option_for ls.numbers ls.marks (side_at job.sides d) in wall-few (wall_stand job) o.inset (altered_quad o.uv (part_quad job ls.pairs d p))
  name-few Top = cap-few (top_stand job) ls.corners (option_for ls.numbers ls.marks job.top)
  name-few Bottom = cap-few (bottom_stand job) ls.corners (option_for ls.numbers ls.marks job.bottom)

  pub column-few : (k : ℕ) → k < length (column_faces job ls) → FewIndices (face_at (column_faces job ls) k)
  column-few = names-all (mesh_of job ls) FewIndices name-few (column_names job)
