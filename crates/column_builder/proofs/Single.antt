-- The face of a number, laid at its place. Assumes nothing.
use mathlib.Core.Path.{◌≡◌, sym, ap, ◌∙◌}
use mathlib.Core.Bool.{true}
use Prim.Native.Nat.{ℕ, ◌<◌}
use native.Mathlib.Omega.{arith}
use lib.ListN.{length}
use Rattle.face.specs.declared.triangle.Counts.{Counts}
use Rattle.std.specs.Prelude.{Ok}
use Rattle.buffers.specs.Mesh.{none, measure}
use Rattle.buffers.specs.Laying.{Buffers, fits, lay_one, laid_if_fits}
use Rattle.buffers.proofs.Named as named
use Rattle.mesh.proofs.Jobs.{face-room}
use Rattle.column.specs.declared.Column.{Column}
use Rattle.column.specs.declared.Name.{Name}
use Rattle.column.specs.Column.{Lists, column_names, mesh_of, column_faces, checked}
use Rattle.column.specs.Names.{start_by}
use Rattle.column.proofs.Numbering.{Stands}
use Rattle.column.proofs.Telling.{face-total}
use Rattle.column_builder.specs.Calls.{face_answer}
use Rattle.column_builder.proofs.Whole.{passes}

module _ (job : Column) (ls : Lists) where
  pub face-ready : (k : ℕ) (B : Buffers) (d : Counts) → face_answer job ls k B ≡ Ok d → (fits none (measure (column_faces job ls)) B ≡ true) × (k < length (column_names job))
  face-ready k B d e = let r = face-room (checked job ls) (column_faces job ls) (passes job ls) k B d e in (r.0, omega (arith, r.1, face-total job ls))

  pub stands-laid : (k : ℕ) (n : Name) (B : Buffers) → Stands job k n → fits none (measure (column_faces job ls)) B ≡ true
      → laid_if_fits (mesh_of job ls n) (start_by job ls.numbers ls.marks n) B ≡ lay_one (column_faces job ls) k none B
  stands-laid k n B s e = ap (λ (c : Counts). laid_if_fits (mesh_of job ls n) c B) (sym (s.start ls)) ∙ named.stands-laid (mesh_of job ls) (column_names job) k n B s.named e
