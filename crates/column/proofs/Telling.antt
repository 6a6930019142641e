-- What is told of a column's faces is what they are. Assumes nothing.
use Rattle.std.proofs.Common.{◌≡◌, ℕ, length, sym, ap, ◌∙◌}
use lib.ListN.{length-map}
use Rattle.face.specs.declared.triangle.Counts.{Counts}
use Rattle.answer.specs.Answers.{Answer}
use Rattle.std.specs.Prelude.{Ok}
use Rattle.answer.specs.Answers.{named}
use Rattle.answer.proofs.Laws.{named-done}
use Rattle.buffers.specs.Mesh.{size_of, start_of}
use Rattle.buffers.specs.Windows.{face_at}
use Rattle.mesh.specs.Jobs.{window_by}
use Rattle.mesh.proofs.Places.{window_same, face-named}
use Rattle.column.specs.declared.Column.{Column}
use Rattle.column.specs.declared.Name.{Name}
use Rattle.column.specs.declared.Name.TheVariants.{OfSide, Top, Bottom}
use Rattle.column.specs.Column.{Lists, column_names, mesh_of, column_faces, planned, window_told}
use Rattle.column.specs.Names.{name_at, start_by, size_by}
use Rattle.column.proofs.Counts.{part-size, top-size, bottom-size}
use Rattle.column.proofs.Numbering.{name-stands}

module _ (job : Column) (ls : Lists) where
  pub face-total : length (column_names job) ≡ length (column_faces job ls)
  face-total = sym (length-map (column_names job) (mesh_of job ls))

  size-of : (n : Name) → size_of (mesh_of job ls n) ≡ size_by job ls.numbers ls.marks n
  size-of (OfSide d p) = part-size job ls d p
  size-of Top = top-size job ls
  size-of Bottom = bottom-size job ls

  -- by the name of its number
  pub window-named : (k : ℕ) (a : Answer) → a ≡ named (planned job ls) k (length (column_names job))
      → window_by a (start_by job ls.numbers ls.marks (name_at job k)) (size_by job ls.numbers ls.marks (name_at job k)) ≡ window_told job ls k
  window-named k a e =
      window_same a _ (start_of (column_faces job ls) k) _ (size_of (face_at (column_faces job ls) k)) here
      ∙ ap (λ (x : Answer). window_by x (start_of (column_faces job ls) k) (size_of (face_at (column_faces job ls) k))) (e ∙ ap (named (planned job ls) k) face-total)
    where
      here : (c : Counts) → a ≡ Ok c
          → (start_by job ls.numbers ls.marks (name_at job k) ≡ start_of (column_faces job ls) k)
          × (size_by job ls.numbers ls.marks (name_at job k) ≡ size_of (face_at (column_faces job ls) k))
      here c d =
          let n = named-done (planned job ls) c k (length (column_names job)) (sym e ∙ d) in (
            sym ((name-stands job k n.1).start ls),
            sym (size-of (name_at job k)) ∙ ap size_of (sym (face-named (mesh_of job ls) (column_names job) k Bottom n.1)),
          )
