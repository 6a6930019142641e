-- What is told of a map's faces is what they are. A plan that is done has not too many cells, so the walk over untested
-- lists has counted all of them. Assumes nothing.
use mathlib.Core.Path.{◌≡◌, refl, sym, ap, ◌∙◌}
use mathlib.Core.Bool.{Bool, true, cond}
use Prim.Native.Nat.{ℕ, ◌<◌}
use native.Mathlib.Omega.{arith}
use lib.ListN.{length, length-map}
use Rattle.face.specs.declared.triangle.Counts.{Counts}
use Rattle.answer.specs.declared.answer.Refusal.TheVariants.{Shape}
use Rattle.answer.specs.Answers.{Answer}
use Rattle.std.specs.Prelude.{Ok, Err}
use Rattle.answer.specs.Answers.{named}
use Rattle.answer.specs.Checks.{cell_count}
use Rattle.answer.proofs.Laws.{given-done, named-done}
use Rattle.buffers.specs.Mesh.{none, size_of, start_of}
use Rattle.buffers.specs.Windows.{face_at}
use Rattle.mesh.specs.Jobs.{faces_by, window_by}
use Rattle.mesh.proofs.Places.{faces-same, window_same, face-named}
use Rattle.heightmap.specs.declared.Name.{Name}
use Rattle.heightmap.specs.declared.Name.TheVariants.{Cap, Side}
use Rattle.heightmap.specs.declared.HeightMap.{HeightMap}
use Rattle.heightmap.specs.Grid.{cells_in}
use Rattle.heightmap.specs.HeightMap.{Lists, map_names, mesh_of, map_faces}
use Rattle.heightmap.specs.Counts.{size_by}
use Rattle.heightmap.specs.Tests.{shape_of, planned}
use Rattle.heightmap.specs.Names.{name_at, start_by}
use Rattle.heightmap.specs.Calls.{faces_told, window_told}
use Rattle.heightmap.proofs.Counts.{size-of}
use Rattle.heightmap_plan.specs.declared.names.Found.{Found}
use Rattle.heightmap_plan.specs.declared.tally.Tally.{Tally}
use Rattle.heightmap_plan.specs.Walking.{tally_of}
use Rattle.heightmap_plan.specs.Finding.{found_by, found_at, numbered}
use Rattle.heightmap_plan.proofs.Deciding.{few-cells}

module _ (job : HeightMap) (ls : Lists) where
  -- the size of a face goes by its option alone
  size-by : (n : Name) → size_by job ls n ≡ size_of (mesh_of job ls n)
  size-by (Cap k) = sym (size-of job ls (Cap k))
  size-by (Side k d) = sym (size-of job ls (Side k d))

  pub planned-few : (c : Counts) → planned job ls ≡ Ok c → cell_count (cells_in ls.grid.cells) ≡ true
  planned-few c e = few-cells job ls (given-done (shape_of job ls) Shape _ e).0

  face-total : length (map_names job ls.grid) ≡ length (map_faces job ls)
  face-total = sym (length-map (map_names job ls.grid) (mesh_of job ls))

  -- ---- the faces that the walk counts, where the plan is done
  module _ (t : Tally) (e : t ≡ tally_of job ls) where
    faces-so : cell_count (cells_in ls.grid.cells) ≡ true → t.faces ≡ length (map_faces job ls)
    faces-so h = ap (λ (x : Tally). x.faces) e ∙ counted ∙ face-total
      where
        counted : (tally_of job ls).faces ≡ length (map_names job ls.grid)
        counted = rw h refl

    pub faces-counted : (a : Answer) → a ≡ planned job ls → faces_by a t.faces ≡ faces_told job ls
    faces-counted a p =
        faces-same a t.faces (length (map_faces job ls)) (λ c d. faces-so (planned-few c (sym p ∙ d)))
        ∙ ap (λ (x : Answer). faces_by x (length (map_faces job ls))) p

    pub named-so : (k : ℕ) → named (planned job ls) k t.faces ≡ numbered job ls k
    named-so k = go (planned job ls) planned-few
      where
        go : (a : Answer) → ((c : Counts) → a ≡ Ok c → cell_count (cells_in ls.grid.cells) ≡ true) → named a k t.faces ≡ named a k (length (map_faces job ls))
        go (Err w) h = refl
        go (Ok c) h = ap (named (Ok c) k) (faces-so (h c refl))

  -- ---- the face of a number, where the plan is done
  module _ (k : ℕ) (found : Found) (e : found ≡ found_at job ls k) where
    pub found-so : cell_count (cells_in ls.grid.cells) ≡ true → found ≡ found_by (name_at job ls.grid k) (start_by job ls k)
    found-so f = e ∙ ap (λ (b : Bool). cond b (found_by (name_at job ls.grid k) (start_by job ls k)) (found_by (Cap 0) none)) f

    pub start-so : cell_count (cells_in ls.grid.cells) ≡ true → found.start ≡ start_of (map_faces job ls) k
    start-so f = ap (λ (x : Found). x.start) (found-so f)

    pub window-found : (a : Answer) (z : Counts) → a ≡ numbered job ls k → z ≡ size_by job ls found.name → window_by a found.start z ≡ window_told job ls k
    window-found a z p q =
        window_same a found.start (start_of (map_faces job ls) k) z (size_of (face_at (map_faces job ls) k)) here
        ∙ ap (λ (x : Answer). window_by x (start_of (map_faces job ls) k) (size_of (face_at (map_faces job ls) k))) p
      where
        here : (c : Counts) → a ≡ Ok c → (found.start ≡ start_of (map_faces job ls) k) × (z ≡ size_of (face_at (map_faces job ls) k))
        here c d =
            let n = named-done (planned job ls) c k (length (map_faces job ls)) (sym p ∙ d) in
            let few = planned-few c n.0 in
            let l : k < length (map_names job ls.grid) = omega (arith, n.1, face-total) in (
              start-so few,
              q
                  ∙ ap (λ (x : Found). size_by job ls x.name) (found-so few)
                  ∙ size-by (name_at job ls.grid k)
                  ∙ ap size_of (sym (face-named (mesh_of job ls) (map_names job ls.grid) k (Cap 0) l)),
            )
