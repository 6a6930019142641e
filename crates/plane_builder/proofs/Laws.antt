-- A plane's plan, and what laying its one face asks for. Assumes nothing.
use mathlib.Core.Path.{◌≡◌, refl, sym, ap, ap₂, ◌∙◌}
use mathlib.Core.Bool.{Bool, true, false}
use mathlib.Core.List.{[], ◌∷◌}
use Prim.Native.Nat.{ℕ}
use native.Mathlib.Omega.{arith}
use Rattle.face.specs.declared.triangle.Counts.{Counts}
use Rattle.face.specs.Triangles.{inset_counts}
use Rattle.answer.specs.declared.answer.Refusal.TheVariants.{Shape, Range}
use Rattle.answer.specs.Answers.{Answer}
use Rattle.std.specs.Prelude.{Ok, Err}
use Rattle.answer.specs.Answers.{given, limited, after}
use Rattle.answer.proofs.Laws.{given-done}
use Rattle.buffers.specs.Mesh.{Mesh, none, size_of, measure}
use Rattle.buffers.specs.Laying.{Buffers, fits, lay, lay_all, lay_one, laid_if_fits}
use Rattle.buffers.specs.Faces.{hexagon_mesh}
use Rattle.buffers.specs.Windows.{Own}
use Rattle.buffers.proofs.Windows.{also-none}
use Rattle.buffers.proofs.Faces.{FewIndices, standing-size, hexagon-size, laid_so}
use Rattle.mesh.proofs.Jobs.{whole_room, face-room}
use Rattle.plane_builder.specs.declared.Plane.{Plane}
use Rattle.plane_builder.specs.Cap.{cap_hexagon}
use Rattle.plane_builder.specs.Plane.{Lists, stand_of, options_of, plane_mesh, laid_if_done, plane_faces, shape_of, range_of, checked, planned, whole_answer, face_answer, built, faced}
use Rattle.plane_builder.proofs.Caps.{cap-own, cap-few}

-- ---- one face alone
pub alone-size : (m : Mesh) → measure (m ∷ []) ≡ size_of m
alone-size m = also-none (size_of m)

pub alone-all : (m : Mesh) (at : Counts) (B : Buffers) → lay m at B ≡ lay_all (m ∷ []) at B
unfolding lay_all
alone-all m at B = refl

pub alone-one : (m : Mesh) (at : Counts) (B : Buffers) (k : ℕ) → k ≡ 0 → lay_all (m ∷ []) at B ≡ lay_one (m ∷ []) k at B
unfolding lay_all lay_one
alone-one m at B k e = rw e

-- laid where there is room for the one, the whole is laid
pub alone-laid : (m : Mesh) (B : Buffers) → fits none (measure (m ∷ [])) B ≡ true → laid_if_fits m none B ≡ lay_all (m ∷ []) none B
alone-laid m B e = sym (laid_so m none B (ap (λ (c : Counts). fits none c B) (sym (alone-size m)) ∙ e)) ∙ alone-all m none B

module _ (job : Plane) (ls : Lists) where
  -- ---- the plan, as the code tests it
  pub plane-counts : limited (inset_counts (options_of job ls).inset 6 4) ≡ limited (measure (plane_faces job ls))
  plane-counts =
      let o = options_of job ls in
      let m = hexagon_mesh o.inset (cap_hexagon ls.corners o) in
      ap limited (sym (alone-size (plane_mesh job ls) ∙ standing-size (stand_of job) m ∙ hexagon-size o.inset (cap_hexagon ls.corners o)))

  pub misshapen : shape_of job ls ≡ false → Err Shape ≡ planned job ls
  misshapen e = sym (ap (λ (x : Bool). given x Shape (given (range_of job ls) Range (limited (measure (plane_faces job ls))))) e)

  pub range-decides : shape_of job ls ≡ true → (y : Bool) → range_of job ls ≡ y → given y Range (limited (measure (plane_faces job ls))) ≡ planned job ls
  range-decides e y f = sym (ap₂ (λ (p q : Bool). given p Shape (given q Range (limited (measure (plane_faces job ls))))) e f)

  -- ---- what a done answer says: there is room, and the number is the one face's
  pub passes : (a : Answer) (d : Counts) → checked job ls a ≡ Ok d → a ≡ Ok d
  passes a d e = (given-done (range_of job ls) Range a (given-done (shape_of job ls) Shape (given (range_of job ls) Range a) e).1).1

  module _ (B : Buffers) where
    -- the one face is what a done build leaves, and what a done face call leaves
    whole-done : (d : Counts) → whole_answer job ls B ≡ Ok d → laid_if_fits (plane_mesh job ls) none B ≡ lay_all (plane_faces job ls) none B
    whole-done d e = alone-laid (plane_mesh job ls) B (whole_room (checked job ls) (plane_faces job ls) passes B d e)

    face-done : (k : ℕ) (d : Counts) → face_answer job ls k B ≡ Ok d → laid_if_fits (plane_mesh job ls) none B ≡ lay_one (plane_faces job ls) k none B
    face-done k d e =
        let r = face-room (checked job ls) (plane_faces job ls) passes k B d e in
        alone-laid (plane_mesh job ls) B r.0
        ∙ alone-one (plane_mesh job ls) none B k (omega (arith, r.1))

    -- what a done answer lays decides what is left
    left : (a : Answer) (C : Buffers) → ((d : Counts) → a ≡ Ok d → laid_if_fits (plane_mesh job ls) none B ≡ C) → laid_if_done a (plane_mesh job ls) B ≡ after a B C
    left (Ok d) C h = h d refl
    left (Err w) C h = refl

    -- by the whole build's answer it is what the build leaves, and by a face call's what that leaves
    pub whole-left : laid_if_done (whole_answer job ls B) (plane_mesh job ls) B ≡ built job ls B
    whole-left = left (whole_answer job ls B) (lay_all (plane_faces job ls) none B) whole-done

    pub face-left : (k : ℕ) → laid_if_done (face_answer job ls k B) (plane_mesh job ls) B ≡ faced job ls k B
    face-left k = left (face_answer job ls k B) (lay_one (plane_faces job ls) k none B) (face-done k)

  -- ---- its triangles name its own vertices, and it has at most four indices a vertex
  pub plane-own : Own (plane_mesh job ls)
  plane-own = cap-own (stand_of job) ls.corners (options_of job ls)

  pub plane-few : FewIndices (plane_mesh job ls)
  plane-few = cap-few (stand_of job) ls.corners (options_of job ls)
