-- What is told of a job's faces: what a done answer says of them, and that a job's one face is all of it. Assumes nothing.
use Rattle.std.proofs.Common.{◌≡◌, ℕ, zero, suc, ◌<◌, Bool, List, [], ◌∷◌, map, length, get_or, sym, refl, ap, ◌∙◌, ap₂, arith, lt-ltb}
use Rattle.face.specs.declared.triangle.Counts.{Counts}
use Rattle.answer.specs.declared.answer.Refusal.{Refusal}
use Rattle.answer.specs.declared.answer.Refusal.TheVariants.{NoFace}
use Rattle.answer.specs.Answers.{Answer}
use Rattle.std.specs.Prelude.{Result, Ok, Err}
use Rattle.answer.specs.Answers.{counts_of, given, limited, named}
use Rattle.answer.proofs.Laws.{done-limited, named-done}
use Rattle.buffers.specs.Mesh.{Mesh, none, size_of, measure, start_of}
use Rattle.buffers.specs.Windows.{face_at}
use Rattle.buffers.proofs.Windows.{also-none}
use Rattle.mesh.specs.declared.windows.Faces.{Faces}
use Rattle.mesh.specs.declared.windows.Window.{Window}
use Rattle.mesh.specs.Jobs.{planned_of, faces_by, window_by, faces_of, window_of}

pub same-told : {s t : Faces} → ◌≡◌ {A = Result Faces Refusal} (Ok s) (Ok t) → s ≡ t
same-told p = cc

pub same-window : {s t : Window} → ◌≡◌ {A = Result Window Refusal} (Ok s) (Ok t) → s ≡ t
same-window p = cc

refused-not : {A B : Type 0} {e : Refusal} {x : A} → ◌≡◌ {A = Result A Refusal} (Err e) (Ok x) → B
refused-not p = let z : ◌≡◌ {A = ℕ} 0 1 = cc in absurd (omega arith)

-- ---- two ways to tell the same: what they say of a done answer decides
pub faces-same : (a : Answer) (m n : ℕ) → ((c : Counts) → a ≡ Ok c → m ≡ n) → faces_by a m ≡ faces_by a n
faces-same (Err e) m n h = refl
faces-same (Ok c) m n h = ap (faces_by (Ok c)) (h c refl)

pub window_same : (a : Answer) (s t y z : Counts) → ((c : Counts) → a ≡ Ok c → (s ≡ t) × (y ≡ z)) → window_by a s y ≡ window_by a t z
window_same (Err e) s t y z h = refl
window_same (Ok c) s t y z h = let r = h c refl in ap₂ (window_by (Ok c)) r.0 r.1

-- the mesh of a number is that of its name
pub face-named : {N : Type 0} (f : N → Mesh) (ns : List N) (k : ℕ) (z : N) → k < length ns → face_at (map f ns) k ≡ f (get_or ns k z)
face-named f [] k z h = absurd (let g : k < 0 = h in omega arith)
face-named f (n ∷ ns) zero z h = refl
face-named f (n ∷ ns) (suc k) z h = face-named f ns k z (let g : suc k < suc (length ns) = h in omega arith)

-- ---- the one face of a job is all of it
module _ (checked : Answer → Answer) (m : Mesh) (passes : (a : Answer) (d : Counts) → checked a ≡ Ok d → a ≡ Ok d) where
  pub alone-window : (k : ℕ) (a : Answer) → a ≡ named (planned_of checked (m ∷ [])) k 1 → window_by a none (counts_of a) ≡ window_of checked (m ∷ []) k
  alone-window k a e =
      window_same a none (start_of (m ∷ []) k) (counts_of a) (size_of (face_at (m ∷ []) k)) (λ c d. here c d)
      ∙ ap (λ (x : Answer). window_by x (start_of (m ∷ []) k) (size_of (face_at (m ∷ []) k))) e
    where
      here : (c : Counts) → a ≡ Ok c → (none ≡ start_of (m ∷ []) k) × (counts_of a ≡ size_of (face_at (m ∷ []) k))
      here c d =
          let n = named-done (planned_of checked (m ∷ [])) c k 1 (sym e ∙ d) in
          let z : k ≡ 0 = omega (arith, n.1) in
          let s = done-limited (measure (m ∷ [])) c (passes (limited (measure (m ∷ []))) c n.0) in (
            ap (start_of (m ∷ [])) (sym z),
            ap counts_of d ∙ sym s.1 ∙ also-none (size_of m) ∙ ap (λ (j : ℕ). size_of (face_at (m ∷ []) j)) (sym z),
          )

-- ---- of any job: a window is done exactly where the plan is and the number is a face's
module _ (checked : Answer → Answer) (fs : List Mesh) where
  pub told-faces : (c : Counts) → planned_of checked fs ≡ Ok c → faces_of checked fs ≡ Ok (record { counts = c; faces = length fs })
  told-faces c p = ap (λ (a : Answer). faces_by a (length fs)) p

  pub told-window : (c : Counts) → planned_of checked fs ≡ Ok c → (k : ℕ) → k < length fs → window_of checked fs k ≡ Ok (record { counts = c; start = start_of fs k; size = size_of (face_at fs k) })
  told-window c p k h =
      ap (λ (a : Answer). window_by a (start_of fs k) (size_of (face_at fs k)))
      (ap (λ (a : Answer). named a k (length fs)) p ∙ ap (λ (x : Bool). given x NoFace (Ok c)) (lt-ltb k (length fs) h))

  pub planned-told : (t : Faces) → faces_of checked fs ≡ Ok t → (planned_of checked fs ≡ Ok t.counts) × (t.faces ≡ length fs)
  planned-told t e = go (planned_of checked fs) e
    where
      go : (a : Answer) → faces_by a (length fs) ≡ Ok t → (a ≡ Ok t.counts) × (t.faces ≡ length fs)
      go (Ok d) q = let s = same-told q in (ap (λ (x : Faces). let a : Answer = Ok x.counts in a) s, sym (ap (λ (x : Faces). x.faces) s))
      go (Err e) q = refused-not q

  pub done-window : (k : ℕ) (w : Window) → window_of checked fs k ≡ Ok w → (planned_of checked fs ≡ Ok w.counts) × (k < length fs)
  done-window k w e = go (named (planned_of checked fs) k (length fs)) refl e
    where
      go : (a : Answer) → named (planned_of checked fs) k (length fs) ≡ a → window_by a (start_of fs k) (size_of (face_at fs k)) ≡ Ok w → (planned_of checked fs ≡ Ok w.counts) × (k < length fs)
      go (Ok d) n q =
          let s : d ≡ w.counts = ap (λ (x : Window). x.counts) (same-window q) in
          named-done (planned_of checked fs) w.counts k (length fs) (n ∙ ap (λ (x : Counts). let a : Answer = Ok x in a) s)
      go (Err e) n q = refused-not q
