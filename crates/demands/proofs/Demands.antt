-- What holds of every job, whatever its kind, of the answers, buffers and places that its functions promise.
-- Assumes nothing.
use mathlib.Core.Path.{◌≡◌, refl, sym, ap, ap₂, subst, ◌∙◌}
use mathlib.Core.Logic.{⊎_elim, inl, inr}
use mathlib.Core.Bool.{Bool}
use mathlib.Core.List.{List, [], ◌∷◌}
use Prim.Native.Nat.{ℕ, zero, suc, ◌+◌, ◌*◌, ◌<◌, ◌≤◌, min}
use native.Mathlib.Nat.{le_trans, min-le_left}
use native.Mathlib.Omega.{arith}
use lib.Dec.{ltb, lit≤}
use lib.ListN.{length, take, length-take, take-append-drop}
use Rattle.face.specs.declared.triangle.Counts.{Counts}
use Rattle.answer.specs.declared.answer.Refusal.{Refusal}
use Rattle.answer.specs.declared.answer.Refusal.TheVariants.{Shape, Range, Neighbour, Empty, Room, NoFace}
use Rattle.answer.specs.declared.answer.Buffer.{Buffer}
use Rattle.answer.specs.Answers.{Answer}
use Rattle.std.specs.Prelude.{Ok, Err}
use Rattle.answer.specs.Answers.{Short, FirstShort, Lengthened, Past, need_for, number_of, need_of, given, limited, after}
use Rattle.answer.specs.Checks.{exactly}
use Rattle.answer.proofs.Laws.{given-most, limited-most, without-need, short-first, done-limited, named-done, roomed-done, after-done, after-refused}
use Rattle.buffers.specs.Mesh.{Mesh, none, also, size_of, measure, start_of, joined}
use Rattle.buffers.specs.Laying.{Buffers, lay_all, lay_one}
use Rattle.buffers.specs.Steps.{Step, Lays, Refuses, Named}
use Rattle.buffers.specs.Windows.{AlikeOutside, SameLengths, Holds, Within, Own, AllOwn, InFace, face_at}
use Rattle.buffers.proofs.Order.{same-four, lay-lengths, one-lengths, lengths-same, lengths-then}
use Rattle.buffers.proofs.Windows.{none-also, next_start, last_end, one_inside, windows-apart, floats-covered, indices-covered}
use Rattle.buffers.proofs.Faces.{FewIndices}
use Rattle.buffers.proofs.Joined.{few-indices, held-own, all-is-joined, all-inside, all-outside}
use Rattle.mesh.specs.declared.windows.Faces.{Faces}
use Rattle.mesh.specs.declared.windows.Window.{Window}
use Rattle.mesh.specs.Jobs.{RoomIn, ShortIn, length_in, RefusedRoom, planned_of, whole_of, one_of, built_of, faced_of, faces_by, faces_of, window_by, window_of, calls}
use Rattle.mesh.specs.Stored as stored
use Rattle.mesh.proofs.Jobs as jobs
use Rattle.mesh.proofs.Places as places
use Rattle.mesh.proofs.Jobs.{plan-and-build, refused-plan, any-calls, only-its-places, no-places, face-answer, no-face-answer}
use Rattle.merge.specs.Merge.{merge_answer, appended}
use Rattle.cheap_column.specs.CheapColumn as cheap
use Rattle.cheap_column.proofs.Cheap as cheapLaws
use Rattle.plane_builder.specs.Plane as plane
use Rattle.plane_builder.proofs.Laws as planeLaws
use Rattle.column.specs.Column as column
use Rattle.column_builder.proofs.Whole as columnLaws
use Rattle.heightmap.specs.Tests as mapTests
use Rattle.heightmap.proofs.Faces as mapLaws
use Rattle.boundary.specs.ToC.{answer_to_c, faces_to_c, window_to_c}
use Rattle.demands.specs.Job.{Job, OfCheapColumn, OfPlane, OfColumn, OfMap, faces, planned, whole_answer, face_answer, built, faced, faces_told, window_told}
use Rattle.demands.specs.Calls.{Call, Build, Face, Merge, Scale, Offset, TextureScale, Centroid, UvCentroid, answer_of, leaves, Lengths, first, before, leaves_first, InRun, OwnFace, Other, run, OthersRefused, Among}

-- ---- each kind is its own tests and its faces: what its functions promise is what `Jobs` says of those
abbrev checked : Job → Answer → Answer
checked (OfCheapColumn job l) = cheap.checked job l
checked (OfPlane job ls) = plane.checked job ls
checked (OfColumn job ls) = column.checked job ls
checked (OfMap job ls) = mapTests.checked job ls

planned-is : (job : Job) → planned job ≡ planned_of (checked job) (faces job)
planned-is (OfCheapColumn job l) = refl
planned-is (OfPlane job ls) = refl
planned-is (OfColumn job ls) = refl
planned-is (OfMap job ls) = refl

whole_is : (job : Job) (B : Buffers) → whole_answer job B ≡ whole_of (checked job) (faces job) B
whole_is (OfCheapColumn job l) B = refl
whole_is (OfPlane job ls) B = refl
whole_is (OfColumn job ls) B = refl
whole_is (OfMap job ls) B = refl

face-is : (job : Job) (k : ℕ) (B : Buffers) → face_answer job k B ≡ one_of (checked job) (faces job) k B
face-is (OfCheapColumn job l) k B = refl
face-is (OfPlane job ls) k B = refl
face-is (OfColumn job ls) k B = refl
face-is (OfMap job ls) k B = refl

built-is : (job : Job) (B : Buffers) → built job B ≡ built_of (checked job) (faces job) B
built-is (OfCheapColumn job l) B = refl
built-is (OfPlane job ls) B = refl
built-is (OfColumn job ls) B = refl
built-is (OfMap job ls) B = refl

faced-is : (job : Job) (k : ℕ) (B : Buffers) → faced job k B ≡ faced_of (checked job) (faces job) k B
faced-is (OfCheapColumn job l) k B = refl
faced-is (OfPlane job ls) k B = refl
faced-is (OfColumn job ls) k B = refl
faced-is (OfMap job ls) k B = refl

told_is : (job : Job) → faces_told job ≡ faces_of (checked job) (faces job)
told_is (OfCheapColumn job l) = refl
told_is (OfPlane job ls) = refl
told_is (OfColumn job ls) = refl
told_is (OfMap job ls) = refl

window-is : (job : Job) (k : ℕ) → window_told job k ≡ window_of (checked job) (faces job) k
window-is (OfCheapColumn job l) k = refl
window-is (OfPlane job ls) k = refl
window-is (OfColumn job ls) k = refl
window-is (OfMap job ls) k = refl

-- its own tests change no answer
passes : (job : Job) (a : Answer) (d : Counts) → checked job a ≡ Ok d → a ≡ Ok d
passes (OfCheapColumn job l) = cheapLaws.passes job l
passes (OfPlane job ls) = planeLaws.passes job ls
passes (OfColumn job ls) = columnLaws.passes job ls
passes (OfMap job ls) = mapLaws.passes job ls

-- ---- R10: a refused call leaves every buffer as it was
module _ (job : Job) (B : Buffers) (e : Refusal) where
  pub refused-build : whole_answer job B ≡ Err e → built job B ≡ B
  refused-build h = built-is job B ∙ sym (after-refused (whole_of (checked job) (faces job) B) B (lay_all (faces job) none B) (sym (whole_is job B) ∙ h))

  pub refused-face : (k : ℕ) → face_answer job k B ≡ Err e → faced job k B ≡ B
  refused-face k h = faced-is job k B ∙ sym (after-refused (one_of (checked job) (faces job) k B) B (lay_one (faces job) k none B) (sym (face-is job k B) ∙ h))

-- ---- R16, N4: the counts of a done plan are the sums over its faces, at most 65,536 vertices and 262,144 indices
pub counts-are-sums : (job : Job) (c : Counts) → planned job ≡ Ok c → ((measure (faces job)).vertices.0 ≤ 65536) × (measure (faces job) ≡ c)
counts-are-sums job c e = done-limited (measure (faces job)) c (passes job (limited (measure (faces job))) c (sym (planned-is job) ∙ e))

alone : (P : Mesh → Type 0) (m : Mesh) → P m → (k : ℕ) → k < 1 → P (face_at (m ∷ []) k)
alone P m o zero h = o
alone P m o (suc k) h = absurd (omega (arith, h))

all-few : (job : Job) (k : ℕ) → k < length (faces job) → FewIndices (face_at (faces job) k)
all-few (OfCheapColumn job l) = alone FewIndices _ (cheapLaws.column-few job l)
all-few (OfPlane job ls) = alone FewIndices _ (planeLaws.plane-few job ls)
all-few (OfColumn job ls) = columnLaws.column-few job ls
all-few (OfMap job ls) = mapLaws.map-few job ls

pub at_most : (job : Job) (c : Counts) → planned job ≡ Ok c → (c.vertices.0 ≤ 65536) × (c.indices.0 ≤ 262144)
at_most job c e =
    let s = counts-are-sums job c e in
    let v : c.vertices.0 ≤ 65536 = rw s.1 at s.0 in
    let f : c.indices.0 ≤ 4 * c.vertices.0 = rw s.1 at (few-indices (faces job) (all-few job)) in
    (v, omega (arith, v, f))

-- ---- R5, R17: a call that is done has the plan's counts and the whole plan's room, a face call for a planned face
pub done-build : (job : Job) (B : Buffers) (c : Counts) → whole_answer job B ≡ Ok c → (planned job ≡ Ok c) × RoomIn c B
done-build job B c e = let r = roomed-done (planned_of (checked job) (faces job)) c _ _ _ _ (sym (whole_is job B) ∙ e) in (planned-is job ∙ r.0, r.1)

pub done-face : (job : Job) (k : ℕ) (B : Buffers) (c : Counts) → face_answer job k B ≡ Ok c → (planned job ≡ Ok c) × RoomIn c B × (k < length (faces job))
done-face job k B c e =
    let r = roomed-done _ c _ _ _ _ (sym (face-is job k B) ∙ e) in
    let n = named-done (planned_of (checked job) (faces job)) c k (length (faces job)) r.0 in
    (planned-is job ∙ n.0, r.1, n.1)

-- and where these hold it is done; a number of no face is refused as such
pub face-is-done : (job : Job) (c : Counts) → planned job ≡ Ok c → (k : ℕ) (B : Buffers) → RoomIn c B → k < length (faces job) → face_answer job k B ≡ Ok c
face-is-done job c p k B r h = face-is job k B ∙ face-answer (checked job) (faces job) c (sym (planned-is job) ∙ p) k B r h

pub no-face-refused : (job : Job) (c : Counts) → planned job ≡ Ok c → (k : ℕ) (B : Buffers) → length (faces job) ≤ k → face_answer job k B ≡ Err NoFace
no-face-refused job c p k B h = face-is job k B ∙ no-face-answer (checked job) (faces job) c (sym (planned-is job) ∙ p) k B h

-- ---- L1: an accepted plan and buffers that are too short for it: the build and each planned face are refused for the first
-- such buffer, with what the whole plan needs in it
module _ (job : Job) (c : Counts) (p : planned job ≡ Ok c) (B : Buffers) where
  module _ (b : Buffer) (s : FirstShort c (length_in B) b) where
    pub first-build : whole_answer job B ≡ Err (Room b (need_for b c))
    first-build = whole_is job B ∙ jobs.first-build (checked job) (faces job) c (sym (planned-is job) ∙ p) (at_most job c p).0 b B s

    pub first-face : (k : ℕ) → k < length (faces job) → face_answer job k B ≡ Err (Room b (need_for b c))
    first-face k h = face-is job k B ∙ jobs.first-face (checked job) (faces job) c (sym (planned-is job) ∙ p) (at_most job c p).0 b B s k h

    -- with that one buffer at its need they are done, or refused for a later one
    module _ (C : Buffers) (g : Lengthened b (need_for b c) (length_in B) (length_in C)) where
      pub past-build : Past c (whole_answer job C) b
      past-build = rw (whole_is job C) (jobs.past-build (checked job) (faces job) c (sym (planned-is job) ∙ p) (at_most job c p).0 b B s C g)

      pub past-face : (k : ℕ) → k < length (faces job) → Past c (face_answer job k C) b
      past-face k h = rw (face-is job k C) (jobs.past-face (checked job) (faces job) c (sym (planned-is job) ∙ p) (at_most job c p).0 b B s C g k h)

  -- whichever of the four is short
  pub short-build : ShortIn c B → RefusedRoom c B (whole_answer job B)
  short-build s =
      let f = short-first c _ _ _ _ s in
      record { buffer = f.buffer; first = f.first; refused = first-build f.buffer f.first }

  pub short-face : ShortIn c B → (k : ℕ) → k < length (faces job) → RefusedRoom c B (face_answer job k B)
  short-face s k h =
      let f = short-first c _ _ _ _ s in
      record { buffer = f.buffer; first = f.first; refused = first-face f.buffer f.first k h }

-- ---- L1: a plan's number is at most 4 and a stored mesh's at most 8, so neither is refused for room or has a need
tested-most : (p q : Bool) (a : Answer) → number_of a ≤ 4 → number_of (given p Shape (given q Range a)) ≤ 4
tested-most p q a h = given-most 4 p Shape (given q Range a) (lit≤ tt) (given-most 4 q Range a (lit≤ tt) h)

plan-most : (job : Job) → number_of (planned job) ≤ 4
plan-most (OfCheapColumn job l) =
    let c = measure (faces (OfCheapColumn job l)) in
    tested-most (exactly (length l) 6 2) (cheap.range_of job l) (limited c) (limited-most c)
plan-most (OfPlane job ls) =
    let c = measure (faces (OfPlane job ls)) in
    tested-most (plane.shape_of job ls) (plane.range_of job ls) (limited c) (limited-most c)
plan-most (OfColumn job ls) =
    let c = measure (faces (OfColumn job ls)) in
    tested-most (column.shape_of job ls) (column.range_of job ls) (limited c) (limited-most c)
plan-most (OfMap job ls) =
    let c = measure (faces (OfMap job ls)) in
    let linked = mapTests.linked_of ls.grid in
    tested-most (mapTests.shape_of job ls) (mapTests.range_of job ls) (given linked Neighbour (limited c)) (given-most 4 linked Neighbour (limited c) (lit≤ tt) (limited-most c))

pub plan-without-need : (job : Job) → (number_of (planned job) ≤ 4) × (need_of (planned job) ≡ 0)
plan-without-need job = (plan-most job, without-need (planned job) (omega (arith, plan-most job)))

stored-most : (c : Counts) (good : Bool) (B : Buffers) → number_of (stored.answer_of c good B) ≤ 4
stored-most c good B = tested-most (stored.holds_counts c (length B.vertices) (length B.normals) (length B.uvs) (length B.indices)) good (limited c) (limited-most c)

not-empty-most : (a : Answer) → number_of a ≤ 4 → number_of (stored.not_empty a) ≤ 8
not-empty-most (Err e) h = le_trans h (lit≤ tt)
not-empty-most (Ok c) h = given-most 8 (ltb 0 c.vertices.0) Empty (Ok c) (lit≤ tt) (lit≤ tt)

pub stored-without-need : (c : Counts) (good : Bool) (B : Buffers) → (need_of (stored.answer_of c good B) ≡ 0) × (need_of (stored.not_empty (stored.answer_of c good B)) ≡ 0)
stored-without-need c good B =
    let a = stored.answer_of c good B in
    let h = stored-most c good B in
    (without-need a (omega (arith, h)), without-need (stored.not_empty a) (omega (arith, not-empty-most a h)))

-- ---- X4: plan and whole build give the same refusal, or the same counts, whenever the planned room is there
pub plan-and-build-agree : (job : Job) (B : Buffers) → ((c : Counts) → planned job ≡ Ok c → RoomIn c B) → whole_answer job B ≡ planned job
plan-and-build-agree job B h = whole_is job B ∙ plan-and-build (checked job) (faces job) B (λ c e. h c (planned-is job ∙ e)) ∙ sym (planned-is job)

-- and a refused plan is the whole build's refusal whatever is lent
pub refused-plan-refuses : (job : Job) (B : Buffers) (e : Refusal) → planned job ≡ Err e → whole_answer job B ≡ Err e
refused-plan-refuses job B e p = whole_is job B ∙ refused-plan (checked job) (faces job) B e (sym (planned-is job) ∙ p)

-- ---- no call makes a buffer longer or shorter
after-lengths : (a : Answer) (B C : Buffers) → SameLengths B C → SameLengths B (after a B C)
after-lengths (Ok c) B C s = s
after-lengths (Err e) B C s = lengths-same B

pub face-lengths : (job : Job) (k : ℕ) (B : Buffers) → SameLengths B (faced job k B)
face-lengths job k B = subst (SameLengths B) (sym (faced-is job k B)) (after-lengths (one_of (checked job) (faces job) k B) B (lay_one (faces job) k none B) (one-lengths (faces job) k none B))

pub build-lengths : (job : Job) (B : Buffers) → SameLengths B (built job B)
build-lengths job B = subst (SameLengths B) (sym (built-is job B)) (after-lengths (whole_of (checked job) (faces job) B) B (lay_all (faces job) none B) (subst (SameLengths B) (sym (all-is-joined (faces job) none B)) (lay-lengths (joined (faces job)) none B)))

-- ---- R17, X6: a face call writes no place but its face's, and a done one writes all of those
pub only-its-face : (job : Job) (k : ℕ) (B : Buffers) → k < length (faces job) → AlikeOutside (start_of (faces job) k) (start_of (faces job) (suc k)) B (faced job k B)
only-its-face job k B h = subst (AlikeOutside (start_of (faces job) k) (start_of (faces job) (suc k)) B) (sym (faced-is job k B)) (only-its-places (checked job) (faces job) k B h)

pub no-face-nothing : (job : Job) (k : ℕ) (B : Buffers) → length (faces job) ≤ k → faced job k B ≡ B
no-face-nothing job k B h = faced-is job k B ∙ no-places (checked job) (faces job) k B h

pub whole-face : (job : Job) (k : ℕ) (B : Buffers) (c : Counts) → face_answer job k B ≡ Ok c → Holds (face_at (faces job) k) (start_of (faces job) k) (faced job k B)
whole-face job k B c e =
    subst (Holds (face_at (faces job) k) (start_of (faces job) k))
    (after-done (one_of (checked job) (faces job) k B) B (lay_one (faces job) k none B) (sym (face-is job k B) ∙ e) ∙ sym (faced-is job k B))
    (one_inside (faces job) k B (done-face job k B c e).2)

-- ---- R16: the faces' windows do not meet, and every planned place lies in one
pub faces-apart : (job : Job) (j k : ℕ) → j < k → j < length (faces job)
    → ((start_of (faces job) j).vertices.0 + length (face_at (faces job) j).vertices ≤ (start_of (faces job) k).vertices.0)
    × ((start_of (faces job) j).indices.0 + 3 * length (face_at (faces job) j).triangles ≤ (start_of (faces job) k).indices.0)
faces-apart job = windows-apart (faces job)

pub floats-in-faces : (job : Job) (n p : ℕ) → p < n * (measure (faces job)).vertices.0 → Within (λ k. n * (start_of (faces job) k).vertices.0) (length (faces job)) p
floats-in-faces job n = floats-covered n (faces job)

pub indices-in-faces : (job : Job) (p : ℕ) → p < (measure (faces job)).indices.0 → Within (λ k. (start_of (faces job) k).indices.0) (length (faces job)) p
indices-in-faces job = indices-covered (faces job)

-- ---- R12: how many faces an accepted job has is told, and a window is told exactly where its number is one of them
pub faces-told : (job : Job) (c : Counts) → planned job ≡ Ok c → faces_told job ≡ Ok (record { counts = c; faces = length (faces job) })
faces-told job c p = told_is job ∙ places.told-faces (checked job) (faces job) c (sym (planned-is job) ∙ p)

pub told-faces : (job : Job) (f : Faces) → faces_told job ≡ Ok f → (planned job ≡ Ok f.counts) × (f.faces ≡ length (faces job))
told-faces job f e = let r = places.planned-told (checked job) (faces job) f (sym (told_is job) ∙ e) in (planned-is job ∙ r.0, r.1)

pub window-told : (job : Job) (f : Faces) → faces_told job ≡ Ok f → (k : ℕ) → k < f.faces
    → window_told job k ≡ Ok (record { counts = f.counts; start = start_of (faces job) k; size = size_of (face_at (faces job) k) })
window-told job f e k h =
    let r = told-faces job f e in
    window-is job k ∙ places.told-window (checked job) (faces job) f.counts (sym (planned-is job) ∙ r.0) k (rw r.1 at h)

-- the faces that a told window has been counted among
abbrev pub among : Job → Window → Faces
among job w = record { counts = w.counts; faces = length (faces job) }

pub done-window : (job : Job) (k : ℕ) (w : Window) → window_told job k ≡ Ok w → (planned job ≡ Ok w.counts) × (faces_told job ≡ Ok (among job w)) × (k < (among job w).faces)
done-window job k w e =
    let r = places.done-window (checked job) (faces job) k w (sym (window-is job k) ∙ e) in
    let p = planned-is job ∙ r.0 in
    (p, faces-told job w.counts p, r.1)

-- R10: beside a refusal a caller from C is told 0, whatever is asked
pub nothing-told : (job : Job) (k : ℕ) (e : Refusal) → (faces_told job ≡ Err e → faces_to_c (faces_told job) ≡ record { answer = answer_to_c (Err e); faces = 0 })
    × (window_told job k ≡ Err e → window_to_c (window_told job k) ≡ record { answer = answer_to_c (Err e); first_vertex = 0; first_index = 0; vertices = 0; indices = 0 })
nothing-told job k e = (ap faces_to_c, ap window_to_c)

-- ---- R16, R17: a done window is from where its face starts to where the next one does, in the words of all that is said
-- of faces here
module _ (job : Job) (k : ℕ) (window : Window) (e : window_told job k ≡ Ok window) where
  there : k < length (faces job)
  there = (done-window job k window e).2

  told : window ≡ record { counts = window.counts; start = start_of (faces job) k; size = size_of (face_at (faces job) k) }
  told = places.same-window (sym e ∙ window-told job (among job window) (done-window job k window e).1 k there)

  pub window-starts : window.start ≡ start_of (faces job) k
  window-starts = ap (λ (w : Window). w.start) told

  pub window-size : window.size ≡ size_of (face_at (faces job) k)
  window-size = ap (λ (w : Window). w.size) told

  pub window-ends : also window.start window.size ≡ start_of (faces job) (suc k)
  window-ends = ap₂ also window-starts window-size ∙ sym (next_start (faces job) k there)

  -- X6: the face call writes these places alone, and done it fills them with the face
  pub window-alone : (B : Buffers) → AlikeOutside window.start (also window.start window.size) B (faced job k B)
  window-alone B = rw (window-ends, window-starts) (only-its-face job k B there)

  pub window-filled : (B : Buffers) → RoomIn window.counts B → Holds (face_at (faces job) k) window.start (faced job k B)
  window-filled B r = rw window-starts (whole-face job k B window.counts (face-is-done job window.counts (done-window job k window e).0 k B r there))

  -- the last window ends where the plan does
  pub last-window : (f : Faces) → faces_told job ≡ Ok f → suc k ≡ f.faces → also window.start window.size ≡ window.counts
  last-window f g l =
      window-ends
      ∙ ap (start_of (faces job)) (l ∙ (told-faces job f g).1)
      ∙ last_end (faces job)
      ∙ (counts-are-sums job window.counts (done-window job k window e).0).1

-- the first starts at nothing, and each next one where the one before it ends
pub first-window : (job : Job) (w : Window) → window_told job 0 ≡ Ok w → w.start ≡ none
first-window job w e = window-starts job 0 w e

pub next-window : (job : Job) (k : ℕ) (w : Window) → window_told job (suc k) ≡ Ok w → (v : Window) × (window_told job k ≡ Ok v) × (w.start ≡ also v.start v.size)
next-window job k w e =
    let d = done-window job (suc k) w e in
    let v : Window = record { counts = w.counts; start = start_of (faces job) k; size = size_of (face_at (faces job) k) } in
    let g = window-told job (among job w) d.1 k (omega (arith, d.2)) in
    (v, g, window-starts job (suc k) w e ∙ sym (window-ends job k v g))

-- so that no two meet
pub windows-do-not-meet : (job : Job) (j k : ℕ) (v w : Window) → j < k → window_told job j ≡ Ok v → window_told job k ≡ Ok w
    → ((also v.start v.size).vertices.0 ≤ w.start.vertices.0) × ((also v.start v.size).indices.0 ≤ w.start.indices.0)
windows-do-not-meet job j k v w h d e =
    rw (window-starts job j v d, window-size job j v d, window-starts job k w e) (faces-apart job j k h (there job j v d))

-- ---- S4, S5: a done build leaves the one mesh of all faces, end to end, and nothing past it
pub built-mesh : (job : Job) (B : Buffers) (c : Counts) → whole_answer job B ≡ Ok c → Holds (joined (faces job)) none (built job B)
built-mesh job B c e =
    subst (Holds (joined (faces job)) none)
    (after-done (whole_of (checked job) (faces job) B) B (lay_all (faces job) none B) (sym (whole_is job B) ∙ e) ∙ sym (built-is job B))
    (all-inside (faces job) none B)

pub nothing-past : (job : Job) (B : Buffers) (c : Counts) → whole_answer job B ≡ Ok c → AlikeOutside none c B (built job B)
nothing-past job B c e =
    let n : also none (measure (faces job)) ≡ c = none-also (measure (faces job)) ∙ (counts-are-sums job c (done-build job B c e).0).1 in
    subst (AlikeOutside none c B)
    (after-done (whole_of (checked job) (faces job) B) B (lay_all (faces job) none B) (sym (whole_is job B) ∙ e) ∙ sym (built-is job B))
    (subst (λ (d : Counts). AlikeOutside none d B (lay_all (faces job) none B)) n (all-outside (faces job) none B))

-- ---- R10: what holds of every such call: its answer goes by the lengths of the four buffers, and refused it leaves them
same_answer : (c : Call) (B C : Buffers) → SameLengths B C → answer_of c C ≡ answer_of c B
same_answer (Build job) B C s = whole_is job C ∙ rw (s.vertices, s.normals, s.uvs, s.indices) (sym (whole_is job B))
same_answer (Face job k) B C s = face-is job k C ∙ rw (s.vertices, s.normals, s.uvs, s.indices) (sym (face-is job k B))
same_answer (Merge m S t) B C s = rw (s.vertices, s.normals, s.uvs, s.indices)
same_answer (Scale c by) B C s = rw (s.vertices, s.normals, s.uvs, s.indices)
same_answer (Offset c by) B C s = rw (s.vertices, s.normals, s.uvs, s.indices)
same_answer (TextureScale c by) B C s = rw (s.vertices, s.normals, s.uvs, s.indices)
same_answer (Centroid c) B C s = rw (s.vertices, s.normals, s.uvs, s.indices)
same_answer (UvCentroid c) B C s = rw (s.vertices, s.normals, s.uvs, s.indices)

pub refused-leaves : (c : Call) (B : Buffers) (e : Refusal) → answer_of c B ≡ Err e → leaves c B ≡ B
refused-leaves (Build job) B e h = refused-build job B e h
refused-leaves (Face job k) B e h = refused-face job B e k h
refused-leaves (Merge m S t) B e h = sym (after-refused (merge_answer m S t B) B (appended m S t B) h)
refused-leaves (Scale c by) B e h = sym (after-refused (stored.scale_answer c by B) B _ h)
refused-leaves (Offset c by) B e h = sym (after-refused (stored.offset_answer c by B) B _ h)
refused-leaves (TextureScale c by) B e h = sym (after-refused (stored.texture_scale_answer c by B) B _ h)
refused-leaves (Centroid c) B e h = refl
refused-leaves (UvCentroid c) B e h = refl

-- the same of a call that is lent the first places of each
same-take : {A : Type 0} (n : ℕ) (l m : List A) → length m ≡ length l → length (take n m) ≡ length (take n l)
same-take n l m e = length-take n m ∙ ap (min n) e ∙ sym (length-take n l)

same_first : (n : Lengths) (B C : Buffers) → SameLengths B C → SameLengths (first n B) (first n C)
same_first n B C s =
    record {
      vertices = same-take n.vertices B.vertices C.vertices s.vertices;
      normals = same-take n.normals B.normals C.normals s.normals;
      uvs = same-take n.uvs B.uvs C.uvs s.uvs;
      indices = same-take n.indices B.indices C.indices s.indices;
    }

pub refused-first : (n : Lengths) (c : Call) (B : Buffers) (e : Refusal) → answer_of c (first n B) ≡ Err e → leaves_first n c B ≡ B
refused-first n c B e h =
    ap (λ (C : Buffers). before n C B) (refused-leaves c (first n B) e h)
    ∙ same-four (take-append-drop n.vertices B.vertices) (take-append-drop n.normals B.normals) (take-append-drop n.uvs B.uvs) (take-append-drop n.indices B.indices)

-- such are a job's own calls that are lent too little of a buffer, by one place or by more
take-few : {A : Type 0} (n m : ℕ) (l : List A) → n < m → length (take n l) < m
take-few n m l h = let e : length (take n l) ≤ n = rw (length-take n l) (min-le_left n (length l)) in omega (arith, e, h)

first-few : (n : Lengths) (c : Counts) (B : Buffers) → Short c n.vertices n.normals n.uvs n.indices → ShortIn c (first n B)
first-few n c B =
    ⊎_elim (λ h. inl (take-few _ _ B.vertices h))
    (⊎_elim (λ h. inr (inl (take-few _ _ B.normals h)))
    (⊎_elim (λ h. inr (inr (inl (take-few _ _ B.uvs h))))
    (λ h. inr (inr (inr (take-few _ _ B.indices h))))))

pub own-short : (job : Job) (c : Counts) → planned job ≡ Ok c → (n : Lengths) → Short c n.vertices n.normals n.uvs n.indices → (B : Buffers)
    → RefusedRoom c (first n B) (answer_of (Build job) (first n B)) × ((k : ℕ) → k < length (faces job) → RefusedRoom c (first n B) (answer_of (Face job k) (first n B)))
own-short job c p n s B = (short-build job c p (first n B) (first-few n c B s), λ k h. short-face job c p (first n B) (first-few n c B s) k h)

-- ---- X5: calls of a job that name each planned face at least once, in any order, with repeats, with numbers of
-- no face, and with refused calls between, of any job, of merges and of stored meshes, lent the buffers or the first
-- places of each, leave what one whole build leaves
abbrev step_of : InRun → Step
step_of (OwnFace k) = Lays k
step_of (Other n c) = Refuses

abbrev steps_of : List InRun → List Step
steps_of [] = []
steps_of (s ∷ ss) = step_of s ∷ steps_of ss

run-is-steps : (job : Job) (B : Buffers) (ss : List InRun) → OthersRefused B ss → (C : Buffers) → SameLengths B C → run job ss C ≡ calls (checked job) (faces job) (steps_of ss) C
unfolding run calls
run-is-steps job B [] r C s = refl
run-is-steps job B (OwnFace k ∷ ss) r C s =
    ap (run job ss) (faced-is job k C)
    ∙ run-is-steps job B ss r.1 (faced_of (checked job) (faces job) k C) (lengths-then s (subst (SameLengths C) (faced-is job k C) (face-lengths job k C)))
run-is-steps job B (Other n c ∷ ss) r C s =
    ap (run job ss) (refused-first n c C r.0.why (same_answer c (first n B) (first n C) (same_first n B C s) ∙ r.0.so)) ∙ run-is-steps job B ss r.1 C s

named-so : (k : ℕ) (ss : List InRun) → Among k ss → Named k (steps_of ss)
unfolding Named
named-so k [] h = elim h [ ]
named-so k (s ∷ ss) h = ⊎_elim (λ e. inl (ap step_of e)) (λ t. inr (named-so k ss t)) h

pub any-order-of-calls : (job : Job) (B : Buffers) (c : Counts) → whole_answer job B ≡ Ok c → (ss : List InRun) → OthersRefused B ss → ((k : ℕ) → k < length (faces job) → Among k ss)
    → run job ss B ≡ built job B
any-order-of-calls job B c e ss r h =
    run-is-steps job B ss r B (lengths-same B)
    ∙ any-calls (checked job) (faces job) B c (sym (whole_is job B) ∙ e) (steps_of ss) (λ k l. named-so k ss (h k l))
    ∙ sym (built-is job B)

-- ---- X8: in the index buffer that a done build leaves, each triangle names vertices of its own face alone
all_own : (job : Job) → AllOwn (faces job)
all_own (OfCheapColumn job l) = alone Own _ (cheapLaws.column-own job l)
all_own (OfPlane job ls) = alone Own _ (planeLaws.plane-own job ls)
all_own (OfColumn job ls) = columnLaws.column-own job ls
all_own (OfMap job ls) = mapLaws.map-own job ls

pub triangles-own : (job : Job) (B : Buffers) (c : Counts) → whole_answer job B ≡ Ok c → (i : ℕ) → 3 * i < c.indices.0 → InFace (faces job) (built job B).indices i
triangles-own job B c e i h =
    let d = done-build job B c e in
    let m : measure (faces job) ≡ c = (counts-are-sums job c d.0).1 in
    held-own (faces job) (all_own job) (built job B) (built-mesh job B c e)
    (rw (m, (build-lengths job B).indices) d.1.indices) i (rw m h)
