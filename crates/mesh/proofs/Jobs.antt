-- Plan, whole build and single-face calls agree, for a job of any kind. Assumes nothing.
use Rattle.std.proofs.Common.{◌≡◌, ℕ, suc, ◌<◌, ◌≤◌, Bool, true, false, not, T, ltb, List, [], ◌∷◌, length, sym, refl, ap, ◌∙◌, ltb→lt, nltb→le, le-ltb, lt-ltb}
use Rattle.face.specs.declared.triangle.Counts.{Counts}
use Rattle.answer.specs.declared.answer.Refusal.{Refusal}
use Rattle.answer.specs.declared.answer.Refusal.TheVariants.{NoFace, Room}
use Rattle.answer.specs.declared.answer.Buffer.{Buffer}
use Rattle.answer.specs.Answers.{Answer}
use Rattle.std.specs.Prelude.{Ok, Err}
use Rattle.answer.specs.Answers.{given, limited, named, after, need_for, FirstShort, Lengthened, Past}
use Rattle.answer.proofs.Laws.{done-limited, named-done, roomed-done, room-enough, first_short, past, after-done, after-refused}
use Rattle.buffers.specs.Mesh.{Mesh, none, measure, start_of}
use Rattle.buffers.specs.Laying.{Buffers, fits, reaches, lay_all, lay_one}
use Rattle.buffers.specs.Steps.{Step, Lays, Refuses, run, Named}
use Rattle.buffers.specs.Windows.{AlikeOutside, SameLengths}
use Rattle.buffers.proofs.Order.{any_order, one-lengths}
use Rattle.buffers.proofs.Rooms.{room-so}
use Rattle.buffers.proofs.Windows.{none-also, one_outside, one-past-end}
use Rattle.mesh.specs.Jobs.{RoomIn, length_in, planned_of, roomed_in, whole_of, one_of, built_of, faced_of, calls}

-- ---- X4: with the planned room, the whole build answers what the plan does
pub plan-and-build : (checked : Answer → Answer) (fs : List Mesh) (B : Buffers) → ((c : Counts) → planned_of checked fs ≡ Ok c → RoomIn c B) → whole_of checked fs B ≡ planned_of checked fs
plan-and-build checked fs B h = go (planned_of checked fs) h
  where
    go : (a : Answer) → ((c : Counts) → a ≡ Ok c → RoomIn c B) → roomed_in B a ≡ a
    go (Err e) r = refl
    go (Ok c) r = room-enough c _ _ _ _ (r c refl)

-- a refused plan is the whole build's answer whatever is lent
pub refused-plan : (checked : Answer → Answer) (fs : List Mesh) (B : Buffers) (e : Refusal) → planned_of checked fs ≡ Err e → whole_of checked fs B ≡ Err e
refused-plan checked fs B e p = ap (roomed_in B) p

-- ---- calls of an accepted job in buffers with room: each is a step
module _ (checked : Answer → Answer) (fs : List Mesh) (c : Counts) (p : planned_of checked fs ≡ Ok c) where
  room-kept : (B C : Buffers) → SameLengths B C → RoomIn c B → RoomIn c C
  room-kept B C s r = record { vertices = rw s.vertices r.vertices; normals = rw s.normals r.normals; uvs = rw s.uvs r.uvs; indices = rw s.indices r.indices }

  -- of an accepted plan, and of its faces, the room alone is left to test
  whole-roomed : (B : Buffers) → whole_of checked fs B ≡ roomed_in B (Ok c)
  whole-roomed B = ap (roomed_in B) p

  one-roomed : (k : ℕ) (B : Buffers) → k < length fs → one_of checked fs k B ≡ roomed_in B (Ok c)
  one-roomed k B h =
      ap (λ (a : Answer). roomed_in B (named a k (length fs))) p
      ∙ ap (λ (x : Bool). roomed_in B (given x NoFace (Ok c))) (lt-ltb k (length fs) h)

  -- a planned face is never refused, and any other number is refused as 6
  pub face-answer : (k : ℕ) (B : Buffers) → RoomIn c B → k < length fs → one_of checked fs k B ≡ Ok c
  face-answer k B r h = one-roomed k B h ∙ room-enough c _ _ _ _ r

  pub no-face-answer : (k : ℕ) (B : Buffers) → length fs ≤ k → one_of checked fs k B ≡ Err NoFace
  no-face-answer k B h =
      ap (λ (a : Answer). roomed_in B (named a k (length fs))) p
      ∙ ap (λ (x : Bool). roomed_in B (given x NoFace (Ok c))) (le-ltb k (length fs) h)

  -- L1: where a buffer is too short for the whole plan, the first such one is the refusal, with its need; with that one
  -- at its need the call is done, or refused for a later one
  module _ (small : c.vertices.0 ≤ 65536) (b : Buffer) (B : Buffers) (s : FirstShort c (length_in B) b) where
    pub first-build : whole_of checked fs B ≡ Err (Room b (need_for b c))
    first-build = whole-roomed B ∙ first_short c (length_in B) b s small

    pub first-face : (k : ℕ) → k < length fs → one_of checked fs k B ≡ Err (Room b (need_for b c))
    first-face k h = one-roomed k B h ∙ first_short c (length_in B) b s small

    module _ (C : Buffers) (g : Lengthened b (need_for b c) (length_in B) (length_in C)) where
      pub past-build : Past c (whole_of checked fs C) b
      past-build = rw (whole-roomed C) (past c (length_in B) (length_in C) b s g small)

      pub past-face : (k : ℕ) → k < length fs → Past c (one_of checked fs k C) b
      past-face k h = rw (one-roomed k C h) (past c (length_in B) (length_in C) b s g small)

  call-is-step : (k : ℕ) (B : Buffers) → RoomIn c B → faced_of checked fs k B ≡ lay_one fs k none B
  call-is-step k B r = go (ltb k (length fs)) (ltb→lt k (length fs)) (nltb→le k (length fs))
    where
      go : (x : Bool) → (T x → k < length fs) → (T (not x) → length fs ≤ k) → faced_of checked fs k B ≡ lay_one fs k none B
      go true y z = sym (after-done (one_of checked fs k B) B (lay_one fs k none B) (face-answer k B r (y tt)))
      go false y z =
          sym (after-refused (one_of checked fs k B) B (lay_one fs k none B) (no-face-answer k B (z tt)))
          ∙ sym (one-past-end fs k none B (z tt))

  calls-are-steps : (ss : List Step) (B : Buffers) → RoomIn c B → calls checked fs ss B ≡ run fs ss B
  unfolding calls run
  calls-are-steps [] B r = refl
  calls-are-steps (Lays k ∷ ss) B r =
      ap (calls checked fs ss) (call-is-step k B r)
      ∙ calls-are-steps ss (lay_one fs k none B) (room-kept B (lay_one fs k none B) (one-lengths fs k none B) r)
  calls-are-steps (Refuses ∷ ss) B r = calls-are-steps ss B r

-- ---- X5: an accepted job; calls that name each planned face at least once, in any order, with repeats, with
-- numbers of no face and with refused calls of any kind between, leave what one whole build leaves
pub any-calls : (checked : Answer → Answer) (fs : List Mesh) (B : Buffers) (c : Counts) → whole_of checked fs B ≡ Ok c
    → (ss : List Step) → ((k : ℕ) → k < length fs → Named k ss) → calls checked fs ss B ≡ built_of checked fs B
any-calls checked fs B c e ss h =
    let r = roomed-done (planned_of checked fs) c _ _ _ _ e in
    calls-are-steps checked fs c r.0 ss B r.1 ∙ any_order fs ss B h ∙ after-done (whole_of checked fs B) B (lay_all fs none B) e

-- ---- X6: a call, done or refused, writes its face's places alone
pub only-its-places : (checked : Answer → Answer) (fs : List Mesh) (k : ℕ) (B : Buffers) → k < length fs → AlikeOutside (start_of fs k) (start_of fs (suc k)) B (faced_of checked fs k B)
only-its-places checked fs k B h = go (one_of checked fs k B)
  where
    go : (a : Answer) → AlikeOutside (start_of fs k) (start_of fs (suc k)) B (after a B (lay_one fs k none B))
    go (Ok c) = one_outside fs k B h
    go (Err e) = record { vertices = λ q d u. refl; normals = λ q d u. refl; uvs = λ q d u. refl; indices = λ q d u. refl }

-- and a number of no face none
pub no-places : (checked : Answer → Answer) (fs : List Mesh) (k : ℕ) (B : Buffers) → length fs ≤ k → faced_of checked fs k B ≡ B
no-places checked fs k B h = go (one_of checked fs k B)
  where
    go : (a : Answer) → after a B (lay_one fs k none B) ≡ B
    go (Ok c) = one-past-end fs k none B h
    go (Err e) = refl

-- ---- a call that is done has the room of the whole plan; a job's own tests pass on what they are given
module _ (checked : Answer → Answer) (fs : List Mesh) (passes : (a : Answer) (d : Counts) → checked a ≡ Ok d → a ≡ Ok d) where
  has_room : (B : Buffers) (d : Counts) → planned_of checked fs ≡ Ok d → RoomIn d B → fits none (measure fs) B ≡ true
  has_room B d e r =
      let c : Counts = measure fs in
      let k = done-limited c d (passes (limited c) d e) in
      let s = rw (← k.1) at r in
      ap (λ (x : Counts). reaches x (length B.vertices) (length B.normals) (length B.uvs) (length B.indices)) (none-also c)
      ∙ room-so c _ _ _ _ record { limit = k.0; vertices = s.vertices; normals = s.normals; uvs = s.uvs; indices = s.indices }

  pub whole_room : (B : Buffers) (d : Counts) → whole_of checked fs B ≡ Ok d → fits none (measure fs) B ≡ true
  whole_room B d e = let r = roomed-done (planned_of checked fs) d _ _ _ _ e in has_room B d r.0 r.1

  -- and so has a face call, whose number is a face's
  pub face-room : (k : ℕ) (B : Buffers) (d : Counts) → one_of checked fs k B ≡ Ok d → (fits none (measure fs) B ≡ true) × (k < length fs)
  face-room k B d e =
      let r = roomed-done (named (planned_of checked fs) k (length fs)) d _ _ _ _ e in
      let n = named-done (planned_of checked fs) d k (length fs) r.0 in
      (has_room B d n.0 r.1, n.1)
