-- No answer is longer than `room`, so a buffer of that length takes every answer. Assumes nothing.
use mathlib.Core.Path.{◌≡◌, refl, sym, subst}
use mathlib.Core.Bool.{Bool, true, false, not, ◌&&◌, cond}
use mathlib.Core.List.{List, [], ◌∷◌}
use Prim.Native.Nat.{ℕ, zero, suc, ◌+◌, ◌*◌, ◌≤◌, ◌<◌, suc-le-suc}
use native.Mathlib.Omega.{arith}
use borrow.Author.Tests.{le-leb, leb-true, le-ltb}
use lib.Dec.{leb, ltb, eqb}
use lib.ListN.{length, get_or}
use lib.Ieee.{Float}
use Rattle.face.specs.declared.inset.Inset.TheVariants.{None}
use Rattle.face.specs.declared.triangle.Triangle.{Triangle}
use Rattle.face.specs.declared.triangle.Counts.{Counts}
use Rattle.face.specs.Triangles.{no_triangle}
use Rattle.face.proofs.Laws.{Below}
use Rattle.answer.specs.declared.answer.Buffer.TheVariants.{Vertices}
use Rattle.answer.specs.declared.answer.Refusal.{Refusal}
use Rattle.answer.specs.declared.answer.Refusal.TheVariants.{Room}
use Rattle.answer.specs.declared.answer.Refusal.TheVariants as refusal
use Rattle.std.specs.Prelude.{Option, Ok, Err}
use Rattle.std.specs.declared.option.Option.TheVariants as optional
use Rattle.sheet.specs.declared.reading.Sheet.{Sheet}
use Rattle.answer.specs.Answers.{Answer}
use Rattle.answer.specs.Answers.{code, told, given}
use Rattle.answer.proofs.Laws.{coded}
use Rattle.placement.specs.declared.options.Choice.{Choice}
use Rattle.placement.specs.declared.options.Choice.TheVariants as option
use Rattle.placement.specs.Options.{plain_options, entry_at, option_at}
use Rattle.buffers.specs.Mesh.{Mesh, measure, joined}
use Rattle.buffers.specs.Laying.{corners, spread}
use Rattle.buffers.proofs.Windows.{window-ends}
use Rattle.buffers.proofs.Joined.{joined-size, own-vertices}
use Rattle.column.specs.declared.Side.{Side}
use Rattle.column.specs.declared.Column.{Column}
use Rattle.column.specs.Column.{Lists, lists, parts_of, side_at, column_faces, planned}
use Rattle.column.specs.Counts.{side_counts, cap_counts, sides_counts}
use Rattle.column.proofs.Counts.{column-counts}
use Rattle.column_builder.proofs.Whole.{column-own}
use Rattle.sheet.specs.Readers.{reading}
use Rattle.sheet.specs.Meshes.{mesh_text, refusal_text, Written}
use Rattle.sheet.specs.Answering.{column_of, printable, flat, text_of, text_for, column_text, reading_text, answer_text, Answered, room}
use Rattle.sheet.proofs.Numerals.{count-within}
use Rattle.sheet.proofs.Rooms.{length-mesh, length-refusal}
use Rattle.sheet.proofs.Laws.{index-lines-most}
use Rattle.sheet.proofs.Printing.{planned-counts}

-- ---- without a table every face is plain: six indices on four vertices, twelve on six
no_table : (k : ℕ) → (option_at [] [] k).inset ≡ None
no_table k = go (not (eqb k 255)) (le-ltb k 0 (omega arith))
  where
    go : (x : Bool) → ltb k 0 ≡ false → (cond (x && (ltb k 0 && ltb k 0)) (entry_at [] [] k) plain_options).inset ≡ None
    go true e = rw e
    go false e = refl

side-few : (s : ℕ) (c : Choice) → 2 * (side_counts [] [] s c).indices.0 ≡ 3 * (side_counts [] [] s c).vertices.0
side-few s option.Absent = refl
side-few s (option.With k) = rw (no_table k) (omega arith)

sides-few : (s : ℕ) (ss : List Side) (d : ℕ) → 2 * (sides_counts [] [] s ss d).indices.0 ≡ 3 * (sides_counts [] [] s ss d).vertices.0
sides-few s ss zero = refl
sides-few s ss (suc d) = omega (arith, sides-few s ss d, side-few s (side_at ss d))

cap-few : (c : Choice) → 2 * (cap_counts [] [] c).indices.0 ≤ 3 * (cap_counts [] [] c).vertices.0 + 6
cap-few option.Absent = omega arith
cap-few (option.With k) = rw (no_table k) (omega arith)

-- ---- an index names a vertex
spread-below : (n : ℕ) (ts : List Triangle) → 0 < n → ((i : ℕ) → i < length ts → Below n (get_or ts i no_triangle)) → (k : ℕ) → get_or (spread (corners 0) ts) k 0 < n
spread-below n [] p h k = p
spread-below n (t ∷ ts) p h zero = omega (arith, (h 0 (omega arith)).0)
spread-below n (t ∷ ts) p h (suc zero) = omega (arith, (h 0 (omega arith)).1)
spread-below n (t ∷ ts) p h (suc (suc zero)) = omega (arith, (h 0 (omega arith)).2)
spread-below n (t ∷ ts) p h (suc (suc (suc k))) = spread-below n ts p (λ i u. h (suc i) (suc-le-suc u)) k

-- ---- the text of a column that has no table
module _ (job : Column) (ps cs : List Float) where
  abbrev ls : Lists
  ls = lists ps cs [] []

  abbrev fs : List Mesh
  fs = column_faces job ls

  few : 2 * (measure fs).indices.0 ≤ 3 * (measure fs).vertices.0 + 12
  few = rw (column-counts job ls) (omega (arith, sides-few (parts_of job.subdivisions) job.sides 6, cap-few job.top, cap-few job.bottom))

  named : (measure fs).vertices.0 ≤ 1024 → (k : ℕ) → get_or (flat (joined fs)).indices k 0 < 1024
  named h =
      spread-below 1024 (joined fs).triangles (omega arith)
      (λ i u.
      let o = own-vertices fs (column-own job ls) i u in
      let w : _ ≤ (measure fs).vertices.0 = (window-ends fs o.face o.there).0 in
      (omega (arith, o.own.0.1, w, h), omega (arith, o.own.1.1, w, h), omega (arith, o.own.2.1, w, h)))

  text-most : (measure fs).vertices.0 ≤ 1024 → length (text_of (joined fs)) ≤ room
  text-most h =
      let c : Counts = measure fs in
      subst (λ (x : Counts). length (mesh_text (flat (joined fs)) x) ≤ room) (sym (joined-size fs))
      (omega (
        arith,
        h,
        few,
        length-mesh (flat (joined fs)) c,
        index-lines-most 3 (flat (joined fs)).indices (λ k. omega (arith, named h k)) c.indices.0,
        count-within 3 c.vertices.0 (omega (arith, h)),
        count-within 3 c.indices.0 (omega (arith, h, few)),
      ))

-- ---- a refusal has at most two digits
refusal-fits : (e : Refusal) → length (refusal_text (code e)) ≤ room
refusal-fits e = omega (arith, length-refusal (code e), count-within 1 (code e) (omega (arith, (coded e).1)))

-- ---- either
column-most : (job : Column) (ps cs : List Float) → length (column_text job (lists ps cs [] [])) ≤ room
unfolding column_text
column-most job ps cs = go (planned job (ls job ps cs)) refl
  where
    m : Mesh
    m = joined (fs job ps cs)

    done : (c : Counts) (x : Bool) → planned job (ls job ps cs) ≡ Ok c → leb c.vertices.0 1024 ≡ x → length (text_for (given x (Room Vertices (told Vertices c)) (Ok c)) m) ≤ room
    done c true p e = text-most job ps cs (rw (planned-counts job (ls job ps cs) c p) (leb-true _ _ e))
    done c false p e = refusal-fits (Room Vertices (told Vertices c))

    go : (a : Answer) → planned job (ls job ps cs) ≡ a → length (text_for (printable a) m) ≤ room
    go (Err e) p = refusal-fits e
    go (Ok c) p = done c (leb c.vertices.0 1024) p refl

reading-most : (r : Option Sheet) → length (reading_text r) ≤ room
reading-most (optional.Some s) = column-most (column_of s) _ _
reading-most optional.None = refusal-fits refusal.Sheet

-- P7, P8, P9: of every input
pub answer-most : (bytes : List ℕ) → length (answer_text bytes) ≤ room
unfolding answer_text
answer-most bytes = reading-most (reading bytes)

-- so with that room the whole answer is written
pub answer-whole : (bytes old new : List ℕ) (r : ℕ) → room ≤ length old → Answered bytes old new r → Written true (answer_text bytes) old new r
answer-whole bytes old new r h w =
    subst (λ (x : Bool). Written x (answer_text bytes) old new r) (le-leb (length (answer_text bytes)) (length old) (omega (arith, answer-most bytes, h))) w
