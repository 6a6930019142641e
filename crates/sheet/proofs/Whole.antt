-- A text at the start of a buffer: the parts of a mesh's make the whole, and what is written is the promise's. Assumes nothing.
use mathlib.Core.Path.{◌≡◌, sym, ap, ◌∙◌}
use mathlib.Core.Bool.{Bool, true, false}
use mathlib.Core.List.{List, [], ◌∷◌, ◌++◌}
use Prim.Native.Nat.{ℕ, ◌+◌, ◌*◌, ◌≤◌}
use native.Mathlib.Nat.{zero-add}
use native.Mathlib.Omega.{arith}
use borrow.Author.Tests.{leb-true, le-leb}
use lib.Dec.{leb}
use lib.ListN.{length, get_or, take, drop}
use lib.Seq.{length-take-le}
use Rattle.std.proofs.lemmas.List.{get_or-take, get_or_default}
use Rattle.face.proofs.Filling.{chain_same}
use Rattle.face.specs.declared.triangle.Counts.{Counts}
use Rattle.buffers.specs.Laying.{Buffers, laid}
use Rattle.sheet.specs.declared.writing_numbers.Text.{Text}
use Rattle.sheet.specs.Digits.{gap, decimal, digit_count}
use Rattle.sheet.specs.Lent.{Put, Puts, RoomFor}
use Rattle.sheet.specs.Meshes.{word_at, lines, index_lines, floats_text, indices_text, mesh_text, text_length, vertices_word, normals_word, uvs_word, whole_in, Written, MeshWritten}
use Rattle.sheet.proofs.Pieces.{laid-apart, text-room, text-room-next, puts-next}
use Rattle.sheet.proofs.Rooms.{length-mesh}

-- ---- any text
laid-start : (l xs : List ℕ) → length xs ≤ length l → laid l 0 xs ≡ xs ++ drop (length xs) l
laid-start l xs h = laid-apart l 0 xs (omega arith) ∙ rw (zero-add (length xs))

-- what was written behind nothing, in a buffer that holds it at the end
pub written-so : (ok : Bool) (text old new last : List ℕ) (r : ℕ) → ok ≡ true → length text ≤ length old → new ≡ last → Put old 0 text last r → Written ok text old new r
written-so ok text old new last r e h l p = record { buffer = rw e (l ∙ p.buffer ∙ laid-start old text h); count = rw e (p.ends ∙ omega arith) }

pub written-not : (ok : Bool) (text old : List ℕ) → ok ≡ false → Written ok text old old 0
written-not ok text old e = record { buffer = rw e; count = rw e }

-- ---- a mesh
module _ (B : Buffers) (c : Counts) (old : List ℕ) where
  abbrev Whole? : Bool → Type 0
  Whole? x = x ≡ whole_in B c

  abbrev Room? : Bool → Type 0
  Room? y = y ≡ leb (text_length c.vertices.0 c.indices.0 B.indices) (length old)

  -- what the second test says
  pub has_room : (y : Bool) → Room? y → y ≡ true → length (mesh_text B c) ≤ length old
  has_room y q f = rw (length-mesh B c) (leb-true _ _ (sym q ∙ f))

  pub written-mesh : (x y : Bool) → Whole? x → x ≡ true → Room? y → y ≡ true → (new last : List ℕ) (r : ℕ) → new ≡ last → Put old 0 (mesh_text B c) last r → MeshWritten B c old new r
  written-mesh x y p e q f new last r l t =
      let h : length (mesh_text B c) ≤ length old = has_room y q f in
      written-so _ _ _ _ _ _ (rw (← p, e, le-leb _ _ h)) h l t

  pub not-whole : (x : Bool) → Whole? x → x ≡ false → MeshWritten B c old old 0
  not-whole x p e = written-not _ _ _ (rw (← p, e))

  pub no_room : (x y : Bool) → Whole? x → x ≡ true → Room? y → y ≡ false → MeshWritten B c old old 0
  no_room x y p e q f = written-not _ _ _ (rw (← p, e, length-mesh B c, ← q, f))

-- ---- a part of a mesh: a heading, and as much of a list as is in use
module _ {A : Type 0} (word : A → List ℕ) (e : A) (xs : List A) (w m : ℕ) (h : m ≤ length xs) where
  pub taken-all : length (take m xs) ≡ m
  taken-all = length-take-le m xs h

  lines-taken : (d : A) → lines word d (take m xs) w (length (take m xs)) ≡ lines word e xs w m
  lines-taken d =
      rw taken-all
      (chain_same (word_at word d (take m xs) w) (word_at word e xs w) m (λ k u. let s : get_or (take m xs) k d ≡ get_or xs k e = get_or-take m xs k d u ∙ get_or_default xs k d e (omega arith) in ap (λ (x : A). word x ++ (gap w k ∷ [])) s))

  module _ (t : Text) (head : List ℕ) where
    pub part-head : RoomFor t (head ++ lines word e xs w m) → RoomFor t head
    part-head r = text-room t head (lines word e xs w m) r

    pub part-room : RoomFor t (head ++ lines word e xs w m) → (d : A) → RoomFor t (head ++ lines word d (take m xs) w (length (take m xs)))
    part-room r d = rw (lines-taken d) r

    pub part-put : (u : Text) → ((d : A) → Puts t (head ++ lines word d (take m xs) w (length (take m xs))) u) → Puts t (head ++ lines word e xs w m) u
    part-put u p = rw (lines-taken e) at (p e)

-- the room of the indices in use is that of as many of the list
pub room-taken : (v i : ℕ) (is : List ℕ) → i ≤ length is → text_length v (length (take i is)) (take i is) ≡ text_length v i is
unfolding index_lines
room-taken v i is h = let e : length (take i is) ≡ i = length-take-le i is h in
    ap (λ (k : ℕ). 72 * v + ((33 + 3 * digit_count v + digit_count k) + length (lines decimal 0 (take i is) 3 (length (take i is))))) e
    ∙ ap (λ (t : List ℕ). 72 * v + ((33 + 3 * digit_count v + digit_count i) + length t)) (lines-taken decimal 0 is 3 i h 0)

-- ---- the parts, one after the other
module _ (B : Buffers) (c : Counts) (t : Text) (room : RoomFor t (mesh_text B c)) where
  abbrev first : List ℕ
  first = floats_text vertices_word B.vertices 3 c.vertices.0

  abbrev second : List ℕ
  second = floats_text normals_word B.normals 3 c.vertices.0

  abbrev third : List ℕ
  third = floats_text uvs_word B.uvs 2 c.vertices.0

  abbrev fourth : List ℕ
  fourth = indices_text B.indices c.indices.0

  all : RoomFor t (first ++ (second ++ (third ++ fourth)))
  unfolding mesh_text
  all = room

  pub room-1 : RoomFor t first
  room-1 = text-room t first (second ++ (third ++ fourth)) all

  module _ (t₁ : Text) (p₁ : Puts t first t₁) where
    left₁ : RoomFor t₁ (second ++ (third ++ fourth))
    left₁ = text-room-next t t₁ first (second ++ (third ++ fourth)) all p₁

    pub room-2 : RoomFor t₁ second
    room-2 = text-room t₁ second (third ++ fourth) left₁

    module _ (t₂ : Text) (p₂ : Puts t₁ second t₂) where
      left₂ : RoomFor t₂ (third ++ fourth)
      left₂ = text-room-next t₁ t₂ second (third ++ fourth) left₁ p₂

      pub room-3 : RoomFor t₂ third
      room-3 = text-room t₂ third fourth left₂

      module _ (t₃ : Text) (p₃ : Puts t₂ third t₃) where
        pub room-4 : RoomFor t₃ fourth
        room-4 = text-room-next t₂ t₃ third fourth left₂ p₃

        pub put-parts : (u : Text) → Puts t₃ fourth u → Puts t (mesh_text B c) u
        unfolding mesh_text
        put-parts u p₄ =
            puts-next t t₁ first (second ++ (third ++ fourth)) u p₁
            (puts-next t₁ t₂ second (third ++ fourth) u p₂
            (puts-next t₂ t₃ third fourth u p₃ p₄))
