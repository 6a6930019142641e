-- What a call writes behind the text that is there. Definitions only.
use Rattle.std.specs.Prelude.{ℕ, ◌+◌, ◌≤◌, ◌≡◌, List, length}
use Rattle.buffers.specs.Laying.{laid, Buffers, four}
use Rattle.sheet.specs.declared.writing.Stored.{Stored}
use Rattle.sheet.specs.declared.writing_numbers.Text.{Text}

-- a text laid at a place of a buffer, and the place where it ends
pub record Put (old : List ℕ) (at : ℕ) (text new : List ℕ) (end : ℕ) : Type 0 where
  pub buffer : new ≡ laid old at text
  pub ends : end ≡ at + length text

-- the same of a text's buffer, which stays the one that was lent
pub record Puts (old : Text) (text : List ℕ) (new : Text) : Type 0 where
  pub same : new.out.ghost_name ≡ old.out.ghost_name
  pub put : Put old.out.now old.len text new.out.now new.len

abbrev pub RoomFor : Text → List ℕ → Type 0
RoomFor old text = old.len + length text ≤ length old.out.now

-- the lists of a mesh that is lent to be read
abbrev pub buffers_of : Stored → Buffers
buffers_of m = four m.vertices.now m.normals.now m.uvs.now m.indices.now
