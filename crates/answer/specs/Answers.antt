-- Answers and the order of refusals; S4, N4 to R18, L1a to L1e, L2b and L2d are rows of docs/TRACE.md. Definitions only.
use Rattle.std.specs.Prelude.{ℕ, ◌*◌, ◌<◌, ◌≤◌, ◌≡◌, ◌⊎◌, Bool, cond, leb, ltb, Result, Ok, Err}
use Rattle.face.specs.declared.triangle.Counts.{Counts}
use Rattle.face.specs.declared.vec.Vec2.{Vec2}
use Rattle.face.specs.declared.vec.Vec3.{Vec3}
use Rattle.face.specs.Vec.{zero2, zero3}
use Rattle.face.specs.Triangles.{counts}
use Rattle.answer.specs.declared.answer.Buffer.{Buffer}
use Rattle.answer.specs.declared.answer.Buffer.TheVariants.{Vertices, Normals, Uvs, Indices}
use Rattle.answer.specs.declared.answer.Refusal.{Refusal}
use Rattle.answer.specs.declared.answer.Refusal.TheVariants.{Shape, Range, Neighbour, Limit, Room, NoFace, Index, Empty, Sheet, Triangles, File, Bytes}

-- L1: a short buffer's number, which is its place in the order
abbrev pub room_code : Buffer → ℕ
room_code Vertices = 51
room_code Normals = 52
room_code Uvs = 53
room_code Indices = 54

-- R1 to R9, L1, L2: the number of each kind
abbrev pub code : Refusal → ℕ
code Shape = 1
code Range = 2
code Neighbour = 3
code Limit = 4
code (Room b n) = room_code b
code NoFace = 6
code Index = 7
code Empty = 8
code Sheet = 9
code Triangles = 10
code File = 11
code (Bytes n) = 55

-- L1, L2: the numbers that a short buffer needs, and the bytes that a short byte buffer does; every other refusal has none
abbrev pub need : Refusal → ℕ
need Shape = 0
need Range = 0
need Neighbour = 0
need Limit = 0
need (Room b n) = n
need NoFace = 0
need Index = 0
need Empty = 0
need Sheet = 0
need Triangles = 0
need File = 0
need (Bytes n) = n

-- an answer: the counts of a mesh, or why there is none
abbrev pub Answer : Type 0
Answer = Result Counts Refusal

-- R0, R10: what an answer gives; a refusal's counts are 0 and its other values +0
abbrev pub number_of : Answer → ℕ
number_of (Ok c) = 0
number_of (Err e) = code e

abbrev pub counts_of : Answer → Counts
counts_of (Ok c) = c
counts_of (Err e) = counts 0 0

-- L1: 0 where done
abbrev pub need_of : Answer → ℕ
need_of (Ok c) = 0
need_of (Err e) = need e

abbrev pub value_of : {A : Type 0} → A → Answer → A → A
value_of z (Ok c) x = x
value_of z (Err e) x = z

abbrev pub value_of2 : Answer → Vec2 → Vec2
value_of2 = value_of zero2

abbrev pub value_of3 : Answer → Vec3 → Vec3
value_of3 = value_of zero3

-- R10: what is lent, after a call: as it was where the call is refused
abbrev pub after : {A : Type 0} → Answer → A → A → A
after (Ok c) old new = new
after (Err e) old new = old

-- a test before an answer
abbrev pub given : Bool → Refusal → Answer → Answer
given ok e rest = cond ok rest (Err e)

-- R4, N4: the vertices can be numbered
abbrev pub limited : Counts → Answer
limited c = given (leb c.vertices.0 65536) Limit (Ok c)

-- R6, after what stands before it
abbrev pub named : Answer → ℕ → ℕ → Answer
named (Err e) k n = Err e
named (Ok c) k n = given (ltb k n) NoFace (Ok c)

-- S4, L1: how many numbers the counts need in a buffer
abbrev pub need_for : Buffer → Counts → ℕ
need_for Vertices c = 3 * c.vertices.0
need_for Normals c = 3 * c.vertices.0
need_for Uvs c = 2 * c.vertices.0
need_for Indices c = c.indices.0

-- the greatest number of 64 bits stands for all above it
abbrev pub capped : ℕ → ℕ
capped n = cond (leb n 18446744073709551615) n 18446744073709551615

-- L1: a need as it is told; where the limit on vertices holds, none is capped
abbrev pub told : Buffer → Counts → ℕ
told Vertices c = capped (need_for Vertices c)
told Normals c = capped (need_for Normals c)
told Uvs c = capped (need_for Uvs c)
told Indices c = need_for Indices c

-- L1: a buffer of this length holds the counts, or is refused with what it needs for the whole of them
abbrev pub held : Buffer → Counts → ℕ → Answer → Answer
held b c l rest = given (leb (need_for b c) l) (Room b (told b c)) rest

-- L1: the first short buffer, in this order
abbrev pub room_for : Counts → ℕ → ℕ → ℕ → ℕ → Answer
room_for c v n t i = held Vertices c v (held Normals c n (held Uvs c t (held Indices c i (Ok c))))

abbrev pub roomed : Answer → ℕ → ℕ → ℕ → ℕ → Answer
roomed (Err e) v n t i = Err e
roomed (Ok c) v n t i = room_for c v n t i

-- R5: four buffers of these lengths hold the counts
pub record Roomy (c : Counts) (v n t i : ℕ) : Type 0 where
  pub vertices : 3 * c.vertices.0 ≤ v
  pub normals : 3 * c.vertices.0 ≤ n
  pub uvs : 2 * c.vertices.0 ≤ t
  pub indices : c.indices.0 ≤ i

-- R5: one of the four does not
abbrev pub Short : Counts → ℕ → ℕ → ℕ → ℕ → Type 0
Short c v n t i = (v < 3 * c.vertices.0) ⊎ ((n < 3 * c.vertices.0) ⊎ ((t < 2 * c.vertices.0) ⊎ (i < c.indices.0)))

-- L1: the lengths of four buffers, by their names
abbrev pub lengths : ℕ → ℕ → ℕ → ℕ → Buffer → ℕ
lengths v n t i Vertices = v
lengths v n t i Normals = n
lengths v n t i Uvs = t
lengths v n t i Indices = i

-- L1: the first short buffer: those before it in the order hold the counts
pub record FirstShort (c : Counts) (l : Buffer → ℕ) (b : Buffer) : Type 0 where
  pub short : l b < need_for b c
  pub earlier : (a : Buffer) → room_code a < room_code b → need_for a c ≤ l a

-- L1: one buffer is at least so long, and the others are as they were
pub record Lengthened (b : Buffer) (n : ℕ) (before after : Buffer → ℕ) : Type 0 where
  pub longer : n ≤ after b
  pub others : (a : Buffer) → (a ≡ b → ⊥) → after a ≡ before a

-- L1: refused for a buffer after this one, with its need
pub record LaterShort (c : Counts) (a : Answer) (b : Buffer) : Type 0 where
  pub buffer : Buffer
  pub later : room_code b < room_code buffer
  pub refused : a ≡ Err (Room buffer (need_for buffer c))

-- L1: past this buffer: done, or refused for a later one
abbrev pub Past : Counts → Answer → Buffer → Type 0
Past c a b = (a ≡ Ok c) ⊎ LaterShort c a b
