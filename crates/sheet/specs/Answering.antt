-- The text that a sheet is answered with; P1 to P9, R9 and L1d are rows of docs/TRACE.md. Definitions only.
use Rattle.std.specs.Prelude.{ℕ, ◌+◌, ◌*◌, Bool, cond, List, [], map, leb, ltb, Float, Option, Some, None}
use Rattle.patterns.specs.Patterns.{float_of}
use Rattle.face.specs.Lists.{each}
use Rattle.face.specs.Vec.{zero2}
use Rattle.answer.specs.declared.answer.Buffer.TheVariants.{Vertices}
use Rattle.answer.specs.declared.answer.Refusal.TheVariants.{Room}
use Rattle.answer.specs.declared.answer.Refusal.TheVariants as refusal
use Rattle.answer.specs.Answers.{Answer}
use Rattle.std.specs.Prelude.{Ok, Err}
use Rattle.answer.specs.Answers.{code, told, given}
use Rattle.placement.specs.declared.options.Choice.{Choice}
use Rattle.placement.specs.declared.options.Choice.TheVariants as option
use Rattle.placement.specs.declared.placement.Choice3.TheVariants as choice
use Rattle.placement.specs.declared.placement.Turn.TheVariants as turn
use Rattle.placement.specs.declared.placement.Placement.{Placement}
use Rattle.buffers.specs.Mesh.{Mesh, size_of, joined}
use Rattle.buffers.specs.Laying.{Buffers, four, three, two, corners, spread}
use Rattle.column.specs.declared.Subdivisions.TheVariants as subdivisions
use Rattle.column.specs.declared.Side.{Side}
use Rattle.column.specs.declared.Column.{Column}
use Rattle.column.specs.Column.{Lists, lists, column_faces, planned}
use Rattle.sheet.specs.declared.reading.Sheet.{Sheet}
use Rattle.sheet.specs.Readers.{reading}
use Rattle.sheet.specs.Meshes.{mesh_text, refusal_text, TextWritten}

-- ---- the column of a sheet
-- P2: the numbers of patterns; every NaN's is the one NaN, which is out of range
abbrev pub floats : List ℕ → List Float
floats = map float_of

-- P5: the default option, where there is a face at all
abbrev pub plain_if : Bool → Choice
plain_if there = cond there (option.With 255) option.Absent

-- P4: sides 0 to n - 1
abbrev pub sides_of : ℕ → List Side
sides_of n = each (λ d. record { option = plain_if (ltb d n) }) 6

abbrev pub unmoved : Placement
unmoved = record { scale = choice.Absent; turn = turn.Absent; offset = choice.Absent }

abbrev pub column_of : Sheet → Column
column_of s =
    record {
      height = float_of s.height;
      subdivisions = subdivisions.Of s.subdivisions;
      sides = sides_of s.sides;
      top = plain_if s.caps;
      bottom = plain_if s.caps;
      position = zero2;
      placement = unmoved;
    }

-- no table of options
abbrev pub lists_of : Sheet → Lists
lists_of s = lists (floats s.pairs) (floats s.corners) [] []

-- ---- its answer
-- P7, L1: after the plan's own refusals, a plan of more than 1,024 vertices is 51; its need is not printed
abbrev pub printable : Answer → Answer
printable (Err e) = Err e
printable (Ok c) = given (leb c.vertices.0 1024) (Room Vertices (told Vertices c)) (Ok c)

-- the numbers of a mesh, and of nothing else
abbrev pub flat : Mesh → Buffers
flat m =
    four
    (spread (λ w. three w.position) m.vertices)
    (spread (λ w. three w.normal) m.vertices)
    (spread (λ w. two w.uv) m.vertices)
    (spread (corners 0) m.triangles)

-- P9
abbrev pub text_of : Mesh → List ℕ
text_of m = mesh_text (flat m) (size_of m)

-- P8: `refused N`, or the mesh
abbrev pub text_for : Answer → Mesh → List ℕ
text_for (Err e) m = refusal_text (code e)
text_for (Ok c) m = text_of m

-- the mesh is the column's faces end to end
unfoldable pub column_text : Column → Lists → List ℕ
column_text job ls = text_for (printable (planned job ls)) (joined (column_faces job ls))

-- R9, P6: what does not read is 9, before anything else
abbrev pub reading_text : Option Sheet → List ℕ
reading_text (Some s) = column_text (column_of s) (lists_of s)
reading_text None = refusal_text (code refusal.Sheet)

unfoldable pub answer_text : List ℕ → List ℕ
answer_text bytes = reading_text (reading bytes)

-- at the start of a buffer, where there is room for it
abbrev pub Answered : List ℕ → List ℕ → List ℕ → ℕ → Type 0
Answered bytes = TextWritten (answer_text bytes)

-- the room that every answer fits: of 1,024 vertices eight numbers of nine bytes each, 1,542 indices of five bytes at
-- most, and the headings
abbrev pub room : ℕ
room = 72 * 1024 + (5 * 1542 + 49)
