-- Why a wall of a height map is there or is not, and which face a number is, as an operator is told; L3a to L3d are rows of
-- docs/TRACE.md. Definitions only.
use Rattle.std.specs.Prelude.{ℕ, Float, Result, Ok, Err}
use Rattle.face.specs.declared.triangle.Counts.{Counts}
use Rattle.face.specs.Vec.{f0}
use Rattle.answer.specs.declared.answer.Refusal.{Refusal}
use Rattle.answer.specs.Answers.{Answer, limited, named}
use Rattle.heightmap.specs.declared.Wall.{Wall}
use Rattle.heightmap.specs.declared.Wall.TheVariants as wall
use Rattle.heightmap.specs.declared.Name.{Name}
use Rattle.heightmap.specs.declared.Name.TheVariants.{Cap, Side}
use Rattle.heightmap.specs.declared.HeightMap.{HeightMap}
use Rattle.heightmap.specs.Grid.{Grid, cells_in, wall}
use Rattle.heightmap.specs.HeightMap.{Lists}
use Rattle.heightmap.specs.Tests.{checked, planned}
use Rattle.heightmap.specs.Names.{name_at, number_of}
use Rattle.heightmap_plan.specs.Finding.{numbered}
use Rattle.heightmap_why.specs.declared.Reason.{Reason}
use Rattle.heightmap_why.specs.declared.Reason.TheVariants as reason

-- a reason and a face as they are told, beside the plan's counts; or a refusal
abbrev pub WhyAnswer : Type 0
WhyAnswer = Result (Counts × Reason) Refusal

abbrev pub because : Counts → Reason → WhyAnswer
because c r = Ok (c, r)

abbrev pub WhichAnswer : Type 0
WhichAnswer = Result (Counts × Name) Refusal

abbrev pub names : Counts → Name → WhichAnswer
names c n = Ok (c, n)

-- ---- L3a: a wall as it is told: one that is there by its face number
abbrev pub reason_by : Wall → ℕ → Reason
reason_by wall.SidesOff number = reason.SidesOff
reason_by wall.NothingBeyond number = reason.NothingBeyond
reason_by (wall.AsHigh beyond) number = reason.AsHigh beyond
reason_by (wall.Present beyond) number = reason.Present number

abbrev pub reason_of : HeightMap → Grid → ℕ → ℕ → Reason
reason_of job g k d = reason_by (wall job g k d) (number_of job g (Side k d))

-- ---- L3c: the plan's refusals, then 6 for a cell that is not there and for a side
abbrev pub side_named : Lists → Answer → ℕ → ℕ → Answer
side_named ls a k d = named (named a k (cells_in ls.grid.cells)) d 6

abbrev pub side_answer : HeightMap → Lists → ℕ → ℕ → Answer
side_answer job ls k d = side_named ls (planned job ls) k d

-- the same once the faces are counted, as a part of the code hands it on
abbrev pub side_tested : HeightMap → Lists → Counts → ℕ → ℕ → Answer
side_tested job ls c k d = side_named ls (checked job ls (limited c)) k d

-- L3a, L3c: done, with the plan's counts
abbrev pub why_by : Answer → Reason → WhyAnswer
why_by (Err e) r = Err e
why_by (Ok c) r = because c r

abbrev pub why_told : HeightMap → Lists → ℕ → ℕ → WhyAnswer
why_told job ls k d = why_by (side_answer job ls k d) (reason_of job ls.grid k d)

-- L3b, L3c: the plan's refusals, then 6 for a face that is not there; done, with the plan's counts
abbrev pub which_by : Answer → Name → WhichAnswer
which_by (Err e) n = Err e
which_by (Ok c) n = names c n

abbrev pub which_told : HeightMap → Lists → ℕ → WhichAnswer
which_told job ls i = which_by (numbered job ls i) (name_at job ls.grid i)

-- ---- L3d: the number of each reason, which is its place in the order of the tests
abbrev pub reason_code : Reason → ℕ
reason_code reason.SidesOff = 1
reason_code reason.NothingBeyond = 2
reason_code (reason.AsHigh beyond) = 3
reason_code (reason.Present number) = 4

-- the height beside 3, and the face's number beside 4
abbrev pub reason_height : Reason → Float
reason_height reason.SidesOff = f0
reason_height reason.NothingBeyond = f0
reason_height (reason.AsHigh beyond) = beyond
reason_height (reason.Present number) = f0

abbrev pub reason_face : Reason → ℕ
reason_face reason.SidesOff = 0
reason_face reason.NothingBeyond = 0
reason_face (reason.AsHigh beyond) = 0
reason_face (reason.Present number) = number

-- L3d: the number of each kind of face, and its side, beside its cell; a cap's side is 0
abbrev pub kind_code : Name → ℕ
kind_code (Cap k) = 1
kind_code (Side k d) = 2

abbrev pub side_told : Name → ℕ
side_told (Cap k) = 0
side_told (Side k d) = d
