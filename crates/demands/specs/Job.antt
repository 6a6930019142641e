-- Every kind of job as one; R15 and R16 are rows of docs/TRACE.md. Definitions only.
use Rattle.std.specs.Prelude.{List, ℕ, Float, Result}
use Rattle.answer.specs.declared.answer.Refusal.{Refusal}
use Rattle.answer.specs.Answers.{Answer}
use Rattle.buffers.specs.Mesh.{Mesh}
use Rattle.buffers.specs.Laying.{Buffers}
use Rattle.mesh.specs.declared.windows.Faces.{Faces}
use Rattle.mesh.specs.declared.windows.Window.{Window}
use Rattle.cheap_column.specs.declared.CheapColumn.{CheapColumn}
use Rattle.cheap_column.specs.CheapColumn as cheap
use Rattle.plane_builder.specs.declared.Plane.{Plane}
use Rattle.plane_builder.specs.Plane as plane
use Rattle.column.specs.declared.Column.{Column}
use Rattle.column.specs.Column as column
use Rattle.column_builder.specs.Calls as columnCalls
use Rattle.heightmap.specs.declared.HeightMap.{HeightMap}
use Rattle.heightmap.specs.HeightMap as heightmap
use Rattle.heightmap.specs.Tests as mapTests
use Rattle.heightmap.specs.Calls as mapCalls

-- a job with the lists that are lent to it
pub data Job : Type 0 where
  OfCheapColumn : CheapColumn → List Float → Job
  OfPlane : Plane → plane.Lists → Job
  OfColumn : Column → column.Lists → Job
  OfMap : HeightMap → heightmap.Lists → Job

-- R15, R16: its faces, in their order
abbrev pub faces : Job → List Mesh
faces (OfCheapColumn job l) = cheap.cheap_faces job l
faces (OfPlane job ls) = plane.plane_faces job ls
faces (OfColumn job ls) = column.column_faces job ls
faces (OfMap job ls) = heightmap.map_faces job ls

-- ---- what the calls of each kind promise
abbrev pub planned : Job → Answer
planned (OfCheapColumn job l) = cheap.planned job l
planned (OfPlane job ls) = plane.planned job ls
planned (OfColumn job ls) = column.planned job ls
planned (OfMap job ls) = mapTests.planned job ls

abbrev pub whole_answer : Job → Buffers → Answer
whole_answer (OfCheapColumn job l) = cheap.whole_answer job l
whole_answer (OfPlane job ls) = plane.whole_answer job ls
whole_answer (OfColumn job ls) = columnCalls.whole_answer job ls
whole_answer (OfMap job ls) = mapCalls.whole_answer job ls

abbrev pub face_answer : Job → ℕ → Buffers → Answer
face_answer (OfCheapColumn job l) = cheap.face_answer job l
face_answer (OfPlane job ls) = plane.face_answer job ls
face_answer (OfColumn job ls) = columnCalls.face_answer job ls
face_answer (OfMap job ls) = mapCalls.face_answer job ls

abbrev pub built : Job → Buffers → Buffers
built (OfCheapColumn job l) = cheap.built job l
built (OfPlane job ls) = plane.built job ls
built (OfColumn job ls) = columnCalls.built job ls
built (OfMap job ls) = mapCalls.built job ls

abbrev pub faced : Job → ℕ → Buffers → Buffers
faced (OfCheapColumn job l) = cheap.faced job l
faced (OfPlane job ls) = plane.faced job ls
faced (OfColumn job ls) = columnCalls.faced job ls
faced (OfMap job ls) = mapCalls.faced job ls

abbrev pub faces_told : Job → Result Faces Refusal
faces_told (OfCheapColumn job l) = cheap.faces_told job l
faces_told (OfPlane job ls) = plane.faces_told job ls
faces_told (OfColumn job ls) = column.faces_told job ls
faces_told (OfMap job ls) = mapCalls.faces_told job ls

abbrev pub window_told : Job → ℕ → Result Window Refusal
window_told (OfCheapColumn job l) = cheap.window_told job l
window_told (OfPlane job ls) = plane.window_told job ls
window_told (OfColumn job ls) = column.window_told job ls
window_told (OfMap job ls) = mapCalls.window_told job ls
