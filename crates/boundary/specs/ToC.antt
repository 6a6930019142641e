-- Answers as a caller from C is told them; R10, L1e, L2g and L3d are rows of docs/TRACE.md. Definitions only.
use Rattle.std.specs.Prelude.{Result, Ok, Err}
use Rattle.face.specs.declared.vec.Vec2.{Vec2}
use Rattle.face.specs.declared.vec.Vec3.{Vec3}
use Rattle.face.specs.Vec.{f0, zero2, zero3}
use Rattle.answer.specs.declared.answer.Refusal.{Refusal}
use Rattle.answer.specs.Answers.{Answer, number_of, counts_of, need_of}
use Rattle.mesh.specs.declared.stored.Middle.{Middle}
use Rattle.mesh.specs.declared.windows.Faces.{Faces}
use Rattle.mesh.specs.declared.windows.Window.{Window}
use Rattle.stl_writing.specs.declared.Filed.{Filed}
use Rattle.heightmap_plan.specs.Finding.{cell_of}
use Rattle.heightmap_why.specs.Why.{WhyAnswer, WhichAnswer, reason_code, reason_height, reason_face, kind_code, side_told}
use Rattle.boundary.specs.declared.from_c.CVec2.{CVec2}
use Rattle.boundary.specs.declared.from_c.CVec3.{CVec3}
use Rattle.boundary.specs.declared.to_c.CAnswer.{CAnswer}
use Rattle.boundary.specs.declared.to_c.CCentroid.{CCentroid}
use Rattle.boundary.specs.declared.to_c.CUvCentroid.{CUvCentroid}
use Rattle.boundary.specs.declared.to_c.CFaces.{CFaces}
use Rattle.boundary.specs.declared.to_c.CWindow.{CWindow}
use Rattle.boundary.specs.declared.to_c.CFile.{CFile}
use Rattle.boundary.specs.declared.to_c.CWhy.{CWhy}
use Rattle.boundary.specs.declared.to_c.CWhich.{CWhich}

-- the number, the counts and the need; the spare number is 0
abbrev pub answer_to_c : Answer → CAnswer
answer_to_c a = record { number = number_of a; spare = 0; vertices = (counts_of a).vertices.0; indices = (counts_of a).indices.0; need = need_of a }

abbrev pub point_to_c : Vec2 → CVec2
point_to_c p = record { x = p.x; y = p.y }

abbrev pub point3_to_c : Vec3 → CVec3
point3_to_c p = record { x = p.x; y = p.y; z = p.z }

-- R10: beside a refusal every number is 0, and every float +0
abbrev pub centroid_to_c : Result (Middle Vec3) Refusal → CCentroid
centroid_to_c (Ok m) = record { answer = answer_to_c (Ok m.counts); centroid = point3_to_c m.centroid }
centroid_to_c (Err e) = record { answer = answer_to_c (Err e); centroid = point3_to_c zero3 }

abbrev pub uv_centroid_to_c : Result (Middle Vec2) Refusal → CUvCentroid
uv_centroid_to_c (Ok m) = record { answer = answer_to_c (Ok m.counts); centroid = point_to_c m.centroid }
uv_centroid_to_c (Err e) = record { answer = answer_to_c (Err e); centroid = point_to_c zero2 }

-- what is told of a job's faces
abbrev pub faces_to_c : Result Faces Refusal → CFaces
faces_to_c (Ok t) = record { answer = answer_to_c (Ok t.counts); faces = t.faces }
faces_to_c (Err e) = record { answer = answer_to_c (Err e); faces = 0 }

abbrev pub window_to_c : Result Window Refusal → CWindow
window_to_c (Ok t) =
    record {
      answer = answer_to_c (Ok t.counts);
      first_vertex = t.start.vertices.0;
      first_index = t.start.indices.0;
      vertices = t.size.vertices.0;
      indices = t.size.indices.0;
    }
window_to_c (Err e) = record { answer = answer_to_c (Err e); first_vertex = 0; first_index = 0; vertices = 0; indices = 0 }

-- what is told of a file
abbrev pub file_to_c : Result Filed Refusal → CFile
file_to_c (Ok t) = record { answer = answer_to_c (Ok t.counts); bytes = t.bytes }
file_to_c (Err e) = record { answer = answer_to_c (Err e); bytes = 0 }

-- L3d: a reason by its number, its height and its face, and a face by its kind, its side and its cell; all 0 where refused
abbrev pub why_to_c : WhyAnswer → CWhy
why_to_c (Err e) = record { answer = answer_to_c (Err e); reason = 0; height = f0; face = 0 }
why_to_c (Ok (c, r)) = record { answer = answer_to_c (Ok c); reason = reason_code r; height = reason_height r; face = reason_face r }

abbrev pub which_to_c : WhichAnswer → CWhich
which_to_c (Err e) = record { answer = answer_to_c (Err e); kind = 0; side = 0; cell = 0 }
which_to_c (Ok (c, n)) = record { answer = answer_to_c (Ok c); kind = kind_code n; side = side_told n; cell = cell_of n }
