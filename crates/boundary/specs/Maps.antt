-- What a height map's calls answer and leave to a caller from C: a fringe that means nothing is refused as 1, before all
-- else. Definitions only.
use Rattle.std.specs.Prelude.{ℕ, cond, Result, Err}
use Rattle.answer.specs.declared.answer.Refusal.{Refusal}
use Rattle.answer.specs.declared.answer.Refusal.TheVariants.{Shape}
use Rattle.answer.specs.Answers.{Answer, given}
use Rattle.buffers.specs.Laying.{Buffers}
use Rattle.mesh.specs.declared.windows.Faces.{Faces}
use Rattle.mesh.specs.declared.windows.Window.{Window}
use Rattle.heightmap.specs.HeightMap.{Lists}
use Rattle.heightmap.specs.Tests.{planned}
use Rattle.heightmap.specs.Calls.{whole_answer, face_answer, built, faced, faces_told, window_told}
use Rattle.heightmap_why.specs.Why.{WhyAnswer, WhichAnswer, why_told, which_told}
use Rattle.boundary.specs.declared.jobs.CHeightMap.{CHeightMap}
use Rattle.boundary.specs.FromC.{is_fringe, height_map_of}

-- R1
abbrev pub meant : CHeightMap → Answer → Answer
meant job rest = given (is_fringe job.fringe) Shape rest

abbrev pub map_planned : CHeightMap → Lists → Answer
map_planned job ls = meant job (planned (height_map_of job) ls)

abbrev pub map_whole : CHeightMap → Lists → Buffers → Answer
map_whole job ls B = meant job (whole_answer (height_map_of job) ls B)

abbrev pub map_face : CHeightMap → Lists → ℕ → Buffers → Answer
map_face job ls k B = meant job (face_answer (height_map_of job) ls k B)

-- R10
abbrev pub map_built : CHeightMap → Lists → Buffers → Buffers
map_built job ls B = cond (is_fringe job.fringe) (built (height_map_of job) ls B) B

abbrev pub map_faced : CHeightMap → Lists → ℕ → Buffers → Buffers
map_faced job ls k B = cond (is_fringe job.fringe) (faced (height_map_of job) ls k B) B

abbrev pub map_faces_told : CHeightMap → Lists → Result Faces Refusal
map_faces_told job ls = cond (is_fringe job.fringe) (faces_told (height_map_of job) ls) (Err Shape)

abbrev pub map_window_told : CHeightMap → Lists → ℕ → Result Window Refusal
map_window_told job ls k = cond (is_fringe job.fringe) (window_told (height_map_of job) ls k) (Err Shape)

-- L3c
abbrev pub map_why_told : CHeightMap → Lists → ℕ → ℕ → WhyAnswer
map_why_told job ls k d = cond (is_fringe job.fringe) (why_told (height_map_of job) ls k d) (Err Shape)

abbrev pub map_which_told : CHeightMap → Lists → ℕ → WhichAnswer
map_which_told job ls i = cond (is_fringe job.fringe) (which_told (height_map_of job) ls i) (Err Shape)
