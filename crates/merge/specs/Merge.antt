-- One mesh merged into another; M4, R13, L1a and L1b are rows of docs/TRACE.md. Definitions only.
use Rattle.std.specs.Prelude.{◌≡◌, ℕ, ◌+◌, ◌*◌, ◌≤◌, true, ◌&&◌, List, map, length, take}
use Rattle.face.specs.declared.triangle.Counts.{Counts}
use Rattle.answer.specs.declared.answer.Refusal.TheVariants.{Shape, Index}
use Rattle.answer.specs.Answers.{Answer}
use Rattle.answer.specs.Answers.{given, limited, roomed, after}
use Rattle.answer.specs.Checks.{every, below}
use Rattle.buffers.specs.Mesh.{also}
use Rattle.buffers.specs.Laying.{Buffers, four, laid}
use Rattle.mesh.specs.Stored.{holds_counts}

-- R13: 1, 7, 4, then 51 to 54, from the lengths of the lists and the source's indices
abbrev pub merge_tested : Counts → ℕ → ℕ → ℕ → List ℕ → Counts → ℕ → ℕ → ℕ → ℕ → Answer
merge_tested s sv sn st si t v n u i =
    given (holds_counts s sv sn st (length si) && holds_counts t v n u i) Shape
    (given (every (below s.vertices.0) (take s.indices.0 si)) Index
    (roomed (limited (also t s)) v n u i))

abbrev pub merge_answer : Counts → Buffers → Counts → Buffers → Answer
merge_answer s S t T =
    merge_tested s (length S.vertices) (length S.normals) (length S.uvs) S.indices t (length T.vertices) (length T.normals) (length T.uvs) (length T.indices)

-- R13: what a merge needs to pass 1, 7 and 4
pub record Mergeable (s : Counts) (S : Buffers) (t : Counts) (T : Buffers) : Type 0 where
  pub source : holds_counts s (length S.vertices) (length S.normals) (length S.uvs) (length S.indices) ≡ true
  pub target : holds_counts t (length T.vertices) (length T.normals) (length T.uvs) (length T.indices) ≡ true
  pub own : every (below s.vertices.0) (take s.indices.0 S.indices) ≡ true
  pub limit : (also t s).vertices.0 ≤ 65536

-- M4: what the counts say of the source, after what they say of the target; indices after its vertices
abbrev pub appended : Counts → Buffers → Counts → Buffers → Buffers
appended s S t T =
    four
    (laid T.vertices (3 * t.vertices.0) (take (3 * s.vertices.0) S.vertices))
    (laid T.normals (3 * t.vertices.0) (take (3 * s.vertices.0) S.normals))
    (laid T.uvs (2 * t.vertices.0) (take (2 * s.vertices.0) S.uvs))
    (laid T.indices t.indices.0 (map (λ x. t.vertices.0 + x) (take s.indices.0 S.indices)))

abbrev pub merged : Counts → Buffers → Counts → Buffers → Buffers
merged s S t T = after (merge_answer s S t T) T (appended s S t T)
