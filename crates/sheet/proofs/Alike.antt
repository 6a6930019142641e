-- A mesh's text speaks of the places that its counts reach alone. Assumes nothing.
use mathlib.Core.Path.{◌≡◌, ap}
use mathlib.Core.List.{List, [], ◌∷◌, ◌++◌}
use Prim.Native.Nat.{ℕ, ◌*◌, ◌<◌}
use lib.ListN.{get_or}
use lib.Ieee.{Float, nan}
use Rattle.face.proofs.Filling.{chain_same}
use Rattle.face.specs.declared.triangle.Counts.{Counts}
use Rattle.buffers.specs.Laying.{Buffers}
use Rattle.sheet.specs.Digits.{hex_digits, decimal, gap}
use Rattle.patterns.specs.Patterns.{bits_of}
use Rattle.sheet.specs.Meshes.{float_word, index_word, float_lines, index_lines, mesh_text}

-- two lists agree at the first n places
abbrev pub Alike : {A : Type 0} → A → ℕ → List A → List A → Type 0
Alike d n xs ys = (k : ℕ) → k < n → get_or xs k d ≡ get_or ys k d

float-lines-alike : (w n : ℕ) (xs ys : List Float) → Alike nan n xs ys → float_lines xs w n ≡ float_lines ys w n
unfolding float_lines
float-lines-alike w n xs ys h = chain_same (float_word xs w) (float_word ys w) n (λ k u. ap (λ (x : Float). hex_digits (bits_of x) ++ (gap w k ∷ [])) (h k u))

index-lines-alike : (n : ℕ) (xs ys : List ℕ) → Alike 0 n xs ys → index_lines xs n ≡ index_lines ys n
unfolding index_lines
index-lines-alike n xs ys h = chain_same (index_word xs) (index_word ys) n (λ k u. ap (λ (x : ℕ). decimal x ++ (gap 3 k ∷ [])) (h k u))

pub record AlikeTo (c : Counts) (B C : Buffers) : Type 0 where
  pub vertices : Alike nan (3 * c.vertices.0) B.vertices C.vertices
  pub normals : Alike nan (3 * c.vertices.0) B.normals C.normals
  pub uvs : Alike nan (2 * c.vertices.0) B.uvs C.uvs
  pub indices : Alike 0 c.indices.0 B.indices C.indices

pub mesh-alike : (c : Counts) (B C : Buffers) → AlikeTo c B C → mesh_text B c ≡ mesh_text C c
unfolding mesh_text
mesh-alike c B C h =
    let v : ℕ = c.vertices.0 in
    rw (float-lines-alike 3 (3 * v) B.vertices C.vertices h.vertices, float-lines-alike 3 (3 * v) B.normals C.normals h.normals, float-lines-alike 2 (2 * v) B.uvs C.uvs h.uvs, index-lines-alike c.indices.0 B.indices C.indices h.indices)
