-- A run of single-face calls, done and refused; X5, X6 are rows of docs/TRACE.md. Definitions only.
use Rattle.std.specs.Prelude.{◌≡◌, ◌⊎◌, List, [], ◌∷◌, ℕ}
use Rattle.buffers.specs.Mesh.{Mesh, none}
use Rattle.buffers.specs.Laying.{Buffers, lay_one}

-- a step lays the face of a number, or is refused
pub data Step : Type 0 where
  Lays : ℕ → Step
  Refuses : Step

-- R10: a refused step changes nothing
abbrev pub stepped : List Mesh → Step → Buffers → Buffers
stepped fs (Lays k) B = lay_one fs k none B
stepped fs Refuses B = B

unfoldable pub run : List Mesh → List Step → Buffers → Buffers
run fs [] B = B
run fs (s ∷ ss) B = run fs ss (stepped fs s B)

-- some step lays the face k
unfoldable pub Named : ℕ → List Step → Type 0
Named k [] = ⊥
Named k (s ∷ ss) = (s ≡ Lays k) ⊎ Named k ss
