-- Counting lists. Definitions only.
use Rattle.std.specs.Prelude.{ℕ, zero, suc, List, [], ◌∷◌, ◌++◌}

-- g 0, .. g (n - 1): one more comes at the end, as in a loop
abbrev pub each : {A : Type 0} → (ℕ → A) → ℕ → List A
each g zero = []
each g (suc n) = each g n ++ (g n ∷ [])

-- the same of lists, end to end
abbrev pub chain : {A : Type 0} → (ℕ → List A) → ℕ → List A
chain g zero = []
chain g (suc n) = chain g n ++ g n
