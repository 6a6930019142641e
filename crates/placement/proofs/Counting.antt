-- Marks with their places, and the places alone. Assumes nothing.
use mathlib.Core.Path.{◌≡◌, sym, ◌∙◌}
use mathlib.Core.Bool.{Bool}
use mathlib.Core.List.{List}
use Prim.Native.Nat.{ℕ, ◌<◌}
use native.Mathlib.Nat.{zero-add}
use native.Mathlib.Omega.{arith}
use lib.ListN.{length, get_or}
use Rattle.std.specs.List.{enumerate_from}
use Rattle.std.proofs.lemmas.List.FromFn.{length-enumerate_from, get_or-enumerate_from}
use Rattle.face.specs.Lists.{each}
use Rattle.face.proofs.Filling.{length-each, each_at}
use Rattle.answer.specs.Checks.{every}
use Rattle.answer.proofs.Laws.{every-same}

pub every-placed : (ok : ℕ → ℕ → Bool) (ms : List ℕ) → every (λ p. ok p.0 p.1) (enumerate_from 0 ms) ≡ every (λ i. ok i (get_or ms i 0)) (each (λ i. i) (length ms))
every-placed ok ms =
    every-same _ _ (enumerate_from 0 ms) (each (λ i. i) (length ms)) (0, 0) 0 (length-enumerate_from 0 ms ∙ sym (length-each (λ i. i) (length ms)))
    (λ i h. let l : i < length ms = omega (arith, length-enumerate_from 0 ms) in rw (get_or-enumerate_from 0 ms i (0, 0) l, each_at (λ i. i) (length ms) i 0 l, zero-add))
