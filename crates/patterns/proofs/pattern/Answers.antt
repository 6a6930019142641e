-- `pattern`: what equals itself is no NaN, and what does not is the one NaN. Assumes nothing.
use mathlib.Core.Path.{◌≡◌, refl, sym, ◌∙◌}
use mathlib.Core.Bool.{Bool, true, false, not, false≢true, true≢false}
use Prim.Native.Nat.{ℕ, ◌*◌}
use lib.Dec.{T}
use lib.Ieee.{Float, nan, inf, fin, eq, level, up, down, is_nan}
use borrow.Author.Tests.{eq-eqb}
use Rattle.patterns.specs.Patterns.{bits_of}
use Rattle.patterns.proofs.Laws.{bits_are}
use Rattle.patterns.proofs.pattern.Goals as goal

no_nan : (x : Float) → eq x x ≡ true → T (not (is_nan x))
unfolding eq is_nan
no_nan nan h = absurd (false≢true h)
no_nan (inf s) h = tt
no_nan (fin s m e) h = tt

level-same : (s : Bool) (a : ℕ) → level s a s a ≡ true
level-same true a = rw (eq-eqb a a refl)
level-same false a = rw (eq-eqb a a refl)

the_nan : (x : Float) → eq x x ≡ false → 0x7fc0_0000 ≡ bits_of x
unfolding eq is_nan
the_nan nan h = refl
the_nan (inf true) h = absurd (true≢false h)
the_nan (inf false) h = absurd (true≢false h)
the_nan (fin s m e) h = absurd (true≢false (sym (level-same s (m * up e * down e)) ∙ h))

pub float_to_bits-result : goal.float_to_bits-result
float_to_bits-result c = no_nan _ c.if-x.true

pub returns-then-x : goal.returns-then-x
returns-then-x c = bits_are _

pub returns : goal.returns
returns c = the_nan _ c.if-x.false
