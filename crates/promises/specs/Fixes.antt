-- What it is for a promise to fix a call; D2 is a row of docs/TRACE.md. Definitions only.
use Rattle.std.specs.Prelude.{◌≡◌}
use seplogic.Ra.Ura.{Ura}
use contract.Monad.{fact}
use contract.Lifetimes.{Lfts}
use denote.Triple.Entry.{Args, Res}
use denote.Triple.Clauses.{Ended, Clauses, AtExit, Lasts, at_exit}

-- what is said of the arguments of a call, its result and its parameters at the exit
abbrev pub Promise : Ended → Type 1
Promise T = (κs : Lfts T.signature.lifetimes) → Args T.signature κs → Res T.signature κs → AtExit T κs → Type 0

-- for all arguments: two results x and y, with v and w left in what was lent, are the same. `Lasts` has what each `&mut` holds at the exit, and nothing of another parameter
abbrev pub Fixes : (T : Ended) → Promise T → Type 0
Fixes T P =
    (κs : Lfts T.signature.lifetimes) (a : Args T.signature κs) (x y : Res T.signature κs) (v w : Lasts T κs a)
    → P κs a x (at_exit T κs a v) → P κs a y (at_exit T κs a w) → (x ≡ y) × (v ≡ w)

-- of the clauses of a function: they ensure that promise, which is written out beside them, and no more
abbrev pub Says : {M : Type 1} {𝓤 : Ura M} (T : Ended) → Clauses 𝓤 T → Promise T → Type 2
Says {M} {𝓤} T c P =
    (κs : Lfts T.signature.lifetimes) (a : Args T.signature κs) (g : (c κs a).ghost) (r : Res T.signature κs) (e : AtExit T κs) → (c κs a).ensures g r e ≡ fact 𝓤 (P κs a r e)
