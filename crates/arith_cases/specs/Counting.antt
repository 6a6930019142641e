-- A tally, and what one case adds to it. Definitions only.
use Rattle.std.specs.Prelude.{ℕ, ◌+◌, cond, eqb, ltb, Option, Some, None}
use Rattle.arith_cases.specs.declared.tally.Case.{Case}
use Rattle.arith_cases.specs.declared.tally.Tally.{Tally}

-- counts stop at the greatest number
abbrev pub one_more : ℕ → ℕ
one_more n = cond (ltb n 0xffff_ffff_ffff_ffff) (n + 1) n

-- the case that is kept: the first
abbrev pub kept : {A : Type 0} → Option A → A → A
kept (Some a) b = a
kept None b = b

module _ {n : ℕ} where
  abbrev pub nothing_yet : Tally n
  nothing_yet = record { count = 0; differ = 0; first = None }

  abbrev pub same : Tally n → Tally n
  same t = record { count = one_more t.count; differ = t.differ; first = t.first }

  -- a case that differs; only the first is kept
  abbrev pub different : Tally n → Case n → Tally n
  different t c = record { count = one_more t.count; differ = one_more t.differ; first = Some (kept t.first c) }

  abbrev pub compared : Tally n → Case n → Tally n
  compared t c = cond (eqb c.made c.recorded) (same t) (different t c)
