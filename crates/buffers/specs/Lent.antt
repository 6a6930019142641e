-- Words for the lists that are lent to a call. Definitions only.
use Rattle.std.specs.Prelude.{ℕ, ◌≡◌, List, Float}
use Rattle.std.specs.Borrow.{Bor, MutBor}
use denote.Triple.Both.{Both}
use Rattle.buffers.specs.Laying.{Buffers, four}

-- ---- four buffers that are lent to be written
-- what they hold where something is required of them
abbrev pub lending : MutBor (List Float) → MutBor (List Float) → MutBor (List Float) → MutBor (List ℕ) → Buffers
lending v n t i = four v.now n.now t.now i.now

-- a list that is lent, as a promise has it: when the call is entered, and when it is left
abbrev pub Lent : Type 0 → Type 0
Lent A = Both (MutBor (List A)) (MutBor (List A))

-- what the buffers hold when the call is entered
abbrev pub entering : Lent Float → Lent Float → Lent Float → Lent ℕ → Buffers
entering v n t i = lending v.entry n.entry t.entry i.entry

-- what they hold when it is left
abbrev pub leaving : Lent Float → Lent Float → Lent Float → Lent ℕ → Buffers
leaving v n t i = lending v.exit n.exit t.exit i.exit

-- what they hold when it is left is f of what they held when it was entered
abbrev pub Become : (Buffers → Buffers) → Lent Float → Lent Float → Lent Float → Lent ℕ → Type 0
Become f v n t i = leaving v n t i ≡ f (entering v n t i)

-- ---- four lists that are lent to be read, where something is required of them, and as a promise has them
abbrev pub showing : Bor (List Float) → Bor (List Float) → Bor (List Float) → Bor (List ℕ) → Buffers
showing v n t i = four v.now n.now t.now i.now

-- a list that is lent to be read: it is left as it was entered
abbrev pub Shown : Type 0 → Type 0
Shown A = Both (Bor (List A)) (Bor (List A))

abbrev pub shown : Shown Float → Shown Float → Shown Float → Shown ℕ → Buffers
shown v n t i = showing v.entry n.entry t.entry i.entry
