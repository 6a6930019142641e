-- `entry_at`: what is read of an entry's part of a list is read of the list. Assumes nothing.
use Rattle.std.proofs.lemmas.List.{take_rest, get_or-drop}
use native.Mathlib.Nat.{add-zero}
use Rattle.placement.proofs.options.entry_at.Goals as goal

pub returns : goal.returns
returns c = simp (c.inset_of.ensures, take_rest, get_or-drop, add-zero)
