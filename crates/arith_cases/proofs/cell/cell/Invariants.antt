-- `cell`: k digits of a base spell less than its k-th power. Assumes nothing.
use Prim.Native.Nat.{◌^◌, ◌<◌}
use Rattle.arith_cases.proofs.cell.cell.Given as goal

abbrev pub invariant-loop-byte : goal.invariant-loop-byte
invariant-loop-byte l = l.value < l.base ^ l.byte-index
