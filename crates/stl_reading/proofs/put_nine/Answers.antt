-- `put_nine`: nine stores are one list laid. Assumes nothing.
use native.Mathlib.Omega.{arith}
use lib.ListN.{length-set}
use Rattle.stl_reading.proofs.Unpacking.{laid-nine}
use Rattle.stl_reading.proofs.put_nine.Goals as goal

pub bounds-buffer-at-2 : goal.bounds-buffer-at-2
bounds-buffer-at-2 c = simp length-set (omega arith)

pub bounds-buffer-at-3 : goal.bounds-buffer-at-3
bounds-buffer-at-3 c = simp length-set (omega arith)

pub bounds-buffer-at-4 : goal.bounds-buffer-at-4
bounds-buffer-at-4 c = simp length-set (omega arith)

pub bounds-buffer-at-5 : goal.bounds-buffer-at-5
bounds-buffer-at-5 c = simp length-set (omega arith)

pub bounds-buffer-at-6 : goal.bounds-buffer-at-6
bounds-buffer-at-6 c = simp length-set (omega arith)

pub bounds-buffer-at-7 : goal.bounds-buffer-at-7
bounds-buffer-at-7 c = simp length-set (omega arith)

pub bounds-buffer-at-8 : goal.bounds-buffer-at-8
bounds-buffer-at-8 c = simp length-set (omega arith)

pub bounds-buffer-at-9 : goal.bounds-buffer-at-9
bounds-buffer-at-9 c = simp length-set (omega arith)

pub shape_of-buffer : goal.shape_of-buffer
shape_of-buffer c = simp length-set (omega arith)

pub returns : goal.returns
returns c = laid-nine _ _ _ _ _ _ _ _ _ _ _
