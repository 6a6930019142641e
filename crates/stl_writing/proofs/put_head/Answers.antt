use Prim.Native.Nat.{ℕ}
use native.Mathlib.Omega.{arith}
use mathlib.Core.Path.{refl, sym, ap, ◌∙◌}
use mathlib.Core.List.{List}
use Rattle.patterns.specs.Patterns.{bytes_of}
use Rattle.buffers.specs.Laying.{laid}
use Rattle.buffers.proofs.Laid.{laid-nothing, stored_next, stored-all}
use Rattle.stl_writing.proofs.Putting.{head-laid}
use Rattle.stl_writing.proofs.put_head.Goals as goal

pub loop-k-init : goal.loop-k-init
loop-k-init c = (omega arith, refl, sym (laid-nothing _ _))

pub loop-k-preserved : goal.loop-k-preserved
loop-k-preserved c = stored_next (λ j. 0) 80 _ c.loop-k.k _ c.loop-k.invariant c.loop-k-test.true

pub returns : goal.returns
returns c = let a = c.args in
    let zeros = stored-all (λ (j : ℕ). 0) 80 a.bytes.now 0 _ _ c.loop-k.invariant c.loop-k-test.false in
    let count = rw c.bytes_of-four.ensures at c.put_four.ensures in
    count ∙ ap (λ (b : List ℕ). laid b 80 (bytes_of a.triangles)) zeros ∙ head-laid a.bytes.now a.triangles
