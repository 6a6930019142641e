use native.Mathlib.Omega.{arith}
use mathlib.Core.Path.{refl, sym, ap, ◌∙◌}
use lib.Ieee.{nan}
use Rattle.buffers.specs.Laying.{laid}
use Rattle.buffers.proofs.Laid.{laid-nothing, copied_more, copied_all}
use Rattle.merge.proofs.Copying.{map_same}
use Rattle.merge.proofs.copy.Goals as goal

pub loop-k-init : goal.loop-k-init
loop-k-init c = (omega arith, refl, sym (laid-nothing _ _))

pub loop-k-preserved : goal.loop-k-preserved
loop-k-preserved c = copied_more (λ x. x) c.args.numbers.now nan _ _ _ _ c.loop-k.invariant c.loop-k-test.true

pub returns : goal.returns
returns c = let a = c.args in
    copied_all (λ x. x) a.numbers.now nan _ _ _ _ c.loop-k.invariant c.loop-k-test.false ∙ ap (laid a.buffer.now a.at) (map_same a.numbers.now)
