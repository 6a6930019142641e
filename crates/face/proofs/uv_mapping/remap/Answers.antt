-- `remap`: a factor of one leaves an addition, and one of zero needs no fusing. Assumes nothing.
use mathlib.Core.Path.{sym}
use Rattle.arith.proofs.Laws.{fma-of-one, one-of-fma, fma-of-zero}
use Rattle.face.proofs.uv_mapping.remap.Goals as goal

pub returns-then-width : goal.returns-then-width
returns-then-width c = sym (one-of-fma _ _ _ c.if-width.true)

pub returns-then-u : goal.returns-then-u
returns-then-u c = sym (fma-of-one _ _ _ c.if-u.true)

pub returns-then-u-2 : goal.returns-then-u-2
returns-then-u-2 c = sym (fma-of-zero _ _ _ c.if-u-2.true)
