-- The answer of a merge, as a caller from C is told it. Definitions only.
use Rattle.buffers.specs.Laying.{Buffers}
use Rattle.merge.specs.Merge.{merge_answer}
use Rattle.boundary.specs.declared.from_c.CCounts.{CCounts}
use Rattle.boundary.specs.declared.to_c.CAnswer.{CAnswer}
use Rattle.boundary.specs.FromC.{counts_in}
use Rattle.boundary.specs.ToC.{answer_to_c}

abbrev pub merge_to_c : CCounts → Buffers → CCounts → Buffers → CAnswer
merge_to_c s S t T = answer_to_c (merge_answer (counts_in s) S (counts_in t) T)
