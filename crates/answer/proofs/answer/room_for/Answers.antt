-- `room_for`: each test of a quotient is that of a product. Assumes nothing.
use native.Mathlib.Omega.{arith}
use borrow.Author.Tests.{le-leb, lt-leb}
use Rattle.answer.proofs.Laws.{roomy, short}
use Rattle.answer.proofs.answer.room_for.Goals as goal

pub returns-then-v-vertices : goal.returns-then-v-vertices
returns-then-v-vertices c = rw c.need_for.ensures (simp (short 3 _ _ (omega arith) c.if-v-vertices.true))

pub returns-then-v-normals : goal.returns-then-v-normals
returns-then-v-normals c = rw c.need_for-then-v-normals.ensures (simp (roomy 3 _ _ (omega arith) c.if-v-vertices.false, short 3 _ _ (omega arith) c.if-v-normals.true))

pub returns-then-v-uvs : goal.returns-then-v-uvs
returns-then-v-uvs c = rw c.need_for-then-v-uvs.ensures (simp (roomy 3 _ _ (omega arith) c.if-v-vertices.false, roomy 3 _ _ (omega arith) c.if-v-normals.false, short 2 _ _ (omega arith) c.if-v-uvs.true))

pub returns-then-counts-indices : goal.returns-then-counts-indices
returns-then-counts-indices c = simp (roomy 3 _ _ (omega arith) c.if-v-vertices.false, roomy 3 _ _ (omega arith) c.if-v-normals.false, roomy 2 _ _ (omega arith) c.if-v-uvs.false, lt-leb _ _ c.if-counts-indices.true)

pub returns : goal.returns
returns c = simp (roomy 3 _ _ (omega arith) c.if-v-vertices.false, roomy 3 _ _ (omega arith) c.if-v-normals.false, roomy 2 _ _ (omega arith) c.if-v-uvs.false, le-leb _ _ c.if-counts-indices.false)
