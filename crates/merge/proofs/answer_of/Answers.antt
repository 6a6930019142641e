-- `answer_of`: the lists hold both meshes, then the source's indices, the limit and the room. Assumes nothing.
use native.Mathlib.Omega.{arith}
use mathlib.Core.Path.{sym, ◌∙◌}
use lib.ListN.{length}
use lib.Seq.{length-take-le}
use Rattle.mesh.proofs.Moving.{holds-room}
use Rattle.merge.proofs.Merging.{source-short, target-short, own-decide}
use Rattle.merge.proofs.answer_of.Goals as goal

pub returns-then-not-holds_counts : goal.returns-then-not-holds_counts
returns-then-not-holds_counts c = let a = c.args in
    source-short a.source a.svertices a.snormals a.suvs a.sindices.now a.target a.vertices a.normals a.uvs a.indices (sym c.holds_counts.ensures ∙ c.if-not-holds_counts.true)

pub returns-then-not-holds_counts-2 : goal.returns-then-not-holds_counts-2
returns-then-not-holds_counts-2 c = let a = c.args in
    target-short a.source a.svertices a.snormals a.suvs a.sindices.now a.target a.vertices a.normals a.uvs a.indices (sym c.holds_counts.ensures ∙ c.if-not-holds_counts.false) (sym c.holds_counts-2.ensures ∙ c.if-not-holds_counts-2.true)

pub slice_bounds-all_below-end : goal.slice_bounds-all_below-end
slice_bounds-all_below-end c = let a = c.args in
    let h = holds-room a.source a.svertices a.snormals a.suvs (length a.sindices.now) (sym c.holds_counts.ensures ∙ c.if-not-holds_counts.false) in
    sym (length-take-le _ _ h.indices)

pub overflow_add-counts : goal.overflow_add-counts
overflow_add-counts c = let a = c.args in
    let s = holds-room a.source a.svertices a.snormals a.suvs (length a.sindices.now) (sym c.holds_counts.ensures ∙ c.if-not-holds_counts.false) in
    let t = holds-room a.target a.vertices a.normals a.uvs a.indices (sym c.holds_counts-2.ensures ∙ c.if-not-holds_counts-2.false) in
    omega (arith, s.vertices, t.vertices)

pub overflow_add-counts-then-all_below : goal.overflow_add-counts-then-all_below
overflow_add-counts-then-all_below c = let a = c.args in
    let s = holds-room a.source a.svertices a.snormals a.suvs (length a.sindices.now) (sym c.holds_counts.ensures ∙ c.if-not-holds_counts.false) in
    let t = holds-room a.target a.vertices a.normals a.uvs a.indices (sym c.holds_counts-2.ensures ∙ c.if-not-holds_counts-2.false) in
    omega (arith, s.indices, t.indices, c.well_formed.1.1.1.1.0.1, c.requires)

pub returns-then-all_below : goal.returns-then-all_below
returns-then-all_below c = let a = c.args in
    rw (c.room.ensures, c.limit.ensures) (own-decide a.source a.svertices a.snormals a.suvs a.sindices.now a.target a.vertices a.normals a.uvs a.indices (sym c.holds_counts.ensures ∙ c.if-not-holds_counts.false) (sym c.holds_counts-2.ensures ∙ c.if-not-holds_counts-2.false) _ (sym c.all_below.ensures ∙ c.if-all_below.true))

pub returns : goal.returns
returns c = let a = c.args in
    own-decide a.source a.svertices a.snormals a.suvs a.sindices.now a.target a.vertices a.normals a.uvs a.indices (sym c.holds_counts.ensures ∙ c.if-not-holds_counts.false) (sym c.holds_counts-2.ensures ∙ c.if-not-holds_counts-2.false) _ (sym c.all_below.ensures ∙ c.if-all_below.false)
