-- `tested`: the tests in their order. Assumes nothing.
use mathlib.Core.Path.{refl, sym, ◌∙◌}
use borrow.Author.Tests.{le-leb, lt-leb}
use mathlib.Core.Bool.{true, false}
use lib.ListN.{length}
use lib.Seq.{length-take-le}
use Rattle.mesh.proofs.Moving.{holds-room}
use Rattle.stl_writing.proofs.Testing.{decide}
use Rattle.stl_writing.proofs.tested.Goals as goal

pub slice_bounds-all_below-end : goal.slice_bounds-all_below-end
slice_bounds-all_below-end c = let a = c.args in
    sym (length-take-le _ _ (holds-room a.counts a.vertices a.normals a.uvs (length a.indices.now) (sym c.holds_counts.ensures ∙ c.if-holds_counts.true)).indices)

pub returns-then-all_below : goal.returns-then-all_below
returns-then-all_below c = let a = c.args in
    c.length_tested.ensures ∙ decide a.counts a.vertices a.normals a.uvs a.indices.now a.bytes true true true (sym c.holds_counts.ensures ∙ c.if-holds_counts.true) (le-leb _ _ c.if-counts-le65536.true) (sym c.all_below.ensures ∙ c.if-all_below.true)

pub returns-then-counts-le65536 : goal.returns-then-counts-le65536
returns-then-counts-le65536 c = let a = c.args in
    decide a.counts a.vertices a.normals a.uvs a.indices.now a.bytes true true false (sym c.holds_counts.ensures ∙ c.if-holds_counts.true) (le-leb _ _ c.if-counts-le65536.true) (sym c.all_below.ensures ∙ c.if-all_below.false)

pub returns-then-holds_counts : goal.returns-then-holds_counts
returns-then-holds_counts c = let a = c.args in
    decide a.counts a.vertices a.normals a.uvs a.indices.now a.bytes true false _ (sym c.holds_counts.ensures ∙ c.if-holds_counts.true) (lt-leb _ _ c.if-counts-le65536.false) refl

pub returns : goal.returns
returns c = let a = c.args in
    decide a.counts a.vertices a.normals a.uvs a.indices.now a.bytes false _ _ (sym c.holds_counts.ensures ∙ c.if-holds_counts.false) refl refl
