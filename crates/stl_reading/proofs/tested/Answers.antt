-- `tested`: the length, then the limit and the room. Assumes nothing.
use borrow.Author.Tests.{lt-leb, le-leb, eq-eqb, ne_eqb}
use mathlib.Core.Path.{refl, sym, ap, ◌∙◌}
use mathlib.Core.Bool.{true, false}
use Prim.Native.Nat.{ℕ}
use Rattle.answer.specs.Answers.{Answer}
use Rattle.answer.specs.Answers.{limited, roomed}
use Rattle.stl.specs.File.{file_length}
use Rattle.stl_reading.specs.Reading.{unshared}
use Rattle.stl_reading.proofs.Unpacking.{decide}
use Rattle.stl_reading.proofs.tested.Goals as goal

pub returns-then-file-lt84 : goal.returns-then-file-lt84
returns-then-file-lt84 c = let a = c.args in decide a.file.now a.vertices a.normals a.uvs a.indices false _ (lt-leb _ _ c.if-file-lt84.true) refl

pub returns-then-file-file_length : goal.returns-then-file-file_length
returns-then-file-file_length c = let a = c.args in
    let long = c.file_length.ensures ∙ ap file_length c.pattern_at-triangles.ensures in
    decide a.file.now a.vertices a.normals a.uvs a.indices true false (le-leb _ _ c.if-file-lt84.false) (ne_eqb _ _ (λ e. c.if-file-file_length.true (e ∙ sym long)))

pub returns : goal.returns
returns c = let a = c.args in
    let long = c.file_length.ensures ∙ ap file_length c.pattern_at-triangles.ensures in
    c.room.ensures
    ∙ ap (λ (x : Answer). roomed x a.vertices a.normals a.uvs a.indices) c.limit.ensures
    ∙ ap (λ (t : ℕ). roomed (limited (unshared t)) a.vertices a.normals a.uvs a.indices) c.pattern_at-triangles.ensures
    ∙ decide a.file.now a.vertices a.normals a.uvs a.indices true true (le-leb _ _ c.if-file-lt84.false) (eq-eqb _ _ (c.if-file-file_length.false ∙ long))
