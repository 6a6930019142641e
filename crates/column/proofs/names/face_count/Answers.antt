use Rattle.std.proofs.Common.{◌≡◌, ℕ, length, refl, ap, ◌∙◌, add-one, arith, rules}
use Rattle.face.specs.Lists.{chain}
use Rattle.column.specs.Column.{side_at}
use Rattle.column.proofs.Numbering.{walls, walls-more, name-count, faces-few}
use Rattle.column.proofs.names.face_count.Goals as goal

pub loop-side-init : goal.loop-side-init
loop-side-init c = (omega arith, refl, omega arith)

pub overflow_add-t : goal.overflow_add-t
overflow_add-t c = let i = c.loop-side.invariant in
    let f = faces-few (side_at c.args.job.sides c.loop-side.side-index) c.parts_of-parts.result in
    omega (arith, i.0, i.2, f, c.side_faces-t.ensures, c.parts_of-parts.type_inv)

pub loop-side-preserved : goal.loop-side-preserved
loop-side-preserved c = let d = c.loop-side.side-index in
    let i = c.loop-side.invariant in
    let ss = c.args.job.sides in
    let s = c.parts_of-parts.result in
    let f = faces-few (side_at c.args.job.sides c.loop-side.side-index) s in (
      search rules,
      rw (add-one d, walls-more ss s d, ← c.side_faces-t.ensures, i.1),
      omega (arith, i.2, f, c.side_faces-t.ensures, c.parts_of-parts.type_inv),
    )

pub overflow_add-result : goal.overflow_add-result
overflow_add-result c = let i = c.loop-side.invariant in
    omega (arith, i.0, i.2, faces-few c.args.job.top 1, c.side_faces.ensures)

pub overflow_add-result-2 : goal.overflow_add-result-2
overflow_add-result-2 c = let i = c.loop-side.invariant in
    omega (arith, i.0, i.2, faces-few c.args.job.top 1, faces-few c.args.job.bottom 1, c.side_faces.ensures, c.side_faces-2.ensures)

pub returns : goal.returns
returns c = let a = c.args in
    let i = c.loop-side.invariant in
    let e : c.loop-side.side-index ≡ 6 = omega (arith, i.0, c.loop-side-test.false) in
    let t : c.loop-side.t ≡ length (chain (walls a.job.sides c.parts_of-parts.result) 6) = i.1 ∙ ap (λ (k : ℕ). length (chain (walls a.job.sides c.parts_of-parts.result) k)) e in
    rw (name-count a.job, ← c.parts_of-parts.ensures, ← c.side_faces.ensures, ← c.side_faces-2.ensures, ← t) (omega arith)
