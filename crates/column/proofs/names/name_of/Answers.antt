use Rattle.std.proofs.Common.{◌≡◌, ℕ, ◌+◌, ◌<◌, length, sym, ap, ◌∙◌, ap₂, add-one, arith, rules}
use Rattle.face.specs.Lists.{chain}
use Rattle.column.specs.Column.{parts_of, side_at}
use Rattle.column.specs.Names.{side_faces}
use Rattle.column.proofs.Numbering.{walls, walls-more, faces-few, stands-part, stands-name, cap-named}
use Rattle.column.proofs.names.name_of.Goals as goal

pub loop-d-init : goal.loop-d-init
loop-d-init c = (omega arith, omega arith)

pub overflow_cast-result : goal.overflow_cast-result
overflow_cast-result c = let f = faces-few c.side_option.result c.parts_of-parts.result in
    omega (arith, f, c.side_faces-n.ensures, c.parts_of-parts.type_inv)

pub returns-then-left-n : goal.returns-then-left-n
returns-then-left-n c = let a = c.args in
    let d = c.loop-d.d in
    let i = c.loop-d.invariant in
    let p = c.parts_of-parts.ensures in
    let l : c.loop-d.left < side_faces (side_at a.job.sides d) (parts_of a.job.subdivisions) = rw (← p, ← c.side_option.ensures, ← c.side_faces-n.ensures) (search rules) in
    sym (stands-name a.job a.number _ (stands-part a.job a.number d c.loop-d.left (search rules) l (i.1 ∙ ap (λ (s : ℕ). length (chain (walls a.job.sides s) d) + c.loop-d.left) p)))

pub loop-d-preserved : goal.loop-d-preserved
loop-d-preserved c = let a = c.args in
    let d = c.loop-d.d in
    let i = c.loop-d.invariant in
    let s = c.parts_of-parts.result in
    let m = walls-more a.job.sides s d in
    let n : c.side_faces-n.result ≡ side_faces (side_at a.job.sides d) s = rw c.side_option.ensures at c.side_faces-n.ensures in
    (search rules, rw (add-one d, m, ← n) (omega (arith, i.1, c.if-left-n.false)))

pub returns : goal.returns
returns c = let a = c.args in
    let i = c.loop-d.invariant in
    let e : c.loop-d.d ≡ 6 = omega (arith, i.0, c.loop-d-test.false) in
    c.cap_name.ensures
    ∙ cap-named a.job a.number c.loop-d.left (i.1 ∙ ap₂ (λ (s k : ℕ). length (chain (walls a.job.sides s) k) + c.loop-d.left) c.parts_of-parts.ensures e)
