-- `connection`: of two triangles for each v, the one that t names. Assumes nothing.
use mathlib.Core.Path.{◌≡◌, sym, ap, ◌∙◌}
use Prim.Native.Nat.{ℕ, ◌+◌, ◌*◌, ◌/◌, ◌%◌}
use native.Mathlib.Omega.{arith}
use lib.ListN.{get_or}
use Rattle.face.specs.Lists.{chain}
use Rattle.face.specs.Triangles.{connecting, first_of, second_of, reversed_if, no_triangle}
use Rattle.face.proofs.Ring.{first-at, second_at}
use Rattle.face.proofs.triangle.connection.Goals as goal
use Rattle.face.proofs.triangle.connection.Goals.{Else-t-eq0, Start, Then-t-eq0}

even-at : (c : Then-t-eq0)
    → get_or (chain (connecting c.args.back c.args.m) c.args.m) c.args.t no_triangle ≡ reversed_if c.args.back (first_of c.args.m (c.args.t / 2))
even-at c =
    let a = c.args in
    let e : a.t ≡ 2 * (a.t / 2) = (let h : a.t % 2 ≡ 0 = c.if-t-eq0.true in omega arith) in
    ap (λ (x : ℕ). get_or (chain (connecting a.back a.m) a.m) x no_triangle) e
    ∙ first-at (λ v. reversed_if a.back (first_of a.m v)) (λ v. reversed_if a.back (second_of a.m v)) no_triangle a.m (a.t / 2) (omega arith)

odd-at : (c : Else-t-eq0)
    → get_or (chain (connecting c.args.back c.args.m) c.args.m) c.args.t no_triangle ≡ reversed_if c.args.back (second_of c.args.m (c.args.t / 2))
odd-at c =
    let a = c.args in
    let e : a.t ≡ 2 * (a.t / 2) + 1 = (let h : a.t % 2 ≡ 0 → ⊥ = c.if-t-eq0.false in omega arith) in
    ap (λ (x : ℕ). get_or (chain (connecting a.back a.m) a.m) x no_triangle) e
    ∙ second_at (λ v. reversed_if a.back (first_of a.m v)) (λ v. reversed_if a.back (second_of a.m v)) no_triangle a.m (a.t / 2) (omega arith)

pub returns-then-t-eq0 : goal.returns-then-t-eq0
returns-then-t-eq0 c = rw (c.reverse_if.ensures, c.numbered.ensures) (sym (even-at (goal.at.returns-then-t-eq0 c).Then-t-eq0))

pub returns-else-t-eq0 : goal.returns-else-t-eq0
returns-else-t-eq0 c = rw (c.reverse_if-else-t-eq0.ensures, c.numbered-else-t-eq0.ensures) (sym (odd-at (goal.at.returns-else-t-eq0 c).Else-t-eq0))
