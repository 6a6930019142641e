-- `put_wall`: by whether it is present. Assumes nothing.
use mathlib.Core.Path.{sym, ap, ◌∙◌}
use mathlib.Core.Bool.{Bool, cond}
use mathlib.Core.List.{[], ◌∷◌}
use native.Mathlib.Omega.{arith}
use Rattle.buffers.specs.Laying.{four}
use Rattle.heightmap.specs.Grid.{left_at, right_at, foot_of}
use Rattle.heightmap_laying.specs.Shared.{level_mesh, level_faces}
use Rattle.heightmap_laying.proofs.Steps.{no_step, one-step, level-size, quad-small}
use Rattle.heightmap_laying.proofs.put_wall.Goals as goal

pub returns : goal.returns
returns c = let a = c.args in
    let X = four a.vertices.now a.normals.now a.uvs.now a.indices.now in
    let f = level_mesh a.t a.v (left_at a.grid.cells.now a.k a.d) (right_at a.grid.cells.now a.k a.d) (foot_of a.w) in
    let e = ap (λ (x : Bool). cond x (f ∷ []) []) (sym c.is_present.ensures ∙ c.if-not-is_present.false) in
    let l = rw (c.left_at-left.ensures, c.right_at-right.ensures, c.foot.ensures) at c.put_side.ensures in
    let s = one-step (level_faces a.w a.t a.v (left_at a.grid.cells.now a.k a.d) (right_at a.grid.cells.now a.k a.d)) f a.at _ _ X _ e c.add.ensures (c.counts_of.ensures ∙ level-size a.t a.v (left_at a.grid.cells.now a.k a.d) (right_at a.grid.cells.now a.k a.d) (foot_of a.w)) l in
    let m = quad-small a.v.skin.inset in record { place = s.0; small = rw (c.add.ensures, c.counts_of.ensures) (omega (arith, m.0), omega (arith, m.1)); buffers = s.1 }

pub returns-then-not-is_present : goal.returns-then-not-is_present
returns-then-not-is_present c = let a = c.args in
    let f = level_mesh a.t a.v (left_at a.grid.cells.now a.k a.d) (right_at a.grid.cells.now a.k a.d) (foot_of a.w) in
    let s = no_step (level_faces a.w a.t a.v (left_at a.grid.cells.now a.k a.d) (right_at a.grid.cells.now a.k a.d)) a.at (four a.vertices.now a.normals.now a.uvs.now a.indices.now) (ap (λ (x : Bool). cond x (f ∷ []) []) (sym c.is_present.ensures ∙ c.if-not-is_present.true)) in record { place = s.0; small = (omega arith, omega arith); buffers = s.1 }
