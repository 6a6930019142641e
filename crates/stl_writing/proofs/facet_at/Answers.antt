-- `facet_at`: three vertices that the lists hold. Assumes nothing.
use native.Mathlib.Omega.{arith}
use Prim.Native.Nat.{◌+◌, ◌*◌}
use native.Mathlib.Nat.{add-zero}
use Rattle.stl_writing.proofs.facet_at.Goals as goal

pub point_at-requires : goal.point_at-requires
point_at-requires c = let k = c.args.k in
    let named = c.requires.1.normals in
    omega (arith, named (3 * k) (omega (arith, c.requires.0)), named (3 * k + 1) (omega (arith, c.requires.0)), named (3 * k + 2) (omega (arith, c.requires.0)))

pub point_at-requires-2 : goal.point_at-requires-2
point_at-requires-2 c = c.requires.1.vertices (3 * c.args.k) (omega (arith, c.requires.0))

pub point_at-requires-3 : goal.point_at-requires-3
point_at-requires-3 c = c.requires.1.vertices (3 * c.args.k + 1) (omega (arith, c.requires.0))

pub point_at-requires-4 : goal.point_at-requires-4
point_at-requires-4 c = c.requires.1.vertices (3 * c.args.k + 2) (omega (arith, c.requires.0))

pub returns : goal.returns
returns c = rw (c.point_at.ensures, c.point_at-2.ensures, c.point_at-3.ensures, c.point_at-4.ensures, add-zero)
