use native.Mathlib.Omega.{arith}
use mathlib.Core.Path.{refl, sym}
use Rattle.buffers.proofs.Laid.{laid-nothing, laying-done}
use Rattle.stl.specs.File.{filed_facet}
use Rattle.stl_reading.specs.Reading.{corners_of, normals_of}
use Rattle.stl_reading.proofs.Unpacking.{nine-more}
use Rattle.stl_reading.proofs.put_points.Goals as goal

pub loop-k-init : goal.loop-k-init
loop-k-init c = ((omega arith, refl, sym (laid-nothing _ _)), (omega arith, refl, sym (laid-nothing _ _)))

pub put_corners-requires : goal.put_corners-requires
put_corners-requires c = (omega (arith, c.loop-k-test.true, c.requires.0), omega (arith, c.loop-k-test.true, c.requires.1, c.loop-k.invariant.0.1))

pub put_normals-requires : goal.put_normals-requires
put_normals-requires c = (omega (arith, c.loop-k-test.true, c.requires.0), omega (arith, c.loop-k-test.true, c.requires.2, c.loop-k.invariant.1.1))

pub loop-k-preserved : goal.loop-k-preserved
loop-k-preserved c = let file = c.args.file.now in
    let s = c.loop-k in
    (nine-more (λ j. corners_of (filed_facet file j)) (λ j. refl) _ _ s.k _ _ s.invariant.0 c.loop-k-test.true c.put_corners.ensures, nine-more (λ j. normals_of (filed_facet file j)) (λ j. refl) _ _ s.k _ _ s.invariant.1 c.loop-k-test.true c.put_normals.ensures)

pub returns : goal.returns
returns c = record { vertices = laying-done _ _ _ _ _ _ c.loop-k.invariant.0 c.loop-k-test.false; normals = laying-done _ _ _ _ _ _ c.loop-k.invariant.1 c.loop-k-test.false }
