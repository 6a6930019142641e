-- `own_tally`: caps and walls, each of one size. Assumes nothing.
use native.Mathlib.Omega.{arith}
use Rattle.heightmap_plan.proofs.Walking.{quad-few, hexagon-few, many-few, caps-most}
use Rattle.heightmap_plan.proofs.tally.own_tally.Goals as goal

pub add-requires : goal.add-requires
add-requires c = let p = many-few c.caps_in-m.result _ (omega (arith, c.caps_in-m.ensures, caps-most c.args.job.caps c.args.k, c.requires.0)) (hexagon-few c.option_for-cap.result.inset) in let q = many-few c.args.walls _ c.requires.1 (quad-few c.option_for-wall.result.inset) in rw (c.times-2.ensures, c.counts_of-2.ensures, c.times.ensures, c.counts_of.ensures) (omega (arith, p.0, q.0), omega (arith, p.1, q.1))
