use mathlib.Core.Path.{◌≡◌, ap, ◌∙◌}
use native.Mathlib.Numerals.{add-one}
use native.Mathlib.Omega.{arith}
use lib.ListN.{length, length-append}
use Rattle.face.specs.Lists.{chain}
use Rattle.buffers.specs.Mesh.{also, summed}
use Rattle.buffers.proofs.Windows.{also-assoc}
use Rattle.heightmap.specs.HeightMap.{seen, side_names}
use Rattle.heightmap.specs.Counts.{side_counts}
use Rattle.heightmap_plan.specs.declared.tally.Tally.{Tally}
use Rattle.heightmap_plan.proofs.Walking.{Small, side-small, sides-small}
use Rattle.heightmap_plan.proofs.Finding.{side-found}
use Rattle.heightmap_plan.proofs.names.find_side.Goals as goal

pub returns-then-t-side : goal.returns-then-t-side
returns-then-t-side c = let a = c.args in let ls = seen a.lists in let i = c.loop-d in let f : c.side_tally-side.result.faces ≡ length (side_names a.job ls.grid a.k i.d) = ap (λ (t : Tally). t.faces) c.side_tally-side.ensures in let h = c.if-t-side.true in side-found a.job ls a.k i.d i.t a.left a.from i.start (let u = c.loop-d-test.true in omega arith) (omega arith) i.invariant.1.0 i.invariant.1.1

pub add-start-requires : goal.add-start-requires
add-start-requires c = let a = c.args in let ls = seen a.lists in let i = c.loop-d in let s = sides-small a.job ls a.k i.d in let q : Small 1 c.side_tally-side.result = rw c.side_tally-side.ensures (side-small a.job ls a.k i.d) in let b = c.requires.vertices_bound in let m = i.invariant.0 in rw i.invariant.1.1 (omega (arith, b.0), omega (arith, b.1))

pub loop-d-preserved : goal.loop-d-preserved
loop-d-preserved c = let a = c.args in let ls = seen a.lists in let i = c.loop-d in let f : c.side_tally-side.result.faces ≡ length (side_names a.job ls.grid a.k i.d) = ap (λ (t : Tally). t.faces) c.side_tally-side.ensures in let h = c.if-t-side.false in let l = length-append (chain (side_names a.job ls.grid a.k) i.d) (side_names a.job ls.grid a.k i.d) in let v = i.invariant.1.0 in (let b = i.invariant.0 in let u = c.loop-d-test.true in omega arith, (rw (add-one i.d) (omega arith), rw (add-one i.d) (c.add-start.ensures ∙ (rw i.invariant.1.1 (ap (also (also a.from (summed (side_counts a.job ls a.k) i.d))) (ap (λ (t : Tally). t.counts) c.side_tally-side.ensures))) ∙ also-assoc a.from (summed (side_counts a.job ls a.k) i.d) (side_counts a.job ls a.k i.d))))

pub returns : goal.returns
returns c = let a = c.args in let ls = seen a.lists in let i = c.loop-d in let b = i.invariant.0 in let u = c.loop-d-test.false in let e : i.d ≡ 6 = omega arith in absurd (let v = rw e at i.invariant.1.0 in let h = c.requires.left_in_bounds in omega arith)
