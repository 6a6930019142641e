-- `find_side`: as many sides are passed as the number leaves. Assumes nothing.
use Prim.Native.Nat.{◌+◌, ◌≤◌}
use mathlib.Core.Path.{◌≡◌}
use lib.ListN.{length}
use Rattle.face.specs.Lists.{chain}
use Rattle.buffers.specs.Mesh.{also, summed}
use Rattle.heightmap.specs.HeightMap.{seen, side_names}
use Rattle.heightmap.specs.Counts.{side_counts}
use Rattle.heightmap_plan.proofs.names.find_side.Given as goal

abbrev pub invariant-loop-d : goal.invariant-loop-d
invariant-loop-d l = (l.d ≤ 6) × ((l.initial.t ≡ length (chain (side_names l.job ((seen l.lists).grid) l.k) l.d) + l.t) × (l.start ≡ also l.initial.start (summed (side_counts l.job (seen l.lists) l.k) l.d)))
