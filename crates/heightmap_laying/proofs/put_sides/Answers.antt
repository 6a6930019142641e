use mathlib.Core.Path.{◌≡◌, refl, sym, ap, ◌∙◌}
use mathlib.Core.Bool.{Bool, cond}
use native.Mathlib.Numerals.{add-one}
use native.Mathlib.Omega.{arith}
use Rattle.buffers.specs.Laying.{four}
use Rattle.buffers.proofs.Each.{so-far-none}
use Rattle.heightmap.specs.declared.Name.TheVariants.{Side}
use Rattle.heightmap.specs.HeightMap.{seen}
use Rattle.heightmap_faces.specs.declared.kept.KeptLevel.{KeptLevel}
use Rattle.heightmap_faces.specs.Kept.{number_in, level_by}
use Rattle.heightmap_laying.specs.declared.Shared.{Shared}
use Rattle.heightmap_laying.proofs.Walls.{chosen_for, own-kept, level-chosen, side-more}
use Rattle.heightmap_laying.proofs.put_sides.Goals as goal
use Rattle.heightmap_laying.proofs.put_sides.Goals.{then-number-kept, else-number-kept}

pub loop-d-init : goal.loop-d-init
loop-d-init c = let a = c.args in
    let p = c.requires.s_value in
    (omega arith, (so-far-none a.at (four a.vertices.now a.normals.now a.uvs.now a.indices.now), ((omega arith, omega arith), own-kept a.s.job (seen a.lists) a.s _ _ p c.level_of.ensures)))

pub loop-d-preserved : goal.loop-d-preserved
loop-d-preserved c = let a = c.args in
    let L = c.loop-d in
    let ls = seen a.lists in
    let p = c.requires.s_value in
    let made : c.if-number-kept.kept ≡ level_by a.s.span c.height_at-top.result a.lists.numbers.now a.lists.marks.now c.wall_number-number.result =
    elim c.if-number-kept.branch [
      | then-number-kept w ↦ w.kept-is ∙ w.level_by-kept.ensures
      | else-number-kept w ↦ w.kept-is ∙ L.invariant.1.1.1 ∙ ap (level_by a.s.span c.height_at-top.result a.lists.numbers.now a.lists.marks.now) (sym w.if-number-kept.false)
    ] in
    let own = made ∙ ap (level_by a.s.span c.height_at-top.result a.lists.numbers.now a.lists.marks.now) (sym (ap (λ (y : KeptLevel). y.number) made)) in
    let name = Side a.k L.d in
    let choice = chosen_for a.s.job ls name in
    let m = c.put_wall-place.ensures.small in (
      omega (arith, c.loop-d-test.true),
      (
        rw (add-one L.d) (side-more a.s.job ls a.k L.d a.at L.place _ (four a.vertices.now a.normals.now a.uvs.now a.indices.now) (four L.vertices L.normals L.uvs L.indices) _ _ _ _ _ _ L.invariant.1.0 c.wall_at-w.ensures (ap (λ (x : Shared). x.stand) p) (λ q. (level-chosen a.s.job ls name a.k c.if-number-kept.kept a.s.span _ _ choice (ap (λ (x : Shared). x.span) p) c.height_at-top.ensures refl (c.wall_number-number.ensures ∙ ap (λ (x : Bool). cond x (number_in choice) L.kept.number) q) made).1) refl refl c.put_wall-place.ensures.place c.put_wall-place.ensures.buffers),
        ((omega (arith, m.0, L.invariant.1.1.0.0), omega (arith, m.1, L.invariant.1.1.0.1)), own),
      ),
    )
