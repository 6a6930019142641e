use mathlib.Core.Path.{◌≡◌, sym, ap, ◌∙◌}
use native.Mathlib.Omega.{arith}
use borrow.Author.Rules.{rules}
use Rattle.buffers.specs.Laying.{four, lay_each}
use Rattle.heightmap.specs.HeightMap.{seen}
use Prim.Native.Nat.{ℕ}
use mathlib.Core.List.{map}
use mathlib.Core.Logic.{inl, inr}
use native.Mathlib.Numerals.{add-one}
use Rattle.face.specs.Lists.{chain}
use Rattle.buffers.specs.Mesh.{none}
use Rattle.buffers.proofs.Each.{so-far-none}
use Rattle.heightmap.specs.declared.Name.TheVariants.{Cap}
use mathlib.Core.Bool.{cond}
use Rattle.answer.specs.Checks.{cell_count}
use Rattle.heightmap.specs.HeightMap.{cell_names, mesh_of}
use Rattle.heightmap_faces.specs.declared.kept.KeptTop.{KeptTop}
use Rattle.heightmap_faces.specs.Speed.{top_of}
use Rattle.heightmap_faces.specs.Kept.{top_by}
use Rattle.heightmap_laying.specs.declared.Shared.{Shared}
use Rattle.heightmap_laying.proofs.Cells.{tops-kept, cell-more, all_laid_lem}
use Rattle.heightmap_laying.proofs.Walls.{option-chosen}
use Rattle.heightmap_laying.proofs.put_all.Goals as goal
use Rattle.heightmap_laying.proofs.put_all.Goals.{then-number-own, else-number-own}

pub loop-k-init : goal.loop-k-init
loop-k-init c = let a = c.args in
    let e = c.top_by-own.ensures in
    let z : c.default-place.result ≡ none = search rules in
    rw z (omega arith, (so-far-none none (four a.vertices.now a.normals.now a.uvs.now a.indices.now), ((omega arith, omega arith), e ∙ ap (top_by a.lists.corners.now a.lists.numbers.now a.lists.marks.now) (sym (ap (λ (x : KeptTop). x.number) e)))))

pub loop-k-preserved : goal.loop-k-preserved
loop-k-preserved c = let a = c.args in
    let L = c.loop-k in
    let ls = seen a.lists in
    let e = c.put_cell-place.ensures in
    let g = tops-kept a.lists.corners.now a.lists.numbers.now a.lists.marks.now c.top_by-own.result L.kept c.if-number-own.kept _ c.number_of-number.result c.if-number-own.top c.top_by-own.ensures L.invariant.1.1.1
    (elim c.if-number-own.branch [
      | then-number-own w ↦ inl (w.if-number-own.true, (w.kept-is ∙ w.keep_top-kept.ensures, w.top-is ∙ ap (λ (y : KeptTop). y.top) (sym w.kept-is)))
      | else-number-own w ↦ inr (w.if-number-own.false, (w.kept-is, w.top-is))
    ]) in
    let t = g.1 ∙ ap (top_of a.lists.corners.now) (option-chosen a.job ls (Cap L.k) _ _ c.choice_of-choice.ensures c.number_of-number.ensures) in (
      omega (arith, c.loop-k-test.true),
      (
        rw (add-one L.k) (cell-more a.job (seen a.lists) L.k none L.place _ (four a.vertices.now a.normals.now a.uvs.now a.indices.now) (four L.vertices L.normals L.uvs L.indices) _ _ _ L.invariant.1.0 (ap (λ (x : Shared). x.job) c.shared_of-s.ensures) t e.place e.buffers),
        ((omega (arith, e.small.0, L.invariant.1.1.0.0), omega (arith, e.small.1, L.invariant.1.1.0.1)), g.0),
      ),
    )

pub returns : goal.returns
returns c = let a = c.args in
    let i = c.loop-k.invariant in
    let ls = seen a.lists in
    let X = four a.vertices.now a.normals.now a.uvs.now a.indices.now in
    let d : c.loop-k.k ≡ c.up_to-n.result = omega (arith, i.0, c.loop-k-test.false) in
    let e = d ∙ c.up_to-n.ensures.count ∙ ap (λ (n : ℕ). cond (cell_count n) n 0) c.cell_count.ensures in
    i.1.0.1 ∙ ap (λ (n : ℕ). lay_each (map (mesh_of a.job ls) (chain (cell_names a.job ls.grid) n)) none X) e ∙ all_laid_lem a.job ls X
