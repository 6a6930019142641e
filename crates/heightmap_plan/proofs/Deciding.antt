-- What the tests of a map decide, one after the other. Assumes nothing.
use mathlib.Core.Path.{◌≡◌, refl, sym, ap, ap₂, ◌∙◌}
use mathlib.Core.Bool.{Bool, true, false, ◌&&◌}
use lib.ListN.{length}
use Rattle.face.specs.declared.triangle.Counts.{Counts}
use Rattle.answer.specs.declared.answer.Refusal.TheVariants.{Shape, Range, Neighbour}
use Rattle.answer.specs.Answers.{Answer}
use Rattle.std.specs.Prelude.{Err}
use Rattle.answer.specs.Answers.{given}
use Rattle.answer.specs.Checks.{exactly, cell_count}
use Rattle.answer.proofs.Laws.{&&-left}
use Rattle.placement.specs.Options.{entry_count, is_table}
use Rattle.buffers.specs.Mesh.{measure}
use Rattle.heightmap.specs.declared.HeightMap.{HeightMap}
use Rattle.heightmap.specs.Grid.{cells_in}
use Rattle.heightmap.specs.HeightMap.{Lists, map_faces}
use Rattle.heightmap.specs.Counts.{map_counts}
use Rattle.heightmap.specs.Tests.{fringe_shape, grid_shape, all_named, shape_of, range_of, linked_of, checked}
use Rattle.heightmap.proofs.Counts.{map-counts}
use Rattle.heightmap_plan.specs.declared.tally.Tally.{Tally}
use Rattle.heightmap_plan.specs.Walking.{tally_of}

module _ (job : HeightMap) (ls : Lists) where
  abbrev three : Bool → Bool → Bool → Answer → Answer
  three s r l rest = given s Shape (given r Range (given l Neighbour rest))

  pub few-cells : shape_of job ls ≡ true → cell_count (cells_in ls.grid.cells) ≡ true
  few-cells e =
      let n = cells_in ls.grid.cells in
      &&-left (cell_count n) (exactly (length ls.grid.cells) n 27 && (exactly (length ls.grid.neighbours) n 6 && fringe_shape job.fringe ls.grid.fringe n))
      (&&-left (grid_shape job ls.grid) (exactly (length ls.corners) 6 2 && (is_table ls.numbers ls.marks && all_named job ls (entry_count ls.marks))) e)

  pub all-counted : (t : Tally) → shape_of job ls ≡ true → t ≡ tally_of job ls → t.counts ≡ map_counts job ls
  all-counted t e p = ap (λ (x : Tally). x.counts) p ∙ rw (few-cells e)

  pub misshapen : (rest : Answer) → shape_of job ls ≡ false → Err Shape ≡ checked job ls rest
  misshapen rest e = sym (ap (λ (s : Bool). three s (range_of job ls) (linked_of ls.grid) rest) e)

  pub out_of_range : (rest : Answer) → shape_of job ls ≡ true → range_of job ls ≡ false → Err Range ≡ checked job ls rest
  out_of_range rest e f = sym (ap₂ (λ (s r : Bool). three s r (linked_of ls.grid) rest) e f)

  pub links-decide : (rest : Answer) → shape_of job ls ≡ true → range_of job ls ≡ true → (l : Bool) → linked_of ls.grid ≡ l → given l Neighbour rest ≡ checked job ls rest
  links-decide rest e f l g =
      ap (λ (x : Bool). given x Neighbour rest) (sym g)
      ∙ sym (ap₂ (λ (s r : Bool). three s r (linked_of ls.grid) rest) e f)

  -- the sums come first: where they are not all counted, the shape is refused
  pub counted-first : (rest : Counts → Answer) (t : Tally) → t ≡ tally_of job ls → checked job ls (rest t.counts) ≡ checked job ls (rest (measure (map_faces job ls)))
  counted-first rest t p = go (shape_of job ls) refl
    where
      go : (b : Bool) → shape_of job ls ≡ b → checked job ls (rest t.counts) ≡ checked job ls (rest (measure (map_faces job ls)))
      go true e = ap (λ (c : Counts). checked job ls (rest c)) (all-counted t e p ∙ sym (map-counts job ls))
      go false e = sym (misshapen (rest t.counts) e) ∙ misshapen (rest (measure (map_faces job ls))) e
