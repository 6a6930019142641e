-- What a done answer says of the cells and of the room. Assumes nothing.
use mathlib.Core.Path.{◌≡◌, ap, ◌∙◌}
use mathlib.Core.Bool.{Bool, true, cond}
use Rattle.face.specs.declared.triangle.Counts.{Counts}
use Rattle.answer.specs.declared.answer.Refusal.TheVariants.{Shape}
use Rattle.std.specs.Prelude.{Ok}
use Rattle.answer.proofs.Laws.{given-done, roomed-done}
use Rattle.mesh.proofs.Jobs.{whole_room}
use Rattle.buffers.specs.Mesh.{none, measure}
use Rattle.buffers.specs.Laying.{Buffers, fits, lay_all, lay_each}
use Rattle.buffers.proofs.Each.{each_all}
use Rattle.heightmap.specs.declared.HeightMap.{HeightMap}
use Rattle.heightmap.specs.HeightMap.{Lists, map_faces}
use Rattle.heightmap.specs.Tests.{shape_of, checked, planned}
use Rattle.heightmap.specs.Calls.{whole_answer}
use Rattle.heightmap.proofs.Faces.{passes}
use Rattle.heightmap_plan.proofs.Deciding.{few-cells}
use Rattle.heightmap_laying.specs.Shared.{all_laid}

module _ (job : HeightMap) (ls : Lists) where
  -- ---- what a done answer says: there is room for every face
  pub whole_ready : (B : Buffers) (d : Counts) → whole_answer job ls B ≡ Ok d → fits none (measure (map_faces job ls)) B ≡ true
  whole_ready = whole_room (checked job ls) (map_faces job ls) (passes job ls)

  -- so that all of them are laid
  pub whole-laid : (B : Buffers) (d : Counts) → whole_answer job ls B ≡ Ok d → all_laid job ls B ≡ lay_all (map_faces job ls) none B
  whole-laid B d e =
      ap (λ (b : Bool). cond b (lay_each (map_faces job ls) none B) B) (few-cells job ls (given-done (shape_of job ls) Shape _ (roomed-done (planned job ls) d _ _ _ _ e).0).0)
      ∙ each_all (map_faces job ls) none B (whole_ready B d e)
