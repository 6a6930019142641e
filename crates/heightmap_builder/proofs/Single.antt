-- The face of a number, laid at its place. Assumes nothing.
use mathlib.Core.Path.{◌≡◌, ap, ap₂, ◌∙◌}
use Prim.Native.Nat.{ℕ, ◌<◌}
use native.Mathlib.Omega.{arith}
use lib.ListN.{length, length-map}
use Rattle.face.specs.declared.triangle.Counts.{Counts}
use Rattle.std.specs.Prelude.{Ok}
use Rattle.answer.specs.Answers.{named}
use Rattle.answer.proofs.Laws.{named-done, roomed-done}
use Rattle.buffers.specs.Mesh.{none}
use Rattle.buffers.specs.Laying.{Buffers, lay_one, laid_if_fits}
use Rattle.buffers.proofs.Named.{stands_at, stands-laid}
use Rattle.mesh.proofs.Jobs.{face-room}
use Rattle.heightmap.specs.declared.Name.{Name}
use Rattle.heightmap.specs.declared.Name.TheVariants.{Cap}
use Rattle.heightmap.specs.declared.HeightMap.{HeightMap}
use Rattle.heightmap.specs.HeightMap.{Lists, map_names, mesh_of, map_faces}
use Rattle.heightmap.specs.Tests.{checked, planned}
use Rattle.heightmap.specs.Names.{name_at}
use Rattle.heightmap.specs.Calls.{face_answer}
use Rattle.heightmap_plan.specs.declared.names.Found.{Found}
use Rattle.heightmap_plan.specs.Finding.{found_at}
use Rattle.heightmap.proofs.Faces.{passes}
use Rattle.heightmap_plan.proofs.Telling.{planned-few, found-so, start-so}

module _ (job : HeightMap) (ls : Lists) where
  pub face-laid : (k : ℕ) (B : Buffers) (d : Counts) (found : Found) → face_answer job ls k B ≡ Ok d → found ≡ found_at job ls k
      → laid_if_fits (mesh_of job ls found.name) found.start B ≡ lay_one (map_faces job ls) k none B
  face-laid k B d found e f =
      let r = face-room (checked job ls) (map_faces job ls) (passes job ls) k B d e in
      let p = (named-done (planned job ls) d k (length (map_faces job ls)) (roomed-done (named (planned job ls) k (length (map_faces job ls))) d _ _ _ _ e).0).0 in
      let few = planned-few job ls d p in
      let n : Name = name_at job ls.grid k in
      let l : k < length (map_names job ls.grid) = omega (arith, r.1, length-map (map_names job ls.grid) (mesh_of job ls)) in
      ap₂ (λ (x : Name) (c : Counts). laid_if_fits (mesh_of job ls x) c B)
      (ap (λ (y : Found). y.name) (found-so job ls k found f few))
      (start-so job ls k found f few)
      ∙ stands-laid (mesh_of job ls) (map_names job ls.grid) k n B (stands_at (map_names job ls.grid) k (Cap 0) l) r.0
