-- What is laid of a name, of a side and of a cap is what the definition has there. Assumes nothing.
use Rattle.std.proofs.Common.{◌≡◌, ℕ, zero, suc, List, [], ◌∷◌, ◌++◌, map, sym, refl, ap, ◌∙◌, ap₂}
use Rattle.face.specs.Lists.{each}
use Rattle.placement.specs.declared.options.Choice.{Choice}
use Rattle.placement.specs.declared.options.Choice.TheVariants as option
use Rattle.placement.specs.declared.placement.Stand.{Stand}
use Rattle.placement.specs.Options.{option_for}
use Rattle.buffers.specs.Mesh.{Mesh}
use Rattle.buffers.proofs.Faces.{map_each}
use Rattle.plane_builder.specs.Cap.{cap_mesh}
use Rattle.column.specs.declared.Column.{Column}
use Rattle.column.specs.declared.Name.{Name}
use Rattle.column.specs.declared.Name.TheVariants.{OfSide, Top, Bottom}
use Rattle.column.specs.declared.names.Piece.{Piece}
use Rattle.column.specs.declared.names.Piece.TheVariants.{Part, Cap}
use Rattle.column.specs.Column.{Lists, parts_of, side_at, cap_names, part_names, side_names, top_stand, bottom_stand, mesh_of, cap_faces}
use Rattle.column.specs.Names.{side_faces, piece_of}
use Rattle.column.specs.Wall.{wall_of, part_mesh}

pub each-alike : {f g : ℕ → Mesh} → ((p : ℕ) → f p ≡ g p) → (n : ℕ) → each f n ≡ each g n
each-alike h zero = refl
each-alike h (suc n) = ap₂ (λ (l : List Mesh) (m : Mesh). l ++ (m ∷ [])) (each-alike h n) (h n)

module _ (job : Column) (ls : Lists) (d : ℕ) where
  pub part-is : (p : ℕ) → part_mesh (wall_of job ls.pairs (option_for ls.numbers ls.marks (side_at job.sides d)) d) p ≡ mesh_of job ls (OfSide d p)
  unfolding mesh_of
  part-is p = refl

  -- as many as the side has: none where it is absent
  pub parts_are : each (part_mesh (wall_of job ls.pairs (option_for ls.numbers ls.marks (side_at job.sides d)) d)) (side_faces (side_at job.sides d) (parts_of job.subdivisions))
      ≡ map (mesh_of job ls) (side_names job d)
  parts_are = go (side_at job.sides d)
    where
      go : (c : Choice)
          → each (part_mesh (wall_of job ls.pairs (option_for ls.numbers ls.marks (side_at job.sides d)) d)) (side_faces c (parts_of job.subdivisions))
          ≡ map (mesh_of job ls) (part_names c (parts_of job.subdivisions) d)
      go option.Absent = refl
      go (option.With k) = each-alike part-is (parts_of job.subdivisions) ∙ sym (map_each (OfSide d) (mesh_of job ls) (parts_of job.subdivisions))

module _ (job : Column) (ls : Lists) where
  -- a mesh for each piece
  abbrev pub piece_mesh : Piece → Mesh
  piece_mesh (Part d p) = part_mesh (wall_of job ls.pairs (option_for ls.numbers ls.marks (side_at job.sides d)) d) p
  piece_mesh (Cap t c) = cap_mesh t ls.corners (option_for ls.numbers ls.marks c)

  pub piece_is : (n : Name) → piece_mesh (piece_of job n) ≡ mesh_of job ls n
  unfolding mesh_of
  piece_is (OfSide d p) = refl
  piece_is Top = refl
  piece_is Bottom = refl

  cap-are : (t : Stand) (n : Name) (c : Choice) → cap_mesh t ls.corners (option_for ls.numbers ls.marks c) ≡ mesh_of job ls n → cap_faces t ls c ≡ map (mesh_of job ls) (cap_names c n)
  cap-are t n option.Absent e = refl
  cap-are t n (option.With k) e = ap (λ (m : Mesh). m ∷ []) e

  pub top-are : cap_faces (top_stand job) ls job.top ≡ map (mesh_of job ls) (cap_names job.top Top)
  top-are = cap-are (top_stand job) Top job.top (piece_is Top)

  pub bottom-are : cap_faces (bottom_stand job) ls job.bottom ≡ map (mesh_of job ls) (cap_names job.bottom Bottom)
  bottom-are = cap-are (bottom_stand job) Bottom job.bottom (piece_is Bottom)
