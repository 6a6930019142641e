-- The sides, the top and the bottom laid one after the other are all faces of the column. Assumes nothing.
use mathlib.Core.Path.{◌≡◌, refl, sym, ap, ap₂, ◌∙◌}
use mathlib.Core.List.{List, [], ◌++◌, map, map-append, append_assoc}
use Prim.Native.Nat.{ℕ, zero, suc}
use lib.Ieee.{Float}
use Rattle.face.specs.declared.triangle.Counts.{Counts}
use Rattle.face.specs.Lists.{chain}
use Rattle.placement.specs.declared.options.Choice.{Choice}
use Rattle.placement.specs.declared.options.Choice.TheVariants as option
use Rattle.placement.specs.declared.placement.Stand.{Stand}
use Rattle.buffers.specs.Mesh.{Mesh, none, also, measure}
use Rattle.buffers.specs.Laying.{Buffers, lay_each}
use Rattle.buffers.proofs.Windows.{none-also}
use Rattle.buffers.proofs.Each.{SoFar, so_far_more}
use Rattle.column.specs.declared.Column.{Column}
use Rattle.column.specs.declared.Name.TheVariants.{Top, Bottom}
use Rattle.column.specs.Column.{Lists, lists, parts_of, side_names, cap_names, column_names, top_stand, bottom_stand, mesh_of, cap_faces, sides_faces, column_faces}
use Rattle.column.specs.Counts.{sides_counts, cap_counts}
use Rattle.column.proofs.Counts.{sides-sum, cap-sum, top-size}
use Rattle.column.proofs.Parts.{parts_are, top-are, bottom-are}

in_three : (job : Column) (ls : Lists) → column_faces job ls ≡ (sides_faces job ls ++ map (mesh_of job ls) (cap_names job.top Top)) ++ map (mesh_of job ls) (cap_names job.bottom Bottom)
unfolding column_names
in_three job ls =
    map-append (mesh_of job ls) (chain (side_names job) 6) (cap_names job.top Top ++ cap_names job.bottom Bottom)
    ∙ ap (λ (l : List Mesh). sides_faces job ls ++ l) (map-append (mesh_of job ls) (cap_names job.top Top) (cap_names job.bottom Bottom))
    ∙ sym (append_assoc (sides_faces job ls) (map (mesh_of job ls) (cap_names job.top Top)) (map (mesh_of job ls) (cap_names job.bottom Bottom)))

module _ (job : Column) (ps cs ns : List Float) (ms : List ℕ) where
  -- a side has no use for the cap corners
  sides-alike : (n : ℕ) → map (mesh_of job (lists ps [] ns ms)) (chain (side_names job) n) ≡ map (mesh_of job (lists ps cs ns ms)) (chain (side_names job) n)
  sides-alike zero = refl
  sides-alike (suc n) =
      map-append (mesh_of job (lists ps [] ns ms)) (chain (side_names job) n) (side_names job n)
      ∙ ap₂ ◌++◌ (sides-alike n) (sym (parts_are job (lists ps [] ns ms) n) ∙ parts_are job (lists ps cs ns ms) n)
      ∙ sym (map-append (mesh_of job (lists ps cs ns ms)) (chain (side_names job) n) (side_names job n))

  -- a cap has no use for the ends of the sides
  capped : (x : Choice) (t : Stand) → cap_faces t (lists [] cs ns ms) x ≡ cap_faces t (lists ps cs ns ms) x
  capped option.Absent t = refl
  capped (option.With k) t = refl

  pub three-laid : (B : Buffers) (walls last : Counts) (t b : Stand) (C D E : Buffers)
      → walls ≡ sides_counts ns ms (parts_of job.subdivisions) job.sides 6
      → C ≡ lay_each (sides_faces job (lists ps [] ns ms)) none B
      → t ≡ top_stand job
      → D ≡ lay_each (cap_faces t (lists [] cs ns ms) job.top) walls C
      → last ≡ also walls (cap_counts ns ms job.top)
      → b ≡ bottom_stand job
      → E ≡ lay_each (cap_faces b (lists [] cs ns ms) job.bottom) last D
      → E ≡ lay_each (column_faces job (lists ps cs ns ms)) none B
  three-laid B walls last t b C D E w c i d l j e =
      let ls : Lists = lists ps cs ns ms in
      let sides : List Mesh = sides_faces job ls in
      let tops : List Mesh = map (mesh_of job ls) (cap_names job.top Top) in
      let bottoms : List Mesh = map (mesh_of job ls) (cap_names job.bottom Bottom) in
      let upper : cap_faces t (lists [] cs ns ms) job.top ≡ tops = capped job.top t ∙ ap (λ (x : Stand). cap_faces x ls job.top) i ∙ top-are job ls in
      let lower : cap_faces b (lists [] cs ns ms) job.bottom ≡ bottoms = capped job.bottom b ∙ ap (λ (x : Stand). cap_faces x ls job.bottom) j ∙ bottom-are job ls in
      let one : SoFar sides none B walls C =
      (w ∙ sym (sides-sum job ls 6) ∙ sym (none-also (measure sides)), c ∙ ap (λ (x : List Mesh). lay_each x none B) (sides-alike 6)) in
      let two : SoFar (sides ++ tops) none B last D =
      so_far_more sides tops none B walls last C D one (l ∙ ap (also walls) (sym (cap-sum job ls job.top Top (top-size job ls)))) (d ∙ ap (λ (x : List Mesh). lay_each x walls C) upper) in
      let all : SoFar ((sides ++ tops) ++ bottoms) none B (also last (measure bottoms)) E =
      so_far_more (sides ++ tops) bottoms none B last (also last (measure bottoms)) D E two refl (e ∙ ap (λ (x : List Mesh). lay_each x last D) lower) in
      all.1 ∙ ap (λ (x : List Mesh). lay_each x none B) (sym (in_three job ls))
