-- The walls of a cell, laid one after the other with what they share, are its own. Assumes nothing.
use mathlib.Core.Path.{◌≡◌, refl, sym, ap, ap₂, ◌∙◌}
use mathlib.Core.Bool.{Bool, true, false, cond}
use mathlib.Core.List.{List, [], ◌∷◌, map, map-append}
use Prim.Native.Nat.{ℕ, suc}
use lib.Ieee.{Float}
use Rattle.face.specs.declared.vec.Vec2.{Vec2}
use Rattle.face.specs.declared.triangle.Counts.{Counts}
use Rattle.face.specs.Lists.{chain}
use Rattle.placement.specs.declared.options.Choice.{Choice}
use Rattle.placement.specs.declared.options.FaceOptions.{FaceOptions}
use Rattle.placement.specs.declared.placement.Stand.{Stand}
use Rattle.placement.specs.Options.{option_at}
use Rattle.buffers.specs.Mesh.{Mesh, also, measure}
use Rattle.buffers.specs.Laying.{Buffers, lay_each}
use Rattle.buffers.proofs.Each.{SoFar, so_far_more}
use Rattle.heightmap.specs.declared.Span.{Span}
use Rattle.heightmap.specs.declared.Wall.{Wall}
use Rattle.heightmap.specs.declared.Name.{Name}
use Rattle.heightmap.specs.declared.Name.TheVariants.{Side}
use Rattle.heightmap.specs.declared.HeightMap.{HeightMap}
use Rattle.heightmap.specs.Grid.{height_at, left_at, right_at, span_of, wall, present, foot_of}
use Rattle.heightmap.specs.HeightMap.{Lists, side_names, custom_at, custom_place, own_choice, chosen, option_of, side_stand, mesh_of}
use Rattle.heightmap_faces.specs.declared.Level.{Level}
use Rattle.heightmap_faces.specs.declared.kept.KeptLevel.{KeptLevel}
use Rattle.heightmap_faces.specs.Speed.{skin_of, level_of}
use Rattle.heightmap_faces.specs.Kept.{number_in, level_by}
use Rattle.heightmap_faces.proofs.Keeping.{number_is}
use Rattle.heightmap_faces.proofs.Plain.{side-is}
use Rattle.heightmap_laying.specs.declared.Shared.{Shared}
use Rattle.heightmap_laying.specs.Shared.{shared_of, level_mesh, level_faces, sides_faces}

-- what a face's name chooses, and the option of its number
abbrev pub chosen_for : HeightMap → Lists → Name → Choice
chosen_for job ls name = chosen (own_choice job name) (custom_at job.customs ls.customs (custom_place name))

pub option-chosen : (job : HeightMap) (ls : Lists) (name : Name) (number : ℕ) (choice : Choice)
    → choice ≡ chosen_for job ls name → number ≡ number_in choice → option_at ls.numbers ls.marks number ≡ option_of job ls name
option-chosen job ls name number choice c n = ap (option_at ls.numbers ls.marks) (n ∙ ap number_in c) ∙ sym (number_is ls.numbers ls.marks (chosen_for job ls name))

module _ (job : HeightMap) (ls : Lists) where
  -- a cell starts with the job's own option
  pub own-kept : (s : Shared) (top : Float) (v : Level) → s ≡ shared_of job ls → v ≡ level_of s.skin top
      → record { number = s.own; level = v } ≡ level_by s.span top ls.numbers ls.marks s.own
  own-kept s top v p e = rw (e, p) refl

  -- what is made of the number is of the name's option
  pub level-chosen : (name : Name) (k : ℕ) (next : KeptLevel) (span : Span) (top : Float) (number : ℕ) (choice : Choice)
      → span ≡ span_of job ls.grid
      → top ≡ height_at ls.grid.cells k
      → choice ≡ chosen_for job ls name
      → number ≡ number_in choice
      → next ≡ level_by span top ls.numbers ls.marks number
      → (next ≡ level_by span top ls.numbers ls.marks next.number) × (next.level ≡ level_of (skin_of (option_of job ls name) (span_of job ls.grid)) (height_at ls.grid.cells k))
  level-chosen name k next span top number choice s h c n e = (
    e ∙ ap (level_by span top ls.numbers ls.marks) (sym (ap (λ (y : KeptLevel). y.number) e)),
    ap (λ (y : KeptLevel). y.level) e
        ∙ ap₂ level_of (ap₂ (λ (y : FaceOptions) (z : Span). skin_of y z) (option-chosen job ls name number choice c n) s) h,
  )

  module _ (k : ℕ) where
    pub side-more : (d : ℕ) (at place next : Counts) (B C D : Buffers) (w : Wall) (t : Stand) (v : Level) (l r : Vec2)
        → SoFar (sides_faces job ls k d) at B place C
        → w ≡ wall job ls.grid k d
        → t ≡ side_stand job
        → (present w ≡ true → v ≡ level_of (skin_of (option_of job ls (Side k d)) (span_of job ls.grid)) (height_at ls.grid.cells k))
        → l ≡ left_at ls.grid.cells k d
        → r ≡ right_at ls.grid.cells k d
        → next ≡ also place (measure (level_faces w t v l r))
        → D ≡ lay_each (level_faces w t v l r) place C
        → SoFar (sides_faces job ls k (suc d)) at B next D
    side-more d at place next B C D w t v l r h ew et ev el er n x =
        let f = mesh_of job ls in
        let more : List Mesh = map f (side_names job ls.grid k d) in
        let e : level_faces w t v l r ≡ more = same (present w) refl ∙ ap (λ (x : Wall). map f (cond (present x) (Side k d ∷ []) [])) ew in
        rw (map-append f (chain (side_names job ls.grid k) d) (side_names job ls.grid k d))
        (so_far_more (sides_faces job ls k d) more at B place next C D h (n ∙ ap (λ (y : List Mesh). also place (measure y)) e) (x ∙ ap (λ (y : List Mesh). lay_each y place C) e))
      where
        same : (b : Bool) → present w ≡ b → cond b (level_mesh t v l r (foot_of w) ∷ []) [] ≡ map (mesh_of job ls) (cond b (Side k d ∷ []) [])
        same true p = ap (λ (x : Mesh). x ∷ []) (rw (et, ev p, el, er, ew) (sym (side-is job ls k d)))
        same false p = refl
