-- L3a to L3c, L3g: a map whose plan is done tells the reason of every side and the name of every number, and nothing else;
-- what one call tells of a wall, the other tells of its number. Assumes nothing.
use mathlib.Core.Path.{◌≡◌, refl, sym, ap, ◌∙◌}
use mathlib.Core.Bool.{Bool, true, false}
use Prim.Native.Nat.{ℕ, ◌≤◌}
use native.Mathlib.Omega.{arith}
use borrow.Author.Tests.{lt-ltb, le-ltb, ltb-true}
use lib.Dec.{ltb}
use lib.Ieee.{Float, le}
use lib.ListN.{length, length-map}
use Rattle.face.specs.declared.triangle.Counts.{Counts}
use Rattle.answer.specs.declared.answer.Refusal.{Refusal}
use Rattle.answer.specs.declared.answer.Refusal.TheVariants.{NoFace}
use Rattle.answer.specs.Answers.{Answer}
use Rattle.std.specs.Prelude.{Ok, Err}
use Rattle.answer.specs.Answers.{given, named}
use Rattle.answer.proofs.Laws.{named-done}
use Rattle.heightmap.specs.declared.Name.{Name}
use Rattle.heightmap.specs.declared.Name.TheVariants.{Side}
use Rattle.heightmap.specs.declared.HeightMap.{HeightMap}
use Rattle.heightmap.specs.Grid.{cells_in, height_at, Beyond}
use Rattle.heightmap.specs.HeightMap.{Lists, map_names, mesh_of, map_faces}
use Rattle.heightmap.specs.Tests.{planned}
use Rattle.heightmap.specs.Names.{name_at, number_of, There, NamedAt, Has}
use Rattle.heightmap.proofs.Taken.{beyond-as-high}
use Rattle.heightmap_why.specs.declared.Reason.{Reason}
use Rattle.heightmap_why.specs.declared.Reason.TheVariants.{AsHigh, Present}
use Rattle.heightmap_why.specs.Why.{WhyAnswer, because, WhichAnswer, names, reason_of, why_by, why_told, which_by, which_told}
use Rattle.heightmap_why.specs.Law.{First}
use Rattle.heightmap_why.proofs.Law.{has_named, named-has, present-named, named-present, reason-first, only-first}

-- ---- an answer that tells something is done
because-done : {c : Counts} {r : Reason} (a : Answer) (s : Reason) → why_by a s ≡ because c r → (a ≡ Ok c) × (r ≡ s)
because-done (Err e) s p = absurd (let z : ◌≡◌ {A = ℕ} 0 1 = cc in omega arith)
because-done {c} {r} (Ok b) s p =
    let q : ◌≡◌ {A = Counts × Reason} (b, s) (c, r) = cc in
    (ap (λ (x : Counts × Reason). let a : Answer = Ok x.0 in a) q, sym (ap (λ (x : Counts × Reason). x.1) q))

named-so : {c : Counts} {n : Name} (a : Answer) (m : Name) → which_by a m ≡ names c n → (a ≡ Ok c) × (m ≡ n)
named-so (Err e) m p = absurd (let z : ◌≡◌ {A = ℕ} 0 1 = cc in omega arith)
named-so {c} {n} (Ok b) m p =
    let q : ◌≡◌ {A = Counts × Name} (b, m) (c, n) = cc in
    (ap (λ (x : Counts × Name). let a : Answer = Ok x.0 in a) q, ap (λ (x : Counts × Name). x.1) q)

-- ---- what the two calls tell
module _ (job : HeightMap) (ls : Lists) where
  -- the two calls, once the plan has answered
  abbrev why-after : Answer → ℕ → ℕ → WhyAnswer
  why-after a k d = why_by (named (named a k (cells_in ls.grid.cells)) d 6) (reason_of job ls.grid k d)

  abbrev which-after : Answer → ℕ → WhichAnswer
  which-after a i = which_by (named a i (length (map_faces job ls))) (name_at job ls.grid i)

  -- where the plan is refused, no wall is explained, and the refusal is the plan's
  pub why-refused : {e : Refusal} (k d : ℕ) → planned job ls ≡ Err e → why_told job ls k d ≡ Err e
  why-refused k d p = ap (λ (a : Answer). why-after a k d) p

  -- nor is a face named
  pub which-refused : {e : Refusal} (i : ℕ) → planned job ls ≡ Err e → which_told job ls i ≡ Err e
  which-refused i p = ap (λ (a : Answer). which-after a i) p

  as_many : length (map_faces job ls) ≡ length (map_names job ls.grid)
  as_many = length-map (map_names job ls.grid) (mesh_of job ls)

  -- every number of a face names it, with the plan's counts
  pub which-named : {c : Counts} (i : ℕ) (n : Name) → planned job ls ≡ Ok c → NamedAt job ls.grid i n → which_told job ls i ≡ names c n
  which-named {c} i n p h =
      ap (λ (a : Answer). which-after a i) p
      ∙ ap (λ (x : Bool). which_by (given x NoFace (Ok c)) (name_at job ls.grid i)) (lt-ltb i (length (map_faces job ls)) (rw as_many h.0))
      ∙ ap (names c) h.1

  -- what a number names is the face of that number
  pub named-which : {c : Counts} (i : ℕ) (n : Name) → which_told job ls i ≡ names c n → (planned job ls ≡ Ok c) × NamedAt job ls.grid i n
  named-which {c} i n p =
      let q = named-so (named (planned job ls) i (length (map_faces job ls))) (name_at job ls.grid i) p in
      let r = named-done (planned job ls) c i (length (map_faces job ls)) q.0 in
      (r.0, (rw as_many at r.1, q.1))

  module _ (c : Counts) where
    -- where the plan is done, every side of every cell gets its reason, with the plan's counts
    pub why-told : (k d : ℕ) → planned job ls ≡ Ok c → There ls.grid k d → why_told job ls k d ≡ because c (reason_of job ls.grid k d)
    why-told k d p t = ap (λ (a : Answer). why-after a k d) p ∙ rw (lt-ltb k (cells_in ls.grid.cells) t.0, lt-ltb d 6 t.1)

    -- a reason is told only where the plan is done, of a side that is there, and it is the side's own
    pub told-why : (k d : ℕ) (r : Reason) → why_told job ls k d ≡ because c r
        → (planned job ls ≡ Ok c) × (There ls.grid k d × (r ≡ reason_of job ls.grid k d))
    told-why k d r p =
        let n = cells_in ls.grid.cells in
        let q = because-done (named (named (planned job ls) k n) d 6) (reason_of job ls.grid k d) p in
        let s = named-done (named (planned job ls) k n) c d 6 q.0 in
        let t = named-done (planned job ls) c k n s.0 in
        (t.0, ((t.1, s.1), q.1))

    -- the reason that is told holds, and none before it does
    pub told-first : (k d : ℕ) (r : Reason) → why_told job ls k d ≡ because c r → First job ls.grid k d r
    told-first k d r p = let q = told-why k d r p in rw q.1.1 (reason-first job ls.grid k d q.1.0)

    -- where the plan is done, a reason that holds where none before it does is told
    pub first-told : (k d : ℕ) (r : Reason) → planned job ls ≡ Ok c → There ls.grid k d → First job ls.grid k d r → why_told job ls k d ≡ because c r
    first-told k d r p t f = why-told k d p t ∙ ap (because c) (sym (only-first job ls.grid k d r f))

    -- the height that is told is that of the neighbour or the fringe, and it is as high as the cell or higher
    pub told-as-high : (k d : ℕ) (x : Float) → why_told job ls k d ≡ because c (AsHigh x)
        → Beyond job.fringe ls.grid k d x × (le (height_at ls.grid.cells k) x ≡ true)
    told-as-high k d x p =
        let q = told-why k d (AsHigh x) p in
        let s = (told-first k d (AsHigh x) p).says in
        (s.0, beyond-as-high job ls c q.0 k d x q.1.0 s.0 s.1)

    -- a cell that the map has not, or a seventh side, is no face
    pub why-not-there : (k d : ℕ) → planned job ls ≡ Ok c → (There ls.grid k d → ⊥) → why_told job ls k d ≡ Err NoFace
    why-not-there k d p h = ap (λ (a : Answer). why-after a k d) p ∙ go (ltb k (cells_in ls.grid.cells)) refl (ltb d 6) refl
      where
        go : (x : Bool) → ltb k (cells_in ls.grid.cells) ≡ x → (y : Bool) → ltb d 6 ≡ y → why-after (Ok c) k d ≡ Err NoFace
        go false e y f = rw e
        go true e false f = rw (e, f)
        go true e true f = absurd (h (ltb-true k (cells_in ls.grid.cells) e, ltb-true d 6 f))

    -- every face that the map has is named by its number, with the plan's counts
    pub which-told : planned job ls ≡ Ok c → (n : Name) → Has job ls.grid n → which_told job ls (number_of job ls.grid n) ≡ names c n
    which-told p n h = which-named (number_of job ls.grid n) n p (has_named job ls.grid n h)

    -- a face is named only where the plan is done; the map has it, and the number is its own
    pub told-which : (i : ℕ) (n : Name) → which_told job ls i ≡ names c n
        → (planned job ls ≡ Ok c) × (Has job ls.grid n × (number_of job ls.grid n ≡ i))
    told-which i n p = let q = named-which i n p in (q.0, named-has job ls.grid n q.1)

    -- a number past the last face is no face
    pub which-not-there : (i : ℕ) → planned job ls ≡ Ok c → length (map_names job ls.grid) ≤ i → which_told job ls i ≡ Err NoFace
    which-not-there i p h =
        ap (λ (a : Answer). which-after a i) p
        ∙ ap (λ (x : Bool). which_by (given x NoFace (Ok c)) (name_at job ls.grid i)) (le-ltb i (length (map_faces job ls)) (rw as_many h))

    -- the number that is told with a wall names that wall
    pub why-which : (k d i : ℕ) → why_told job ls k d ≡ because c (Present i) → which_told job ls i ≡ names c (Side k d)
    why-which k d i p =
        let q = told-why k d (Present i) p in
        which-named i (Side k d) q.0 (present-named job ls.grid k d q.1.0 (sym q.1.1))

    -- the side that a number names is told to be there, by that number
    pub which-why : (k d i : ℕ) → which_told job ls i ≡ names c (Side k d) → why_told job ls k d ≡ because c (Present i)
    which-why k d i p =
        let q = named-which i (Side k d) p in
        let w = named-present job ls.grid k d q.1 in
        why-told k d q.0 w.0 ∙ ap (because c) w.1
