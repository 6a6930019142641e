-- Which face has a number, and what lies before it. Assumes nothing.
use Rattle.std.proofs.Common.{◌≡◌, ℕ, zero, suc, ◌+◌, ◌-◌, ◌<◌, ◌≤◌, Bool, true, false, cond, not, T, ltb, List, [], ◌∷◌, ◌++◌, map, length, sym, refl, ap, ◌∙◌, subst, ap₂, suc-ne-zero, arith, ltb→lt, nltb→le, length-append, ne_eqb}
use lib.ListN.{get_or-eq_default}
use Rattle.face.specs.Lists.{each, chain}
use Rattle.face.specs.Triangles.{inset_counts}
use Rattle.face.proofs.Filling.{length-each}
use Rattle.placement.specs.declared.options.Choice.{Choice}
use Rattle.placement.specs.declared.options.Choice.TheVariants as option
use Rattle.placement.specs.Options.{option_for}
use Rattle.buffers.specs.Mesh.{also, start_of}
use Rattle.buffers.proofs.Windows.{also-none}
use Rattle.buffers.proofs.Named as named
use Rattle.column.specs.declared.Side.{Side}
use Rattle.column.specs.declared.Column.{Column}
use Rattle.column.specs.declared.Name.{Name}
use Rattle.column.specs.declared.Name.TheVariants.{OfSide, Top, Bottom}
use Rattle.column.specs.Column.{Lists, parts_of, side_at, part_names, side_names, cap_names, column_names, mesh_of, column_faces}
use Rattle.column.specs.Names.{name_at, side_faces, cap_name, start_by}
use Rattle.column.proofs.Counts.{each_same, part-size, sides-sum, cap-sum, top-size}

-- a name stands at a number of the list of names, and starts where what lies before it ends
pub record Stands (job : Column) (k : ℕ) (n : Name) : Type 0 where
  pub named : named.Stands (column_names job) k n
  pub start : (ls : Lists) → start_of (column_faces job ls) k ≡ start_by job ls.numbers ls.marks n

below_or_not : {A : Type 0} (m n : ℕ) → (m < n → A) → (n ≤ m → A) → A
below_or_not {A} m n f g = go (ltb m n) (ltb→lt m n) (nltb→le m n)
  where
    go : (x : Bool) → (T x → m < n) → (T (not x) → n ≤ m) → A
    go true l h = f (l tt)
    go false l h = g (h tt)

-- ---- how many there are
abbrev pub walls : List Side → ℕ → ℕ → List Name
walls ss s d = part_names (side_at ss d) s d

pub side-length : (c : Choice) (s d : ℕ) → length (part_names c s d) ≡ side_faces c s
side-length option.Absent s d = refl
side-length (option.With k) s d = length-each (OfSide d) s

cap-length : (c : Choice) (n : Name) → length (cap_names c n) ≡ side_faces c 1
cap-length option.Absent n = refl
cap-length (option.With k) n = refl

pub walls-more : (ss : List Side) (s d : ℕ) → length (chain (walls ss s) (suc d)) ≡ length (chain (walls ss s) d) + side_faces (side_at ss d) s
walls-more ss s d = length-append (chain (walls ss s) d) (walls ss s d) ∙ ap (λ (k : ℕ). length (chain (walls ss s) d) + k) (side-length (side_at ss d) s d)

pub name-count : (job : Column) → length (column_names job) ≡ length (chain (side_names job) 6) + (side_faces job.top 1 + side_faces job.bottom 1)
unfolding column_names
name-count job =
    length-append (chain (side_names job) 6) (cap_names job.top Top ++ cap_names job.bottom Bottom)
    ∙ ap (λ (k : ℕ). length (chain (side_names job) 6) + k)
    (length-append (cap_names job.top Top) (cap_names job.bottom Bottom) ∙ ap₂ ◌+◌ (cap-length job.top Top) (cap-length job.bottom Bottom))

pub faces-few : (c : Choice) (s : ℕ) → side_faces c s ≤ s
faces-few option.Absent s = omega arith
faces-few (option.With k) s = omega arith

-- ---- a part of a side
part-there : (c : Choice) (s j d : ℕ) → j < side_faces c s → (j < s) × (part_names c s d ≡ each (OfSide d) s)
part-there option.Absent s j d h = let g : j < 0 = h in absurd (omega arith)
part-there (option.With k) s j d h = (h, refl)

module _ (job : Column) where
  abbrev s : ℕ
  s = parts_of job.subdivisions

  abbrev walls-of : List Name
  walls-of = chain (side_names job) 6

  abbrev caps : List Name
  caps = cap_names job.top Top ++ cap_names job.bottom Bottom

  pub stands-part : (k d j : ℕ) → d < 6 → j < side_faces (side_at job.sides d) s → k ≡ length (chain (side_names job) d) + j → Stands job k (OfSide d j)
  unfolding column_names
  stands-part k d j h l e =
      let p = part-there (side_at job.sides d) s j d l in
      let m : j < length (side_names job d) = rw (side-length (side_at job.sides d) s d) l in
      let here : named.Stands walls-of (length (chain (side_names job) d) + j) (OfSide d j) =
      named.stands-chain (side_names job) 6 d j (OfSide d j) h (subst (λ (x : List Name). named.Stands x j (OfSide d j)) (sym p.1) (named.stands-each (OfSide d) s j p.0)) in
      let least : length (chain (side_names job) d) + j < length walls-of = named.stands-below walls-of (length (chain (side_names job) d) + j) (OfSide d j) here in
      subst (λ (i : ℕ). Stands job i (OfSide d j))
      (sym e)
      record {
        named = named.stands-left walls-of caps (length (chain (side_names job) d) + j) (OfSide d j) here;
        start = λ ls.
            named.start_left (mesh_of job ls) walls-of caps (length (chain (side_names job) d) + j) least
            ∙ named.chain-start (mesh_of job ls) (side_names job) 6 d j h m
            ∙ ap₂ also
            (sides-sum job ls d)
            (ap (λ (x : List Name). start_of (map (mesh_of job ls) x) j) p.1
            ∙ named.each_start (mesh_of job ls) (OfSide d) s j p.0
            ∙ each_same (mesh_of job ls) (OfSide d) (inset_counts (option_for ls.numbers ls.marks (side_at job.sides d)).inset 4 2) (part-size job ls d) j);
      }

  -- ---- the caps
  pub stands-top : (k x : ℕ) → job.top ≡ option.With x → k ≡ length walls-of → Stands job k Top
  unfolding column_names
  stands-top k x t e =
      let there : caps ≡ Top ∷ cap_names job.bottom Bottom = ap (λ (c : Choice). cap_names c Top ++ cap_names job.bottom Bottom) t in
      subst (λ (i : ℕ). Stands job i Top)
      (let i : length walls-of + 0 ≡ k = omega (arith, e) in i)
      record {
        named = named.stands-right walls-of caps 0 Top (subst (λ (x : List Name). named.Stands x 0 Top) (sym there) (named.stands-first Top (cap_names job.bottom Bottom)));
        start = λ ls. named.start_right (mesh_of job ls) walls-of caps 0 ∙ also-none _ ∙ sides-sum job ls 6;
      }

  only : (c : Choice) (j : ℕ) → j < side_faces c 1 → (cap_names c Bottom ≡ Bottom ∷ []) × (j ≡ 0)
  only option.Absent j h = let g : j < 0 = h in absurd (omega arith)
  only (option.With x) j h = let g : j < 1 = h in (refl, omega arith)

  pub stands-bottom : (k j : ℕ) → j < side_faces job.bottom 1 → k ≡ length walls-of + (side_faces job.top 1 + j) → Stands job k Bottom
  unfolding column_names
  stands-bottom k j h e =
      let o = only job.bottom j h in
      let tops : List Name = cap_names job.top Top in
      let bottoms : List Name = cap_names job.bottom Bottom in
      subst (λ (i : ℕ). Stands job i Bottom)
      (let i : length walls-of + (length tops + 0) ≡ k = omega (arith, cap-length job.top Top, o.1, e) in i)
      record {
        named = named.stands-right walls-of caps (length tops + 0) Bottom (named.stands-right tops bottoms 0 Bottom (subst (λ (x : List Name). named.Stands x 0 Bottom) (sym o.0) (named.stands-first Bottom [])));
        start = λ ls.
            named.start_right (mesh_of job ls) walls-of caps (length tops + 0)
            ∙ ap₂ also (sides-sum job ls 6) (named.start_right (mesh_of job ls) tops bottoms 0 ∙ also-none _ ∙ cap-sum job ls job.top Top (top-size job ls));
      }

  -- what is left after the sides
  pub stands-cap : (k left : ℕ) → k < length (column_names job) → k ≡ length (chain (side_names job) 6) + left → Stands job k (cap_name job.top left)
  stands-cap k left h e = go job.top refl left e (omega (arith, name-count job, h, e))
    where
      go : (t : Choice) → job.top ≡ t → (x : ℕ) → k ≡ length (chain (side_names job) 6) + x → x < side_faces job.top 1 + side_faces job.bottom 1 → Stands job k (cap_name t x)
      go option.Absent p x f l =
          let z : side_faces job.top 1 ≡ 0 = ap (λ (c : Choice). side_faces c 1) p in
          stands-bottom k x (omega (arith, l, z)) (omega (arith, f, z))
      go (option.With i) p zero f l = stands-top k i p (omega (arith, f))
      go (option.With i) p (suc x) f l =
          let z : side_faces job.top 1 ≡ 1 = ap (λ (c : Choice). side_faces c 1) p in
          subst (λ (b : Bool). Stands job k (cond b Top Bottom)) (sym (ne_eqb (suc x) 0 (suc-ne-zero x))) (stands-bottom k x (omega (arith, l, z)) (omega (arith, f, z)))

  -- ---- every number of a face stands for its name
  pub stands-name : (k : ℕ) (n : Name) → Stands job k n → name_at job k ≡ n
  stands-name k n t = named.stands-name (column_names job) k n Bottom t.named

  its-name : (k : ℕ) (n : Name) → Stands job k n → Stands job k (name_at job k)
  its-name k n t = subst (λ (x : Name). Stands job k x) (sym (stands-name k n t)) t

  -- m sides are left to look at
  from-side : (k m d left : ℕ) → d + m ≡ 6 → k < length (column_names job) → k ≡ length (chain (side_names job) d) + left → Stands job k (name_at job k)
  from-side k zero d left e h f = its-name k _ (stands-cap k left h (f ∙ ap (λ (i : ℕ). length (chain (side_names job) i) + left) (let g : d ≡ 6 = omega (arith, e) in g)))
  from-side k (suc m) d left e h f =
      below_or_not left (side_faces (side_at job.sides d) s)
      (λ l. its-name k _ (stands-part k d left (omega (arith, e)) l f))
      (λ g. from-side k m (suc d) (left - side_faces (side_at job.sides d) s) (omega (arith, e)) h (omega (arith, f, g, walls-more job.sides s d)))

  pub name-stands : (k : ℕ) → k < length (column_names job) → Stands job k (name_at job k)
  name-stands k h = from-side k 6 0 k refl h (omega arith)

  -- what is left after the sides, there or not
  pub cap-named : (k left : ℕ) → k ≡ length (chain (side_names job) 6) + left → cap_name job.top left ≡ name_at job k
  cap-named k left e =
      below_or_not k (length (column_names job))
      (λ l. sym (stands-name k _ (stands-cap k left l e)))
      (λ g. past job.top left (omega (arith, g, e, name-count job)) ∙ sym (get_or-eq_default (column_names job) Bottom g))
    where
      past : (t : Choice) (x : ℕ) → side_faces t 1 ≤ x → cap_name t x ≡ Bottom
      past option.Absent x h = refl
      past (option.With i) x h = ap (λ (b : Bool). cond b Top Bottom) (ne_eqb x 0 (λ z. absurd (omega (arith, h, z))))
