-- The triangles of an inset, over a face of any number of points V: two for each point, then the inner ones. Assumes nothing.
use mathlib.Core.Path.{◌≡◌, refl, sym, ap, ◌∙◌}
use mathlib.Core.Logic.{◌⊎◌, inl, inr}
use mathlib.Core.Bool.{Bool}
use mathlib.Core.List.{List, [], ◌∷◌, ◌++◌}
use Prim.Native.Nat.{ℕ, zero, suc, ◌+◌, ◌-◌, ◌*◌, ◌≤◌, ◌<◌}
use native.Mathlib.Nat.{eq-or-lt_of_le, le_of_suc-le-suc}
use native.Mathlib.Omega.{arith}
use lib.ListN.{length, get_or, length-append, get_or-append}
use lib.Seq.{get_or-append-add}
use lib.Ieee.{Float, lt}
use Rattle.face.specs.declared.triangle.Triangle.{Triangle}
use Rattle.face.specs.Lists.{chain}
use Rattle.face.specs.Vec.{f0}
use Rattle.face.specs.Triangles.{connecting, kept, ringed, no_triangle}

-- ---- two elements for each number below n
module _ {A : Type 0} (f g : ℕ → A) (d : A) where
  abbrev pairs : ℕ → List A
  pairs = chain (λ v. f v ∷ g v ∷ [])

  pub length_pairs : (n : ℕ) → length (pairs n) ≡ 2 * n
  length_pairs zero = refl
  length_pairs (suc n) = length-append (pairs n) (f n ∷ g n ∷ []) ∙ omega (arith, length_pairs n)

  -- at i of the pair of v
  at_pair : (n v i : ℕ) → v < n → i < 2 → get_or (pairs n) (2 * v + i) d ≡ get_or (f v ∷ g v ∷ []) i d
  at_pair zero v i h k = absurd (let x : v < 0 = h in omega arith)
  at_pair (suc n) v i h k = go (eq-or-lt_of_le (le_of_suc-le-suc h)) (λ l. at_pair n v i l k)
    where
      go : (v ≡ n) ⊎ (v < n) → (v < n → get_or (pairs n) (2 * v + i) d ≡ get_or (f v ∷ g v ∷ []) i d) → get_or (pairs n ++ (f n ∷ g n ∷ [])) (2 * v + i) d ≡ get_or (f v ∷ g v ∷ []) i d
      go (inl e) r =
          let l : 2 * v + i ≡ length (pairs n) + i = omega (arith, length_pairs n, e) in
          ap (λ (x : ℕ). get_or (pairs n ++ (f n ∷ g n ∷ [])) x d) l ∙ get_or-append-add (pairs n) (f n ∷ g n ∷ []) i d ∙ ap (λ (x : ℕ). get_or (f x ∷ g x ∷ []) i d) (sym e)
      go (inr l) r = get_or-append (pairs n) (f n ∷ g n ∷ []) d (2 * v + i) (omega (arith, length_pairs n)) ∙ r l

  pub first-at : (n v : ℕ) → v < n → get_or (pairs n) (2 * v) d ≡ f v
  first-at n v h = ap (λ (x : ℕ). get_or (pairs n) x d) (let e : 2 * v ≡ 2 * v + 0 = omega arith in e) ∙ at_pair n v 0 h (omega arith)

  pub second_at : (n v : ℕ) → v < n → get_or (pairs n) (2 * v + 1) d ≡ g v
  second_at n v h = at_pair n v 1 h (omega arith)

-- ---- the triangles of a ring
module _ (k : Float) (keep : Bool) (m : ℕ) (ts : List Triangle) (t : ℕ) where
  abbrev ring : List Triangle
  ring = chain (connecting (lt k f0) m) m

  ring-length : length ring ≡ 2 * m
  ring-length = length_pairs _ _ no_triangle m

  pub ring-low : t < 2 * m → get_or (ringed k keep m ts) t no_triangle ≡ get_or ring t no_triangle
  ring-low h = get_or-append ring (kept keep m ts) no_triangle t (omega (arith, ring-length))

  pub ring-high : 2 * m ≤ t → get_or (ringed k keep m ts) t no_triangle ≡ get_or (kept keep m ts) (t - 2 * m) no_triangle
  ring-high h =
      let e : t ≡ length ring + (t - 2 * m) = omega (arith, ring-length) in
      ap (λ (x : ℕ). get_or (ringed k keep m ts) x no_triangle) e ∙ get_or-append-add ring (kept keep m ts) (t - 2 * m) no_triangle
