-- Lists counted out, and a loop over a face of any number of points that fills an array. Assumes nothing.
use mathlib.Core.Path.{◌≡◌, refl, sym, ap, ap₂, ◌∙◌}
use mathlib.Core.Logic.{◌⊎◌, inl, inr}
use mathlib.Core.List.{List, [], ◌∷◌, ◌++◌, map, map-append, append-nil}
use Prim.Native.Nat.{ℕ, zero, suc, ◌+◌, ◌≤◌, ◌<◌}
use native.Mathlib.Nat.{le_of_lt, eq-or-lt_of_le, le_of_suc-le-suc}
use native.Mathlib.Numerals.{add-one}
use native.Mathlib.Omega.{arith}
use lib.ListN.{length, get_or, set, take, drop, length-append, drop_of_length-le, get_or-append}
use lib.Seq.{get_or-append-add, drop-cons, set_at, append_snoc, take-suc, take_all}
use Rattle.face.specs.Lists.{each, chain}

module _ {A : Type 0} where
  pub length-each : (g : ℕ → A) (n : ℕ) → length (each g n) ≡ n
  length-each g zero = refl
  length-each g (suc n) = length-append (each g n) (g n ∷ []) ∙ ap (λ (k : ℕ). k + 1) (length-each g n) ∙ add-one n

  -- one store more
  each_more : (g : ℕ → A) (n : ℕ) (d : List A) → n < length d → set (each g n ++ drop n d) n (g n) ≡ each g (n + 1) ++ drop (n + 1) d
  each_more g n d h =
      rw (add-one n, drop-cons d n (g n) h)
      (set_at (each g n) (get_or d n (g n)) (drop (suc n) d) (g n) n (length-each g n) ∙ sym (append_snoc (each g n) (g n) (drop (suc n) d)))

  each_take : {B : Type 0} (f : B → A) (l : List B) (z : B) (n : ℕ) → n ≤ length l → each (λ k. f (get_or l k z)) n ≡ map f (take n l)
  each_take f l z zero h = refl
  each_take f l z (suc n) h = rw (take-suc l n z h, map-append, each_take f l z n (le_of_lt h))

  -- of each element of a list
  pub each_map : {B : Type 0} (f : B → A) (l : List B) (z : B) (n : ℕ) → length l ≡ n → each (λ k. f (get_or l k z)) n ≡ map f l
  each_map f l z n e = each_take f l z n (omega arith) ∙ rw (take_all n l (omega arith))

  pub each_same : (g h : ℕ → A) (n : ℕ) → ((v : ℕ) → v < n → g v ≡ h v) → each g n ≡ each h n
  each_same g h zero e = refl
  each_same g h (suc n) e = ap₂ (λ (l : List A) (x : A). l ++ (x ∷ [])) (each_same g h n (λ v l. e v (omega arith))) (e n (omega arith))

  -- the same of lists, end to end
  pub chain_same : (g h : ℕ → List A) (n : ℕ) → ((v : ℕ) → v < n → g v ≡ h v) → chain g n ≡ chain h n
  chain_same g h zero e = refl
  chain_same g h (suc n) e = ap₂ (λ (l r : List A). l ++ r) (chain_same g h n (λ v l. e v (omega arith))) (e n (omega arith))

  pub each_at : (g : ℕ → A) (n v : ℕ) (d : A) → v < n → get_or (each g n) v d ≡ g v
  each_at g zero v d h = absurd (let x : v < 0 = h in omega arith)
  each_at g (suc n) v d h = go (eq-or-lt_of_le (le_of_suc-le-suc h)) (each_at g n v d)
    where
      go : (v ≡ n) ⊎ (v < n) → (v < n → get_or (each g n) v d ≡ g v) → get_or (each g n ++ (g n ∷ [])) v d ≡ g v
      go (inl e) r =
          let l : v ≡ length (each g n) + 0 = omega (arith, length-each g n, e) in
          ap (λ (x : ℕ). get_or (each g n ++ (g n ∷ [])) x d) l ∙ get_or-append-add (each g n) (g n ∷ []) 0 d ∙ ap g (sym e)
      go (inr l) r = get_or-append (each g n) (g n ∷ []) d v (omega (arith, length-each g n)) ∙ r l

  -- what a place of a mapped list holds
  pub map_at : {B : Type 0} (f : B → A) (l : List B) (z : B) (d : A) (n v : ℕ) → length l ≡ n → v < n → get_or (map f l) v d ≡ f (get_or l v z)
  map_at f l z d n v e h = ap (λ (x : List A). get_or x v d) (sym (each_map f l z n e)) ∙ each_at (λ k. f (get_or l k z)) n v d h

  -- a list is each of its elements
  pub each_all : (l : List A) (z : A) (n : ℕ) → length l ≡ n → each (λ k. get_or l k z) n ≡ l
  each_all l z n e = each_map (λ x. x) l z n e ∙ map_same l
    where
      map_same : (l : List A) → map (λ x. x) l ≡ l
      map_same [] = refl
      map_same (x ∷ l) = ap (λ (k : List A). x ∷ k) (map_same l)

  -- ---- an array of m filled with each g: after i stores it holds the first i, then d as it was
  abbrev pub Filled : (ℕ → A) → ℕ → List A → ℕ → List A → Type 0
  Filled g m d i out = (i ≤ m) × (out ≡ each g i ++ drop i d)

  pub filled_more : (g : ℕ → A) (m : ℕ) (d : List A) (i : ℕ) (out : List A) (x : A) → Filled g m d i out → i < m → length d ≡ m → x ≡ g i
      → Filled g m d (i + 1) (set out i x)
  filled_more g m d i out x f h l e = (omega arith, rw (e, f.1) (each_more g i d (omega arith)))

  pub filled-all : (g : ℕ → A) (m : ℕ) (d : List A) (i : ℕ) (out : List A) → Filled g m d i out → m ≤ i → length d ≡ m → out ≡ each g m
  filled-all g m d i out f h l =
      let e : i ≡ m = omega arith in
      f.1 ∙ rw e (rw (drop_of_length-le d (let k : length d ≤ m = omega arith in k), append-nil))

  pub filled-map : {B : Type 0} (f : B → A) (l : List B) (z : B) (m : ℕ) (d : List A) (i : ℕ) (out : List A) → Filled (λ v. f (get_or l v z)) m d i out → m ≤ i → length d ≡ m → length l ≡ m
      → out ≡ map f l
  filled-map f l z m d i out h e n k = filled-all _ m d i out h e n ∙ each_map f l z m k
