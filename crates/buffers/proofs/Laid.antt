-- One buffer with lists written into it, of any kind of element. No law asks for room. Assumes nothing.
use mathlib.Core.Path.{◌≡◌, refl, sym, ap, ap₂, ◌∙◌}
use mathlib.Core.Logic.{◌⊎◌, inl, inr, ⊎_elim}
use mathlib.Core.List.{List, [], ◌∷◌, ◌++◌, map, append-nil, append_assoc}
use Prim.Native.Nat.{ℕ, zero, suc, ◌+◌, ◌*◌, ◌<◌, ◌≤◌}
use native.Mathlib.Nat.{add-suc, suc-add, add-zero, zero-add}
use native.Mathlib.Numerals.{add-one, towards_suc}
use native.Mathlib.Omega.{arith}
use lib.ListN.{length, set, get_or, length-append, length-set, get_or-append}
use lib.Seq.{get_or-append-add, set_comm, set-set, get_or-set_other, get_or-set_same}
use Rattle.face.specs.Lists.{each, chain}
use Rattle.face.proofs.Filling.{length-each, each_map, each_all}
use Rattle.buffers.specs.Laying.{spread, laid}

module _ {A : Type 0} where
  pub length-laid : (l : List A) (at : ℕ) (xs : List A) → length (laid l at xs) ≡ length l
  unfolding laid
  length-laid l at [] = refl
  length-laid l at (x ∷ xs) = length-laid (set l at x) (suc at) xs ∙ length-set l at x

  -- one list after another
  pub laid-append : (l : List A) (at : ℕ) (xs ys : List A) → laid (laid l at xs) (at + length xs) ys ≡ laid l at (xs ++ ys)
  unfolding laid
  laid-append l at [] ys = rw add-zero
  laid-append l at (x ∷ xs) ys = rw (add-suc, ← suc-add) (laid-append (set l at x) (suc at) xs ys)

  set-laid : (l : List A) (at : ℕ) (xs : List A) (i : ℕ) (a : A) → i < at → laid (set l i a) at xs ≡ set (laid l at xs) i a
  unfolding laid
  set-laid l at [] i a h = refl
  set-laid l at (x ∷ xs) i a h = rw (set_comm l i at a x (λ e. omega arith)) (set-laid (set l at x) (suc at) xs i a (omega arith))

  -- two windows, one after the other, are laid in either order
  pub laid-comm : (l : List A) (at : ℕ) (xs : List A) (at' : ℕ) (ys : List A) → at + length xs ≤ at' → laid (laid l at xs) at' ys ≡ laid (laid l at' ys) at xs
  unfolding laid
  laid-comm l at [] at' ys h = refl
  laid-comm l at (x ∷ xs) at' ys h = laid-comm (set l at x) (suc at) xs at' ys (omega arith) ∙ rw (set-laid l at' ys at x (omega arith))

  -- one list over another of its length: the later one stands
  pub laid-over : (l : List A) (at : ℕ) (xs ys : List A) → length xs ≡ length ys → laid (laid l at xs) at ys ≡ laid l at ys
  unfolding laid
  laid-over l at [] [] e = refl
  laid-over l at [] (y ∷ ys) e = absurd (let g : 0 ≡ suc (length ys) = e in omega arith)
  laid-over l at (x ∷ xs) [] e = absurd (let g : suc (length xs) ≡ 0 = e in omega arith)
  laid-over l at (x ∷ xs) (y ∷ ys) e =
      rw (← set-laid (set l at x) (suc at) xs at y (omega arith), set-set l at x y)
      (laid-over (set l at y) (suc at) xs ys (let g : suc (length xs) ≡ suc (length ys) = e in omega arith))

  pub laid-twice : (l : List A) (at : ℕ) (xs : List A) → laid (laid l at xs) at xs ≡ laid l at xs
  laid-twice l at xs = laid-over l at xs xs refl

  -- the places of a window alone are written
  pub laid-outside : (l : List A) (at : ℕ) (xs : List A) (p : ℕ) (d : A) → (p < at) ⊎ (at + length xs ≤ p) → get_or (laid l at xs) p d ≡ get_or l p d
  unfolding laid
  laid-outside l at [] p d h = refl
  laid-outside l at (x ∷ xs) p d h =
      laid-outside (set l at x) (suc at) xs p d (⊎_elim (λ u. inl (omega arith)) (λ u. inr (omega arith)) h)
      ∙ get_or-set_other l at p x d (λ e. ⊎_elim (λ u. omega arith) (λ u. omega arith) h)

  -- and each of them that the buffer has holds what was written
  pub laid-inside : (l : List A) (at : ℕ) (xs : List A) (i : ℕ) (d : A) → i < length xs → at + i < length l → get_or (laid l at xs) (at + i) d ≡ get_or xs i d
  unfolding laid
  laid-inside l at [] i d h r = absurd (let g : i < 0 = h in omega arith)
  laid-inside l at (x ∷ xs) zero d h r =
      rw add-zero (laid-outside (set l at x) (suc at) xs at d (inl (omega arith)) ∙ get_or-set_same l at x d (omega arith))
  laid-inside l at (x ∷ xs) (suc i) d h r =
      rw (add-suc, ← suc-add)
      (laid-inside (set l at x) (suc at) xs i d (let g : suc i < suc (length xs) = h in omega arith) (let e : length (set l at x) ≡ length l = length-set l at x in omega (arith, e)))

  -- one store, two, and three
  pub laid_one : (l : List A) (at : ℕ) (x : A) → laid l at (x ∷ []) ≡ set l at x
  unfolding laid
  laid_one l at x = refl

  pub laid-two : (l : List A) (at : ℕ) (x y : A) → set (set l at x) (at + 1) y ≡ laid l at (x ∷ y ∷ [])
  unfolding laid
  laid-two l at x y = simp towards_suc

  pub laid-three : (l : List A) (at : ℕ) (x y z : A) → set (set (set l at x) (at + 1) y) (at + 2) z ≡ laid l at (x ∷ y ∷ z ∷ [])
  unfolding laid
  laid-three l at x y z = simp towards_suc

  -- nothing written
  pub laid-nothing : (l : List A) (at : ℕ) → laid l at [] ≡ l
  unfolding laid
  laid-nothing l at = refl

  -- so a loop that lays begins
  pub laying-none : (m : ℕ) (l : List A) (at : ℕ) → (0 ≤ m) × (length l ≡ length l) × (l ≡ laid l at [])
  laying-none m l at = (omega arith, refl, sym (laid-nothing l at))

-- ---- the numbers of many
module _ {A B : Type 0} (f : A → List B) where
  pub spread-append : (xs ys : List A) → spread f (xs ++ ys) ≡ spread f xs ++ spread f ys
  spread-append [] ys = refl
  spread-append (x ∷ xs) ys = rw (spread-append xs ys, append_assoc)

  -- n numbers each
  pub spread-length : (n : ℕ) → ((x : A) → length (f x) ≡ n) → (xs : List A) → length (spread f xs) ≡ n * length xs
  spread-length n h [] = omega arith
  spread-length n h (x ∷ xs) =
      let r : length (spread f xs) ≡ n * length xs = spread-length n h xs in
      let s : length (f x ++ spread f xs) ≡ length (f x) + length (spread f xs) = length-append (f x) (spread f xs) in
      s ∙ rw (h x, r) (sym (omega arith))

  -- and which they are
  pub spread_at : (n : ℕ) → ((x : A) → length (f x) ≡ n) → (xs : List A) (z : A) (i j : ℕ) (d : B) → i < length xs → j < n → get_or (spread f xs) (n * i + j) d ≡ get_or (f (get_or xs i z)) j d
  spread_at n h [] z i j d u v = absurd (let g : i < 0 = u in omega arith)
  spread_at n h (x ∷ xs) z zero j d u v =
      ap (λ (k : ℕ). get_or (f x ++ spread f xs) k d) (let e : n * 0 + j ≡ j = omega arith in e)
      ∙ get_or-append (f x) (spread f xs) d j (omega (arith, h x))
  spread_at n h (x ∷ xs) z (suc i) j d u v =
      ap (λ (k : ℕ). get_or (f x ++ spread f xs) k d) (let e : n * suc i + j ≡ length (f x) + (n * i + j) = rw (h x) (omega arith) in e)
      ∙ get_or-append-add (f x) (spread f xs) (n * i + j) d
      ∙ spread_at n h xs z i j d (let g : suc i < suc (length xs) = u in omega arith) v

  pub spread-each : (g : ℕ → A) (m : ℕ) → spread f (each g m) ≡ chain (λ k. f (g k)) m
  spread-each g zero = refl
  spread-each g (suc m) = spread-append (each g m) (g m ∷ []) ∙ rw (spread-each g m, append-nil)

  -- of a list, by its places
  pub spread-all : (l : List A) (z : A) (m : ℕ) → length l ≡ m → spread f l ≡ chain (λ k. f (get_or l k z)) m
  spread-all l z m e = ap (spread f) (sym (each_all l z m e)) ∙ spread-each (λ k. get_or l k z) m

-- of the first ones of a list, whatever comes after them
pub chain-outer : {A B : Type 0} (f : A → List B) (l r : List A) (z : A) (m : ℕ) → m ≤ length l → chain (λ k. f (get_or l k z)) m ≡ chain (λ k. f (get_or (l ++ r) k z)) m
chain-outer f l r z zero h = refl
chain-outer f l r z (suc m) h = rw (chain-outer f l r z m (omega arith), get_or-append l r z m (omega arith))

-- ---- a loop that lays n numbers a turn: after k turns the first k pieces are laid
module _ {A : Type 0} (g : ℕ → List A) where
  pub chain_length : (n : ℕ) → ((k : ℕ) → length (g k) ≡ n) → (k : ℕ) → length (chain g k) ≡ n * k
  chain_length n h zero = omega arith
  chain_length n h (suc k) =
      let r : length (chain g k) ≡ n * k = chain_length n h k in
      length-append (chain g k) (g k) ∙ rw (h k, r) (omega arith)

  abbrev pub Laying : ℕ → List A → ℕ → ℕ → List A → Type 0
  Laying m l at k now = (k ≤ m) × (length now ≡ length l) × (now ≡ laid l at (chain g k))

  pub laying-more : (n : ℕ) → ((k : ℕ) → length (g k) ≡ n) → (m : ℕ) (l : List A) (at k : ℕ) (now next : List A) → Laying m l at k now → k < m → next ≡ laid now (at + n * k) (g k) → Laying m l at (k + 1) next
  laying-more n h m l at k now next y u e = (
    omega arith,
    rw e (length-laid now (at + n * k) (g k) ∙ y.1),
    e ∙ rw (y.2, add-one k, ← chain_length n h k) (laid-append l at (chain g k) (g k)),
  )

  pub laying-done : (m : ℕ) (l : List A) (at k : ℕ) (now : List A) → Laying m l at k now → m ≤ k → now ≡ laid l at (chain g m)
  laying-done m l at k now y u = let e : k ≡ m = omega (arith, y.0) in y.2 ∙ rw e

-- ---- the same in two windows, of which the second comes after the whole of the first
module _ {A : Type 0} (g h : ℕ → List A) where
  abbrev pub LayingTwo : ℕ → List A → ℕ → ℕ → ℕ → List A → Type 0
  LayingTwo m l at at' k now = (k ≤ m) × (length now ≡ length l) × (now ≡ laid (laid l at (chain g k)) at' (chain h k))

  pub laying-two-more : (n : ℕ) → ((k : ℕ) → length (g k) ≡ n) → ((k : ℕ) → length (h k) ≡ n) → (m : ℕ) (l : List A) (at at' k : ℕ) (now mid next : List A)
      → at + n * k + n ≤ at' → LayingTwo m l at at' k now → k < m → mid ≡ laid now (at + n * k) (g k) → next ≡ laid mid (at' + n * k) (h k) → LayingTwo m l at at' (k + 1) next
  laying-two-more n p q m l at at' k now mid next r y u d e =
      let L : List A = laid l at (chain g k) in
      let first : mid ≡ laid (laid l at (chain g k ++ g k)) at' (chain h k) =
      d
      ∙ ap (λ (b : List A). laid b (at + n * k) (g k)) y.2
      ∙ sym (laid-comm L (at + n * k) (g k) at' (chain h k) (rw (p k) r))
      ∙ ap (λ (x : ℕ). laid (laid L (at + x) (g k)) at' (chain h k)) (sym (chain_length g n p k))
      ∙ ap (λ (b : List A). laid b at' (chain h k)) (laid-append l at (chain g k) (g k)) in
      let second : next ≡ laid (laid l at (chain g k ++ g k)) at' (chain h k ++ h k) =
      e
      ∙ ap₂ (λ (b : List A) (x : ℕ). laid b (at' + x) (h k)) first (sym (chain_length h n q k))
      ∙ laid-append (laid l at (chain g k ++ g k)) at' (chain h k) (h k) in (
        omega arith,
        rw (e, d) (length-laid (laid now (at + n * k) (g k)) (at' + n * k) (h k) ∙ length-laid now (at + n * k) (g k) ∙ y.1),
        rw (add-one k) second,
      )

  pub laying-two-done : (m : ℕ) (l : List A) (at at' k : ℕ) (now : List A) → LayingTwo m l at at' k now → m ≤ k → now ≡ laid (laid l at (chain g m)) at' (chain h m)
  laying-two-done m l at at' k now y u = let e : k ≡ m = omega (arith, y.0) in y.2 ∙ rw e

-- ---- a loop that lays one element a turn
module _ {A : Type 0} (g : ℕ → A) where
  abbrev pub Stored : ℕ → List A → ℕ → ℕ → List A → Type 0
  Stored m l at k now = (k ≤ m) × (length now ≡ length l) × (now ≡ laid l at (each g k))

  one_more_lem : (l : List A) (at k : ℕ) → set (laid l at (each g k)) (at + k) (g k) ≡ laid l at (each g (k + 1))
  one_more_lem l at k =
      ap (λ (p : ℕ). set (laid l at (each g k)) (at + p) (g k)) (sym (length-each g k))
      ∙ sym (laid_one (laid l at (each g k)) (at + length (each g k)) (g k))
      ∙ laid-append l at (each g k) (g k ∷ [])
      ∙ ap (λ (p : ℕ). laid l at (each g p)) (sym (add-one k))

  pub stored_more : (m : ℕ) (l : List A) (at k : ℕ) (now : List A) → Stored m l at k now → k < m → Stored m l at (k + 1) (set now (at + k) (g k))
  stored_more m l at k now y u =
      (omega arith, length-set now (at + k) (g k) ∙ y.1, ap (λ (b : List A). set b (at + k) (g k)) y.2 ∙ one_more_lem l at k)

  -- the same from the buffer's start
  pub stored_next : (m : ℕ) (l : List A) (k : ℕ) (now : List A) → Stored m l 0 k now → k < m → Stored m l 0 (k + 1) (set now k (g k))
  stored_next m l k now y u = rw (zero-add k) at (stored_more m l 0 k now y u)

  pub stored-all : (m : ℕ) (l : List A) (at k : ℕ) (now : List A) → Stored m l at k now → m ≤ k → now ≡ laid l at (each g m)
  stored-all m l at k now y u = let e : k ≡ m = omega (arith, y.0) in y.2 ∙ rw e

-- f of each element of a list
module _ {A B : Type 0} (f : B → A) (xs : List B) (z : B) where
  abbrev pub Copied : List A → ℕ → ℕ → List A → Type 0
  Copied = Stored (λ j. f (get_or xs j z)) (length xs)

  pub copied_more : (l : List A) (at k : ℕ) (now : List A) → Copied l at k now → k < length xs → Copied l at (k + 1) (set now (at + k) (f (get_or xs k z)))
  copied_more = stored_more (λ j. f (get_or xs j z)) (length xs)

  pub copied_all : (l : List A) (at k : ℕ) (now : List A) → Copied l at k now → length xs ≤ k → now ≡ laid l at (map f xs)
  copied_all l at k now y u = stored-all (λ j. f (get_or xs j z)) (length xs) l at k now y u ∙ ap (laid l at) (each_map f xs z (length xs) refl)
