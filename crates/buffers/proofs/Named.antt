-- A list of names with the mesh of each, whatever the names are: where a name stands, what lies before it, and laying it
-- there. Assumes nothing.
use mathlib.Core.Path.{◌≡◌, refl, sym, ap, ap₂, subst, ◌∙◌}
use mathlib.Core.Logic.{◌⊎◌, inl, inr}
use mathlib.Core.Bool.{true}
use mathlib.Core.List.{List, [], ◌∷◌, ◌++◌, map, map-append, append_assoc, append-nil}
use Prim.Native.Nat.{ℕ, zero, suc, ◌+◌, ◌-◌, ◌<◌}
use native.Mathlib.Nat.{eq-or-lt_of_le, le_of_suc-le-suc}
use native.Mathlib.Omega.{arith}
use lib.ListN.{length, get_or, take, length-append, length-map}
use lib.Seq.{get_or_at}
use Rattle.face.specs.declared.triangle.Counts.{Counts}
use Rattle.face.specs.Lists.{each, chain}
use Rattle.face.proofs.Filling.{length-each, each_at}
use Rattle.buffers.specs.Mesh.{Mesh, none, also, size_of, measure, start_of, summed}
use Rattle.buffers.specs.Laying.{Buffers, fits, lay_one, laid_if_fits}
use Rattle.buffers.specs.Windows.{face_at}
use Rattle.buffers.proofs.Joined.{measure-append}
use Rattle.buffers.proofs.Windows.{also-assoc, also-none, none-also}
use Rattle.buffers.proofs.Each.{one-laid}

-- ---- a name stands at a number of a list
pub record Stands {N : Type 0} (names : List N) (k : ℕ) (n : N) : Type 0 where
  pub before : List N
  pub rest : List N
  pub all : names ≡ before ++ (n ∷ rest)
  pub number : length before ≡ k

module _ {N : Type 0} where
  -- g i and what follows it, m lists in all
  abbrev following : (ℕ → List N) → ℕ → ℕ → List N
  following g i zero = []
  following g i (suc m) = g i ++ following g (suc i) m

  chain-split : (g : ℕ → List N) (i m : ℕ) → chain g (i + m) ≡ chain g i ++ following g i m
  chain-split g i zero = ap (chain g) (let e : i + 0 ≡ i = omega arith in e) ∙ sym (append-nil (chain g i))
  chain-split g i (suc m) =
      ap (chain g) (let e : i + suc m ≡ suc i + m = omega arith in e)
      ∙ chain-split g (suc i) m
      ∙ append_assoc (chain g i) (g i) (following g (suc i) m)

  -- the chain before its i-th list, that list, and those behind it
  chain-around : (g : ℕ → List N) (m i : ℕ) → i < m → chain g m ≡ chain g i ++ (g i ++ following g (suc i) (m - suc i))
  chain-around g m i h = ap (chain g) (let e : m ≡ i + suc (m - suc i) = omega arith in e) ∙ chain-split g i (suc (m - suc i))

  pub stands-name : (names : List N) (k : ℕ) (n z : N) → Stands names k n → get_or names k z ≡ n
  stands-name names k n z s = ap (λ (l : List N). get_or l k z) s.all ∙ get_or_at s.before n s.rest z k s.number

  pub stands-below : (names : List N) (k : ℕ) (n : N) → Stands names k n → k < length names
  stands-below names k n s = rw (s.all, length-append s.before (n ∷ s.rest)) (omega (arith, s.number))

  pub stands-first : (n : N) (rest : List N) → Stands (n ∷ rest) 0 n
  stands-first n rest = record { before = []; rest = rest; all = refl; number = refl }

  -- more names behind, and before
  pub stands-left : (xs ys : List N) (k : ℕ) (n : N) → Stands xs k n → Stands (xs ++ ys) k n
  stands-left xs ys k n s =
      record {
        before = s.before;
        rest = s.rest ++ ys;
        all = ap (λ (l : List N). l ++ ys) s.all ∙ append_assoc s.before (n ∷ s.rest) ys;
        number = s.number;
      }

  pub stands-right : (xs ys : List N) (k : ℕ) (n : N) → Stands ys k n → Stands (xs ++ ys) (length xs + k) n
  stands-right xs ys k n s =
      record {
        before = xs ++ s.before;
        rest = s.rest;
        all = ap (λ (l : List N). xs ++ l) s.all ∙ sym (append_assoc xs s.before (n ∷ s.rest));
        number = length-append xs s.before ∙ ap (λ (i : ℕ). length xs + i) s.number;
      }

  -- the name of a number
  pub stands_at : (names : List N) (k : ℕ) (z : N) → k < length names → Stands names k (get_or names k z)
  stands_at (n ∷ names) zero z h = stands-first n names
  stands_at (n ∷ names) (suc k) z h =
      let s = stands_at names k z (let g : suc k < suc (length names) = h in omega arith) in
      record { before = n ∷ s.before; rest = s.rest; all = ap (λ (l : List N). n ∷ l) s.all; number = ap suc s.number }
  stands_at [] k z h = absurd (let g : k < 0 = h in omega arith)

  pub stands-each : (g : ℕ → N) (n j : ℕ) → j < n → Stands (each g n) j (g j)
  stands-each g n j h = subst (λ (x : N). Stands (each g n) j x) (each_at g n j (g j) h) (stands_at (each g n) j (g j) (rw (length-each g n) h))

  -- in the i-th of a chain of lists
  pub stands-chain : (g : ℕ → List N) (m i j : ℕ) (n : N) → i < m → Stands (g i) j n → Stands (chain g m) (length (chain g i) + j) n
  stands-chain g m i j n h s =
      subst (λ (l : List N). Stands l (length (chain g i) + j) n)
      (sym (chain-around g m i h))
      (stands-right (chain g i) (g i ++ following g (suc i) (m - suc i)) j n (stands-left (g i) (following g (suc i) (m - suc i)) j n s))

  pub chain-name : (g : ℕ → List N) (m i j : ℕ) (z : N) → i < m → j < length (g i) → get_or (chain g m) (length (chain g i) + j) z ≡ get_or (g i) j z
  chain-name g m i j z h l = stands-name (chain g m) (length (chain g i) + j) (get_or (g i) j z) z (stands-chain g m i j (get_or (g i) j z) h (stands_at (g i) j z l))

take-before : {A : Type 0} (xs ys : List A) (k : ℕ) → length xs ≡ k → take k (xs ++ ys) ≡ xs
take-before [] ys zero e = refl
take-before [] ys (suc k) e = absurd (let g : 0 ≡ suc k = e in omega arith)
take-before (x ∷ xs) ys zero e = absurd (let g : suc (length xs) ≡ 0 = e in omega arith)
take-before (x ∷ xs) ys (suc k) e = ap (λ l. x ∷ l) (take-before xs ys k (let g : suc (length xs) ≡ suc k = e in omega arith))

-- ---- with the mesh of a name
module _ {N : Type 0} (f : N → Mesh) where
  pub measure-map : (xs ys : List N) → measure (map f (xs ++ ys)) ≡ also (measure (map f xs)) (measure (map f ys))
  measure-map xs ys = ap measure (map-append f xs ys) ∙ measure-append (map f xs) (map f ys)

  pub chain-sum : (g : ℕ → List N) (c : ℕ → Counts) → ((i : ℕ) → measure (map f (g i)) ≡ c i) → (m : ℕ) → measure (map f (chain g m)) ≡ summed c m
  chain-sum g c h zero = refl
  chain-sum g c h (suc m) = measure-map (chain g m) (g m) ∙ ap₂ also (chain-sum g c h m) (h m)

  -- what lies before a name is where its number starts
  pub stands-start : (names : List N) (k : ℕ) (n : N) (s : Stands names k n) → measure (map f s.before) ≡ start_of (map f names) k
  stands-start names k n s =
      sym (ap (λ (l : List Mesh). measure (take k l)) (ap (map f) s.all ∙ map-append f s.before (n ∷ s.rest))
      ∙ ap measure (take-before (map f s.before) (map f (n ∷ s.rest)) k (length-map s.before f ∙ s.number)))

  -- where a number starts with more names behind, and before
  pub start_left : (xs ys : List N) (k : ℕ) → k < length xs → start_of (map f (xs ++ ys)) k ≡ start_of (map f xs) k
  start_left [] ys k h = absurd (let g : k < 0 = h in omega arith)
  start_left (x ∷ xs) ys zero h = refl
  start_left (x ∷ xs) ys (suc k) h = ap (also (size_of (f x))) (start_left xs ys k (let g : suc k < suc (length xs) = h in omega arith))

  pub start_right : (xs ys : List N) (k : ℕ) → start_of (map f (xs ++ ys)) (length xs + k) ≡ also (measure (map f xs)) (start_of (map f ys) k)
  start_right [] ys k = ap (start_of (map f ys)) (let e : 0 + k ≡ k = omega arith in e) ∙ sym (none-also (start_of (map f ys) k))
  start_right (x ∷ xs) ys k =
      ap (start_of (map f (x ∷ (xs ++ ys)))) (let e : suc (length xs) + k ≡ suc (length xs + k) = omega arith in e)
      ∙ ap (also (size_of (f x))) (start_right xs ys k)
      ∙ sym (also-assoc (size_of (f x)) (measure (map f xs)) (start_of (map f ys) k))

  pub each_start : (g : ℕ → N) (n j : ℕ) → j < n → start_of (map f (each g n)) j ≡ measure (map f (each g j))
  each_start g zero j h = absurd (let x : j < 0 = h in omega arith)
  each_start g (suc n) j h = go (eq-or-lt_of_le (le_of_suc-le-suc h)) (each_start g n j)
    where
      go : (j ≡ n) ⊎ (j < n) → (j < n → start_of (map f (each g n)) j ≡ measure (map f (each g j))) → start_of (map f (each g n ++ (g n ∷ []))) j ≡ measure (map f (each g j))
      go (inl e) r =
          ap (start_of (map f (each g n ++ (g n ∷ [])))) (let x : j ≡ length (each g n) + 0 = omega (arith, length-each g n, e) in x)
          ∙ start_right (each g n) (g n ∷ []) 0
          ∙ also-none (measure (map f (each g n)))
          ∙ ap (λ (i : ℕ). measure (map f (each g i))) (sym e)
      go (inr l) r = start_left (each g n) (g n ∷ []) j (omega (arith, length-each g n)) ∙ r l

  -- the face of a number in the i-th of a chain of lists: what lies before it
  pub chain-start : (g : ℕ → List N) (m i j : ℕ) → i < m → j < length (g i) → start_of (map f (chain g m)) (length (chain g i) + j) ≡ also (measure (map f (chain g i))) (start_of (map f (g i)) j)
  chain-start g m i j h l =
      let rest : List N = following g (suc i) (m - suc i) in
      ap (λ (x : List N). start_of (map f x) (length (chain g i) + j)) (chain-around g m i h)
      ∙ start_right (chain g i) (g i ++ rest) j
      ∙ ap (also (measure (map f (chain g i)))) (start_left (g i) rest j l)

  -- laid by itself where the whole has room, it is the face of its number
  pub stands-laid : (names : List N) (k : ℕ) (n : N) (B : Buffers) → Stands names k n → fits none (measure (map f names)) B ≡ true
      → laid_if_fits (f n) (start_of (map f names) k) B ≡ lay_one (map f names) k none B
  stands-laid names k n B s e =
      let all : map f names ≡ map f s.before ++ (f n ∷ map f s.rest) = ap (map f) s.all ∙ map-append f s.before (n ∷ s.rest) in
      ap (λ (c : Counts). laid_if_fits (f n) c B) (sym (stands-start names k n s))
      ∙ one-laid (map f s.before) (f n) (map f s.rest) B (subst (λ (l : List Mesh). fits none (measure l) B ≡ true) all e)
      ∙ ap₂ (λ (l : List Mesh) (i : ℕ). lay_one l i none B) (sym all) (length-map s.before f ∙ s.number)

  -- what holds of each name's mesh holds of each face
  pub names-all : (P : Mesh → Type 0) → ((n : N) → P (f n)) → (ns : List N) (k : ℕ) → k < length (map f ns) → P (face_at (map f ns) k)
  names-all P h [] k u = absurd (let g : k < 0 = u in omega arith)
  names-all P h (n ∷ ns) zero u = h n
  names-all P h (n ∷ ns) (suc k) u = names-all P h ns k (let g : suc k < suc (length (map f ns)) = u in omega arith)
