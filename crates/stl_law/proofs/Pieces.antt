-- Lists cut into pieces of one length and put together again, of any kind of element. Assumes nothing.
use mathlib.Core.Path.{◌≡◌, sym, ap, ◌∙◌}
use mathlib.Core.List.{List, ◌++◌}
use Prim.Native.Nat.{ℕ, zero, suc, ◌+◌, ◌*◌, ◌<◌, ◌≤◌}
use native.Mathlib.Nat.{zero-add}
use native.Mathlib.Omega.{arith}
use lib.ListN.{length, get_or, take, drop, length-drop}
use lib.Seq.{length-take-le, get_or-take, get_or-drop, take-add, drop-drop, ext_get_or}
use Rattle.face.specs.Lists.{each, chain}
use Rattle.face.proofs.Filling.{length-each, each_same, each_at, each_all}
use Rattle.buffers.specs.Laying.{laid}
use Rattle.buffers.proofs.Laid.{length-laid, laid-inside, spread_at, spread-each}

module _ {A : Type 0} where
  -- what is laid at the start of a buffer stands there
  pub take-laid : (d : A) (l xs : List A) (n : ℕ) → length xs ≡ n → n ≤ length l → take n (laid l 0 xs) ≡ xs
  take-laid d l xs n e h =
      let long : length (take n (laid l 0 xs)) ≡ n = length-take-le n (laid l 0 xs) (rw (length-laid l 0 xs) h) in
      ext_get_or d (take n (laid l 0 xs)) xs (long ∙ sym e) (λ i u.
      get_or-take n (laid l 0 xs) i d (omega (arith, long))
      ∙ ap (λ (p : ℕ). get_or (laid l 0 xs) p d) (sym (zero-add i))
      ∙ laid-inside l 0 xs i d (omega (arith, long, e)) (omega (arith, long)))

  -- a part of a list, and the part after it
  pub part-add : (l : List A) (p n m : ℕ) → take n (drop p l) ++ take m (drop (p + n) l) ≡ take (n + m) (drop p l)
  part-add l p n m = rw (← drop-drop n p l) (sym (take-add n m (drop p l)))

  -- m parts of one length, one after another
  pub parts : (l : List A) (p n m : ℕ) → chain (λ k. take n (drop (p + n * k) l)) m ≡ take (n * m) (drop p l)
  parts l p n zero = ap (λ (k : ℕ). take k (drop p l)) (let e : 0 ≡ n * 0 = omega arith in e)
  parts l p n (suc m) =
      rw (parts l p n m)
      (part-add l p (n * m) n ∙ ap (λ (k : ℕ). take k (drop p l)) (let e : n * m + n ≡ n * suc m = omega arith in e))

  -- a part by its places
  pub part-each : (d : A) (l : List A) (p n : ℕ) → p + n ≤ length l → take n (drop p l) ≡ each (λ j. get_or l (p + j) d) n
  part-each d l p n h =
      let long : length (take n (drop p l)) ≡ n = length-take-le n (drop p l) (simp length-drop (omega arith)) in
      sym (each_all (take n (drop p l)) d n long)
      ∙ each_same _ _ n (λ j u. get_or-take n (drop p l) j d u ∙ get_or-drop p l j d)

-- what the k-th piece holds
pub chain-at : {A B : Type 0} (f : A → List B) (n : ℕ) → ((x : A) → length (f x) ≡ n) → (g : ℕ → A) (m k j : ℕ) (d : B) → k < m → j < n
    → get_or (chain (λ i. f (g i)) m) (n * k + j) d ≡ get_or (f (g k)) j d
chain-at f n h g m k j d u v =
    ap (λ (l : List _). get_or l (n * k + j) d) (sym (spread-each f g m))
    ∙ spread_at f n h (each g m) (g k) k j d (omega (arith, length-each g m)) v
    ∙ rw (each_at g m k (g k) u)
