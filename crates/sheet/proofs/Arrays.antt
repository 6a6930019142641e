-- What the library's calls that make an array make. Assumes nothing.
use mathlib.Core.Path.{◌≡◌, refl, sym, ◌∙◌}
use mathlib.Core.Bool.{Bool, true, false}
use mathlib.Core.List.{List, map}
use Prim.Native.Nat.{ℕ, zero, suc, ◌+◌, ◌≤◌, ◌<◌}
use native.Mathlib.Omega.{arith}
use borrow.Author.Tests.{ltb-true, ltb-false}
use lib.Dec.{ltb}
use lib.ListN.{length, get_or}
use denote.Param.Members.{Mut, Called}
use Rattle.std.specs.Array.{IsMapOf, IsFromFnResult, IsFromFnResultFrom}
use Rattle.std.proofs.lemmas.List.{ext_get_or, length-map}
use Rattle.face.specs.Lists.{each}
use Rattle.face.proofs.Filling.{map_at, each_at, length-each}

-- `map` by a function that answers g of its argument
pub mapped : {F A B : Type 0} (m : Mut F (A × Unit {0}) B) (f : F) (g : A → B) (xs : List A) (ys : List B) (n : ℕ) (d : A) (e : B) → length xs ≡ n → IsMapOf m f xs ys n → ((p q : F) (x : A) (y : B) → Called m p (x, tt {0}) y q → y ≡ g x) → ys ≡ map g xs
mapped m f g xs ys n d e l h answers =
    let k : length ys ≡ length (map g xs) = omega (arith, h.long, l, length-map xs g) in
    ext_get_or e ys (map g xs) k
    (λ i u. let b : i < n = omega (arith, h.long) in let c = h.at i d e b in answers c.0 c.1 (get_or xs i d) (get_or ys i e) c.2 ∙ sym (map_at g xs d e n i l b))

-- `from_fn` by a closure that answers g of each index and stays as it is, in the part of it that matters
module _ {F B C : Type 0} (m : Mut F (ℕ × Unit {0}) B) (g : ℕ → B) (part : F → C) (c : C) (answers : (p q : F) (i : ℕ) (y : B) → part p ≡ c → Called m p (i, tt {0}) y q → (y ≡ g i) × (part q ≡ c)) where
  made_at : (n i : ℕ) (f : F) (ys : List B) (j : ℕ) (d : B) → part f ≡ c → IsFromFnResultFrom m f ys i n → i ≤ j → j < i + n → get_or ys j d ≡ g j
  made_at zero i f ys j d s h a b = absurd (omega arith)
  made_at (suc n) i f ys j d s h a b =
      let t : (h.1 ≡ g i) × (part h.0 ≡ c) = answers f h.0 i h.1 s h.3 in
      go t (ltb i j) refl (λ k l. made_at n (i + 1) h.0 ys j d t.1 h.4 k l)
    where
      go : (h.1 ≡ g i) × (part h.0 ≡ c) → (x : Bool) → ltb i j ≡ x → (i + 1 ≤ j → j < i + 1 + n → get_or ys j d ≡ g j) → get_or ys j d ≡ g j
      go t true e r = let l : i < j = ltb-true i j e in r (omega arith) (omega arith)
      go t false e r = let k : j ≡ i = (let l : j ≤ i = ltb-false i j e in omega arith) in rw k (h.2.1 d ∙ t.0)

  pub made : (f : F) (ys : List B) (n : ℕ) (d : B) → part f ≡ c → IsFromFnResult m f ys n → ys ≡ each g n
  made f ys n d s h =
      let k : length ys ≡ length (each g n) = h.long ∙ sym (length-each g n) in
      ext_get_or d ys (each g n) k
      (λ j u. let b : j < n = omega (arith, h.long) in made_at n 0 f ys j d s h.each (omega arith) (omega arith) ∙ sym (each_at g n j d b))
