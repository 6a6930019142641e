-- One list after another, from the places of both. Assumes nothing.
use mathlib.Core.Path.{◌≡◌, sym, ap, ◌∙◌}
use mathlib.Core.Bool.{Bool, true, false, not}
use mathlib.Core.List.{List, ◌++◌}
use Prim.Native.Nat.{ℕ, ◌+◌, ◌-◌, ◌≤◌, ◌<◌}
use native.Mathlib.Omega.{arith}
use lib.Dec.{T, ltb, ltb→lt, nltb→le}
use lib.ListN.{length, get_or, length-append, get_or-append}
use lib.Seq.{get_or-append-add}
use Rattle.std.proofs.lemmas.List.{ext_get_or}

pub joined_is : {A : Type 0} (d : A) (a b out : List A) (n : ℕ)
    → length a ≡ n → length b ≡ n → length out ≡ n + n
    → ((k : ℕ) → k < n → get_or out k d ≡ get_or a k d) → ((k : ℕ) → k < n → get_or out (n + k) d ≡ get_or b k d) → out ≡ a ++ b
joined_is d a b out n la lb lo fa fb = ext_get_or d out (a ++ b) (lo ∙ sym (length-append a b ∙ omega (arith, la, lb))) (λ i h. at i h)
  where
    at : (i : ℕ) → i < length out → get_or out i d ≡ get_or (a ++ b) i d
    at i h = go (ltb i n) (ltb→lt i n) (nltb→le i n)
      where
        go : (x : Bool) → (T x → i < n) → (T (not x) → n ≤ i) → get_or out i d ≡ get_or (a ++ b) i d
        go true y z = fa i (y tt) ∙ sym (get_or-append a b d i (omega (arith, la, y tt)))
        go false y z =
            let k : ℕ = i - n in
            let e : i ≡ n + k = omega (arith, z tt) in
            let f : length a + k ≡ i = omega (arith, la, z tt) in
            ap (λ (x : ℕ). get_or out x d) e ∙ fb k (omega (arith, lo, z tt)) ∙ sym (get_or-append-add a b k d) ∙ ap (λ (x : ℕ). get_or (a ++ b) x d) f
