-- Pieces of a file laid one after another. Assumes nothing.
use mathlib.Core.Path.{◌≡◌, refl, ◌∙◌}
use mathlib.Core.List.{List, [], ◌∷◌, ◌++◌}
use Prim.Native.Nat.{ℕ, ◌+◌}
use native.Mathlib.Numerals.{towards_suc}
use native.Mathlib.Omega.{arith}
use lib.ListN.{length, set, replicate}
use Rattle.patterns.specs.Patterns.{bytes_of}
use Rattle.face.specs.declared.vec.Vec3.{Vec3}
use Rattle.face.specs.Lists.{chain}
use Rattle.buffers.specs.Laying.{laid}
use Rattle.buffers.proofs.Laid.{laid-append, laid-two}
use Rattle.stl.specs.declared.Facet.{Facet}
use Rattle.stl.specs.File.{facet, point_bytes, facet_bytes, head_bytes, file_bytes}

pub laid-four : {A : Type 0} (l : List A) (at : ℕ) (a b c d : A) → set (set (set (set l at a) (at + 1) b) (at + 2) c) (at + 3) d ≡ laid l at (a ∷ b ∷ c ∷ d ∷ [])
unfolding laid
laid-four l at a b c d = simp towards_suc

-- one list after another, at its place
next : {A : Type 0} (l : List A) (at to : ℕ) (xs ys : List A) → to ≡ at + length xs → laid (laid l at xs) to ys ≡ laid l at (xs ++ ys)
next l at to xs ys e = rw e (laid-append l at xs ys)

pub point-laid : (l : List ℕ) (at a b c : ℕ) → laid (laid (laid l at (bytes_of a)) (at + 4) (bytes_of b)) (at + 8) (bytes_of c) ≡ laid l at (bytes_of a ++ (bytes_of b ++ bytes_of c))
point-laid l at a b c =
    let e : at + 8 ≡ at + 4 + 4 = omega arith in
    next (laid l at (bytes_of a)) (at + 4) (at + 8) (bytes_of b) (bytes_of c) e ∙ next l at (at + 4) (bytes_of a) (bytes_of b ++ bytes_of c) refl

zeros-laid : (l : List ℕ) (at : ℕ) → set (set l (at + 48) 0) (at + 49) 0 ≡ laid l (at + 48) (0 ∷ 0 ∷ [])
zeros-laid l at =
    let e : at + 49 ≡ at + 48 + 1 = omega arith in
    rw e (laid-two l (at + 48) 0 0)

pub facet-laid : (l : List ℕ) (at : ℕ) (n a b c : Vec3)
    → set (set (laid (laid (laid (laid l at (point_bytes n)) (at + 12) (point_bytes a)) (at + 24) (point_bytes b)) (at + 36) (point_bytes c)) (at + 48) 0) (at + 49) 0 ≡ laid l at (facet_bytes (facet n a b c))
facet-laid l at n a b c =
    let p : at + 48 ≡ at + 36 + 12 = omega arith in
    let q : at + 36 ≡ at + 24 + 12 = omega arith in
    let r : at + 24 ≡ at + 12 + 12 = omega arith in
    let two : List ℕ = 0 ∷ 0 ∷ [] in
    let L = laid l at (point_bytes n) in
    let M = laid L (at + 12) (point_bytes a) in
    let N = laid M (at + 24) (point_bytes b) in
    zeros-laid (laid N (at + 36) (point_bytes c)) at
    ∙ next N (at + 36) (at + 48) (point_bytes c) two p
    ∙ next M (at + 24) (at + 36) (point_bytes b) (point_bytes c ++ two) q
    ∙ next L (at + 12) (at + 24) (point_bytes a) (point_bytes b ++ (point_bytes c ++ two)) r
    ∙ next l at (at + 12) (point_bytes n) (point_bytes a ++ (point_bytes b ++ (point_bytes c ++ two))) refl

pub head-laid : (l : List ℕ) (t : ℕ) → laid (laid l 0 (replicate 80 0)) 80 (bytes_of t) ≡ laid l 0 (head_bytes t)
head-laid l t = next l 0 80 (replicate 80 0) (bytes_of t) refl

pub file-laid : (l : List ℕ) (f : ℕ → Facet) (t : ℕ) → laid (laid l 0 (head_bytes t)) 84 (chain (λ k. facet_bytes (f k)) t) ≡ laid l 0 (file_bytes f t)
file-laid l f t = next l 0 84 (head_bytes t) (chain (λ k. facet_bytes (f k)) t) refl
