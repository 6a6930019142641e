-- Single stores, one after another, are one list laid. Assumes nothing.
use mathlib.Core.Path.{◌≡◌, refl, sym, ap, ap₂, ◌∙◌}
use mathlib.Core.Bool.{Bool, true, false, cond, ◌&&◌}
use mathlib.Core.List.{List, [], ◌∷◌}
use Prim.Native.Nat.{ℕ, ◌+◌, ◌*◌, ◌≤◌}
use native.Mathlib.Numerals.{add-one}
use native.Mathlib.Omega.{arith}
use borrow.Author.Tests.{leb-true}
use lib.ListN.{length, set, length-set}
use lib.Dec.{leb}
use lib.Ieee.{Float, nan}
use borrow.Rule.Slice.PartMut.{put_mid}
use Rattle.face.specs.Lists.{chain}
use Rattle.face.proofs.Filling.{each_all}
use Rattle.answer.specs.Checks.{cell_count}
use Rattle.buffers.specs.Laying.{spread, laid}
use Rattle.buffers.proofs.Copying.{put-laid}
use Rattle.buffers.proofs.Laid.{laid-three, laid-append, laid-nothing, chain_length, spread-all}
use Rattle.cells.specs.Cells.{no_cell, cell_at, ends_of, numbers_of, neighbours_of, loadable, load_count, numbers_to, neighbours_to, numbers_loaded, neighbours_loaded}
use Rattle.cells.specs.declared.Cell.{Cell}

-- ---- a cell's three numbers and its ends after them, and its neighbours
module _ (c : Cell) (h : length c.ends ≡ 24) (h' : length c.neighbours ≡ 6) where
  pub cell-laid : (l : List Float) (at k : ℕ) (ys : List Float) → at + 27 ≤ length l → k ≡ 24 → ys ≡ c.ends
      → put_mid (at + 3) k (set (set (set l at c.height) (at + 1) c.x) (at + 2) c.z) ys ≡ laid l at (numbers_of c)
  unfolding numbers_of
  cell-laid l at k ys r e p =
      put-laid _ (at + 3) c.ends k ys (simp length-set (omega arith)) (h ∙ sym e) p
      ∙ ap₂ (λ (b es : List Float). laid b (at + 3) es) (laid-three l at c.height c.x c.z) (sym (each_all c.ends nan 24 h))
      ∙ laid-append l at (c.height ∷ c.x ∷ c.z ∷ []) (ends_of c.ends)

  pub words-laid : (l : List ℕ) (at k : ℕ) (ys : List ℕ) → at + 6 ≤ length l → k ≡ 6 → ys ≡ c.neighbours → put_mid at k l ys ≡ laid l at (neighbours_of c)
  unfolding neighbours_of
  words-laid l at k ys r e p = put-laid l at c.neighbours k ys (omega arith) (h' ∙ sym e) p ∙ ap (laid l at) (sym (each_all c.neighbours 0 6 h'))

pub numbers-27 : (c : Cell) → length (numbers_of c) ≡ 27
unfolding numbers_of
numbers-27 c = refl

pub neighbours-6 : (c : Cell) → length (neighbours_of c) ≡ 6
unfolding neighbours_of
neighbours-6 c = refl

-- ---- one cell more
more-laid : {A : Type 0} (g : ℕ → List A) (n : ℕ) → ((k : ℕ) → length (g k) ≡ n) → (l z w : List A) (k : ℕ) → z ≡ laid l 0 (chain g k) → w ≡ laid z (n * k) (g k) → w ≡ laid l 0 (chain g (k + 1))
more-laid g n h l z w k e f =
    let at : n * k ≡ 0 + length (chain g k) = omega (arith, chain_length g n h k) in
    f
    ∙ ap₂ (λ (b : List _) (p : ℕ). laid b p (g k)) e at
    ∙ laid-append l 0 (chain g k) (g k)
    ∙ ap (λ (p : ℕ). laid l 0 (chain g p)) (sym (add-one k))

pub numbers_more : (cs : List Cell) (l z w : List Float) (k : ℕ) → z ≡ numbers_to cs k l → w ≡ laid z (27 * k) (numbers_of (cell_at cs k)) → w ≡ numbers_to cs (k + 1) l
unfolding numbers_to
numbers_more cs l z w k e f = more-laid (λ j. numbers_of (cell_at cs j)) 27 (λ j. numbers-27 (cell_at cs j)) l z w k e f

pub neighbours-more : (cs : List Cell) (l z w : List ℕ) (k : ℕ) → z ≡ neighbours_to cs k l → w ≡ laid z (6 * k) (neighbours_of (cell_at cs k)) → w ≡ neighbours_to cs (k + 1) l
unfolding neighbours_to
neighbours-more cs l z w k e f = more-laid (λ j. neighbours_of (cell_at cs j)) 6 (λ j. neighbours-6 (cell_at cs j)) l z w k e f

pub numbers-none : (cs : List Cell) (l : List Float) → l ≡ numbers_to cs 0 l
unfolding numbers_to
numbers-none cs l = sym (laid-nothing l 0)

pub neighbours-none : (cs : List Cell) (l : List ℕ) → l ≡ neighbours_to cs 0 l
unfolding neighbours_to
neighbours-none cs l = sym (laid-nothing l 0)

-- ---- a whole load: all cells or none
loads-by : (n l m r : ℕ) (a b c : Bool) → leb (27 * n) l ≡ b → leb (6 * n) m ≡ c → r ≡ cond (a && (b && c)) n 0 → (r ≤ n) × (27 * r ≤ l) × (6 * r ≤ m)
loads-by n l m r false b c p q e = let z : r ≡ 0 = e in (omega arith, omega arith, omega arith)
loads-by n l m r true false c p q e = let z : r ≡ 0 = e in (omega arith, omega arith, omega arith)
loads-by n l m r true true false p q e = let z : r ≡ 0 = e in (omega arith, omega arith, omega arith)
loads-by n l m r true true true p q e = let z : r ≡ n = e in (omega arith, omega (arith, leb-true (27 * n) l p), omega (arith, leb-true (6 * n) m q))

pub loads-fit : (n l m r : ℕ) → r ≡ load_count n l m → (r ≤ n) × (27 * r ≤ l) × (6 * r ≤ m)
unfolding load_count
loads-fit n l m r e = loads-by n l m r (cell_count n) (leb (27 * n) l) (leb (6 * n) m) refl refl e

loaded-by : {A : Type 0} (f : Cell → List A) (cs : List Cell) (l : List A) (b : Bool) → laid l 0 (chain (λ k. f (cell_at cs k)) (cond b (length cs) 0)) ≡ cond b (laid l 0 (spread f cs)) l
loaded-by f cs l true = ap (laid l 0) (sym (spread-all f cs no_cell (length cs) refl))
loaded-by f cs l false = laid-nothing l 0

pub numbers-loaded : (cs : List Cell) (l : List Float) (m : List ℕ) (r : ℕ) (w : List Float) → r ≡ load_count (length cs) (length l) (length m) → w ≡ numbers_to cs r l → w ≡ numbers_loaded cs l m
unfolding load_count numbers_to numbers_loaded
numbers-loaded cs l m r w e f = f ∙ ap (λ (k : ℕ). numbers_to cs k l) e ∙ loaded-by numbers_of cs l (loadable (length cs) (length l) (length m))

pub neighbours-loaded : (cs : List Cell) (l : List Float) (m : List ℕ) (r : ℕ) (w : List ℕ) → r ≡ load_count (length cs) (length l) (length m) → w ≡ neighbours_to cs r m → w ≡ neighbours_loaded cs l m
unfolding load_count neighbours_to neighbours_loaded
neighbours-loaded cs l m r w e f = f ∙ ap (λ (k : ℕ). neighbours_to cs k m) e ∙ loaded-by neighbours_of cs m (loadable (length cs) (length l) (length m))
