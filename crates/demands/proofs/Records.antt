-- Cells as records: what a load leaves, that its job is the job of the records, and that each field is read where it was
-- put, so that no two lists of records load alike. Assumes nothing.
use mathlib.Core.Path.{◌≡◌, refl, sym, ap, ap₂, subst, ◌∙◌}
use mathlib.Core.Logic.{inr}
use mathlib.Core.Bool.{Bool, true, false, cond, ◌&&◌}
use mathlib.Core.List.{List, [], ◌∷◌, ◌++◌, head-eq_of_cons-eq, tail-eq_of_cons-eq}
use Prim.Native.Nat.{ℕ, suc, ◌+◌, ◌*◌, ◌≤◌, ◌<◌}
use native.Mathlib.Omega.{arith}
use borrow.Author.Tests.{leb-true}
use lib.ListN.{length, get_or, take, drop, length-append}
use lib.Seq.{set_at, take_at, drop_at, append_snoc, get_or-append-add}
use lib.Dec.{leb}
use lib.Ieee.{Float, nan}
use Rattle.face.specs.declared.triangle.Counts.{Counts}
use Rattle.face.specs.Vec.{v2}
use Rattle.face.proofs.Filling.{each_at, each_all}
use Rattle.answer.specs.declared.answer.Refusal.{Refusal}
use Rattle.answer.specs.declared.answer.Refusal.TheVariants.{Shape}
use Rattle.answer.specs.Answers.{Answer}
use Rattle.std.specs.Prelude.{Ok, Err}
use Rattle.answer.specs.Checks.{cell_count}
use Rattle.buffers.specs.Mesh.{none}
use Rattle.buffers.specs.Laying.{laid}
use Rattle.buffers.proofs.Laid.{spread-length, spread_at, laid-outside}
use Rattle.heightmap.specs.declared.HeightMap.{HeightMap}
use Rattle.heightmap.specs.HeightMap.{lists}
use Rattle.heightmap.specs.Grid.{grid, cells_in, height_at, position_at, left_at, right_at, nobody, neighbour_at}
use Rattle.cells.specs.declared.Cell.{Cell}
use Rattle.cells.specs.Cells.{no_cell, cell_at, ends_of, numbers_of, neighbours_of, flat_numbers, flat_neighbours, loadable, load_answer, numbers_loaded, neighbours_loaded}
use Rattle.cells.proofs.Storing.{numbers-27, neighbours-6}
use Rattle.demands.specs.Job.{OfMap}
use Rattle.demands.specs.Records.{of_records, of_parts, Whole, AllWhole}

-- ---- a list laid from the start of a longer one
laid-after : {A : Type 0} (p l xs : List A) (n : ℕ) → length p ≡ n → length xs ≤ length l → laid (p ++ l) n xs ≡ p ++ (xs ++ drop (length xs) l)
unfolding laid
laid-after p l [] n e h = refl
laid-after p [] (x ∷ xs) n e h = absurd (let g : suc (length xs) ≤ 0 = h in omega arith)
laid-after p (y ∷ l) (x ∷ xs) n e h =
    ap (λ (b : List _). laid b (suc n) xs) (set_at p y l x n e ∙ sym (append_snoc p x l))
    ∙ laid-after (p ++ (x ∷ [])) l xs (suc n) (let g = length-append p (x ∷ []) in omega (arith, g, e)) (let g : suc (length xs) ≤ suc (length l) = h in omega arith)
    ∙ append_snoc p x (xs ++ drop (length xs) l)

part : {A : Type 0} (l xs : List A) (n : ℕ) → length xs ≡ n → n ≤ length l → take n (laid l 0 xs) ≡ xs
part l xs n e h = ap (take n) (laid-after [] l xs 0 refl (omega (arith, e))) ∙ take_at xs (drop (length xs) l) n e

both : (a b : Bool) → a && b ≡ true → (a ≡ true) × (b ≡ true)
both true b e = (refl, e)
both false b e = absurd (subst (λ (b : Bool). cond b ⊥ (Unit {0})) e tt)

-- ---- what a load leaves
doneness : Answer → Bool
doneness (Ok d) = true
doneness (Err w) = false

module _ (cs : List Cell) (l : List Float) (m : List ℕ) where
  abbrev answer : Answer
  answer = load_answer (length cs) (length l) (length m)

  abbrev ok : Bool
  ok = loadable (length cs) (length l) (length m)

  decided : (b : Bool) → doneness (cond b (Ok none) (Err Shape)) ≡ b
  unfolding doneness
  decided true = refl
  decided false = refl

  done_ok : (d : Counts) → answer ≡ Ok d → ok ≡ true
  unfolding load_answer doneness
  done_ok d e = sym (decided ok) ∙ ap doneness e

  refused-not : (why : Refusal) → answer ≡ Err why → ok ≡ false
  unfolding load_answer doneness
  refused-not why e = sym (decided ok) ∙ ap doneness e

  -- refused: nothing is written
  pub refused-load : (why : Refusal) → answer ≡ Err why → (numbers_loaded cs l m ≡ l) × (neighbours_loaded cs l m ≡ m)
  unfolding numbers_loaded neighbours_loaded
  refused-load why e = let n = refused-not why e in (rw n, rw n)

  fit : ok ≡ true → (27 * length cs ≤ length l) × (6 * length cs ≤ length m)
  fit e =
      let a = both (cell_count (length cs)) _ e in
      let b = both (leb (27 * length cs) (length l)) _ a.1 in
      (leb-true (27 * length cs) (length l) b.0, leb-true (6 * length cs) (length m) b.1)

  -- done: the cells' numbers from the start
  pub numbers-part : (d : Counts) → answer ≡ Ok d → take (27 * length cs) (numbers_loaded cs l m) ≡ flat_numbers cs
  unfolding numbers_loaded
  numbers-part d e =
      let y = done_ok d e in
      rw y (part l (flat_numbers cs) (27 * length cs) (spread-length numbers_of 27 numbers-27 cs) (fit y).0)

  pub neighbours-part : (d : Counts) → answer ≡ Ok d → take (6 * length cs) (neighbours_loaded cs l m) ≡ flat_neighbours cs
  unfolding neighbours_loaded
  neighbours-part d e =
      let y = done_ok d e in
      rw y (part m (flat_neighbours cs) (6 * length cs) (spread-length neighbours_of 6 neighbours-6 cs) (fit y).1)

  -- done or refused: nothing past them
  past : {A : Type 0} (b : Bool) (x xs : List A) (n p : ℕ) (z : A) → length xs ≡ n → n ≤ p → get_or (cond b (laid x 0 xs) x) p z ≡ get_or x p z
  past true x xs n p z e h = laid-outside x 0 xs p z (inr (omega (arith, e)))
  past false x xs n p z e h = refl

  pub numbers-past : (p : ℕ) (z : Float) → 27 * length cs ≤ p → get_or (numbers_loaded cs l m) p z ≡ get_or l p z
  unfolding numbers_loaded
  numbers-past p z h = past ok l (flat_numbers cs) (27 * length cs) p z (spread-length numbers_of 27 numbers-27 cs) h

  pub neighbours-past : (p z : ℕ) → 6 * length cs ≤ p → get_or (neighbours_loaded cs l m) p z ≡ get_or m p z
  unfolding neighbours_loaded
  neighbours-past p z h = past ok m (flat_neighbours cs) (6 * length cs) p z (spread-length neighbours_of 6 neighbours-6 cs) h

  -- so a map that is lent the loaded parts is the job of the records: each of its calls answers, leaves and tells what that
  -- job says, and every demand holds of it
  pub loaded-job : (d : Counts) → answer ≡ Ok d → (job : HeightMap) (fs : List Float) (us : List ℕ) (ps ks : List Float) (ms : List ℕ)
      → of_parts job (length cs) (numbers_loaded cs l m) (neighbours_loaded cs l m) fs us ps ks ms ≡ of_records job cs fs us ps ks ms
  loaded-job d e job fs us ps ks ms = ap₂ (λ (a : List Float) (b : List ℕ). OfMap job (lists (grid a b fs) us ps ks ms)) (numbers-part d e) (neighbours-part d e)

-- ---- each field is read where it was put
module _ (cs : List Cell) (k : ℕ) (h : k < length cs) where
  number_at : (j : ℕ) → j < 27 → get_or (flat_numbers cs) (27 * k + j) nan ≡ get_or (numbers_of (cell_at cs k)) j nan
  number_at j u = spread_at numbers_of 27 numbers-27 cs no_cell k j nan h u

  end-at : (e : ℕ) → e < 24 → get_or (flat_numbers cs) (27 * k + 3 + e) nan ≡ get_or (cell_at cs k).ends e nan
  unfolding numbers_of
  end-at e u =
      let c = cell_at cs k in
      ap (λ (p : ℕ). get_or (flat_numbers cs) p nan) (let g : 27 * k + 3 + e ≡ 27 * k + (3 + e) = omega arith in g)
      ∙ number_at (3 + e) (omega arith)
      ∙ get_or-append-add (c.height ∷ c.x ∷ c.z ∷ []) (ends_of c.ends) e nan
      ∙ each_at (λ j. get_or c.ends j nan) 24 e nan u

  pub height-read : height_at (flat_numbers cs) k ≡ (cell_at cs k).height
  unfolding numbers_of
  height-read = ap (λ (p : ℕ). get_or (flat_numbers cs) p nan) (let g : 27 * k ≡ 27 * k + 0 = omega arith in g) ∙ number_at 0 (omega arith)

  pub position-read : position_at (flat_numbers cs) k ≡ v2 (cell_at cs k).x (cell_at cs k).z
  unfolding numbers_of
  position-read =
      ap₂ v2 (number_at 1 (omega arith))
      (ap (λ (p : ℕ). get_or (flat_numbers cs) p nan) (let g : 27 * k + 1 + 1 ≡ 27 * k + 2 = omega arith in g) ∙ number_at 2 (omega arith))

  pub left-read : (d : ℕ) → d < 6 → left_at (flat_numbers cs) k d ≡ v2 (get_or (cell_at cs k).ends (4 * d) nan) (get_or (cell_at cs k).ends (4 * d + 1) nan)
  left-read d u =
      ap₂ v2 (end-at (4 * d) (omega arith))
      (ap (λ (p : ℕ). get_or (flat_numbers cs) p nan) (let g : 27 * k + 3 + 4 * d + 1 ≡ 27 * k + 3 + (4 * d + 1) = omega arith in g) ∙ end-at (4 * d + 1) (omega arith))

  pub right-read : (d : ℕ) → d < 6 → right_at (flat_numbers cs) k d ≡ v2 (get_or (cell_at cs k).ends (4 * d + 2) nan) (get_or (cell_at cs k).ends (4 * d + 3) nan)
  right-read d u =
      ap₂ v2
      (ap (λ (p : ℕ). get_or (flat_numbers cs) p nan) (let g : 27 * k + 3 + 4 * d + 2 ≡ 27 * k + 3 + (4 * d + 2) = omega arith in g) ∙ end-at (4 * d + 2) (omega arith))
      (ap (λ (p : ℕ). get_or (flat_numbers cs) p nan) (let g : 27 * k + 3 + 4 * d + 2 + 1 ≡ 27 * k + 3 + (4 * d + 3) = omega arith in g) ∙ end-at (4 * d + 3) (omega arith))

  pub neighbour-read : (d : ℕ) → d < 6 → neighbour_at (flat_neighbours cs) k d ≡ get_or (cell_at cs k).neighbours d 0
  unfolding neighbours_of
  neighbour-read d u = spread_at neighbours_of 6 neighbours-6 cs no_cell k d nobody h u ∙ each_at (λ j. get_or (cell_at cs k).neighbours j 0) 6 d nobody u

pub cells-counted : (cs : List Cell) → cells_in (flat_numbers cs) ≡ length cs
cells-counted cs = let e = spread-length numbers_of 27 numbers-27 cs in omega (arith, e)

-- ---- no two lists of records load alike
same-cell : (c d : Cell) → Whole c → Whole d → numbers_of c ≡ numbers_of d → neighbours_of c ≡ neighbours_of d → c ≡ d
unfolding numbers_of neighbours_of
same-cell c d u v p q =
    let t = tail-eq_of_cons-eq p in
    let ends : c.ends ≡ d.ends = sym (each_all c.ends nan 24 u.0) ∙ tail-eq_of_cons-eq (tail-eq_of_cons-eq t) ∙ each_all d.ends nan 24 v.0 in
    let words : c.neighbours ≡ d.neighbours = sym (each_all c.neighbours 0 6 u.1) ∙ q ∙ each_all d.neighbours 0 6 v.1 in
    λ i. record { height = head-eq_of_cons-eq p i; x = head-eq_of_cons-eq t i; z = head-eq_of_cons-eq (tail-eq_of_cons-eq t) i; ends = ends i; neighbours = words i }

-- two first parts of one length
fronts : {A : Type 0} (s t x y : List A) (n : ℕ) → length s ≡ n → length x ≡ n → s ++ t ≡ x ++ y → (s ≡ x) × (t ≡ y)
fronts s t x y n e f p = (sym (take_at s t n e) ∙ ap (take n) p ∙ take_at x y n f, sym (drop_at s t n e) ∙ ap (drop n) p ∙ drop_at x y n f)

pub one-to-one : (cs ds : List Cell) → AllWhole cs → AllWhole ds → flat_numbers cs ≡ flat_numbers ds → flat_neighbours cs ≡ flat_neighbours ds → cs ≡ ds
one-to-one [] [] u v p q = refl
one-to-one [] (d ∷ ds) u v p q = absurd (let e : 0 ≡ 27 * suc (length ds) = ap length p ∙ spread-length numbers_of 27 numbers-27 (d ∷ ds) in omega (arith, e))
one-to-one (c ∷ cs) [] u v p q = absurd (let e : 27 * suc (length cs) ≡ 0 = sym (spread-length numbers_of 27 numbers-27 (c ∷ cs)) ∙ ap length p in omega (arith, e))
one-to-one (c ∷ cs) (d ∷ ds) u v p q =
    let a = fronts (numbers_of c) (flat_numbers cs) (numbers_of d) (flat_numbers ds) 27 (numbers-27 c) (numbers-27 d) p in
    let b = fronts (neighbours_of c) (flat_neighbours cs) (neighbours_of d) (flat_neighbours ds) 6 (neighbours-6 c) (neighbours-6 d) q in
    ap₂ (λ (x : Cell) (xs : List Cell). x ∷ xs) (same-cell c d u.0 v.0 a.0 b.0) (one-to-one cs ds u.1 v.1 a.1 b.1)
