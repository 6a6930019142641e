-- The heights of a map that is taken are numbers in range, of its cells and beyond its sides; so of two of them one is below
-- the other or at least as high. Assumes nothing.
use mathlib.Core.Path.{◌≡◌, refl, sym, ◌∙◌}
use mathlib.Core.Logic.{inl, inr}
use mathlib.Core.Bool.{Bool, true, false, not, cond, ◌&&◌, ◌||◌}
use Prim.Native.Nat.{ℕ, zero, suc, ◌+◌, ◌*◌, ◌<◌, ◌≤◌}
use native.Mathlib.Omega.{arith}
use borrow.Author.Tests.{eq-eqb, eqb-true, eqb-false, ltb-true, ltb-false}
use lib.Dec.{T, ltb, eqb}
use lib.ListN.{length}
use lib.Ieee.{Float, nan, inf, fin, is_nan, of_bits, neg, up, down, below, level, lt, le, eq}
use Rattle.face.specs.declared.triangle.Counts.{Counts}
use Rattle.face.specs.Vec.{f0}
use Rattle.answer.specs.declared.answer.Refusal.TheVariants.{Shape, Range, Neighbour}
use Rattle.std.specs.Prelude.{Ok}
use Rattle.answer.specs.Checks.{in_range, all_in_range, exactly, is_neighbour, cell_count}
use Rattle.answer.proofs.Laws.{every-at, &&-left, &&-right, given-done}
use Rattle.answer.proofs.Bench.{nan-out-of-range}
use Rattle.placement.specs.Options.{entry_count, is_table}
use Rattle.placement.specs.Placing.{placement_in_range}
use Rattle.heightmap.specs.declared.Fringe.{Fringe}
use Rattle.heightmap.specs.declared.Fringe.TheVariants as fringe
use Rattle.heightmap.specs.declared.HeightRange.{HeightRange}
use Rattle.heightmap.specs.declared.HeightRange.TheVariants as heights
use Rattle.heightmap.specs.declared.HeightMap.{HeightMap}
use Rattle.heightmap.specs.Grid.{cells_in, height_at, nobody, neighbour_at, lower, kept, extreme, span_by, span_of, BeyondEdge, Beyond}
use Rattle.heightmap.specs.HeightMap.{Lists}
use Rattle.heightmap.specs.Tests.{fringe_shape, grid_shape, all_named, shape_of, fringe_in_range, heights_in_range, origin_in_range, place_of, range_of, linked_of, planned}
use Rattle.heightmap.specs.Names.{There}

-- ---- two numbers compare
in-range-number : (x : Float) → in_range x ≡ true → T (not (is_nan x))
unfolding is_nan
in-range-number nan h = absurd (let z : true ≡ false = sym h ∙ nan-out-of-range in let y : ◌≡◌ {A = ℕ} 0 1 = cc in omega arith)
in-range-number (inf s) h = tt
in-range-number (fin s m e) h = tt

either : (a b : ℕ) (z : Bool) → a ≤ b → (a ≡ b → z ≡ true) → ltb a b || z ≡ true
either a b z h f = go (ltb a b) refl
  where
    go : (x : Bool) → ltb a b ≡ x → x || z ≡ true
    go true e = refl
    go false e = f (let u = ltb-false a b e in omega arith)

both_zero : (a b : ℕ) → a + b ≡ 0 → eqb b a && (false || eqb b 0) ≡ true
both_zero a b h =
    let p : b ≡ 0 = omega arith in
    let q : a ≡ 0 = omega arith in
    rw (p, q)

magnitudes : (s t : Bool) (a b : ℕ) → below s a t b ≡ false → below t b s a || level t b s a ≡ true
magnitudes false false a b e = either b a (level false b false a) (ltb-false a b e) (λ q. rw (eq-eqb b a q))
magnitudes true true a b e = either a b (level true b true a) (ltb-false b a e) (λ q. rw (eq-eqb b a (sym q)))
magnitudes true false a b e = both_zero a b (let u = ltb-false 0 (a + b) e in omega arith)
magnitudes false true a b e = either 0 (b + a) (level true b false a) (omega arith) (λ q. both_zero a b (omega arith))

not-below : (x y : Float) → T (not (is_nan x)) → T (not (is_nan y)) → lt x y ≡ false → le y x ≡ true
unfolding is_nan lt le eq
not-below nan y p q e = absurd p
not-below (inf s) nan p q e = absurd q
not-below (fin s m d) nan p q e = absurd q
not-below (inf true) (inf true) p q e = refl
not-below (inf true) (inf false) p q e = absurd (let y : ◌≡◌ {A = ℕ} 0 1 = cc in omega arith)
not-below (inf false) (inf true) p q e = refl
not-below (inf false) (inf false) p q e = refl
not-below (inf true) (fin t n d) p q e = absurd (let y : ◌≡◌ {A = ℕ} 0 1 = cc in omega arith)
not-below (inf false) (fin t n d) p q e = refl
not-below (fin s m d) (inf true) p q e = refl
not-below (fin s m d) (inf false) p q e = absurd (let y : ◌≡◌ {A = ℕ} 0 1 = cc in omega arith)
not-below (fin s m c) (fin t n d) p q e = magnitudes s t (m * up c * down d) (n * up d * down c) e

-- ---- of heights in range the lowest is in range
lower-in-range : (a b : Float) → in_range a ≡ true → in_range b ≡ true → in_range (lower a b) ≡ true
lower-in-range a b p q = go (lt b a)
  where
    go : (t : Bool) → in_range (cond t b a) ≡ true
    go true = q
    go false = p

kept-in-range : (x : Float) (h : ℕ → Float) (m : ℕ) → in_range x ≡ true → ((k : ℕ) → k < m → in_range (h k) ≡ true) → in_range (kept lower x h m) ≡ true
kept-in-range x h zero p q = p
kept-in-range x h (suc m) p q =
    lower-in-range (kept lower x h m) (h m) (kept-in-range x h m p (λ k l. q k (omega arith))) (q m (omega arith))

zero-in-range : in_range f0 ≡ true
unfolding of_bits neg le
zero-in-range = refl

-- ---- what the tests of a map that is taken say
linked-cell : (n cells : ℕ) → is_neighbour n cells ≡ true → (n ≡ nobody → ⊥) → n < cells
linked-cell n cells e h = go (eqb n nobody) refl e
  where
    go : (x : Bool) → eqb n nobody ≡ x → x || ltb n cells ≡ true → n < cells
    go true p q = absurd (h (eqb-true n nobody p))
    go false p q = ltb-true n cells q

module _ (job : HeightMap) (ls : Lists) (c : Counts) (e : planned job ls ≡ Ok c) where
  abbrev n : ℕ
  n = cells_in ls.grid.cells

  tested : (shape_of job ls ≡ true) × ((range_of job ls ≡ true) × (linked_of ls.grid ≡ true))
  tested =
      let s = given-done (shape_of job ls) Shape _ e in
      let r = given-done (range_of job ls) Range _ s.1 in
      let l = given-done (linked_of ls.grid) Neighbour _ r.1 in
      (s.0, (r.0, l.0))

  gridded : grid_shape job ls.grid ≡ true
  gridded = &&-left (grid_shape job ls.grid) (exactly (length ls.corners) 6 2 && (is_table ls.numbers ls.marks && all_named job ls (entry_count ls.marks))) tested.0

  -- the lengths of the lists
  record Lengths : Type 0 where
    pub cells : length ls.grid.cells ≡ n * 27
    pub neighbours : length ls.grid.neighbours ≡ n * 6
    pub fringe : fringe_shape job.fringe ls.grid.fringe n ≡ true

  lengths : Lengths
  lengths =
      let f = fringe_shape job.fringe ls.grid.fringe n in
      let b = exactly (length ls.grid.neighbours) n 6 in
      let a = exactly (length ls.grid.cells) n 27 in
      let p = &&-right (cell_count n) (a && (b && f)) gridded in
      let q = &&-right a (b && f) p in
      record {
        cells = eqb-true (length ls.grid.cells) (n * 27) (&&-left a (b && f) p);
        neighbours = eqb-true (length ls.grid.neighbours) (n * 6) (&&-left b f q);
        fringe = &&-right b f q;
      }

  ranged : (all_in_range ls.grid.cells ≡ true) × (fringe_in_range job.fringe ls.grid.fringe ≡ true)
  ranged =
      let rest = all_in_range ls.corners && (all_in_range ls.numbers && place_of job) in
      let f = fringe_in_range job.fringe ls.grid.fringe in
      let a = all_in_range ls.grid.cells in
      (&&-left a (f && rest) tested.1.0, &&-left f rest (&&-right a (f && rest) tested.1.0))

  -- ---- the heights
  pub height-in-range : (k : ℕ) → k < n → in_range (height_at ls.grid.cells k) ≡ true
  height-in-range k h = every-at in_range ls.grid.cells nan (27 * k) ranged.0 (let l = lengths.cells in omega arith)

  heights-ranged : heights_in_range job.range ≡ true
  heights-ranged =
      let h = heights_in_range job.range in
      let place = origin_in_range job.origin && placement_in_range job.placement in
      let b = all_in_range ls.numbers in
      let d = all_in_range ls.corners in
      let f = fringe_in_range job.fringe ls.grid.fringe in
      let a = all_in_range ls.grid.cells in
      let p = &&-right a (f && (d && (b && (h && place)))) tested.1.0 in
      &&-left h place (&&-right b (h && place) (&&-right d (b && (h && place)) (&&-right f (d && (b && (h && place))) p)))

  least-in-range : in_range (extreme lower ls.grid.cells) ≡ true
  least-in-range = go (eqb n 0) refl
    where
      go : (t : Bool) → eqb n 0 ≡ t → in_range (cond t f0 (kept lower (height_at ls.grid.cells 0) (height_at ls.grid.cells) n)) ≡ true
      go true p = zero-in-range
      go false p =
          let u = eqb-false n 0 p in
          kept-in-range (height_at ls.grid.cells 0) (height_at ls.grid.cells) n (height-in-range 0 (omega arith)) height-in-range

  -- where the range of the heights starts
  pub lowest-in-range : in_range (span_of job ls.grid).min ≡ true
  unfolding span_of
  lowest-in-range = go job.range heights-ranged
    where
      go : (r : HeightRange) → heights_in_range r ≡ true → in_range (span_by r ls.grid.cells).min ≡ true
      go heights.OfAll h = least-in-range
      go (heights.Of a b) h = &&-left (in_range a) (in_range b) h

  edge-in-range : (f : Fringe) (k d : ℕ) (x : Float) → There ls.grid k d → fringe_shape f ls.grid.fringe n ≡ true → fringe_in_range f ls.grid.fringe ≡ true
      → BeyondEdge f ls.grid k d x → in_range x ≡ true
  edge-in-range fringe.Bare k d x t s r b = absurd b
  edge-in-range fringe.Listed k d x t s r b =
      let l = eqb-true (length ls.grid.fringe) (n * 6) s in
      let i : 6 * k + d < length ls.grid.fringe = omega (arith, t.0, t.1, l) in
      rw b (every-at in_range ls.grid.fringe nan (6 * k + d) r i)

  beyond-in-range : (k d : ℕ) (x : Float) → There ls.grid k d → Beyond job.fringe ls.grid k d x → in_range x ≡ true
  beyond-in-range k d x t (inl b) =
      let l = lengths.neighbours in
      let i : 6 * k + d < length ls.grid.neighbours = omega (arith, t.0, t.1, l) in
      let o = every-at (λ (m : ℕ). is_neighbour m n) ls.grid.neighbours nobody (6 * k + d) tested.1.1 i in
      rw b.1 (height-in-range (neighbour_at ls.grid.neighbours k d) (linked-cell (neighbour_at ls.grid.neighbours k d) n o b.0))
  beyond-in-range k d x t (inr b) = edge-in-range job.fringe k d x t lengths.fringe ranged.1 b.1

  -- what lies beyond a side is below the cell or at least as high
  pub beyond-as-high : (k d : ℕ) (x : Float) → There ls.grid k d → Beyond job.fringe ls.grid k d x → lt x (height_at ls.grid.cells k) ≡ false
      → le (height_at ls.grid.cells k) x ≡ true
  beyond-as-high k d x t b l =
      let h = height_at ls.grid.cells k in
      not-below x h (in-range-number x (beyond-in-range k d x t b)) (in-range-number h (height-in-range k t.0)) l
