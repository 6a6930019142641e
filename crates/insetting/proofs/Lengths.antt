-- An edge is as long from either of its ends, so each length is worked out once. Assumes nothing.
use mathlib.Core.Path.{◌≡◌, refl, sym, ap, ap₂, ◌∙◌}
use mathlib.Core.Bool.{Bool, true, false, not, cond}
use mathlib.Core.List.{List}
use Prim.Native.Nat.{ℕ, zero, suc, ◌+◌, ◌-◌, ◌*◌, ◌/◌, ◌%◌, ◌^◌, ◌≤◌, ◌<◌, compare}
use native.Mathlib.Nat.{add_comm, mul_comm, mod-add-mod, add-mod_right, mod-eq_of_lt, mod-lt}
use native.Mathlib.Omega.{arith}
use lib.Dec.{T, ltb, ltb→lt, nltb→le}
use lib.ListN.{length, get_or}
use lib.Ieee.{Float, nan, inf, fin, binary32, low, emax, up, down, size, nearest, odd, units, round, neg, sum, add, sub, mul}
use Rattle.arith.specs.Root.{root}
use Rattle.face.specs.declared.vec.Vec2.{Vec2}
use Rattle.face.specs.declared.vec.Vec3.{Vec3}
use Rattle.face.specs.Vec.{plus, diff, times, minus3, off2, off3, length3}
use Rattle.face.specs.Lists.{each}
use Rattle.face.specs.Inset.{edge_point, edge_uv, previous_of, next_of, edge, point_at, uv_at, edged3, edged2}
use Rattle.insetting.specs.Edges.{edge_at, edges, moved_at, points_by, uvs_by}
use Rattle.face.proofs.Filling.{length-each, each_at, each_same}

-- ---- a value without its sign, which its square does not see
abbrev unsigned : Float → Float
unsigned nan = nan
unsigned (inf s) = inf false
unsigned (fin s m e) = fin false m e

square-unsigned : (x : Float) → mul binary32 x x ≡ mul binary32 (unsigned x) (unsigned x)
unfolding mul
square-unsigned nan = refl
square-unsigned (inf true) = refl
square-unsigned (inf false) = refl
square-unsigned (fin true m e) = refl
square-unsigned (fin false m e) = refl

odd-unsigned : (s t : Bool) (d q k l : ℕ) → unsigned (odd d s q k l) ≡ unsigned (odd d t q k l)
unfolding odd
odd-unsigned s t d zero k l = refl
odd-unsigned s t d (suc q) k l = refl

units-unsigned : (s t : Bool) (q k : ℕ) → unsigned (units binary32 s q k) ≡ unsigned (units binary32 t q k)
unfolding units
units-unsigned s t q k = go (ltb (q * 2 ^ k) (2 ^ (low binary32 + suc (emax binary32))))
  where
    go : (b : Bool) → unsigned (cond b (odd 25 s q k 149) (inf s)) ≡ unsigned (cond b (odd 25 t q k 149) (inf t))
    go true = odd-unsigned s t 25 q k 149
    go false = refl

round-unsigned : (s t : Bool) (n c : ℕ) → unsigned (round binary32 s n c) ≡ unsigned (round binary32 t n c)
unfolding round
round-unsigned s t n c =
    let a = n * 2 ^ 149 in
    let k = size (a / c) - 24 in
    let u = c * 2 ^ k in
    units-unsigned s t (nearest (a / u) (compare (a % u * 2) u)) k

-- ---- a difference taken the other way round
apart : (s t u v : Bool) (a b c : ℕ)
    → unsigned (cond (ltb a b) (round binary32 s (b - a) c) (round binary32 t (a - b) c)) ≡ unsigned (cond (ltb b a) (round binary32 u (a - b) c) (round binary32 v (b - a) c))
apart s t u v a b c = go (ltb a b) (ltb b a) (ltb→lt a b) (nltb→le a b) (ltb→lt b a) (nltb→le b a)
  where
    go : (x y : Bool) → (T x → a < b) → (T (not x) → b ≤ a) → (T y → b < a) → (T (not y) → a ≤ b)
        → unsigned (cond x (round binary32 s (b - a) c) (round binary32 t (a - b) c)) ≡ unsigned (cond y (round binary32 u (a - b) c) (round binary32 v (b - a) c))
    go true true p p' q q' = absurd (let h : a < b = p tt in let g : b < a = q tt in omega arith)
    go true false p p' q q' = round-unsigned s v (b - a) c
    go false true p p' q q' = round-unsigned t u (a - b) c
    go false false p p' q q' =
        let e : a - b ≡ b - a = let h : b ≤ a = p' tt in let g : a ≤ b = q' tt in omega arith in
        ap (λ (n : ℕ). unsigned (round binary32 t n c)) e ∙ round-unsigned t v (b - a) c

sum-turned : (s t : Bool) (a b c : ℕ) → unsigned (sum binary32 s a (not t) b c) ≡ unsigned (sum binary32 t b (not s) a c)
unfolding sum
sum-turned true true a b c = apart false (ltb b a) false (ltb a b) a b c
sum-turned false false a b c = apart true false true false a b c
sum-turned true false a b c = ap (λ (n : ℕ). unsigned (round binary32 true n c)) (add_comm a b) ∙ round-unsigned true false (b + a) c
sum-turned false true a b c = ap (λ (n : ℕ). unsigned (round binary32 false n c)) (add_comm a b) ∙ round-unsigned false true (b + a) c

sub-turned : (x y : Float) → unsigned (sub binary32 x y) ≡ unsigned (sub binary32 y x)
unfolding sub add neg
sub-turned nan nan = refl
sub-turned nan (inf t) = refl
sub-turned nan (fin t n d) = refl
sub-turned (inf s) nan = refl
sub-turned (inf true) (inf true) = refl
sub-turned (inf true) (inf false) = refl
sub-turned (inf false) (inf true) = refl
sub-turned (inf false) (inf false) = refl
sub-turned (inf s) (fin t n d) = refl
sub-turned (fin s m e) nan = refl
sub-turned (fin s m e) (inf t) = refl
sub-turned (fin s m e) (fin t n d) =
    sum-turned s t (m * up e * down d) (n * up d * down e) (down e * down d)
    ∙ ap (λ (c : ℕ). unsigned (sum binary32 t (n * up d * down e) (not s) (m * up e * down d) c)) (mul_comm (down e) (down d))

square-turned : (x y : Float) → times (diff x y) (diff x y) ≡ times (diff y x) (diff y x)
square-turned x y =
    square-unsigned (diff x y) ∙ ap (λ (z : Float). times z z) (sub-turned x y) ∙ sym (square-unsigned (diff y x))

pub length-turned : (a b : Vec3) → length3 (minus3 a b) ≡ length3 (minus3 b a)
length-turned a b =
    ap root (ap₂ plus (ap₂ plus (square-turned a.x b.x) (square-turned a.y b.y)) (square-turned a.z b.z))

-- ---- the lengths of all edges, looked up at a point: the edge to its next, and the one to its previous
next-of-previous : (m v : ℕ) → v < m → next_of m (previous_of m v) ≡ v
next-of-previous m v h =
    mod-add-mod (v + (m - 1)) m 1
    ∙ ap (λ (x : ℕ). x % m) (let e : v + (m - 1) + 1 ≡ v + m = omega arith in e)
    ∙ add-mod_right v m
    ∙ mod-eq_of_lt h

module _ (k : Float) (ps : List Vec3) (v : ℕ) (h : v < length ps) where
  abbrev m : ℕ
  m = length ps

  to-next : get_or (edges ps) v nan ≡ edge ps v (next_of m v)
  to-next = each_at (edge_at ps m) m v nan h

  to-previous : get_or (edges ps) (previous_of m v) nan ≡ edge ps v (previous_of m v)
  to-previous =
      each_at (edge_at ps m) m (previous_of m v) nan (mod-lt (v + (m - 1)) {m = m} (omega arith))
      ∙ ap (edge ps (previous_of m v)) (next-of-previous m v h)
      ∙ length-turned (get_or ps v off3) (get_or ps (previous_of m v) off3)

  point-by : point_at k ps m v ≡ moved_at (edge_point k) off3 (edges ps) ps m v
  point-by =
      sym (ap₂ (λ (lp ln : Float). edge_point k lp ln (get_or ps v off3) (get_or ps (previous_of m v) off3) (get_or ps (next_of m v) off3)) to-previous to-next)

  uv-by : (ts : List Vec2) → uv_at k ps ts m v ≡ moved_at (edge_uv k) off2 (edges ps) ts m v
  uv-by ts = sym (ap₂ (λ (lp ln : Float). edge_uv k lp ln (get_or ts v off2) (get_or ts (previous_of m v) off2) (get_or ts (next_of m v) off2)) to-previous to-next)

as_many : (ps : List Vec3) → length ps ≡ length (edges ps)
as_many ps = sym (length-each (edge_at ps (length ps)) (length ps))

pub edged3-by : (k : Float) (ps : List Vec3) → edged3 k ps ≡ points_by k (edges ps) ps
edged3-by k ps = each_same _ _ (length ps) (point-by k ps) ∙ ap (λ (n : ℕ). each (moved_at (edge_point k) off3 (edges ps) ps n) n) (as_many ps)

pub edged2-by : (k : Float) (ps : List Vec3) (ts : List Vec2) → edged2 k ps ts ≡ uvs_by k (edges ps) ts
edged2-by k ps ts = each_same _ _ (length ps) (λ v h. uv-by k ps v h ts) ∙ ap (λ (n : ℕ). each (moved_at (edge_uv k) off2 (edges ps) ts n) n) (as_many ps)
