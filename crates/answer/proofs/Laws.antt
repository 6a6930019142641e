-- What callers cite of tests over lists, of lengths and of answers. Assumes nothing.
use mathlib.Core.Path.{◌≡◌, refl, sym, ap, subst, ◌∙◌}
use mathlib.Core.Logic.{◌⊎◌, ⊎_elim, inl, inr}
use mathlib.Core.Bool.{Bool, true, false, not, ◌&&◌, cond}
use mathlib.Core.List.{List, [], ◌∷◌, ◌++◌}
use Prim.Native.Nat.{ℕ, zero, suc, ◌+◌, ◌*◌, ◌/◌, ◌%◌, ◌≤◌, ◌<◌}
use native.Mathlib.Nat.{le_trans, mul-le-mul, le-div_iff_mul-le, div-lt_iff_lt-mul, div-add-mod', mul_comm, add-zero, div-eq_of_eq-mul_left, mul-mod_left}
use native.Mathlib.Numerals.{add-one}
use native.Mathlib.Omega.{arith}
use borrow.Author.Tests.{le-leb, lt-leb, leb-true, leb-false, eq-eqb, ne_eqb, eqb-true, eqb-false, ltb-true}
use lib.Dec.{T, leb, ltb, eqb, lit≤, lit<, ltb→lt, nltb→le}
use lib.ListN.{length, get_or, drop, drop_of_length-le}
use lib.Seq.{drop-cons}
use Rattle.face.specs.declared.triangle.Counts.{Counts}
use Rattle.answer.specs.declared.answer.Refusal.{Refusal}
use Rattle.answer.specs.declared.answer.Refusal.TheVariants.{Shape, Range, Neighbour, Limit, Room, NoFace, Index, Empty, Sheet, Triangles, File, Bytes}
use Rattle.answer.specs.declared.answer.Buffer.{Buffer}
use Rattle.answer.specs.declared.answer.Buffer.TheVariants.{Vertices, Normals, Uvs, Indices}
use Rattle.answer.specs.Answers.{Answer}
use Rattle.std.specs.Prelude.{Ok, Err}
use Rattle.answer.specs.Checks.{every}
use Rattle.answer.specs.Answers.{Roomy, Short, FirstShort, Lengthened, Past, room_code, code, need, number_of, need_of, after, given, limited, named, need_for, capped, told, held, lengths, room_for, roomed}

-- ---- a test of each element, read one by one: the first i passed, so the rest decide
module _ {A : Type 0} (ok : A → Bool) (xs : List A) (z : A) where
  abbrev pub Passed : ℕ → Type 0
  Passed i = (i ≤ length xs) × (every ok (drop i xs) ≡ every ok xs)

  pub passed-more : (i : ℕ) → Passed i → i < length xs → ok (get_or xs i z) ≡ true → Passed (i + 1)
  passed-more i p h e = (omega arith, rw (add-one i) (rw (drop-cons xs i z h, e) at p.1))

  pub passed-not : (i : ℕ) → Passed i → i < length xs → ok (get_or xs i z) ≡ false → false ≡ every ok xs
  passed-not i p h e = rw (drop-cons xs i z h, e) at p.1

  pub passed-all : (i : ℕ) → Passed i → length xs ≤ i → true ≡ every ok xs
  passed-all i p h = rw (drop_of_length-le xs h) at p.1

-- ---- the same by one more item behind, and its test
pub every-push : {A : Type 0} (ok : A → Bool) (xs : List A) (x : A) → every ok (xs ++ (x ∷ [])) ≡ every ok xs && ok x
every-push ok [] x = and-true (ok x)
  where
    and-true : (a : Bool) → a && true ≡ a
    and-true true = refl
    and-true false = refl
every-push ok (y ∷ xs) x = rw (every-push ok xs x) (go (ok y))
  where
    go : (a : Bool) → a && (every ok xs && ok x) ≡ a && every ok xs && ok x
    go true = refl
    go false = refl

pub &&-left : (a b : Bool) → a && b ≡ true → a ≡ true
&&-left true b e = refl
&&-left false b e = e

pub &&-right : (a b : Bool) → a && b ≡ true → b ≡ true
&&-right true b e = e
&&-right false b e = let p : false ≡ true = e in cc

pub every-at : {A : Type 0} (ok : A → Bool) (xs : List A) (z : A) (i : ℕ) → every ok xs ≡ true → i < length xs → ok (get_or xs i z) ≡ true
every-at ok [] z i e h = absurd (let g : i < 0 = h in omega arith)
every-at ok (x ∷ xs) z zero e h = &&-left (ok x) (every ok xs) e
every-at ok (x ∷ xs) z (suc i) e h = every-at ok xs z i (&&-right (ok x) (every ok xs) e) (let g : suc i < suc (length xs) = h in omega arith)

pub every-so : {A : Type 0} (ok : A → Bool) (xs : List A) (z : A) → ((i : ℕ) → i < length xs → ok (get_or xs i z) ≡ true) → every ok xs ≡ true
every-so ok [] z h = refl
every-so ok (x ∷ xs) z h = rw (h 0 (omega arith), every-so ok xs z (λ i u. h (suc i) (omega arith)))

-- two lists of one length, whose items pass or fail place by place
pub every-same : {A B : Type 0} (ok : A → Bool) (also : B → Bool) (xs : List A) (ys : List B) (z : A) (w : B) → length xs ≡ length ys → ((i : ℕ) → i < length xs → ok (get_or xs i z) ≡ also (get_or ys i w)) → every ok xs ≡ every also ys
every-same ok also [] [] z w e h = refl
every-same ok also [] (y ∷ ys) z w e h = let g : 0 ≡ suc (length ys) = e in absurd (omega arith)
every-same ok also (x ∷ xs) [] z w e h = let g : suc (length xs) ≡ 0 = e in absurd (omega arith)
every-same ok also (x ∷ xs) (y ∷ ys) z w e h = rw (h 0 (omega arith), every-same ok also xs ys z w (let g : suc (length xs) ≡ suc (length ys) = e in omega arith) (λ i u. h (suc i) (omega arith)))

-- ---- lengths: so many entries of k numbers each, told by a quotient
module _ (k a b : ℕ) (p : 0 < k) where
  quotient-tells : leb a (b / k) ≡ leb (a * k) b
  quotient-tells = go (leb a (b / k)) refl
    where
      go : (x : Bool) → leb a (b / k) ≡ x → x ≡ leb (a * k) b
      go true e = sym (le-leb (a * k) b ((le-div_iff_mul-le p).0 (leb-true a (b / k) e)))
      go false e = sym (lt-leb (a * k) b ((div-lt_iff_lt-mul p).0 (leb-false a (b / k) e)))

  pub roomy : a ≤ b / k → leb (k * a) b ≡ true
  roomy h = rw mul_comm (sym quotient-tells ∙ le-leb a (b / k) h)

  pub short : b / k < a → leb (k * a) b ≡ false
  short h = rw mul_comm (sym quotient-tells ∙ lt-leb a (b / k) h)

  pub fills-by : b % k ≡ 0 → eqb (b / k) a ≡ eqb b (a * k)
  fills-by z = go (eqb (b / k) a) refl
    where
      go : (x : Bool) → eqb (b / k) a ≡ x → x ≡ eqb b (a * k)
      go true e = sym (eq-eqb b (a * k) (rw (eqb-true (b / k) a e, z, add-zero) at (sym (div-add-mod' b k))))
      go false e = sym (ne_eqb b (a * k) (λ f. eqb-false (b / k) a e (div-eq_of_eq-mul_left p f)))

  pub fills-not : (b % k ≡ 0 → ⊥) → eqb b (a * k) ≡ false
  fills-not z = ne_eqb b (a * k) (λ e. z (rw e (mul-mod_left a k)))

-- ---- a refused answer is not a done one, and a done one has passed each test before it
pub not_done : {A : Type 0} {e : Refusal} {c : Counts} → Err e ≡ Ok c → A
not_done p = let z : ◌≡◌ {A = ℕ} 0 1 = cc in absurd (omega arith)

pub same-counts : {c d : Counts} → ◌≡◌ {A = Answer} (Ok c) (Ok d) → c ≡ d
same-counts p = cc

pub given-done : {c : Counts} (ok : Bool) (e : Refusal) (rest : Answer) → given ok e rest ≡ Ok c → (ok ≡ true) × (rest ≡ Ok c)
given-done true e rest p = (refl, p)
given-done false e rest p = not_done p

pub done-limited : (c d : Counts) → limited c ≡ Ok d → (c.vertices.0 ≤ 65536) × (c ≡ d)
done-limited c d p =
    let h = given-done (leb c.vertices.0 65536) Limit (Ok c) p in
    (leb-true c.vertices.0 65536 h.0, same-counts h.1)

pub limited-done : (c : Counts) → c.vertices.0 ≤ 65536 → limited c ≡ Ok c
limited-done c h = rw (le-leb c.vertices.0 65536 h)

pub limited-refused : (c : Counts) → 65536 < c.vertices.0 → limited c ≡ Err Limit
limited-refused c h = rw (lt-leb c.vertices.0 65536 h)

pub named-done : (a : Answer) (c : Counts) (k n : ℕ) → named a k n ≡ Ok c → (a ≡ Ok c) × (k < n)
named-done (Err e) c k n p = not_done p
named-done (Ok d) c k n p =
    let h = given-done (ltb k n) NoFace (Ok d) p in
    (h.1, ltb-true k n h.0)

-- ---- an answer's number is at most a bound, test by test
pub given-most : (m : ℕ) (ok : Bool) (e : Refusal) (rest : Answer) → code e ≤ m → number_of rest ≤ m → number_of (given ok e rest) ≤ m
given-most m true e rest h k = k
given-most m false e rest h k = h

pub limited-most : (c : Counts) → number_of (limited c) ≤ 4
limited-most c = given-most 4 (leb c.vertices.0 65536) Limit (Ok c) (lit≤ tt) (lit≤ tt)

-- every refusal's number is above 0 and has at most two digits
room-coded : (b : Buffer) → (51 ≤ room_code b) × (room_code b < 100)
room-coded Vertices = (lit≤ tt, lit< tt)
room-coded Normals = (lit≤ tt, lit< tt)
room-coded Uvs = (lit≤ tt, lit< tt)
room-coded Indices = (lit≤ tt, lit< tt)

pub coded : (e : Refusal) → (1 ≤ code e) × (code e < 100)
coded Shape = (lit≤ tt, lit< tt)
coded Range = (lit≤ tt, lit< tt)
coded Neighbour = (lit≤ tt, lit< tt)
coded Limit = (lit≤ tt, lit< tt)
coded (Room b n) = (le_trans (lit≤ tt) (room-coded b).0, (room-coded b).1)
coded NoFace = (lit≤ tt, lit< tt)
coded Index = (lit≤ tt, lit< tt)
coded Empty = (lit≤ tt, lit< tt)
coded Sheet = (lit≤ tt, lit< tt)
coded Triangles = (lit≤ tt, lit< tt)
coded File = (lit≤ tt, lit< tt)
coded (Bytes n) = (lit≤ tt, lit< tt)

-- L1: one below 51 is no refusal for room, and has no need
pub without-need : (a : Answer) → number_of a < 51 → need_of a ≡ 0
without-need (Ok c) h = refl
without-need (Err e) h = go e h
  where
    go : (e : Refusal) → code e < 51 → need e ≡ 0
    go Shape h = refl
    go Range h = refl
    go Neighbour h = refl
    go Limit h = refl
    go (Room b n) h = absurd (omega (arith, h, (room-coded b).0))
    go NoFace h = refl
    go Index h = refl
    go Empty h = refl
    go Sheet h = refl
    go Triangles h = refl
    go File h = refl
    go (Bytes n) h = absurd (omega (arith, h))

-- ---- L1: each of the four tests, passed or not
module _ (b : Buffer) (c : Counts) (l : ℕ) (rest : Answer) where
  held-done : {d : Counts} → held b c l rest ≡ Ok d → (need_for b c ≤ l) × (rest ≡ Ok d)
  held-done p = let h = given-done (leb (need_for b c) l) (Room b (told b c)) rest p in (leb-true _ _ h.0, h.1)

  held-enough : need_for b c ≤ l → held b c l rest ≡ rest
  held-enough h = rw (le-leb (need_for b c) l h)

  held-short : l < need_for b c → held b c l rest ≡ Err (Room b (told b c))
  held-short h = rw (lt-leb (need_for b c) l h)

-- within the limit a need is told as it is
capped_is : (k v : ℕ) → k ≤ 3 → v ≤ 65536 → capped (k * v) ≡ k * v
capped_is k v h l = rw (le-leb (k * v) 18446744073709551615 (le_trans (mul-le-mul h l) (lit≤ tt)))

pub told_is : (b : Buffer) (c : Counts) → c.vertices.0 ≤ 65536 → told b c ≡ need_for b c
told_is Vertices c h = capped_is 3 _ (lit≤ tt) h
told_is Normals c h = capped_is 3 _ (lit≤ tt) h
told_is Uvs c h = capped_is 2 _ (lit≤ tt) h
told_is Indices c h = refl

module _ (c : Counts) (v n t i : ℕ) where
  pub room-for-done : (d : Counts) → room_for c v n t i ≡ Ok d → (c ≡ d) × Roomy c v n t i
  room-for-done d p =
      let h = held-done Vertices c v _ p in
      let k = held-done Normals c n _ h.1 in
      let l = held-done Uvs c t _ k.1 in
      let m = held-done Indices c i (Ok c) l.1 in
      (same-counts m.1, record { vertices = h.0; normals = k.0; uvs = l.0; indices = m.0 })

  pub room-enough : Roomy c v n t i → room_for c v n t i ≡ Ok c
  room-enough r =
      held-enough Vertices c v _ r.vertices
      ∙ held-enough Normals c n _ r.normals
      ∙ held-enough Uvs c t _ r.uvs
      ∙ held-enough Indices c i (Ok c) r.indices

-- ---- L1: the first short buffer is the refusal
module _ (c : Counts) (l : Buffer → ℕ) where
  abbrev roomed-by : Answer
  roomed-by = room_for c (l Vertices) (l Normals) (l Uvs) (l Indices)

  first-told : (b : Buffer) → FirstShort c l b → roomed-by ≡ Err (Room b (told b c))
  first-told Vertices s = held-short Vertices c _ _ s.short
  first-told Normals s = held-enough Vertices c _ _ (s.earlier Vertices (omega arith)) ∙ held-short Normals c _ _ s.short
  first-told Uvs s =
      held-enough Vertices c _ _ (s.earlier Vertices (omega arith))
      ∙ held-enough Normals c _ _ (s.earlier Normals (omega arith))
      ∙ held-short Uvs c _ _ s.short
  first-told Indices s =
      held-enough Vertices c _ _ (s.earlier Vertices (omega arith))
      ∙ held-enough Normals c _ _ (s.earlier Normals (omega arith))
      ∙ held-enough Uvs c _ _ (s.earlier Uvs (omega arith))
      ∙ held-short Indices c _ _ s.short

  pub first_short : (b : Buffer) → FirstShort c l b → c.vertices.0 ≤ 65536 → roomed-by ≡ Err (Room b (need_for b c))
  first_short b s h = first-told b s ∙ ap (λ (n : ℕ). Err (Room b n)) (told_is b c h)

-- each buffer has its own place in the order
abbrev buffer_at : ℕ → Buffer
buffer_at n = cond (eqb n 51) Vertices (cond (eqb n 52) Normals (cond (eqb n 53) Uvs Indices))

at_code : (b : Buffer) → buffer_at (room_code b) ≡ b
at_code Vertices = refl
at_code Normals = refl
at_code Uvs = refl
at_code Indices = refl

same-buffer : (a b : Buffer) → room_code a ≡ room_code b → a ≡ b
same-buffer a b e = sym (at_code a) ∙ ap buffer_at e ∙ at_code b

pub same_or_not : (a b : Buffer) → (a ≡ b) ⊎ (a ≡ b → ⊥)
same_or_not a b = go (eqb (room_code a) (room_code b)) refl
  where
    go : (x : Bool) → eqb (room_code a) (room_code b) ≡ x → (a ≡ b) ⊎ (a ≡ b → ⊥)
    go true e = inl (same-buffer a b (eqb-true (room_code a) (room_code b) e))
    go false e = inr (λ p. eqb-false (room_code a) (room_code b) e (ap (λ (x : Buffer). room_code x) p))

below_or_not : (x y : ℕ) → (x < y) ⊎ (y ≤ x)
below_or_not x y = go (ltb x y) (ltb→lt x y) (nltb→le x y)
  where
    go : (b : Bool) → (T b → x < y) → (T (not b) → y ≤ x) → (x < y) ⊎ (y ≤ x)
    go true h k = inl (h tt)
    go false h k = inr (k tt)

-- ---- L1: which is the first, and what becomes of it at its need
module _ (c : Counts) (l : Buffer → ℕ) where
  -- the buffers before a place hold the counts
  abbrev UpTo : ℕ → Type 0
  UpTo k = (a : Buffer) → room_code a < k → need_for a c ≤ l a

  up_more : (b : Buffer) → UpTo (room_code b) → need_for b c ≤ l b → UpTo (room_code b + 1)
  up_more b u h a q =
      ⊎_elim
      (u a)
      (λ k. subst (λ (x : Buffer). need_for x c ≤ l x) (same-buffer b a (omega (arith, q, k))) h)
      (below_or_not (room_code a) (room_code b))

  pub record First : Type 0 where
    pub buffer : Buffer
    pub first : FirstShort c l buffer

  next : {A : Type 0} (b : Buffer) → UpTo (room_code b) → (UpTo (room_code b + 1) → A ⊎ First) → A ⊎ First
  next b u k =
      ⊎_elim
      (λ h. inr record { buffer = b; first = record { short = h; earlier = u } })
      (λ h. k (up_more b u h))
      (below_or_not (l b) (need_for b c))

  none_before : UpTo 51
  none_before Vertices h = absurd (omega (arith, h))
  none_before Normals h = absurd (omega (arith, h))
  none_before Uvs h = absurd (omega (arith, h))
  none_before Indices h = absurd (omega (arith, h))

  -- all four hold the counts, or one is the first that does not
  pub room-or-first : Roomy c (l Vertices) (l Normals) (l Uvs) (l Indices) ⊎ First
  room-or-first =
      next Vertices none_before (λ v. next Normals v (λ n. next Uvs n (λ t. next Indices t (λ u.
      inl record { vertices = u Vertices (omega arith); normals = u Normals (omega arith); uvs = u Uvs (omega arith); indices = u Indices (omega arith) }))))

-- at its need the first short buffer holds the counts, so the next refusal is for a later one
module _ (c : Counts) (l m : Buffer → ℕ) (b : Buffer) (s : FirstShort c l b) (g : Lengthened b (need_for b c) l m) where
  kept-earlier : UpTo c m (room_code b)
  kept-earlier a h = rw (g.others a (λ e. let k : room_code a ≡ room_code b = ap (λ (x : Buffer). room_code x) e in absurd (omega (arith, h, k)))) (s.earlier a h)

  moves-past : (d : Buffer) → FirstShort c m d → room_code b < room_code d
  moves-past d f =
      ⊎_elim
      (λ h. h)
      (λ h. absurd (omega (arith, f.short, up_more c m b kept-earlier g.longer d (omega (arith, h)))))
      (below_or_not (room_code b) (room_code d))

  pub past : c.vertices.0 ≤ 65536 → Past c (room_for c (m Vertices) (m Normals) (m Uvs) (m Indices)) b
  past h =
      ⊎_elim
      (λ r. inl (room-enough c _ _ _ _ r))
      (λ f. inr record { buffer = f.buffer; later = moves-past f.buffer f.first; refused = first_short c m f.buffer f.first h })
      (room-or-first c m)

-- whichever of the four is short, one of them is the first
pub short-first : (c : Counts) (v n t i : ℕ) → Short c v n t i → First c (lengths v n t i)
short-first c v n t i s =
    ⊎_elim
    (λ r.
    ⊎_elim (λ h. absurd (omega (arith, h, r.vertices)))
    (⊎_elim (λ h. absurd (omega (arith, h, r.normals)))
    (⊎_elim (λ h. absurd (omega (arith, h, r.uvs)))
    (λ h. absurd (omega (arith, h, r.indices)))))
    s)
    (λ f. f)
    (room-or-first c (lengths v n t i))

pub roomed-done : (a : Answer) (c : Counts) (v n t i : ℕ) → roomed a v n t i ≡ Ok c → (a ≡ Ok c) × Roomy c v n t i
roomed-done (Err e) c v n t i p = not_done p
roomed-done (Ok d) c v n t i p =
    let h = room-for-done d v n t i c p in
    (ap Ok h.0, rw h.0 at h.1)

-- ---- what is lent, after a call that is done and after one that is refused
module _ {A : Type 0} (a : Answer) (old new : A) where
  pub after-done : {c : Counts} → a ≡ Ok c → new ≡ after a old new
  after-done e = rw e

  pub after-refused : {e : Refusal} → a ≡ Err e → old ≡ after a old new
  after-refused e = rw e
