-- Texts written one after another. Assumes nothing.
use mathlib.Core.Path.{◌≡◌, refl, sym, ap, subst, ◌∙◌}
use mathlib.Core.List.{List, [], ◌∷◌, ◌++◌, append_assoc}
use Prim.Native.Nat.{ℕ, zero, suc, ◌+◌, ◌-◌, ◌≤◌, ◌<◌}
use native.Mathlib.Nat.{add-suc, add-zero}
use native.Mathlib.Numerals.{add-one}
use native.Mathlib.Omega.{arith}
use lib.ListN.{length, get_or, take, drop, set, length-append, length-drop}
use lib.Seq.{sets, sets-eq, drop-drop, length-take-le}
use borrow.Rule.Slice.PartMut.{put_mid}
use Rattle.face.specs.Lists.{chain}
use Rattle.buffers.specs.Laying.{laid}
use Rattle.buffers.proofs.Laid.{laid-nothing, laid-append, length-laid}
use Rattle.std.proofs.lemmas.List.{get_or_default}
use Rattle.sheet.specs.Digits.{digits, gap}
use Rattle.sheet.specs.Meshes.{word_at, lines}
use Rattle.sheet.proofs.Numerals.{length_digits}
use Rattle.sheet.specs.declared.writing_numbers.Text.{Text}
use Rattle.sheet.specs.Lent.{Put, Puts, RoomFor}

pub put-length : (old : List ℕ) (at : ℕ) (text new : List ℕ) (end : ℕ) → Put old at text new end → length new ≡ length old
put-length old at text new end p = ap length p.buffer ∙ length-laid old at text

-- ---- a text over a part of a buffer
laid-sets : (l : List ℕ) (at : ℕ) (xs : List ℕ) → laid l at xs ≡ sets l at xs
unfolding laid
laid-sets l at [] = refl
laid-sets l at (x ∷ xs) = laid-sets (set l at x) (suc at) xs

pub laid-apart : (l : List ℕ) (at : ℕ) (xs : List ℕ) → at + length xs ≤ length l → laid l at xs ≡ take at l ++ xs ++ drop (at + length xs) l
laid-apart l at xs h = laid-sets l at xs ∙ sets-eq xs l at h

pub put-part : (old : List ℕ) (at end : ℕ) (text new : List ℕ) → end ≡ at + length text → at + length text ≤ length old → new ≡ text → Put old at text (put_mid at (end - at) old new) end
put-part old at end text new e h p =
    let n : end - at ≡ length text = omega arith in
    record {
      buffer = rw (n, p, drop-drop (length text) at old) (sym (append_assoc (take at old) text (drop (at + length text) old)) ∙ sym (laid-apart old at text h));
      ends = e;
    }

-- digits over a part of as many places
pub put-digits : (old : List ℕ) (at end base w n : ℕ) (new : List ℕ) → end ≡ at + w → at + w ≤ length old → new ≡ digits base (length (take (end - at) (drop at old))) n → Put old at (digits base w n) (put_mid at (end - at) old new) end
put-digits old at end base w n new e h p =
    let k : end - at ≡ w = omega arith in
    let l : length (take (end - at) (drop at old)) ≡ w = rw k (length-take-le w (drop at old) (omega (arith, length-drop at old))) in
    put-part old at end (digits base w n) new (omega (arith, length_digits base w n)) (omega (arith, length_digits base w n)) (rw l at p)

pub room-first : (old : List ℕ) (at : ℕ) (xs ys : List ℕ) → at + length (xs ++ ys) ≤ length old → at + length xs ≤ length old
room-first old at xs ys h = omega (arith, length-append xs ys)

module _ (old : List ℕ) (at : ℕ) (xs ys mid : List ℕ) (a : ℕ) where
  pub room_next : Put old at xs mid a → at + length (xs ++ ys) ≤ length old → a + length ys ≤ length mid
  room_next p h = omega (arith, length-append xs ys, put-length old at xs mid a p, p.ends)

  pub put_next : (new : List ℕ) (b : ℕ) → Put old at xs mid a → Put mid a ys new b → Put old at (xs ++ ys) new b
  put_next new b p q = record {
    buffer = q.buffer ∙ rw (p.buffer, p.ends) (laid-append old at xs ys);
    ends = omega (arith, length-append xs ys, p.ends, q.ends);
  }

-- ---- the same of a text's buffer
pub text-room : (a : Text) (xs ys : List ℕ) → RoomFor a (xs ++ ys) → RoomFor a xs
text-room a xs ys h = room-first a.out.now a.len xs ys h

module _ (a b : Text) (xs ys : List ℕ) where
  pub text-room-next : RoomFor a (xs ++ ys) → Puts a xs b → RoomFor b ys
  text-room-next h p = room_next _ _ xs ys _ _ p.put h

  pub puts-next : (c : Text) → Puts a xs b → Puts b ys c → Puts a (xs ++ ys) c
  puts-next c p q = record { same = q.same ∙ p.same; put = put_next _ _ _ _ _ _ _ _ p.put q.put }

-- ---- a loop that writes one piece a turn
module _ (g : ℕ → List ℕ) where
  grows : (k d : ℕ) → length (chain g k) ≤ length (chain g (k + d))
  grows k zero = rw add-zero (omega arith)
  grows k (suc d) = rw add-suc (omega (arith, grows k d, length-append (chain g (k + d)) (g (k + d))))

  -- one piece more is still within all of them
  pub grown : (k m : ℕ) → k < m → length (chain g k) + length (g k) ≤ length (chain g m)
  grown k m h =
      let e : suc k + (m - suc k) ≡ m = omega arith in
      omega (arith, rw e at (grows (suc k) (m - suc k)), length-append (chain g k) (g k))

  module _ (m : ℕ) (old : List ℕ) (at : ℕ) where
    pub record Lines (k : ℕ) (now : List ℕ) (here : ℕ) : Type 0 where
      pub most : k ≤ m
      pub put : Put old at (chain g k) now here

    pub lines_none : Lines 0 old at
    lines_none = record { most = omega arith; put = record { buffer = sym (laid-nothing old at); ends = omega arith } }

    pub lines-room : (k : ℕ) (now : List ℕ) (here : ℕ) → Lines k now here → at + length (chain g m) ≤ length old → k < m → here + length (g k) ≤ length now
    lines-room k now here y r u = omega (arith, grown k m u, put-length old at (chain g k) now here y.put, y.put.ends)

    pub lines_more : (k : ℕ) (now : List ℕ) (here : ℕ) (next : List ℕ) (there : ℕ) → Lines k now here → k < m → Put now here (g k) next there → Lines (k + 1) next there
    lines_more k now here next there y u p = record {
      most = omega arith;
      put = rw (add-one k) (put_next old at (chain g k) (g k) now here next there y.put p);
    }

    pub lines-all : (k : ℕ) (now : List ℕ) (here : ℕ) → Lines k now here → m ≤ k → Put old at (chain g m) now here
    lines-all k now here y u = let e : k ≡ m = omega (arith, y.most) in rw e at y.put

-- ---- the first k numbers of a list, whatever stands past its end
module _ {A : Type 0} (word : A → List ℕ) (xs : List A) (width : ℕ) (old : Text) where
  pub record Written (k : ℕ) (now : Text) : Type 0 where
    pub same : now.out.ghost_name ≡ old.out.ghost_name
    pub put : (d : A) → Lines (word_at word d xs width) (length xs) old.out.now old.len k now.out.now now.len

  pub written-none : Written 0 old
  written-none = record { same = refl; put = λ d. lines_none (word_at word d xs width) (length xs) old.out.now old.len }

  module _ (k : ℕ) (now : Text) (x : A) (w : Written k now) (h : k < length xs) (is : x ≡ get_or xs k x) where
    pub written-room : ((d : A) → RoomFor old (lines word d xs width (length xs))) → RoomFor now (word x ++ (gap width k ∷ []))
    written-room room =
        let P : A → Type 0 = λ y. RoomFor now (word y ++ (gap width k ∷ [])) in
        subst P (sym is) (lines-room (word_at word x xs width) (length xs) old.out.now old.len k now.out.now now.len (w.put x) (room x) h)

    pub written-more : (then : Text) → Puts now (word x ++ (gap width k ∷ [])) then → Written (k + 1) then
    written-more then p = record {
      same = p.same ∙ w.same;
      put = λ d.
          let P : A → Type 0 = λ y. Put now.out.now now.len (word y ++ (gap width k ∷ [])) then.out.now then.len in
          lines_more (word_at word d xs width) (length xs) old.out.now old.len k now.out.now now.len then.out.now then.len (w.put d) h (subst P (is ∙ get_or_default xs k x d h) p.put);
    }

  pub written-all : (k : ℕ) (now : Text) (d : A) → Written k now → length xs ≤ k → Puts old (lines word d xs width (length xs)) now
  written-all k now d w h = record {
    same = w.same;
    put = lines-all (word_at word d xs width) (length xs) old.out.now old.len k now.out.now now.len (w.put d) h;
  }
