-- Wrapping a corner by a reciprocal length at hand, alone or with the opposite corner. Assumes nothing.
use mathlib.Core.Path.{◌≡◌, refl, sym, ap, ◌∙◌}
use mathlib.Core.Bool.{Bool, true, false, ◌&&◌, not, false≢true, cond}
use borrow.Author.Tests.{eqb-true}
use lib.Dec.{T, eqb}
use lib.Ieee.{Float, nan, inf, fin, lt, le, eq, is_nan, binary32, of_bits, to_bits}
use lib.Ieee.Bits.{of_bits-to_bits}
use lib.Ieee.Fits.{add-fits}
use Rattle.arith.specs.Root.{root}
use Rattle.face.specs.declared.vec.Vec2.{Vec2}
use Rattle.face.specs.Vec.{f0, infinity, times2, square2, length2, reciprocal, serves}
use Rattle.face.specs.Texture.{unit_or, halved, wrapped}
use Rattle.face.specs.Speed.{alike, one_of_both, large, ordinary}

-- both tests passed
pub both : (x y : Bool) → x && y ≡ true → (x ≡ true) × (y ≡ true)
both true true h = (refl, refl)
both true false h = absurd (false≢true h)
both false y h = absurd (false≢true h)

pub no-nans : (x y : Float) → eq x y ≡ true → T (not (is_nan x)) × T (not (is_nan y))
unfolding eq is_nan
no-nans nan y h = absurd (false≢true h)
no-nans (inf s) nan h = absurd (false≢true h)
no-nans (inf s) (inf t) h = (tt, tt)
no-nans (inf s) (fin t n d) h = absurd (false≢true h)
no-nans (fin s m e) nan h = absurd (false≢true h)
no-nans (fin s m e) (inf t) h = absurd (false≢true h)
no-nans (fin s m e) (fin t n d) h = (tt, tt)

-- a square by its pattern
by-pattern : (p : Vec2) → square2 p ≡ of_bits binary32 (to_bits binary32 (square2 p))
by-pattern p = sym (of_bits-to_bits binary32 (square2 p) (add-fits binary32 _ _))

alike-squares : (p q : Vec2) → alike p q ≡ true → square2 p ≡ square2 q
alike-squares p q h =
    by-pattern p ∙ ap (of_bits binary32) (eqb-true (to_bits binary32 (square2 p)) (to_bits binary32 (square2 q)) (both (eq (square2 p) (square2 q)) (eqb (to_bits binary32 (square2 p)) (to_bits binary32 (square2 q))) h).1) ∙ sym (by-pattern q)

-- what is no more than a number is no infinity above it
no_more : (k : Float) → le k (large) ≡ true → lt k infinity ≡ true
unfolding lt le eq of_bits
no_more nan h = absurd (false≢true h)
no_more (inf true) h = refl
no_more (inf false) h = absurd (false≢true h)
no_more (fin s m e) h = refl

ordinary-serves : (k : Float) → ordinary k ≡ true → serves k ≡ true
ordinary-serves k h = let b = both (lt f0 k) (le k (large)) h in rw (b.0, no_more k b.1)

no-direction : ordinary f0 ≡ false
unfolding lt le eq of_bits
no-direction = refl

-- an ordinary reciprocal length wraps its corner
pub wrapped-by : (p : Vec2) (k : Float) → k ≡ reciprocal (length2 p) → ordinary k ≡ true → halved (times2 p k) ≡ wrapped p
wrapped-by p k e h = rw (ordinary-serves k h) at (ap (λ (x : Float). halved (unit_or p x)) e)

-- what is picked or else +0, and gives a direction, was picked
picked : (b : Bool) (x k : Float) → k ≡ cond b x f0 → ordinary k ≡ true → (b ≡ true) × (k ≡ x)
picked true x k e h = (refl, e)
picked false x k e h = absurd (false≢true (sym no-direction ∙ ap ordinary (sym e) ∙ h))

-- of two that are alike, the reciprocal length of one is the other's
alike-one : (p q : Vec2) (k : Float) → alike p q ≡ true → k ≡ reciprocal (length2 p) → k ≡ reciprocal (length2 q)
alike-one p q k a r = r ∙ ap (λ (s : Float). reciprocal (root s)) (alike-squares p q a)

-- and the one of both wraps either
pub both-wrapped : (p q : Vec2) (k : Float) → k ≡ one_of_both p q → ordinary k ≡ true → (halved (times2 p k) ≡ wrapped p) × (halved (times2 q k) ≡ wrapped q)
both-wrapped p q k e h =
    let a = picked (alike p q) (reciprocal (length2 p)) k e h in
    (wrapped-by p k a.1 h, wrapped-by q k (alike-one p q k a.0 a.1) h)
