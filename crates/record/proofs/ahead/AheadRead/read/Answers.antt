-- `Ahead::read` gives the first byte of those that are read and not yet given. Assumes nothing.
use Rattle.std.proofs.Common.{◌≡◌, ℕ, ◌+◌, ◌-◌, ◌<◌, ◌≤◌, List, [], ◌∷◌, ◌++◌, length, suc, take, drop, slice_range, slice_index_or, slice_set, refl, ap, ◌∙◌, arith, rules, add-one, drop-cons}
use Rattle.std.proofs.KnownBytes.{prepend_known-read}
use Rattle.record.proofs.ahead.AheadRead.read.Goals as goal

-- the first of a range, and the rest of it
range-first : (xs : List ℕ) (a e : ℕ) → a < e → e ≤ length xs → slice_range xs a e ≡ (slice_index_or xs a 0 ∷ []) ++ slice_range xs (a + 1) e
range-first xs a e some within =
    let x = slice_index_or xs a 0 in
    ap (take (e - a)) (drop-cons xs a 0 (omega arith))
    ∙ rw (add-one a) (ap (λ n. take n (x ∷ drop (suc a) xs)) {y = suc (e - suc a)} (omega arith))

-- what is set first is the first
set-first : (xs : List ℕ) (x : ℕ) → 0 < length xs → take 1 (slice_set xs 0 x) ≡ x ∷ []
set-first [] x some = absurd (omega (arith, some))
set-first (y ∷ ys) x some = refl

pub returns-clause-bytes : goal.returns-clause-bytes
returns-clause-bytes g c =
    let f = c.fill.new.self in
    let some : 0 < length c.args.buf.now = search rules in
    let split = range-first f.places f.start f.end (omega (arith, c.if-self.false)) (search rules) in
    let read = prepend_known-read _ _ _ _ _ (◌≡◌ {A = ℕ} 1 0) c.fill.ensures.bytes split (λ p. absurd (omega (arith, p))) in
    (rw (set-first c.args.buf.now _ some) read.0, λ p some. read.1 p)
