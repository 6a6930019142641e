-- `of_digits`: half the exponent, and the nearest root as the digits. Assumes nothing.
use Rattle.std.proofs.Common.{◌≡◌, ℕ, ◌+◌, ◌*◌, ◌/◌, ◌%◌, ◌^◌, ◌<◌, false, not, T, sym, refl, ap, ◌∙◌, subst, arith}
use lib.Ieee.{binary32, of_bits, nan_bits}
use Rattle.arith.specs.Pattern.{packed}
use Rattle.arith.specs.Parts.{NearestRoot}
use Rattle.arith.proofs.Packing.{packed-no-nan}
use Rattle.arith.proofs.WholeRoots.{root-lt, a-le, root-bits}
use Rattle.arith.proofs.square_root.of_digits.Goals as goal
use Rattle.arith.proofs.square_root.of_digits.Goals.{After-wide-2, Start}

module _ (c : After-wide-2) where
  abbrev st : Start
  st = c.before.before.before

  abbrev m : ℕ
  m = st.args.m

  abbrev e : ℕ
  e = st.args.e

  abbrev r : ℕ
  r = c.nearest_root-r.result

  near : NearestRoot (m * 2 ^ (23 + e % 2)) r
  near = subst (λ (x : ℕ). NearestRoot (m * 2 ^ (23 + x)) r) c.wide.ensures c.nearest_root-r.ensures

  r-lt : r < 2 ^ 24
  r-lt = root-lt (m * 2 ^ (23 + e % 2)) r near (a-le m e (m * 2 ^ (23 + e % 2)) r st.requires.0 st.requires.1 (omega arith) st.requires.3 refl near)

  half_is : c.wide-2.result ≡ e / 2
  half_is = c.wide-2.ensures

  pattern-is : c.wide-2.result * 8388608 + r ≡ packed false (e / 2) r
  pattern-is = omega (arith, r-lt, half_is)

pub overflow_add-result : goal.overflow_add-result
overflow_add-result c = omega (arith, r-lt c)

pub overflow_cast-result : goal.overflow_cast-result
overflow_cast-result c = omega (arith, r-lt c)

pub float_from_bits-result : goal.float_from_bits-result
float_from_bits-result c = subst (λ (x : ℕ). T (not (nan_bits binary32 x))) (sym (pattern-is c)) (packed-no-nan false (e c / 2) (r c))

pub returns : goal.returns
returns c = ap (λ (x : ℕ). of_bits binary32 (x * 8388608 + r c)) (half_is c) ∙ root-bits (m c) (e c) (m c * 2 ^ (23 + e c % 2)) (r c) (st c).requires.0 (st c).requires.1 (omega arith) (st c).requires.3 refl (near c)
