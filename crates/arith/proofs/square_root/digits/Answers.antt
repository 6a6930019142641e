-- `digits`: a pattern's significand and exponent, in finer units, and a subnormal one moved up. Assumes nothing.
use Rattle.std.proofs.Common.{◌≡◌, ℕ, zero, suc, ◌+◌, ◌*◌, ◌/◌, ◌%◌, ◌^◌, ◌<◌, ◌≤◌, sym, ap, ◌∙◌, subst, ap₂, mul_assoc, arith}
use Rattle.arith.specs.Pattern.{lead, sig_of, exp_of}
use Rattle.arith.proofs.Values.{sig-lt}
use Rattle.arith.proofs.WholeRoots.{finer}
use Rattle.arith.proofs.RootCases.{sig-pos}
use Rattle.arith.proofs.square_root.digits.Goals as goal

-- what the two parts of a pattern are
module _ (b s e : ℕ) (pos : 0 < b) (top : b < 255 * 2 ^ 23) (s-is : s ≡ sig_of b) (e-is : e ≡ exp_of b) where
  s-pos : 0 < s
  s-pos = subst (λ (x : ℕ). 0 < x) (sym s-is) (sig-pos b pos)

  s-lt : s < 2 ^ 24
  s-lt = subst (λ (x : ℕ). x < 2 ^ 24) (sym s-is) (sig-lt b)

  e-lt : e < 254
  e-lt = omega arith

  value : s * 2 ^ (e + 126) * 2 ^ 23 ≡ sig_of b * 2 ^ exp_of b * 2 ^ 149
  value = ap (λ (x : ℕ). x * 2 ^ 23) (finer s e 126) ∙ mul_assoc (s * 2 ^ e) (2 ^ 126) (2 ^ 23) ∙ ap₂ (λ (x y : ℕ). x * 2 ^ y * 2 ^ 149) s-is e-is

-- a field has its leading digit
full : (b : ℕ) → 2 ^ 23 ≤ b → 2 ^ 23 ≤ sig_of b
full b h = go (b / 2 ^ 23) (omega arith)
  where
    go : (x : ℕ) → 0 < x → 2 ^ 23 ≤ lead x + b % 2 ^ 23
    go zero p = absurd (let g : 0 < 0 = p in omega arith)
    go (suc x) p = omega arith

pub place-requires : goal.place-requires
place-requires c = omega (arith, s-pos _ _ _ c.requires.0 c.requires.1 c.significand-sig.ensures c.exponent.ensures, s-lt _ _ _ c.requires.0 c.requires.1 c.significand-sig.ensures c.exponent.ensures, e-lt _ _ _ c.requires.0 c.requires.1 c.significand-sig.ensures c.exponent.ensures)

pub returns-then-bits-lt8388608 : goal.returns-then-bits-lt8388608
returns-then-bits-lt8388608 c = let d = c.place.result in
    let p = c.place.ensures in
    record {
      lead = p.lead;
      small = p.small;
      low = omega arith;
      high = omega (arith, e-lt _ _ _ c.requires.0 c.requires.1 c.significand-sig.ensures c.exponent.ensures);
      value = finer d.sig d.exp 23 ∙ ap (λ (x : ℕ). x * 2 ^ 23) p.value ∙ value _ _ _ c.requires.0 c.requires.1 c.significand-sig.ensures c.exponent.ensures;
    }

pub returns : goal.returns
returns c = record {
  lead = subst (λ (x : ℕ). 2 ^ 23 ≤ x) (sym c.significand.ensures) (full c.args.bits c.if-bits-lt8388608.false);
  small = s-lt _ _ _ c.requires.0 c.requires.1 c.significand.ensures c.exponent-2.ensures;
  low = omega arith;
  high = omega (arith, e-lt _ _ _ c.requires.0 c.requires.1 c.significand.ensures c.exponent-2.ensures);
  value =
      finer c.significand.result (c.exponent-2.result + 126) 23
      ∙ value _ _ _ c.requires.0 c.requires.1 c.significand.ensures c.exponent-2.ensures;
}
