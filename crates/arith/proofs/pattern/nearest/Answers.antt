-- `nearest`: what is added carries into the quotient exactly where the remainder asks for it. Assumes nothing.
use Rattle.std.proofs.Common.{◌≡◌, ℕ, ◌+◌, ◌-◌, ◌*◌, ◌/◌, ◌%◌, ◌^◌, ◌<◌, ◌≤◌, sym, refl, ap, ◌∙◌, arith, pow_pos, pow_mono}
use lib.Ieee.Nearest.{closest}
use Rattle.arith.proofs.Placing.{near-far, half-word, half_twice, halved}
use Rattle.arith.proofs.pattern.nearest.Goals as goal
use Rattle.arith.proofs.pattern.nearest.Goals.{Else-sh-gt63}

module _ (c : Else-sh-gt63) where
  abbrev sh : ℕ
  sh = c.args.sh

  half_is : (1 * 2 ^ (sh - 1)) % 2 ^ 64 ≡ 2 ^ (sh - 1)
  half_is = half-word sh c.requires.1 c.if-sh-gt63.false

  half_pos : 0 < 2 ^ (sh - 1)
  half_pos = pow_pos (sh - 1)

  half_le : 2 ^ (sh - 1) ≤ 2 ^ 62
  half_le = pow_mono (let g : sh - 1 ≤ 62 = (let l : sh ≤ 63 = c.if-sh-gt63.false in omega arith) in g)

pub returns-then-sh-gt63 : goal.returns-then-sh-gt63
returns-then-sh-gt63 c = near-far _ _ c.requires.0 c.if-sh-gt63.true

pub overflow_add-result : goal.overflow_add-result
overflow_add-result c = omega (arith, half_is c, half_le c)

pub overflow_sub-result : goal.overflow_sub-result
overflow_sub-result c = omega (arith, half_is c, half_pos c)

pub overflow_add-result-2 : goal.overflow_add-result-2
overflow_add-result-2 c = omega (arith, half_is c, half_le c)

pub returns : goal.returns
returns c = let x = c.args.x in
    let s = c.args.sh in
    let h = 2 ^ (s - 1) in
    let t : h * 2 ≡ 2 ^ s = half_twice s c.requires.1 in
    ap (λ (y : ℕ). (x + y - 1 + x / 2 ^ s % 2) / 2 ^ s) (half_is c)
    ∙ ap (λ (y : ℕ). (y + x / 2 ^ s % 2) / 2 ^ s) (let p : 0 < h = half_pos c in let g : x + h - 1 ≡ x + (h - 1) = omega arith in g)
    ∙ ap (λ (y : ℕ). (x + (h - 1) + x / y % 2) / y) (sym t)
    ∙ halved x h (x / (h * 2)) (x % (h * 2)) (pow_pos (s - 1)) refl refl
    ∙ ap (λ (y : ℕ). closest x y) t
