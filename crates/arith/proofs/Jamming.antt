-- `jam` by its digits, and in a sum: where the jammed part is far below the other, or nothing is cut, the sum rounds as the exact one does. Assumes nothing.
use Rattle.std.proofs.Common.{◌≡◌, ℕ, zero, suc, ◌+◌, ◌-◌, ◌*◌, ◌/◌, ◌%◌, ◌^◌, ◌<◌, ◌≤◌, min, Bool, true, false, cond, not, ◌&&◌, T, ltb, sym, refl, ap, ◌∙◌, subst, ap₂, lt_of_lt_of_le, lt_of_le_of_lt, le_of_lt, mul-le-mul_right, mod-lt, mod-eq_of_lt, mul_assoc, suc-mul, mul_comm, add-mul, mul-lt-mul_of_pos_right, div-add-mod', zero-mul, div-mul-le_self, arith, ltb→lt, lt→ltb, nltb→le, pow_pos, pow_mono, pow-add, shr-shr}
use native.Mathlib.Nat.{zero-div, zero-mod, div-eq_of_lt}
use mathlib.Core.Bool.{beq}
use lib.Arith.{digits_div, digits_mod, le→nltb}
use lib.Pow.{shr_le}
use lib.Ieee.{Float, Format, prec, low, round, sum}
use lib.Ieee.Bits.{is_true, is_false}
use Rattle.arith.specs.Digit.{flag, jam}
use Rattle.arith.proofs.Rounding.{flag-le, flag-pos, flag-scale, in_place, jammed}
use Rattle.arith.proofs.Values.{sub-mul}

jam-is : (n d : ℕ) → jam n d ≡ n / 2 ^ (d + 1) * 2 + flag (n % 2 ^ (d + 1))
unfolding jam
jam-is n d = refl

jam-at : (a r d : ℕ) → r < 2 ^ (d + 1) → jam (a * 2 ^ (d + 1) + r) d ≡ a * 2 + flag r
unfolding jam
jam-at a r d h = ap₂ (λ (x y : ℕ). x * 2 + flag y) (digits_div a h) (digits_mod a h)

pub jam-zero : (d : ℕ) → jam 0 d ≡ 0
unfolding jam
jam-zero d = ap₂ (λ (x y : ℕ). x * 2 + flag y) (zero-div (2 ^ (d + 1))) (zero-mod (2 ^ (d + 1)))

pub jam_none : (n : ℕ) → jam n 0 ≡ n
unfolding jam
jam_none n = go (n % 2) refl
  where
    go : (r : ℕ) → n % 2 ≡ r → n / 2 * 2 + flag (n % 2) ≡ n
    go zero e = ap (λ (x : ℕ). n / 2 * 2 + flag x) e ∙ (let g : n % 2 ≡ 0 = e in omega arith)
    go (suc zero) e = ap (λ (x : ℕ). n / 2 * 2 + flag x) e ∙ (let g : n % 2 ≡ 1 = e in omega arith)
    go (suc (suc r)) e = absurd (let g : n % 2 ≡ suc (suc r) = e in omega arith)

-- ---- bounds
pub jam-up : (b d : ℕ) → jam b d ≤ b / 2 ^ (d + 1) * 2 + 1
unfolding jam
jam-up b d = let f : flag (b % 2 ^ (d + 1)) ≤ 1 = flag-le (b % 2 ^ (d + 1)) in omega arith

pub twice-high : (x d : ℕ) → x / 2 ^ (d + 1) * 2 ≤ x
twice-high x d = let e : x / 2 ^ d / 2 ≡ x / 2 ^ (d + 1) = shr-shr x d 1 in let l : x / 2 ^ d ≤ x = shr_le x d in omega arith

pub jam-le : (b d : ℕ) → jam b d ≤ b + 1
jam-le b d = let u : jam b d ≤ b / 2 ^ (d + 1) * 2 + 1 = jam-up b d in let e : b / 2 ^ (d + 1) * 2 ≤ b = twice-high b d in omega arith

-- ---- the steps of `jammed`: from 62 on only the digit is left
jam-far : (x d : ℕ) → x < 2 ^ 63 → 62 ≤ d → jam x d ≡ flag x
unfolding jam
jam-far x d h k =
    let l : x < 2 ^ (d + 1) = lt_of_lt_of_le h (pow_mono (let g : 63 ≤ d + 1 = omega arith in g)) in
    ap₂ (λ (a b : ℕ). a * 2 + flag b) (div-eq_of_lt l) (mod-eq_of_lt l) ∙ zeroes (flag x)
  where
    zeroes : (y : ℕ) → 0 * 2 + y ≡ y
    zeroes y = omega arith

pub jam-min : (x d : ℕ) → x < 2 ^ 63 → jam x (min d 62) ≡ jam x d
jam-min x d h = go (ltb d 62) (ltb→lt d 62) (nltb→le d 62)
  where
    go : (b : Bool) → (T b → d < 62) → (T (not b) → 62 ≤ d) → jam x (min d 62) ≡ jam x d
    go true l g = ap (λ (y : ℕ). jam x y) (let k : d < 62 = l tt in omega arith)
    go false l g = jam-far x (min d 62) h (let k : 62 ≤ d = g tt in omega arith) ∙ sym (jam-far x d h (g tt))

shifted_back : (x n : ℕ) → x < 2 ^ 64 → (x / 2 ^ n * 2 ^ n) % 2 ^ 64 ≡ x / 2 ^ n * 2 ^ n
shifted_back x n h = mod-eq_of_lt (lt_of_le_of_lt (div-mul-le_self x (2 ^ n)) h)

pub jam-even : (x d : ℕ) → x < 2 ^ 64 → (x / 2 ^ (d + 1) * 2 ^ (d + 1)) % 2 ^ 64 ≡ x → x / 2 ^ (d + 1) * 2 ≡ jam x d
unfolding jam
jam-even x d h e =
    let c = 2 ^ (d + 1) in
    let z : x % c ≡ 0 = (let a : x / c * c ≡ x = sym (shifted_back x (d + 1) h) ∙ e in let b : x / c * c + x % c ≡ x = div-add-mod' x c in omega arith) in
    let g : flag (x % c) ≡ 0 = ap flag z in
    omega arith

pub jam-odd : (x d : ℕ) → x < 2 ^ 64 → ((x / 2 ^ (d + 1) * 2 ^ (d + 1)) % 2 ^ 64 ≡ x → ⊥) → x / 2 ^ (d + 1) * 2 + 1 ≡ jam x d
unfolding jam
jam-odd x d h ne =
    let g : flag (x % 2 ^ (d + 1)) ≡ 1 = go (x % 2 ^ (d + 1)) refl in
    omega arith
  where
    whole : x % 2 ^ (d + 1) ≡ 0 → x / 2 ^ (d + 1) * 2 ^ (d + 1) ≡ x
    whole z = let b : x / 2 ^ (d + 1) * 2 ^ (d + 1) + x % 2 ^ (d + 1) ≡ x = div-add-mod' x (2 ^ (d + 1)) in omega arith

    go : (r : ℕ) → x % 2 ^ (d + 1) ≡ r → flag r ≡ 1
    go zero z = absurd (ne (shifted_back x (d + 1) h ∙ whole z))
    go (suc r) z = refl

-- ---- with e zeros at the end of a number, and as many places more
jam-scale : (n d e : ℕ) → jam (n * 2 ^ e) (d + e) ≡ jam n d
jam-scale n d e =
    let c = 2 ^ (d + 1) in
    let p = 2 ^ e in
    let a = n / c in
    let r = n % c in
    let x : d + e + 1 ≡ d + 1 + e = omega arith in
    let q : 2 ^ (d + e + 1) ≡ c * p = ap (λ (y : ℕ). 2 ^ y) x ∙ pow-add 2 (d + 1) e in
    let v : n * p ≡ a * 2 ^ (d + e + 1) + r * p =
    ap (λ (y : ℕ). y * p) (sym (div-add-mod' n c)) ∙ add-mul (a * c) r p ∙ ap (λ (y : ℕ). y + r * p) (mul_assoc a c p ∙ ap (λ (y : ℕ). a * y) (sym q)) in
    let l : r * p < 2 ^ (d + e + 1) = subst (λ (y : ℕ). r * p < y) (sym q) (mul-lt-mul_of_pos_right (mod-lt n (pow_pos (d + 1))) (pow_pos e)) in
    ap (λ (y : ℕ). jam y (d + e)) v ∙ jam-at a (r * p) (d + e) l ∙ ap (λ (y : ℕ). a * 2 + y) (flag-scale r e) ∙ sym (jam-is n d)

-- ---- with b jammed: h digits more, or b taken from h digits
module _ (h b d : ℕ) where
  abbrev c : ℕ
  c = 2 ^ (d + 1)

  abbrev q : ℕ
  q = b / c

  abbrev r : ℕ
  r = b % c

  r-lt : r < c
  r-lt = mod-lt b (pow_pos (d + 1))

  b-is : q * c + r ≡ b
  b-is = div-add-mod' b c

  jam-add : jam (h * c + b) d ≡ h * 2 + jam b d
  jam-add =
      let e : h * c + b ≡ (h + q) * c + r = (let x : (h + q) * c ≡ h * c + q * c = add-mul h q c in let y : q * c + r ≡ b = b-is in omega arith) in
      let g : (h + q) * 2 + flag r ≡ h * 2 + (q * 2 + flag r) = omega arith in
      ap (λ (x : ℕ). jam x d) e ∙ jam-at (h + q) r d r-lt ∙ g ∙ ap (λ (x : ℕ). h * 2 + x) (sym (jam-is b d))

  below : jam b d < h * 2 → q < h
  below k = let e : jam b d ≡ q * 2 + flag r = jam-is b d in omega arith

  jam-lt : jam b d < h * 2 → b < h * c
  jam-lt k =
      let l : q * c + c ≤ h * c = subst (λ (x : ℕ). x ≤ h * c) (suc-mul q c) (mul-le-mul_right c (below k)) in
      let x : r < c = r-lt in
      let y : q * c + r ≡ b = b-is in
      omega arith

  jam-sub : jam b d < h * 2 → jam (h * c - b) d ≡ h * 2 - jam b d
  jam-sub k = go r refl
    where
      go : (x : ℕ) → r ≡ x → jam (h * c - b) d ≡ h * 2 - jam b d
      go zero z =
          let p : (h - q) * c + q * c ≡ h * c = sym (add-mul (h - q) q c) ∙ ap (λ (x : ℕ). x * c) (let l : q < h = below k in omega arith) in
          let e : h * c - b ≡ (h - q) * c + 0 = (let y : q * c + r ≡ b = b-is in omega arith) in
          let j : jam b d ≡ q * 2 + 0 = jam-is b d ∙ ap (λ (x : ℕ). q * 2 + flag x) z in
          let l : q < h = below k in
          ap (λ (x : ℕ). jam x d) e ∙ jam-at (h - q) 0 d (pow_pos (d + 1)) ∙ omega arith
      go (suc x) z =
          let l : q < h = below k in
          let t : r < c = r-lt in
          let p : (h - q - 1) * c + (q * c + c) ≡ h * c =
          ap (λ (x : ℕ). (h - q - 1) * c + x) (sym (suc-mul q c)) ∙ sym (add-mul (h - q - 1) (suc q) c) ∙ ap (λ (x : ℕ). x * c) (omega arith) in
          let e : h * c - b ≡ (h - q - 1) * c + (c - r) = (let y : q * c + r ≡ b = b-is in omega arith) in
          let j : jam b d ≡ q * 2 + 1 = jam-is b d ∙ ap (λ (x : ℕ). q * 2 + flag x) z in
          let g : flag (c - r) ≡ 1 = flag-pos (c - r) (omega arith) in
          ap (λ (x : ℕ). jam x d) e ∙ jam-at (h - q - 1) (c - r) d (omega arith) ∙ omega arith

-- ---- the law of rounding in units of 2 ^ e
jammed-at : (f : Format) (s : Bool) (w n d e : ℕ) → 2 ^ (prec f + 1) ≤ jam n d
    → round f s (n * 2 ^ e) (2 ^ (low f + w)) ≡ round f s (jam n d * 2 ^ (d + e)) (2 ^ (low f + w))
jammed-at f s w n d e h =
    jammed f s w (n * 2 ^ e) (d + e) (subst (λ (x : ℕ). 2 ^ (prec f + 1) ≤ x) (sym (jam-scale n d e)) h)
    ∙ ap (λ (x : ℕ). round f s (x * 2 ^ (d + e)) (2 ^ (low f + w))) (jam-scale n d e)

-- ---- the sum of h * 2 at 2 ^ (d + e) and b at 2 ^ e
module _ (f : Format) (s t : Bool) (h b d e w : ℕ) where
  abbrev D : ℕ
  D = 2 ^ (low f + w)

  abbrev p : ℕ
  p = 2 ^ (d + e)

  abbrev j : ℕ
  j = jam b d

  abbrev x : ℕ
  x = h * 2 * p

  x-is : h * 2 ^ (d + 1) * 2 ^ e ≡ x
  x-is =
      ap (λ (y : ℕ). h * y * 2 ^ e) (pow-add 2 d 1 ∙ mul_comm (2 ^ d) 2)
      ∙ ap (λ (y : ℕ). y * 2 ^ e) (sym (mul_assoc h 2 (2 ^ d)))
      ∙ mul_assoc (h * 2) (2 ^ d) (2 ^ e)
      ∙ ap (λ (y : ℕ). h * 2 * y) (sym (pow-add 2 d e))

  far-like : 2 ^ (prec f + 1) ≤ h * 2 + j → round f s (x + b * 2 ^ e) D ≡ round f s (x + j * p) D
  far-like l =
      ap (λ (y : ℕ). round f s (y + b * 2 ^ e) D) (sym x-is)
      ∙ ap (λ (y : ℕ). round f s y D) (sym (add-mul (h * 2 ^ (d + 1)) b (2 ^ e)))
      ∙ jammed-at f s w (h * 2 ^ (d + 1) + b) d e (subst (λ (y : ℕ). 2 ^ (prec f + 1) ≤ y) (sym (jam-add h b d)) l)
      ∙ ap (λ (y : ℕ). round f s (y * p) D) (jam-add h b d)
      ∙ ap (λ (y : ℕ). round f s y D) (add-mul (h * 2) j p)

  far-unlike : (g : Bool) → j < h * 2 → 2 ^ (prec f + 1) ≤ h * 2 - j → round f g (x - b * 2 ^ e) D ≡ round f g (x - j * p) D
  far-unlike g k l =
      ap (λ (y : ℕ). round f g (y - b * 2 ^ e) D) (sym x-is)
      ∙ ap (λ (y : ℕ). round f g y D) (sub-mul (h * 2 ^ (d + 1)) b (2 ^ e))
      ∙ jammed-at f g w (h * 2 ^ (d + 1) - b) d e (subst (λ (y : ℕ). 2 ^ (prec f + 1) ≤ y) (sym (jam-sub h b d k)) l)
      ∙ ap (λ (y : ℕ). round f g (y * p) D) (jam-sub h b d k)
      ∙ ap (λ (y : ℕ). round f g y D) (sym (sub-mul (h * 2) j p))

  less-exact : j < h * 2 → b * 2 ^ e < x
  less-exact k = subst (λ (y : ℕ). b * 2 ^ e < y) x-is (mul-lt-mul_of_pos_right (jam-lt h b d k) (pow_pos e))

  less-jammed : j < h * 2 → j * p < x
  less-jammed k = mul-lt-mul_of_pos_right k (pow_pos (d + e))

  -- where y is below x, `sum` adds or subtracts
  pick : (y : ℕ) → y < x → sum f s x t y D ≡ cond (beq s t) (round f s (x + y) D) (round f (s && true) (x - y) D)
  unfolding sum
  pick y l =
      ap (λ (q : Bool). cond (beq s t) (round f s (x + y) D) (cond q (round f t (y - x) D) (round f (s && ltb y x) (x - y) D))) (is_false (ltb x y) (le→nltb x y (le_of_lt l)))
      ∙ ap (λ (q : Bool). cond (beq s t) (round f s (x + y) D) (round f (s && q) (x - y) D)) (is_true (ltb y x) (lt→ltb y x l))

  -- the jammed part is far below the other
  pub far : 2 ^ (prec f + 1) + j ≤ h * 2 → sum f s x t (b * 2 ^ e) D ≡ sum f s x t (j * p) D
  far l =
      let P : 0 < 2 ^ (prec f + 1) = pow_pos (prec f + 1) in
      let k : j < h * 2 = omega arith in
      pick (b * 2 ^ e) (less-exact k)
      ∙ ap₂ (λ (y z : Float). cond (beq s t) y z) (far-like (omega arith)) (far-unlike (s && true) k (omega arith))
      ∙ sym (pick (j * p) (less-jammed k))

  -- nothing is cut
  pub whole : b % 2 ^ (d + 1) ≡ 0 → sum f s x t (b * 2 ^ e) D ≡ sum f s x t (j * p) D
  whole z =
      let q = b / 2 ^ (d + 1) in
      let i : j ≡ q * 2 + 0 = jam-is b d ∙ ap (λ (y : ℕ). q * 2 + flag y) z in
      let v : b ≡ j * 2 ^ d =
      sym (div-add-mod' b (2 ^ (d + 1))) ∙ ap (λ (y : ℕ). q * 2 ^ (d + 1) + y) (z ∙ sym (zero-mul (2 ^ d))) ∙ sym (in_place q 0 d) ∙ ap (λ (y : ℕ). y * 2 ^ d) (sym i) in
      ap (λ (y : ℕ). sum f s x t y D) (ap (λ (y : ℕ). y * 2 ^ e) v ∙ mul_assoc j (2 ^ d) (2 ^ e) ∙ ap (λ (y : ℕ). j * y) (sym (pow-add 2 d e)))
