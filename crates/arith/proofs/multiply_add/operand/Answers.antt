-- `operand`: moved up by n, which is enough for the digits of normal numbers, or by as much as its zeros say. Assumes nothing.
use Rattle.std.proofs.Common.{◌≡◌, ℕ, zero, suc, ◌+◌, ◌-◌, ◌*◌, ◌%◌, ◌^◌, ◌<◌, ◌≤◌, ◌⊎◌, sym, refl, ap, ◌∙◌, subst, inl, inr, ⊎_elim, lt_of_lt_of_le, lt_irrefl, mod-eq_of_lt, mul_assoc, zero-mul, arith, lit<, lit≤, pow-add, shl_lt}
use native.Mathlib.Nat.{mul-mod_left}
use Rattle.arith.specs.Parts.{Ready, exp_unless_zero}
use Rattle.arith.proofs.Placing.{zeros_of}
use Rattle.arith.proofs.multiply_add.operand.Goals as goal
use Rattle.arith.proofs.multiply_add.operand.Goals.{Start}

module _ (c : Start) where
  abbrev n : ℕ
  n = c.args.n

  abbrev m : ℕ
  m = c.args.sig * 2 ^ n

  small : m < 2 ^ 62
  small =
      let g : n ≤ 60 = c.requires.3 in
      let e : 62 - n + n ≡ 62 = omega arith in
      subst (λ (y : ℕ). m < 2 ^ y) e (shl_lt (62 - n) n c.requires.1)

  near-is : m % 2 ^ 64 ≡ m
  near-is = mod-eq_of_lt (lt_of_lt_of_le small (lit≤ tt))

  zeros : m % 2 ^ 14 ≡ 0
  zeros =
      let g : 14 ≤ n = c.requires.2 in
      let e : n ≡ n - 14 + 14 = omega arith in
      ap (λ (y : ℕ). c.args.sig * 2 ^ y % 2 ^ 14) e
      ∙ ap (λ (y : ℕ). y % 2 ^ 14) (ap (λ (y : ℕ). c.args.sig * y) (pow-add 2 (n - 14) 14) ∙ sym (mul_assoc c.args.sig (2 ^ (n - 14)) (2 ^ 14)))
      ∙ mul-mod_left (c.args.sig * 2 ^ (n - 14)) (2 ^ 14)

  value : m * 2 ^ (c.args.exp - n) ≡ c.args.sig * 2 ^ c.args.exp
  value =
      let e : n + (c.args.exp - n) ≡ c.args.exp = (let g : n ≤ 60 = c.requires.3 in let h : 128 ≤ c.args.exp = c.requires.4 in omega arith) in
      mul_assoc c.args.sig (2 ^ n) (2 ^ (c.args.exp - n)) ∙ ap (λ (y : ℕ). c.args.sig * y) (sym (pow-add 2 n (c.args.exp - n)) ∙ ap (λ (y : ℕ). 2 ^ y) e)

  -- zero, or digits enough
  ready : (x : ℕ) → m ≡ x → (x ≡ 0) ⊎ (2 ^ 60 ≤ x) → Ready x (exp_unless_zero x (c.args.exp - n)) × (x * 2 ^ exp_unless_zero x (c.args.exp - n) ≡ c.args.sig * 2 ^ c.args.exp)
  ready zero e h = (
    record { small = lit< tt; zeros = refl; high = lit≤ tt; lead = inl (refl, refl) },
    sym (sym value ∙ ap (λ (y : ℕ). y * 2 ^ (c.args.exp - n)) e ∙ zero-mul (2 ^ (c.args.exp - n))),
  )
  ready (suc x) e h = (
    record {
      small = subst (λ (y : ℕ). y < 2 ^ 62) e small;
      zeros = ap (λ (y : ℕ). y % 2 ^ 14) (sym e) ∙ zeros;
      high = (let g : c.args.exp ≤ 1000 = c.requires.5 in omega arith);
      lead = inr (⊎_elim (λ z. absurd (let g : suc x ≡ 0 = z in omega arith)) (λ l. l) h, (let g : n ≤ 60 = c.requires.3 in let k : 128 ≤ c.args.exp = c.requires.4 in omega arith));
    },
    ap (λ (y : ℕ). y * 2 ^ (c.args.exp - n)) (sym e) ∙ value,
  )

-- a shift of nothing is nothing
some : (sig n : ℕ) → 0 < (sig * 2 ^ n) % 2 ^ 64 → 0 < sig
some zero n h = absurd (lt_irrefl 0 (subst (λ (x : ℕ). 0 < x % 2 ^ 64) (zero-mul (2 ^ n)) h))
some (suc sig) n h = omega arith

-- r + 1 wraps to zero, or is 2 ^ 60 at least
above-or-zero : (r x : ℕ) → r < 2 ^ 64 → (r + 1) % 2 ^ 64 ≡ x → 2 ^ 60 - 1 ≤ r → (x ≡ 0) ⊎ (2 ^ 60 ≤ x)
above-or-zero r zero b e l = inl refl
above-or-zero r (suc x) b e l = inr (omega arith)

pub place-requires : goal.place-requires
place-requires c = let w = c.wrapping_sub_u64.ensures.value in
    let g : 0 < c.args.sig = some c.args.sig c.args.n (omega (arith, w)) in
    omega arith

pub returns-then-wrapping_sub_u64-lt1152921504606846975 : goal.returns-then-wrapping_sub_u64-lt1152921504606846975
returns-then-wrapping_sub_u64-lt1152921504606846975 c = let p = c.place.ensures in
    let z : c.place.result.sig % 2 ^ 14 ≡ 0 = zeros_of c.args.sig 48 (c.args.exp - c.place.result.exp) c.place.result.sig c.requires.0 p.moved p.lead (lit≤ tt) in
    let l : 2 ^ 61 ≤ c.place.result.sig = p.lead in
    (record { small = p.small; zeros = z; high = omega arith; lead = inr (omega arith, omega arith) }, p.value)

pub returns : goal.returns
returns c = let x = m (goal.at.returns c).Start % 2 ^ 64 in
    subst (λ (e : ℕ). Ready x e × (x * 2 ^ e ≡ c.args.sig * 2 ^ c.args.exp)) (sym c.unless_zero.ensures)
    (ready (goal.at.returns c).Start x (sym (near-is (goal.at.returns c).Start)) (above-or-zero c.wrapping_sub_u64.result x (omega arith) c.wrapping_sub_u64.ensures.value c.if-wrapping_sub_u64-lt1152921504606846975.false))
