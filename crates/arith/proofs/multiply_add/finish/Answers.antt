-- `finish`: the digits of the sum, moved up, rounded and packed. Assumes nothing.
use Rattle.std.proofs.Common.{◌≡◌, ℕ, ◌+◌, ◌-◌, ◌*◌, ◌^◌, ◌≤◌, sym, ap, ◌∙◌, subst, ap₂, inl, inr, arith}
use lib.Ieee.{binary32, round, of_bits}
use lib.Ieee.Nearest.{closest}
use Rattle.arith.specs.Pattern.{packed}
use Rattle.arith.specs.Parts.{Summed, shift_of}
use Rattle.arith.proofs.Packing.{zeroed, finished, q-le}
use Rattle.arith.proofs.multiply_add.finish.Goals as goal
use Rattle.arith.proofs.multiply_add.finish.Goals.{After-nearest-q}

lead-exp : (s e : ℕ) → Summed s e → (s ≡ 0 → ⊥) → 64 ≤ e
lead-exp s e r ne = elim r.lead [ inl z ↦ absurd (ne z) | inr h ↦ h ]

q-is : (c : After-nearest-q) → c.nearest-q.result ≡ closest c.place-p.result.sig (2 ^ shift_of 39 277 c.place-p.result.exp)
q-is c = c.nearest-q.ensures ∙ ap (λ (x : ℕ). closest c.place-p.result.sig (2 ^ x)) c.dropped-sh.ensures

pub returns-then-r-eq0 : goal.returns-then-r-eq0
returns-then-r-eq0 c = let r = c.args.r in
    c.pack.ensures ∙ sym (ap (λ (x : ℕ). round binary32 r.neg (x * 2 ^ r.exp) (2 ^ 426)) c.if-r-eq0.true ∙ zeroed r.neg r.exp)

pub place-p-requires : goal.place-p-requires
place-p-requires c = let l : 64 ≤ c.args.r.exp = lead-exp c.args.r.sig c.args.r.exp c.requires c.if-r-eq0.false in
    omega arith

pub pack-requires-2 : goal.pack-requires-2
pack-requires-2 c = let p = c.place-p in
    subst (λ (x : ℕ). x ≤ 2 ^ 24) (sym (q-is (goal.at.pack-requires-2 c).After-nearest-q)) (q-le c.args.r.neg p.result.sig p.result.exp 39 277 p.ensures.lead p.ensures.small)

pub returns : goal.returns
returns c = let p = c.place-p in
    let r = c.args.r in
    c.pack-2.ensures
    ∙ ap₂ (λ (x y : ℕ). of_bits binary32 (packed r.neg (p.result.exp + x - 277) y)) c.dropped-sh.ensures (q-is (goal.at.returns c).After-nearest-q)
    ∙ sym (ap (λ (x : ℕ). round binary32 r.neg x (2 ^ 426)) (sym p.ensures.value) ∙ finished r.neg p.result.sig p.result.exp 39 277 p.ensures.lead p.ensures.small)
