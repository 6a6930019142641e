use Prim.Native.Nat.{ℕ, suc, ◌+◌, ◌*◌, ◌^◌, ◌≤◌, ◌<◌}
use native.Mathlib.Nat.{mul-le-mul_right, suc-mul, pow-suc, pow-le-pow_left, pow-le-pow_right, le_trans}
use native.Mathlib.Numerals.{add-one}
use native.Mathlib.Omega.{arith}
use mathlib.Core.Path.{◌≡◌, ap, ◌∙◌}
use lib.Seq.{length-take-le}
use Rattle.arith_cases.proofs.cell.cell.Goals as goal

-- one digit more
longer : (v b d k : ℕ) → v < b ^ k → d < b → v * b + d < b ^ (k + 1)
longer v b d k p h =
    let m : suc v * b ≤ b ^ k * b = mul-le-mul_right b p in
    let s : suc v * b ≡ v * b + b = suc-mul v b in
    let t : b ^ (k + 1) ≡ b ^ k * b = ap (λ (n : ℕ). b ^ n) (add-one k) ∙ pow-suc b k in
    omega arith

short : (b k : ℕ) → b ≤ 16 → k ≤ 8 → b ^ k ≤ 2 ^ 32
short b k g h = le_trans (pow-le-pow_left g k) (pow-le-pow_right (omega arith) h)

-- the value after a turn, where the digit is one of the base
turn : (v b d k : ℕ) → b ≤ 16 → k < 8 → v < b ^ k → d < b → v * b + d < 2 ^ 32
turn v b d k g h p q = omega (arith, longer v b d k p q, short b (k + 1) g (omega arith))

-- all eight digits
eight : (v b k n : ℕ) → v < b ^ k → n ≡ 8 → k ≤ n → n ≤ k → v < b ^ 8
eight v b k n p e g h = let all : k ≡ 8 = omega arith in rw all at p

pub overflow_mul-value : goal.overflow_mul-value
overflow_mul-value c = let n = length-take-le 8 c.args.cell.now (omega arith) in
    omega (arith, turn c.loop-byte.value c.args.base c.from-d.result c.loop-byte.byte-index (omega arith) (omega (arith, n)) c.loop-byte.invariant (omega arith))

pub overflow_add-value : goal.overflow_add-value
overflow_add-value c = let n = length-take-le 8 c.args.cell.now (omega arith) in
    omega (arith, turn c.loop-byte.value c.args.base c.from-d.result c.loop-byte.byte-index (omega arith) (omega (arith, n)) c.loop-byte.invariant (omega arith))

pub loop-byte-preserved : goal.loop-byte-preserved
loop-byte-preserved c = longer _ _ _ _ c.loop-byte.invariant (omega arith)

pub overflow_cast-result : goal.overflow_cast-result
overflow_cast-result c = let n = length-take-le 8 c.args.cell.now (omega arith) in
    omega (arith, eight _ _ _ _ c.loop-byte.invariant n c.loop-byte.auto.byte-index-end c.loop-byte-test.false, short c.args.base 8 (omega arith) (omega arith))

pub returns : goal.returns
returns c = eight _ _ _ _ c.loop-byte.invariant (length-take-le 8 c.args.cell.now (omega arith)) c.loop-byte.auto.byte-index-end c.loop-byte-test.false
