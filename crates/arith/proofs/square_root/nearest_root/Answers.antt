-- `nearest_root`: the guess where it is right, and else what the steps find. Assumes nothing.
use Rattle.std.proofs.Common.{◌≡◌, ℕ, ◌+◌, ◌-◌, ◌*◌, ◌%◌, ◌^◌, ◌<◌, ◌≤◌, subst, le_trans, mod-eq_of_lt, mul-le-mul, mul-pos, arith, lit≤, pow_pos, pow_mono}
use Rattle.arith.specs.Parts.{NearestRoot}
use Rattle.arith.proofs.WholeRoots.{times-next}
use Rattle.arith.proofs.square_root.nearest_root.Goals as goal
use Rattle.arith.proofs.square_root.nearest_root.Goals.{After-guess-r, Start}

module _ (c : Start) where
  abbrev a : ℕ
  a = c.args.m * 2 ^ (23 + c.args.odd)

  a-le : a ≤ 2 ^ 48 - 2 ^ 24
  a-le =
      le_trans
      (mul-le-mul (let g : c.args.m ≤ 2 ^ 24 - 1 = (let l : c.args.m < 2 ^ 24 = c.requires.1 in omega arith) in g) (pow_mono (let g : 23 + c.args.odd ≤ 24 = (let l : c.args.odd < 2 = c.requires.2 in omega arith) in g)))
      (lit≤ tt)

  a-pos : 0 < a
  a-pos = mul-pos (let g : 0 < c.args.m = (let l : 2 ^ 23 ≤ c.args.m = c.requires.0 in omega arith) in g) (pow_pos (23 + c.args.odd))

  word : a % 2 ^ 64 ≡ a
  word = mod-eq_of_lt (let l : a ≤ 2 ^ 48 - 2 ^ 24 = a-le in omega arith)

square_le : (c : After-guess-r) → c.guess-r.result * c.guess-r.result ≤ 2 ^ 50
square_le c = mul-le-mul c.guess-r.ensures c.guess-r.ensures

pub overflow_add-a-2 : goal.overflow_add-a-2
overflow_add-a-2 c = omega (arith, word (goal.at.overflow_add-a-2 c).Start, a-le (goal.at.overflow_add-a-2 c).Start, c.guess-r.ensures)

pub overflow_mul-r : goal.overflow_mul-r
overflow_mul-r c = omega (arith, square_le c)

pub overflow_add-r : goal.overflow_add-r
overflow_add-r c = omega (arith, square_le c)

pub overflow_mul-r-2 : goal.overflow_mul-r-2
overflow_mul-r-2 c = omega (arith, c.guess-r.ensures)

pub returns-then-wrapping_sub_u64-r : goal.returns-then-wrapping_sub_u64-r
returns-then-wrapping_sub_u64-r c = let w = c.wrapping_sub_u64.ensures.value in
    let r = c.guess-r.result in
    record { above = omega (arith, w, word (goal.at.returns-then-wrapping_sub_u64-r c).Start, a-le (goal.at.returns-then-wrapping_sub_u64-r c).Start, square_le (goal.at.returns-then-wrapping_sub_u64-r c).After-guess-r, c.if-wrapping_sub_u64-r.true); below = omega (arith, w, word (goal.at.returns-then-wrapping_sub_u64-r c).Start, a-le (goal.at.returns-then-wrapping_sub_u64-r c).Start, square_le (goal.at.returns-then-wrapping_sub_u64-r c).After-guess-r, c.if-wrapping_sub_u64-r.true, times-next r) }

pub stepped-requires : goal.stepped-requires
stepped-requires c = omega (arith, word (goal.at.stepped-requires c).Start, a-le (goal.at.stepped-requires c).Start, a-pos (goal.at.stepped-requires c).Start, c.guess-r.ensures)

pub returns : goal.returns
returns c = subst (λ (x : ℕ). NearestRoot x c.stepped.result) (word (goal.at.returns c).Start) c.stepped.ensures
