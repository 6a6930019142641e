-- The readers of both number formats take exactly what the formats write. Assumes nothing.
use mathlib.Core.Path.{◌≡◌, refl, sym, ap, subst, ◌∙◌}
use mathlib.Core.Bool.{Bool, true, false, cond}
use mathlib.Core.List.{List, [], ◌∷◌, ◌++◌}
use Prim.Native.Nat.{ℕ, zero, suc, ◌+◌, ◌*◌, ◌-◌, ◌/◌, ◌%◌, ◌^◌, ◌≤◌, ◌<◌}
use native.Mathlib.Nat.{add-zero, pow-suc, div-add-mod'}
use native.Mathlib.Omega.{arith}
use borrow.Author.Tests.{lt-ltb, le-ltb, le-leb, lt-leb, ne_eqb, ltb-true, ltb-false, leb-true, leb-false, eqb-true, eqb-false}
use lib.Dec.{ltb, leb, eqb}
use lib.ListN.{drop}
use lib.Seq.{append_snoc}
use Rattle.patterns.specs.Digits.{digit_value}
use Rattle.sheet.specs.Digits.{newline, digit, digits, divisions, digit_count, decimal}
use Rattle.sheet.specs.Sheets.{InU32}
use Rattle.sheet.proofs.Numerals.{count_small, count-more}
use Rattle.sheet.specs.Readers.{Taken, taken, none, next, only_if, digit_at, hex_from, decimal_from, decimal_of}

-- ---- what an answer shows
abbrev IsTaken : {A : Type 0} → Taken A → Type 0
IsTaken (taken a s) = Unit
IsTaken none = ⊥

pub not_none : {A : Type 0} {a : A} {s : List ℕ} → none ≡ taken a s → ⊥
not_none e = subst IsTaken (sym e) tt

pub only-if-inv : {A : Type 0} (x : Bool) (t : Taken A) (a : A) (r : List ℕ) → only_if x t ≡ taken a r → (x ≡ true) × (t ≡ taken a r)
only-if-inv true t a r e = (refl, e)
only-if-inv false t a r e = absurd (not_none e)

pub next-inv : {A B : Type 0} (t : Taken A) (f : A → List ℕ → Taken B) (b : B) (r : List ℕ) → next t f ≡ taken b r → (a : A) × (s : List ℕ) × (t ≡ taken a s) × (f a s ≡ taken b r)
next-inv (taken a s) f b r e = (a, s, refl, e)
next-inv none f b r e = absurd (not_none e)

abbrev value_of : {A : Type 0} → A → Taken A → A
value_of d (taken a s) = a
value_of d none = d

abbrev rest_of : {A : Type 0} → Taken A → List ℕ
rest_of (taken a s) = s
rest_of none = []

pub taken-value : {A : Type 0} {a b : A} {s r : List ℕ} → taken a s ≡ taken b r → a ≡ b
taken-value {a = a} e = ap (value_of a) e

pub taken-rest : {A : Type 0} {a b : A} {s r : List ℕ} → taken a s ≡ taken b r → s ≡ r
taken-rest e = ap rest_of e

-- ---- digits
pub value_low : (d : ℕ) → d < 10 → digit_value (48 + d) ≡ d
unfolding digit_value
value_low d h = rw (le-ltb (48 + d) 48 (omega arith), le-leb (48 + d) 57 (omega arith)) (omega arith)

value-high : (d : ℕ) → 10 ≤ d → d < 16 → digit_value (87 + d) ≡ d
unfolding digit_value
value-high d g h =
    rw (le-ltb (87 + d) 48 (omega arith), lt-leb (87 + d) 57 (omega arith), le-ltb (87 + d) 97 (omega arith), le-leb (87 + d) 102 (omega arith)) (omega arith)

pub value-of-digit : (d : ℕ) → d < 16 → digit_value (digit d) ≡ d
value-of-digit d h = go (ltb d 10) refl
  where
    go : (x : Bool) → ltb d 10 ≡ x → digit_value (cond x (48 + d) (87 + d)) ≡ d
    go true e = value_low d (ltb-true d 10 e)
    go false e = value-high d (ltb-false d 10 e) h

low-back : (b : ℕ) → 48 ≤ b → b ≤ 57 → digit (digit_value b) ≡ b
unfolding digit_value
low-back b g h = rw (le-ltb b 48 g, le-leb b 57 h, lt-ltb (b - 48) 10 (omega arith)) (omega arith)

high-back : (b : ℕ) → 97 ≤ b → b ≤ 102 → digit (digit_value b) ≡ b
unfolding digit_value
high-back b g h =
    rw (le-ltb b 48 (omega arith), lt-leb b 57 (omega arith), le-ltb b 97 g, le-leb b 102 h, le-ltb (b - 87) 10 (omega arith)) (omega arith)

pub digit-of-value : (b : ℕ) → digit_value b < 16 → digit (digit_value b) ≡ b
unfolding digit_value
digit-of-value b h = below (ltb b 48) refl
  where
    last : (x : Bool) → leb b 102 ≡ x → 97 ≤ b → digit (digit_value b) ≡ b
    last true e g = high-back b g (leb-true b 102 e)
    last false e g =
        let l = leb-false b 102 e in
        let z : digit_value b ≡ 16 = rw (le-ltb b 48 (omega arith), lt-leb b 57 (omega arith), le-ltb b 97 g, e) in
        absurd (omega arith)

    between : (x : Bool) → ltb b 97 ≡ x → 57 < b → digit (digit_value b) ≡ b
    between true e g =
        let z : digit_value b ≡ 16 = rw (le-ltb b 48 (omega arith), lt-leb b 57 g, e) in
        absurd (omega arith)
    between false e g = last (leb b 102) refl (ltb-false b 97 e)

    first : (x : Bool) → leb b 57 ≡ x → 48 ≤ b → digit (digit_value b) ≡ b
    first true e g = low-back b g (leb-true b 57 e)
    first false e g = between (ltb b 97) refl (leb-false b 57 e)

    below : (x : Bool) → ltb b 48 ≡ x → digit (digit_value b) ≡ b
    below true e = let z : digit_value b ≡ 16 = rw e in absurd (omega arith)
    below false e = first (leb b 57) refl (ltb-false b 48 e)

pub digit-front : (s : List ℕ) → digit_at s < 16 → s ≡ digit (digit_at s) ∷ drop 1 s
unfolding digit_at
digit-front [] h = absurd (let g : 16 < 16 = h in omega arith)
digit-front (b ∷ s) h = rw (digit-of-value b h)

low_digit : (d : ℕ) → d < 10 → digit d ≡ 48 + d
low_digit d h = rw (lt-ltb d 10 h)

-- ---- hex
pub hex-written : (k j n : ℕ) (t : List ℕ) → n < 16 ^ k → hex_from (j + k) 0 (digits 16 k n ++ t) ≡ hex_from j n t
unfolding hex_from digits digit_at
hex-written zero j n t h = let z : n ≡ 0 = (let g : n < 1 = h in omega arith) in rw (z, add-zero j)
hex-written (suc k) j n t h =
    let p : 16 ^ suc k ≡ 16 ^ k * 16 = pow-suc 16 k in
    let l : n / 16 < 16 ^ k = omega arith in
    let m : n % 16 < 16 = omega arith in
    let q : j + suc k ≡ suc j + k = omega arith in
    rw (append_snoc (digits 16 k (n / 16)) (digit (n % 16)) t, q, hex-written k (suc j) (n / 16) (digit (n % 16) ∷ t) l, value-of-digit (n % 16) m, lt-ltb (n % 16) 16 m, div-add-mod' n 16)

pub hex-read : (j k v : ℕ) (s : List ℕ) (n : ℕ) (r : List ℕ) → v < 16 ^ k → hex_from j v s ≡ taken n r → (n < 16 ^ (k + j)) × (digits 16 k v ++ s ≡ digits 16 (k + j) n ++ r)
unfolding hex_from digits
hex-read zero k v s n r h e = let p = taken-value e in let q = taken-rest e in rw (add-zero k, ← p, ← q) (h, refl)
hex-read (suc j) k v s n r h e =
    let g = only-if-inv (ltb (digit_at s) 16) (hex_from j (v * 16 + digit_at s) (drop 1 s)) n r e in
    let d : digit_at s < 16 = ltb-true (digit_at s) 16 g.0 in
    let p : 16 ^ suc k ≡ 16 ^ k * 16 = pow-suc 16 k in
    let ih = hex-read j (suc k) (v * 16 + digit_at s) (drop 1 s) n r (omega arith) g.1 in
    let q : suc k + j ≡ k + suc j = omega arith in
    let x : (v * 16 + digit_at s) / 16 ≡ v = omega arith in
    let y : (v * 16 + digit_at s) % 16 ≡ digit_at s = omega arith in
    (rw q at ih.0, ap (λ (l : List ℕ). digits 16 k v ++ l) (digit-front s d) ∙ (rw (x, y, append_snoc, q) at ih.1))

-- ---- decimal
-- the last digit and those before it
last_apart : (n : ℕ) → 10 ≤ n → decimal n ≡ decimal (n / 10) ++ ((48 + n % 10) ∷ [])
unfolding digits
last_apart n h = rw (count-more n h, low_digit (n % 10) (omega arith))

-- a digit more at the end
grown : (v d : ℕ) → 0 < v → d < 10 → decimal (v * 10 + d) ≡ decimal v ++ ((48 + d) ∷ [])
grown v d p h =
    let x : (v * 10 + d) / 10 ≡ v = omega arith in
    let y : (v * 10 + d) % 10 ≡ d = omega arith in
    rw (x, y) at (last_apart (v * 10 + d) (omega arith))

single : (d : ℕ) → d < 10 → decimal d ≡ (48 + d) ∷ []
unfolding digits
single d h = let y : d % 10 ≡ d = omega arith in rw (count_small d h, y, low_digit d h)

abbrev DigitsRead : List ℕ → ℕ → ℕ → List ℕ → Type 0
DigitsRead s v n r = 0 < v → InU32 v → decimal_from v s ≡ taken n r → InU32 n × (decimal v ++ s ≡ decimal n ++ r)

digits_more : (b : ℕ) (s : List ℕ) (v n : ℕ) (r : List ℕ) → DigitsRead s (v * 10 + digit_value b) n r → DigitsRead (b ∷ s) v n r
unfolding decimal_from
digits_more b s v n r ih z f e = go (ltb (digit_value b) 10) refl e
  where
    go : (x : Bool) → ltb (digit_value b) 10 ≡ x → cond x (only_if (ltb (v * 10 + digit_value b) 4294967296) (decimal_from (v * 10 + digit_value b) s)) (taken v (b ∷ s)) ≡ taken n r → InU32 n × (decimal v ++ (b ∷ s) ≡ decimal n ++ r)
    go true t e' =
        let g = only-if-inv (ltb (v * 10 + digit_value b) 4294967296) (decimal_from (v * 10 + digit_value b) s) n r e' in
        let d : digit_value b < 10 = ltb-true (digit_value b) 10 t in
        let w : v * 10 + digit_value b < 4294967296 = ltb-true (v * 10 + digit_value b) 4294967296 g.0 in
        let i = ih (omega arith) w g.1 in
        let a : 48 + digit_value b ≡ b = sym (low_digit (digit_value b) d) ∙ digit-of-value b (omega arith) in
        let m = grown v (digit_value b) z d in
        (i.0, ap (λ (y : ℕ). decimal v ++ (y ∷ s)) (sym a) ∙ (sym (append_snoc (decimal v) (48 + digit_value b) s) ∙ (ap (λ (l : List ℕ). l ++ s) (sym m) ∙ i.1)))
    go false t e' = let p = taken-value e' in let q = taken-rest e' in rw (← p, ← q) (f, refl)

digits-read : (s : List ℕ) (v n : ℕ) (r : List ℕ) → DigitsRead s v n r
unfolding decimal_from
digits-read [] v n r z f e = let p = taken-value e in let q = taken-rest e in rw (← p, ← q) (f, refl)
digits-read (b ∷ s) v n r z f e = digits_more b s v n r (digits-read s (v * 10 + digit_value b) n r) z f e

pub decimal-read : (s : List ℕ) (n : ℕ) (r : List ℕ) → decimal_of s ≡ taken n r → InU32 n × (s ≡ decimal n ++ r)
unfolding decimal_of
decimal-read s n r e = go (eqb (digit_at s) 0) refl g.1
  where
    g : (ltb (digit_at s) 10 ≡ true) × (cond (eqb (digit_at s) 0) (taken 0 (drop 1 s)) (decimal_from (digit_at s) (drop 1 s)) ≡ taken n r)
    g = only-if-inv (ltb (digit_at s) 10) (cond (eqb (digit_at s) 0) (taken 0 (drop 1 s)) (decimal_from (digit_at s) (drop 1 s))) n r e

    d : digit_at s < 10
    d = ltb-true (digit_at s) 10 g.0

    front : s ≡ (48 + digit_at s) ∷ drop 1 s
    front = digit-front s (omega (arith, d)) ∙ ap (λ (y : ℕ). y ∷ drop 1 s) (low_digit (digit_at s) d)

    go : (x : Bool) → eqb (digit_at s) 0 ≡ x → cond x (taken 0 (drop 1 s)) (decimal_from (digit_at s) (drop 1 s)) ≡ taken n r → InU32 n × (s ≡ decimal n ++ r)
    go true t e' =
        let p = taken-value e' in
        let q = taken-rest e' in
        let z : digit_at s ≡ 0 = eqb-true (digit_at s) 0 t in
        rw (← p, ← q) (omega arith, front ∙ ap (λ (y : ℕ). (48 + y) ∷ drop 1 s) z ∙ ap (λ (l : List ℕ). l ++ drop 1 s) (sym (single 0 (omega arith))))
    go false t e' =
        let c = eqb-false (digit_at s) 0 t in
        let i = digits-read (drop 1 s) (digit_at s) n r (omega (arith, d)) (omega (arith, d)) e' in
        (i.0, front ∙ (ap (λ (l : List ℕ). l ++ drop 1 s) (sym (single (digit_at s) d)) ∙ i.1))

digits-written : (k n : ℕ) (t : List ℕ) → 0 < n → n < 10 ^ k → InU32 n → decimal_of (decimal n ++ t) ≡ decimal_from n t
unfolding decimal_of decimal_from digit_at
digits-written zero n t z h f = absurd (let g : n < 1 = h in omega arith)
digits-written (suc k) n t z h f = go (ltb n 10) refl (digits-written k (n / 10) ((48 + n % 10) ∷ t))
  where
    p : 10 ^ suc k ≡ 10 ^ k * 10
    p = pow-suc 10 k

    m : n % 10 < 10
    m = omega arith

    go : (x : Bool) → ltb n 10 ≡ x → (0 < n / 10 → n / 10 < 10 ^ k → InU32 (n / 10) → decimal_of (decimal (n / 10) ++ ((48 + n % 10) ∷ t)) ≡ decimal_from (n / 10) ((48 + n % 10) ∷ t)) → decimal_of (decimal n ++ t) ≡ decimal_from n t
    go true e ih =
        let d : n < 10 = ltb-true n 10 e in
        ap (λ (l : List ℕ). decimal_of (l ++ t)) (single n d) ∙ rw (value_low n d, e, ne_eqb n 0 (omega arith))
    go false e ih =
        let b = ltb-false n 10 e in
        let i = ih (omega arith) (omega (arith, p)) (omega arith) in
        ap (λ (l : List ℕ). decimal_of (l ++ t)) (last_apart n b)
        ∙ (ap decimal_of (append_snoc (decimal (n / 10)) (48 + n % 10) t)
        ∙ (i ∙ rw (value_low (n % 10) m, lt-ltb (n % 10) 10 m, div-add-mod' n 10, lt-ltb n 4294967296 f)))

-- a decimal before a newline is read whole
pub decimal-written : (n : ℕ) (t : List ℕ) → InU32 n → decimal_of (decimal n ++ (newline ∷ t)) ≡ taken n (newline ∷ t)
unfolding digits digit_count divisions decimal_of decimal_from digit_at digit_value
decimal-written zero t f = refl
decimal-written (suc n) t f = digits-written 10 (suc n) (newline ∷ t) (omega arith) (omega arith) f
