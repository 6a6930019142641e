-- Readers: what stands at the front of a list of bytes, and the bytes after it. Definitions only.
use Rattle.std.specs.Prelude.{ℕ, zero, suc, ◌+◌, ◌*◌, ◌≡◌, Bool, true, false, ◌||◌, cond, List, [], ◌∷◌, ◌++◌, eqb, ltb, leb, length, drop, replicate, Option, Some, None}
use Rattle.patterns.specs.Digits.{digit_value}
use Rattle.sheet.specs.declared.reading.Sheet.{Sheet}
use Rattle.sheet.specs.declared.reading.Head.{Head}
use Rattle.sheet.specs.declared.reading_lines.Block.{Block}
use Rattle.sheet.specs.Digits.{newline, space, gap}
use Rattle.sheet.specs.Sheets.{column_word, sides_word, caps_word}

pub data Taken (A : Type 0) : Type 0 where
  taken : A → List ℕ → Taken A
  none : Taken A

abbrev pub next : {A B : Type 0} → Taken A → (A → List ℕ → Taken B) → Taken B
next (taken a s) f = f a s
next none f = none

abbrev pub only_if : {A : Type 0} → Bool → Taken A → Taken A
only_if true t = t
only_if false t = none

-- ---- the leaves
unfoldable pub mark_of : ℕ → List ℕ → Taken Unit
mark_of b [] = none
mark_of b (a ∷ s) = only_if (eqb a b) (taken tt s)

unfoldable pub word_of : List ℕ → List ℕ → Taken Unit
word_of [] s = taken tt s
word_of (w ∷ ws) s = next (mark_of w s) (λ _ a. word_of ws a)

-- 16 where no digit stands
unfoldable pub digit_at : List ℕ → ℕ
digit_at [] = 16
digit_at (b ∷ s) = digit_value b

-- a digit in a base of at most 16
abbrev pub digit_of : ℕ → List ℕ → Taken ℕ
digit_of base s = only_if (ltb (digit_at s) base) (taken (digit_at s) (drop 1 s))

-- k more hex digits after those that are worth v
unfoldable pub hex_from : ℕ → ℕ → List ℕ → Taken ℕ
hex_from zero v s = taken v s
hex_from (suc k) v s = only_if (ltb (digit_at s) 16) (hex_from k (v * 16 + digit_at s) (drop 1 s))

abbrev pub hex_of : List ℕ → Taken ℕ
hex_of s = hex_from 8 0 s

-- the decimal digits after those that are worth v, as long as the number fits
unfoldable pub decimal_from : ℕ → List ℕ → Taken ℕ
decimal_from v [] = taken v []
decimal_from v (b ∷ s) =
    cond (ltb (digit_value b) 10)
    (only_if (ltb (v * 10 + digit_value b) 4294967296) (decimal_from (v * 10 + digit_value b) s))
    (taken v (b ∷ s))

-- a first 0 is the whole number
unfoldable pub decimal_of : List ℕ → Taken ℕ
decimal_of s = only_if (ltb (digit_at s) 10) (cond (eqb (digit_at s) 0) (taken 0 (drop 1 s)) (decimal_from (digit_at s) (drop 1 s)))

-- ---- the lines
unfoldable pub count_of : List ℕ → Taken ℕ
count_of s = next (decimal_of s) (λ n a. next (mark_of newline a) (λ _ b. taken n b))

unfoldable pub section_of : List ℕ → List ℕ → Taken ℕ
section_of name s = next (word_of name s) (λ _ a. count_of a)

-- j more numbers after xs
unfoldable pub numbers_from : ℕ → ℕ → List ℕ → List ℕ → Taken (List ℕ)
numbers_from width zero xs s = taken xs s
numbers_from width (suc j) xs s =
    next (hex_of s) (λ x a. next (mark_of (gap width (length xs)) a) (λ _ b. numbers_from width j (xs ++ (x ∷ [])) b))

-- the numbers over the places of old
unfoldable pub numbers_of : ℕ → ℕ → List ℕ → List ℕ → Taken (List ℕ)
numbers_of width n old s = next (numbers_from width n [] s) (λ xs a. taken (xs ++ drop n old) a)

-- a count of lines, and the numbers in so many places
unfoldable pub block_of : List ℕ → ℕ → (places : ℕ) → List ℕ → Taken (Block places)
block_of name width places s =
    next (section_of name s)
    (λ n a. only_if (leb n 6) (next (numbers_of width (width * n) (replicate places 0) a) (λ xs b. taken (record { lines = n; numbers = xs }) b)))

unfoldable pub head_of : List ℕ → Taken Head
head_of s =
    next (section_of column_word s)
    (λ n a. only_if (eqb n 1)
    (next (hex_of a)
    (λ h b. next (mark_of space b)
    (λ _ c. next (count_of c) (λ d e. taken (record { height = h; subdivisions = d }) e)))))

-- ---- the sheet
abbrev pub sheet_with : Head → Block 24 → Block 12 → Sheet
sheet_with h sides caps =
    record {
      height = h.height;
      subdivisions = h.subdivisions;
      sides = sides.lines;
      pairs = sides.numbers;
      caps = eqb caps.lines 6;
      corners = caps.numbers;
    }

-- both caps or none
abbrev pub are_caps : ℕ → Bool
are_caps lines = eqb lines 0 || eqb lines 6

unfoldable pub sheet_of : List ℕ → Taken Sheet
sheet_of s =
    next (head_of s)
    (λ h a. next (block_of sides_word 4 24 a)
    (λ sides b. next (block_of caps_word 2 12 b)
    (λ caps c. only_if (are_caps caps.lines) (taken (sheet_with h sides caps) c))))

-- nothing stands after the sheet
abbrev pub whole : Taken Sheet → Option Sheet
whole none = None
whole (taken s []) = Some s
whole (taken s (b ∷ r)) = None

unfoldable pub reading : List ℕ → Option Sheet
reading s = whole (sheet_of s)

-- ---- what the cursor's answers say of the bytes, with those that are left after the call
abbrev pub seen : {A : Type 0} → List ℕ → Option A → Taken A
seen left (Some a) = taken a left
seen left None = none

abbrev pub list_seen : List ℕ → List ℕ → Option Unit → Taken (List ℕ)
list_seen left xs (Some _) = taken xs left
list_seen left xs None = none

-- where nothing is read, nothing is passed
abbrev pub Kept : {A : Type 0} → Option A → List ℕ → List ℕ → Type 0
Kept (Some a) old new = Unit
Kept None old new = new ≡ old
