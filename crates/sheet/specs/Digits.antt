-- Whole numbers as characters, in hex and in decimal, and what stands after each; P2 and P3 are rows of docs/TRACE.md. Definitions only.
use Rattle.std.specs.Prelude.{cond, ℕ, zero, suc, ◌+◌, ◌-◌, ◌*◌, ◌/◌, ◌%◌, List, [], ◌∷◌, ◌++◌, ltb, eqb}
use Prim.Native.String.{String, len, char_at}
use Prim.Native.Char.{code}
use Rattle.patterns.specs.Digits.{digit_value}
use Rattle.face.specs.Lists.{each}

-- the bytes of a text
abbrev pub bytes : String → List ℕ
bytes s = each (λ k. code (char_at s k)) (len s)

abbrev pub newline : ℕ
newline = 10

abbrev pub space : ℕ
space = 32

-- 0 to 9, then a to f
abbrev pub digit : ℕ → ℕ
digit d = cond (ltb d 10) (48 + d) (87 + d)

-- the last k digits of n in a base, the lowest at the end
unfoldable pub digits : ℕ → ℕ → ℕ → List ℕ
digits base zero n = []
digits base (suc k) n = digits base k (n / base) ++ (digit (n % base) ∷ [])

-- P2: a pattern of 32 bits: eight lowercase digits, leading zeros too
abbrev pub hex_digits : ℕ → List ℕ
hex_digits n = digits 16 8 n

-- one digit, and one more for each division by ten that leaves something, of no more than `most`
unfoldable pub divisions : ℕ → ℕ → ℕ
divisions zero n = 1
divisions (suc most) n = let more = suc (divisions most (n / 10)) in cond (ltb n 10) 1 more

-- how many digits a plain decimal has: no number can be divided more often than it says
unfoldable pub digit_count : ℕ → ℕ
digit_count n = divisions n n

-- P2: a plain decimal, without leading zeros
abbrev pub decimal : ℕ → List ℕ
decimal n = digits 10 (digit_count n) n

-- P3: what follows number k of those that stand so many to a line: a newline at the line's end, else a space
abbrev pub gap : ℕ → ℕ → ℕ
gap width k = cond (eqb (k % width) (width - 1)) newline space

-- a count ends its line
abbrev pub count_text : ℕ → List ℕ
count_text n = decimal n ++ (newline ∷ [])

-- P1: a word with a count after it, as a line
abbrev pub heading : List ℕ → ℕ → List ℕ
heading word n = word ++ count_text n

-- the number that characters spell in a base, after those that spell n
unfoldable pub spelt : ℕ → ℕ → List ℕ → ℕ
spelt base n [] = n
spelt base n (c ∷ cs) = spelt base (n * base + digit_value c) cs
