-- A sheet as its bytes, and which sheets are lawful; P1 to P4 are rows of docs/TRACE.md. Definitions only.
use Rattle.std.specs.Prelude.{ℕ, ◌+◌, ◌*◌, ◌≤◌, ◌<◌, Bool, cond, ◌≡◌, List, [], ◌∷◌, ◌++◌, length, take, drop, replicate}
use Rattle.sheet.specs.declared.reading.Sheet.{Sheet}
use Rattle.sheet.specs.Digits.{bytes, space, hex_digits, gap, count_text, heading}

abbrev pub column_word : List ℕ
column_word = bytes "column "

abbrev pub sides_word : List ℕ
sides_word = bytes "sides "

abbrev pub caps_word : List ℕ
caps_word = bytes "caps "

-- P3: numbers in lines of so many, the first of them being the number i
unfoldable pub numbers_text : ℕ → ℕ → List ℕ → List ℕ
numbers_text width i [] = []
numbers_text width i (x ∷ xs) = hex_digits x ++ (gap width i ∷ numbers_text width (i + 1) xs)

-- P1: n lines of so many numbers after their section's line
abbrev pub block_text : List ℕ → ℕ → ℕ → List ℕ → List ℕ
block_text word width n xs = heading word n ++ numbers_text width 0 (take (width * n) xs)

abbrev pub head_text : ℕ → ℕ → List ℕ
head_text height subdivisions = heading column_word 1 ++ (hex_digits height ++ (space ∷ count_text subdivisions))

-- P4: six corners for both caps, or none
abbrev pub cap_lines : Bool → ℕ
cap_lines b = cond b 6 0

abbrev pub sheet_text : Sheet → List ℕ
sheet_text s =
    head_text s.height s.subdivisions
    ++ (block_text sides_word 4 s.sides s.pairs ++ block_text caps_word 2 (cap_lines s.caps) s.corners)

-- P2: a number of 32 bits
abbrev pub InU32 : ℕ → Type 0
InU32 n = n < 4294967296

abbrev pub AllInU32 : List ℕ → Type 0
AllInU32 [] = Unit
AllInU32 (x ∷ xs) = InU32 x × AllInU32 xs

-- a list of so many places, of which the first n are in use and the others 0
pub record FirstUsed (places n : ℕ) (xs : List ℕ) : Type 0 where
  pub long : length xs ≡ places
  pub small : AllInU32 (take n xs)
  pub unused : drop n xs ≡ drop n (replicate places 0)

-- P4: at most six sides
pub record Lawful (s : Sheet) : Type 0 where
  pub height : InU32 s.height
  pub subdivisions : InU32 s.subdivisions
  pub sides : s.sides ≤ 6
  pub pairs : FirstUsed 24 (4 * s.sides) s.pairs
  pub corners : FirstUsed 12 (2 * cap_lines s.caps) s.corners
