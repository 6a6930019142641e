-- What a digest is of a list of words, which words numbers are, and what is held of a digest. Definitions only.
use Rattle.std.specs.Prelude.{List, [], ◌∷◌, ◌++◌, ℕ, ◌+◌, ◌*◌, ◌%◌, Float}
use Rattle.std.specs.List.{fold, flat_map}
use Rattle.patterns.specs.Patterns.{bits_of}
use Rattle.record.specs.declared.digest.Digest.{Digest}
use Rattle.record.specs.declared.digest.Lanes.{Lanes}

-- a digest of nothing
abbrev pub of_nothing : Digest
of_nothing = record { a = 1; b = 1 }

-- a digest with one word behind what it has
abbrev pub with_word : Digest → ℕ → Digest
with_word d w = record { a = d.a % 4294967311 * 2654435761 + w; b = d.b % 4294967311 * 2246822519 + w }

-- a digest with all these words behind what it has, the first first
abbrev pub with_words : Digest → List ℕ → Digest
with_words d ws = fold with_word d ws

-- the word of a number
abbrev pub word : Float → List ℕ
word x = bits_of x ∷ []

-- the words of four lists, one list behind the other
abbrev pub words_of : List Float → List Float → List Float → List ℕ → List ℕ
words_of vertices normals uvs indices =
    flat_map word vertices ++ flat_map word normals ++ flat_map word uvs ++ flat_map (λ i. i ∷ []) indices

-- what is held of a digest: the last 32 bits of either remainder
abbrev pub lanes_of : Digest → Lanes
lanes_of d = record { a = d.a % 4294967311 % 4294967296; b = d.b % 4294967311 % 4294967296 }
