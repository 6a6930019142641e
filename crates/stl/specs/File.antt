-- A binary STL file as its bytes; L2a is a row of docs/TRACE.md. Definitions only.
use Rattle.std.specs.Prelude.{ℕ, ◌+◌, ◌*◌, List, [], ◌∷◌, ◌++◌, get_or, replicate, Float}
use Rattle.patterns.specs.Patterns.{bits_of, float_of, bytes_of, of_bytes}
use Rattle.face.specs.declared.vec.Vec3.{Vec3}
use Rattle.face.specs.Vec.{v3}
use Rattle.face.specs.Lists.{chain}
use Rattle.stl.specs.declared.Facet.{Facet}

-- L2a: 84 bytes before the triangles, and 50 a triangle; the k-th starts where a file of k would end
abbrev pub file_length : ℕ → ℕ
file_length t = 84 + 50 * t

abbrev pub facet : Vec3 → Vec3 → Vec3 → Vec3 → Facet
facet n a b c = record { normal = n; first = a; second = b; third = c }

-- ---- written
abbrev pub number_bytes : Float → List ℕ
number_bytes x = bytes_of (bits_of x)

abbrev pub point_bytes : Vec3 → List ℕ
point_bytes p = number_bytes p.x ++ (number_bytes p.y ++ number_bytes p.z)

-- L2a: normal, three corners, two attribute bytes of zero
abbrev pub facet_bytes : Facet → List ℕ
facet_bytes f =
    point_bytes f.normal ++ (point_bytes f.first ++ (point_bytes f.second ++ (point_bytes f.third ++ (0 ∷ 0 ∷ []))))

-- L2a: 80 header bytes of zero, the number of triangles in four bytes
abbrev pub head_bytes : ℕ → List ℕ
head_bytes t = replicate 80 0 ++ bytes_of t

-- the file of t triangles
abbrev pub file_bytes : (ℕ → Facet) → ℕ → List ℕ
file_bytes f t = head_bytes t ++ chain (λ k. facet_bytes (f k)) t

-- ---- read, by the place of the first byte
abbrev pub filed_pattern : List ℕ → ℕ → ℕ
filed_pattern file at = of_bytes (get_or file at 0) (get_or file (at + 1) 0) (get_or file (at + 2) 0) (get_or file (at + 3) 0)

abbrev pub filed_number : List ℕ → ℕ → Float
filed_number file at = float_of (filed_pattern file at)

abbrev pub filed_point : List ℕ → ℕ → Vec3
filed_point file at = v3 (filed_number file at) (filed_number file (at + 4)) (filed_number file (at + 8))

-- L2a: the number of triangles, and the k-th of them; header and attribute bytes are not looked at
abbrev pub filed_count : List ℕ → ℕ
filed_count file = filed_pattern file 80

abbrev pub filed_facet : List ℕ → ℕ → Facet
filed_facet file k =
    facet
    (filed_point file (file_length k))
    (filed_point file (file_length k + 12))
    (filed_point file (file_length k + 24))
    (filed_point file (file_length k + 36))
