-- The table of face options; N6, N8 and R1 are rows of docs/TRACE.md. Definitions only.
use Rattle.std.specs.Prelude.{ℕ, ◌+◌, ◌*◌, ◌/◌, ◌%◌, Bool, true, ◌&&◌, not, cond, List, leb, ltb, eqb, length, get_or, Float}
use Rattle.std.specs.Float.{nan}
use Rattle.face.specs.declared.inset.Inset.{Inset}
use Rattle.face.specs.declared.inset.Inset.TheVariants.{None, Centroid, SmallestEdge}
use Rattle.face.specs.declared.uv_mapping.UvOptions.{UvOptions}
use Rattle.face.specs.Lists.{each}
use Rattle.face.specs.Vec.{v2}
use Rattle.face.specs.Texture.{plain}
use Rattle.answer.specs.Checks.{every, exactly, names_option}
use Rattle.placement.specs.declared.options.FaceOptions.{FaceOptions}
use Rattle.placement.specs.declared.options.Choice.{Choice}
use Rattle.placement.specs.declared.options.Choice.TheVariants as option

-- four marks an entry: flip u, flip v, the kind of inset, whether the inner face is kept
abbrev pub entry_count : List ℕ → ℕ
entry_count ms = length ms / 4

-- what the mark at place i may be: a kind of inset is below 3, the others are 0 or 1
abbrev pub means : ℕ → ℕ → Bool
means i m = ltb m (cond (eqb (i % 4) 2) 3 2)

abbrev pub marks_mean : List ℕ → Bool
marks_mean ms = every (λ i. means i (get_or ms i 0)) (each (λ i. i) (length ms))

-- N6, R1: nine numbers and four marks for each of at most 64 entries, and every mark means something
abbrev pub is_table : List Float → List ℕ → Bool
is_table ns ms = leb (entry_count ms) 64 && (exactly (length ms) (entry_count ms) 4 && (exactly (length ns) (entry_count ms) 9 && marks_mean ms))

abbrev pub inset_of : ℕ → Float → Bool → Inset
inset_of kind k keep = cond (eqb kind 1) (Centroid k keep) (cond (eqb kind 2) (SmallestEdge k keep) None)

abbrev pub plain_options : FaceOptions
plain_options = record { uv = plain; inset = None }

-- entry k: scale, offset, least and greatest corner of the rectangle, the inset's scale; and its marks
abbrev pub number_at : List Float → ℕ → ℕ → Float
number_at ns k j = get_or ns (9 * k + j) nan

abbrev pub mark_at : List ℕ → ℕ → ℕ → ℕ
mark_at ms k j = get_or ms (4 * k + j) 0

abbrev pub uv_at : List Float → List ℕ → ℕ → UvOptions
uv_at ns ms k =
    record {
      scale = v2 (number_at ns k 0) (number_at ns k 1);
      offset = v2 (number_at ns k 2) (number_at ns k 3);
      min = v2 (number_at ns k 4) (number_at ns k 5);
      max = v2 (number_at ns k 6) (number_at ns k 7);
      flip = record { u = eqb (mark_at ms k 0) 1; v = eqb (mark_at ms k 1) 1 };
    }

abbrev pub entry_at : List Float → List ℕ → ℕ → FaceOptions
entry_at ns ms k = record { uv = uv_at ns ms k; inset = inset_of (mark_at ms k 2) (number_at ns k 8) (eqb (mark_at ms k 3) 1) }

-- both lists hold the whole entry, which 255 is not
abbrev pub holds : List Float → List ℕ → ℕ → Bool
holds ns ms k = not (eqb k 255) && (ltb k (length ns / 9) && ltb k (length ms / 4))

-- N8: the entry of a number; the default for 255, and for a number that the lists do not hold
abbrev pub option_at : List Float → List ℕ → ℕ → FaceOptions
option_at ns ms k = cond (holds ns ms k) (entry_at ns ms k) plain_options

-- N8, R1: a face that is there names an entry or the default
abbrev pub choice_names : Choice → ℕ → Bool
choice_names option.Absent entries = true
choice_names (option.With k) entries = names_option k entries

-- an absent face is never laid; its options are the default
abbrev pub option_for : List Float → List ℕ → Choice → FaceOptions
option_for ns ms option.Absent = option_at ns ms 255
option_for ns ms (option.With k) = option_at ns ms k
