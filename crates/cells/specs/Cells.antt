-- A height map's cells as a list of records, and the two flat lists that stand for it; B11, B12 and O9 are rows of docs/TRACE.md. Definitions only.
use Rattle.std.specs.Prelude.{ℕ, ◌*◌, ◌≡◌, Bool, ◌&&◌, cond, List, ◌∷◌, length, get_or, replicate, leb, Float}
use Rattle.std.specs.Float.{nan}
use Rattle.face.specs.Lists.{each, chain}
use Rattle.answer.specs.Answers.{Answer}
use Rattle.std.specs.Prelude.{Ok, Err}
use Rattle.answer.specs.declared.answer.Refusal.TheVariants.{Shape}
use Rattle.answer.specs.Checks.{cell_count}
use Rattle.buffers.specs.Mesh.{none}
use Rattle.buffers.specs.Laying.{spread, laid}
use Rattle.buffers.specs.Lent.{Lent, Shown}
use Rattle.cells.specs.declared.Cell.{Cell}

-- past the end of the list: a cell of NaNs
abbrev pub no_cell : Cell
no_cell = record { height = nan; x = nan; z = nan; ends = replicate 24 nan; neighbours = replicate 6 0 }

abbrev pub cell_at : List Cell → ℕ → Cell
cell_at cs k = get_or cs k no_cell

-- ---- one cell: 27 numbers and six neighbours
abbrev pub ends_of : List Float → List Float
ends_of es = each (λ j. get_or es j nan) 24

abbrev pub words_of : List ℕ → List ℕ
words_of ns = each (λ j. get_or ns j 0) 6

unfoldable pub numbers_of : Cell → List Float
numbers_of c = c.height ∷ c.x ∷ c.z ∷ ends_of c.ends

unfoldable pub neighbours_of : Cell → List ℕ
neighbours_of c = words_of c.neighbours

-- ---- B12: all cells, end to end
abbrev pub flat_numbers : List Cell → List Float
flat_numbers = spread numbers_of

abbrev pub flat_neighbours : List Cell → List ℕ
flat_neighbours = spread neighbours_of

-- ---- a load: at most 65,536 cells, and lists that hold them
abbrev pub loadable : ℕ → ℕ → ℕ → Bool
loadable n l m = cell_count n && (leb (27 * n) l && leb (6 * n) m)

-- done, a load makes no mesh: both counts are 0
unfoldable pub load_answer : ℕ → ℕ → ℕ → Answer
load_answer n l m = cond (loadable n l m) (Ok none) (Err Shape)

-- what it leaves: the cells from the start of each list, and all past them as it was; refused, each list as it was
unfoldable pub numbers_loaded : List Cell → List Float → List ℕ → List Float
numbers_loaded cs l m = cond (loadable (length cs) (length l) (length m)) (laid l 0 (flat_numbers cs)) l

unfoldable pub neighbours_loaded : List Cell → List Float → List ℕ → List ℕ
neighbours_loaded cs l m = cond (loadable (length cs) (length l) (length m)) (laid m 0 (flat_neighbours cs)) m

-- a load as a promise has it: what is told of its answer, and what both lists hold when it is left
abbrev pub Loading : {R : Type 0} → (Answer → R) → Shown Cell → Lent Float → Lent ℕ → R → Type 0
Loading told rs l m r =
    (r ≡ told (load_answer (length rs.entry.now) (length l.entry.now) (length m.entry.now)))
    × (l.exit.now ≡ numbers_loaded rs.entry.now l.entry.now m.entry.now)
    × (m.exit.now ≡ neighbours_loaded rs.entry.now l.entry.now m.entry.now)

-- ---- what the parts of the code hand each other: the first n cells
unfoldable pub load_count : ℕ → ℕ → ℕ → ℕ
load_count n l m = cond (loadable n l m) n 0

unfoldable pub numbers_to : List Cell → ℕ → List Float → List Float
numbers_to cs n l = laid l 0 (chain (λ k. numbers_of (cell_at cs k)) n)

unfoldable pub neighbours_to : List Cell → ℕ → List ℕ → List ℕ
neighbours_to cs n l = laid l 0 (chain (λ k. neighbours_of (cell_at cs k)) n)

-- and one of them, stored as the k-th
abbrev pub Storing : Cell → ℕ → Lent Float → Lent ℕ → Type 0
Storing c k l m = (l.exit.now ≡ laid l.entry.now (27 * k) (numbers_of c)) × (m.exit.now ≡ laid m.entry.now (6 * k) (neighbours_of c))
