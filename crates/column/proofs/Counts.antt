-- A column's counts are the sums over its faces, with no walk over the parts. Assumes nothing.
use Rattle.std.proofs.Common.{◌≡◌, ℕ, zero, suc, ◌*◌, ◌≤◌, Bool, true, false, List, [], ◌∷◌, ◌++◌, map, sym, refl, ap, ◌∙◌, ap₂, mul-le-mul, arith}
use lib.Ieee.{Float}
use Rattle.face.specs.declared.face.Quad.{Quad}
use Rattle.face.specs.declared.inset.Inset.{Inset}
use Rattle.face.specs.declared.triangle.Counts.{Counts}
use Rattle.face.specs.Lists.{each, chain}
use Rattle.face.specs.Face.{altered_quad}
use Rattle.face.specs.Inset.{inset_quad_of}
use Rattle.face.specs.Triangles.{counts, inset_counts, quad_triangles, hexagon_triangles}
use Rattle.answer.specs.declared.answer.Refusal.TheVariants.{Shape, Range}
use Rattle.std.specs.Prelude.{Err}
use Rattle.answer.specs.Answers.{given, limited}
use Rattle.placement.specs.declared.options.Choice.{Choice}
use Rattle.placement.specs.declared.options.Choice.TheVariants as option
use Rattle.placement.specs.declared.options.FaceOptions.{FaceOptions}
use Rattle.placement.specs.declared.placement.Stand.{Stand}
use Rattle.placement.specs.Options.{option_at, option_for}
use Rattle.buffers.specs.Mesh.{Mesh, also, size_of, measure}
use Rattle.buffers.specs.Faces.{quad_mesh, hexagon_mesh, wall_mesh}
use Rattle.buffers.proofs.Windows.{also-none}
use Rattle.buffers.proofs.Faces.{quad-size, hexagon-size, standing-size, counted}
use Rattle.buffers.proofs.Faces.{map_each}
use Rattle.buffers.proofs.Named.{measure-map, chain-sum}
use Rattle.plane_builder.specs.Cap.{cap_hexagon, cap_mesh}
use Rattle.column.specs.declared.Side.{Side}
use Rattle.column.specs.declared.Column.{Column}
use Rattle.column.specs.declared.Name.{Name}
use Rattle.column.specs.declared.Name.TheVariants.{OfSide, Top, Bottom}
use Rattle.column.specs.Column.{Lists, parts_of, side_at, cap_names, part_names, side_names, column_names, part_quad, wall_stand, top_stand, bottom_stand, mesh_of, column_faces, shape_of, range_of, planned}
use Rattle.column.specs.Counts.{many, side_counts, cap_counts, sides_counts, column_counts}

-- ---- faces of one size, counted at once
pub each_same : {N : Type 0} (f : N → Mesh) (g : ℕ → N) (c : Counts) → ((k : ℕ) → size_of (f (g k)) ≡ c) → (n : ℕ) → measure (map f (each g n)) ≡ many n c
each_same f g c h zero = ap₂ counts (omega arith) (omega arith)
each_same f g c h (suc n) =
    measure-map f (each g n) (g n ∷ [])
    ∙ ap₂ also (each_same f g c h n) (also-none (size_of (f (g n))) ∙ h n)
    ∙ ap₂ counts (omega arith) (omega arith)

each-sum : (g : ℕ → Mesh) (c : Counts) → ((k : ℕ) → size_of (g k) ≡ c) → (n : ℕ) → measure (each g n) ≡ many n c
each-sum g c h n = ap measure (sym (map_each (λ k. k) g n)) ∙ each_same g (λ k. k) c h n

pub wall-size : (t : Stand) (how : Inset) (q : Quad) → size_of (wall_mesh t how q) ≡ inset_counts how 4 2
wall-size t how q = standing-size t (quad_mesh how (inset_quad_of how q)) ∙ quad-size how (inset_quad_of how q)

cap-size : (t : Stand) (l : List Float) (o : FaceOptions) → size_of (cap_mesh t l o) ≡ inset_counts o.inset 6 4
cap-size t l o = standing-size t (hexagon_mesh o.inset (cap_hexagon l o)) ∙ hexagon-size o.inset (cap_hexagon l o)

-- ---- a side's parts, and a cap
module _ (job : Column) (ls : Lists) where
  pub part-size : (d p : ℕ) → size_of (mesh_of job ls (OfSide d p)) ≡ inset_counts (option_for ls.numbers ls.marks (side_at job.sides d)).inset 4 2
  unfolding mesh_of
  part-size d p = let o = option_for ls.numbers ls.marks (side_at job.sides d) in wall-size (wall_stand job) o.inset (altered_quad o.uv (part_quad job ls.pairs d p))

  pub top-size : size_of (mesh_of job ls Top) ≡ inset_counts (option_for ls.numbers ls.marks job.top).inset 6 4
  unfolding mesh_of
  top-size = cap-size (top_stand job) ls.corners (option_for ls.numbers ls.marks job.top)

  pub bottom-size : size_of (mesh_of job ls Bottom) ≡ inset_counts (option_for ls.numbers ls.marks job.bottom).inset 6 4
  unfolding mesh_of
  bottom-size = cap-size (bottom_stand job) ls.corners (option_for ls.numbers ls.marks job.bottom)

  pub side-sum : (d : ℕ) → measure (map (mesh_of job ls) (side_names job d)) ≡ side_counts ls.numbers ls.marks (parts_of job.subdivisions) (side_at job.sides d)
  side-sum d = go (side_at job.sides d) (part-size d)
    where
      go : (c : Choice) → ((p : ℕ) → size_of (mesh_of job ls (OfSide d p)) ≡ inset_counts (option_for ls.numbers ls.marks c).inset 4 2) → measure (map (mesh_of job ls) (part_names c (parts_of job.subdivisions) d)) ≡ side_counts ls.numbers ls.marks (parts_of job.subdivisions) c
      go option.Absent h = refl
      go (option.With k) h = each_same (mesh_of job ls) (OfSide d) _ h (parts_of job.subdivisions)

  pub sides-sum : (n : ℕ) → measure (map (mesh_of job ls) (chain (side_names job) n)) ≡ sides_counts ls.numbers ls.marks (parts_of job.subdivisions) job.sides n
  sides-sum = chain-sum (mesh_of job ls) (side_names job) (λ d. side_counts ls.numbers ls.marks (parts_of job.subdivisions) (side_at job.sides d)) side-sum

  pub cap-sum : (c : Choice) (n : Name) → size_of (mesh_of job ls n) ≡ inset_counts (option_for ls.numbers ls.marks c).inset 6 4 → measure (map (mesh_of job ls) (cap_names c n)) ≡ cap_counts ls.numbers ls.marks c
  cap-sum option.Absent n h = refl
  cap-sum (option.With k) n h = also-none (size_of (mesh_of job ls n)) ∙ h

  -- the closed form is the sum over all faces
  pub column-counts : measure (column_faces job ls) ≡ column_counts job ls.numbers ls.marks
  unfolding column_names
  column-counts =
      measure-map (mesh_of job ls) (chain (side_names job) 6) (cap_names job.top Top ++ cap_names job.bottom Bottom)
      ∙ ap₂ also
      (sides-sum 6)
      (measure-map (mesh_of job ls) (cap_names job.top Top) (cap_names job.bottom Bottom)
      ∙ ap₂ also (cap-sum job.top Top top-size) (cap-sum job.bottom Bottom bottom-size))

-- ---- how great they can be
pub quad-small : (how : Inset) → ((inset_counts how 4 2).vertices.0 ≤ 8) × ((inset_counts how 4 2).indices.0 ≤ 32)
quad-small how = let k = counted how 4 quad_triangles in (k.few, omega (arith, k.most))

pub hexagon-small : (how : Inset) → ((inset_counts how 6 4).vertices.0 ≤ 12) × ((inset_counts how 6 4).indices.0 ≤ 50)
hexagon-small how = let k = counted how 6 hexagon_triangles in (k.few, omega (arith, k.most))

-- a bound on both
abbrev pub AtMost : ℕ → Counts → Type 0
AtMost n c = (c.vertices.0 ≤ n) × (c.indices.0 ≤ n)

pub many-most : (s : ℕ) (how : Inset) → s ≤ 4294967295 → AtMost 137438953472 (many s (inset_counts how 4 2))
many-most s how h =
    let q = quad-small how in
    let a : s * (inset_counts how 4 2).vertices.0 ≤ 4294967295 * 8 = mul-le-mul h q.0 in
    let b : s * (inset_counts how 4 2).indices.0 ≤ 4294967295 * 32 = mul-le-mul h q.1 in
    (omega (arith, a), omega (arith, b))

-- the parts of one side laid so far
pub each-most : (how : Inset) (g : ℕ → Mesh) → ((k : ℕ) → size_of (g k) ≡ inset_counts how 4 2) → (n : ℕ) → n ≤ 4294967295 → AtMost 137438953472 (measure (each g n))
each-most how g e n h = rw (each-sum g (inset_counts how 4 2) e n) (many-most n how h)

pub side-most : (ns : List Float) (ms : List ℕ) (s : ℕ) (c : Choice) → s ≤ 4294967295 → AtMost 137438953472 (side_counts ns ms s c)
side-most ns ms s option.Absent h = (omega arith, omega arith)
side-most ns ms s (option.With k) h = many-most s (option_at ns ms k).inset h

pub sides-most : (ns : List Float) (ms : List ℕ) (s : ℕ) (ss : List Side) → s ≤ 4294967295 → (d : ℕ) → AtMost (d * 137438953472) (sides_counts ns ms s ss d)
sides-most ns ms s ss h zero = (omega arith, omega arith)
sides-most ns ms s ss h (suc d) =
    let r = sides-most ns ms s ss h d in
    let q = side-most ns ms s (side_at ss d) h in
    (omega (arith, r.0, q.0), omega (arith, r.1, q.1))

pub cap-most : (ns : List Float) (ms : List ℕ) (c : Choice) → AtMost 50 (cap_counts ns ms c)
cap-most ns ms option.Absent = (omega arith, omega arith)
cap-most ns ms (option.With k) = let q = hexagon-small (option_at ns ms k).inset in (omega (arith, q.0), q.1)

-- ---- the plan, as the code tests it
module _ (job : Column) (ls : Lists) where
  pub misshapen : shape_of job ls ≡ false → Err Shape ≡ planned job ls
  misshapen e = sym (ap (λ (x : Bool). given x Shape (given (range_of job ls) Range (limited (measure (column_faces job ls))))) e)

  pub range-decides : shape_of job ls ≡ true → (y : Bool) → range_of job ls ≡ y → given y Range (limited (column_counts job ls.numbers ls.marks)) ≡ planned job ls
  range-decides e y f =
      ap (λ (c : Counts). given y Range (limited c)) (sym (column-counts job ls))
      ∙ sym (ap₂ (λ (p q : Bool). given p Shape (given q Range (limited (measure (column_faces job ls))))) e f)
