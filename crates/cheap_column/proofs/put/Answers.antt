-- `put`: the points, the normals, the uvs and the table, each in its buffer. Assumes nothing.
use mathlib.Core.Path.{◌≡◌, ap, ap₂, ◌∙◌}
use mathlib.Core.List.{List, ◌++◌, map}
use Rattle.face.specs.declared.vec.Vec2.{Vec2}
use Rattle.face.specs.declared.vec.Vec3.{Vec3}
use Rattle.face.specs.Vec.{minus3}
use Rattle.buffers.specs.Laying.{four, three, two, spread, laid}
use Rattle.cheap_column.specs.CheapColumn.{outward}
use Rattle.cheap_column.proofs.Cheap.{outward-all, mesh-laid}
use Rattle.cheap_column.proofs.put.Goals as goal

pub returns : goal.returns
returns c = let a = c.args in
    let top = c.raise_six-top.ensures in
    let out : c.from_middle-outward.result ≡ map (outward a.job) a.cs =
    c.from_middle-outward.ensures
    ∙ ap₂ (λ (x : Vec3) (l : List Vec3). map (λ p. minus3 p x) l) c.raise.ensures top
    ∙ outward-all a.job a.cs in
    mesh-laid a.job a.cs (four a.vertices.now a.normals.now a.uvs.now a.indices.now)
    (c.put_rows.ensures ∙ ap₂ (λ (x y : List Vec3). laid a.vertices.now 0 (spread three (x ++ y))) top c.raise_six-foot.ensures)
    (c.put_rows-2.ensures ∙ ap (λ (x : List Vec3). laid a.normals.now 0 (spread three (x ++ x))) out)
    (c.put_rows-3.ensures ∙ ap (λ (x : List Vec2). laid a.uvs.now 0 (spread two (x ++ x))) c.wrap_six-ts.ensures)
    c.put_indices.ensures
