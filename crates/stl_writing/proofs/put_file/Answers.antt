-- `put_file`: the head, and the triangles after it. Assumes nothing.
use mathlib.Core.Path.{◌∙◌, ap}
use mathlib.Core.List.{List}
use Prim.Native.Nat.{ℕ}
use Rattle.face.specs.Lists.{chain}
use Rattle.buffers.specs.Laying.{laid}
use Rattle.stl.specs.File.{facet_bytes}
use Rattle.stl_writing.specs.Writing.{facet_from}
use Rattle.stl_writing.proofs.Putting.{file-laid}
use Rattle.stl_writing.proofs.put_file.Goals as goal

pub returns : goal.returns
returns c = let a = c.args in
    let f = facet_from a.vertices.now a.normals.now a.indices.now in
    c.put_facets.ensures
    ∙ ap (λ (b : List ℕ). laid b 84 (chain (λ k. facet_bytes (f k)) a.triangles)) c.put_head.ensures
    ∙ file-laid a.bytes.now f a.triangles
