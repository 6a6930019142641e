-- `write_mesh`: the two tests are the promise's. Assumes nothing.
use borrow.Author.Rules.{rules}
use mathlib.Core.Path.{sym, ap, ◌∙◌}
use Prim.Native.Nat.{ℕ, ◌≤◌}
use Rattle.sheet.specs.Meshes.{mesh_text}
use lib.Dec.{leb}
use lib.ListN.{length}
use lib.Seq.{length-take-le}
use native.Mathlib.Omega.{arith}
use Rattle.sheet.specs.Lent.{buffers_of}
use Rattle.sheet.proofs.Rooms.{whole_is, is-whole}
use Rattle.sheet.proofs.Whole.{room-taken, has_room, written-mesh, not-whole, no_room}
use Rattle.sheet.proofs.writing.write_mesh.Goals as goal

pub returns-then-not-is_whole : goal.returns-then-not-is_whole
returns-then-not-is_whole c = not-whole _ _ _ _ c.is_whole.ensures (c.if-not-is_whole.true)

pub slice_bounds-has_room-end : goal.slice_bounds-has_room-end
slice_bounds-has_room-end c = let w = whole_is _ _ _ _ _ _ (is-whole _ _ _ _ _ _ _ c.is_whole.ensures c.if-not-is_whole.false) in sym (length-take-le _ _ w.indices)

pub returns-then-not-has_room : goal.returns-then-not-has_room
returns-then-not-has_room c = let w = whole_is _ _ _ _ _ _ (is-whole _ _ _ _ _ _ _ c.is_whole.ensures c.if-not-is_whole.false) in
    no_room _ _ _ _ _ c.is_whole.ensures c.if-not-is_whole.false (c.has_room.ensures ∙ rw (room-taken _ _ _ w.indices)) c.if-not-has_room.true

pub put_mesh-requires : goal.put_mesh-requires
put_mesh-requires c = let e = is-whole _ _ _ _ _ _ _ c.is_whole.ensures c.if-not-is_whole.false in
    let w = whole_is _ _ _ _ _ _ e in
    let r = c.has_room.ensures ∙ ap (λ (n : ℕ). leb n (length c.args.out.now)) (room-taken _ _ _ w.indices) in
    let h : length (mesh_text (buffers_of c.args.mesh) c.args.mesh.counts) ≤ length c.args.out.now = has_room (buffers_of c.args.mesh) c.args.mesh.counts c.args.out.now _ r c.if-not-has_room.false in
    record { whole = e; room = omega arith }

pub returns : goal.returns
returns c = let w = whole_is _ _ _ _ _ _ (is-whole _ _ _ _ _ _ _ c.is_whole.ensures c.if-not-is_whole.false) in
    written-mesh _ _ _ _ _ c.is_whole.ensures c.if-not-is_whole.false (c.has_room.ensures ∙ rw (room-taken _ _ _ w.indices)) c.if-not-has_room.false _ _ _ (search rules) c.put_mesh.ensures.put
