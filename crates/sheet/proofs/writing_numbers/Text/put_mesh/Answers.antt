-- `put_mesh`: the four parts, one after the other, are the text. Assumes nothing.
use native.Mathlib.Omega.{arith}
use mathlib.Core.Path.{sym}
use Prim.Native.Nat.{◌*◌}
use lib.Ieee.{nan}
use Rattle.sheet.specs.Digits.{decimal, heading}
use Rattle.sheet.specs.Lent.{buffers_of}
use Rattle.sheet.specs.Meshes.{vertices_word, normals_word, uvs_word, indices_word, float_text, float_lines, index_lines}
use Rattle.sheet.proofs.Rooms.{whole_is}
use Rattle.sheet.proofs.Whole.{taken-all, part-head, part-room, part-put, room-1, room-2, room-3, room-4, put-parts}
use Rattle.sheet.proofs.writing_numbers.Text.put_mesh.Goals as goal

pub overflow_mul-v : goal.overflow_mul-v
overflow_mul-v c = let w = whole_is _ _ _ _ _ _ c.requires.whole in omega (arith, w.vertices)

pub slice_bounds-put_part-end-2 : goal.slice_bounds-put_part-end-2
slice_bounds-put_part-end-2 c = let m = c.args.mesh in
    let w = whole_is _ _ _ _ _ _ c.requires.whole in
    sym (taken-all float_text nan m.vertices.now 3 (3 * m.counts.vertices.0) w.vertices)

pub put_part-requires-clause-heading : goal.put_part-requires-clause-heading
unfolding float_lines index_lines
put_part-requires-clause-heading c = let m = c.args.mesh in
    let B = buffers_of m in
    let w = whole_is _ _ _ _ _ _ c.requires.whole in
    part-head float_text nan m.vertices.now 3 (3 * m.counts.vertices.0) w.vertices c.args.self.now (heading vertices_word (m.counts.vertices.0)) (room-1 B m.counts c.args.self.now c.requires.room)

pub put_part-requires-clause-room : goal.put_part-requires-clause-room
unfolding float_lines index_lines
put_part-requires-clause-room c = let m = c.args.mesh in
    let B = buffers_of m in
    let w = whole_is _ _ _ _ _ _ c.requires.whole in
    part-room float_text nan m.vertices.now 3 (3 * m.counts.vertices.0) w.vertices c.args.self.now (heading vertices_word (m.counts.vertices.0)) (room-1 B m.counts c.args.self.now c.requires.room)

pub overflow_mul-v-2 : goal.overflow_mul-v-2
overflow_mul-v-2 c = let w = whole_is _ _ _ _ _ _ c.requires.whole in omega (arith, w.normals)

pub slice_bounds-put_part-end-4 : goal.slice_bounds-put_part-end-4
slice_bounds-put_part-end-4 c = let m = c.args.mesh in
    let w = whole_is _ _ _ _ _ _ c.requires.whole in
    sym (taken-all float_text nan m.normals.now 3 (3 * m.counts.vertices.0) w.normals)

pub put_part-requires-2-clause-heading : goal.put_part-requires-2-clause-heading
unfolding float_lines index_lines
put_part-requires-2-clause-heading c = let m = c.args.mesh in
    let B = buffers_of m in
    let w = whole_is _ _ _ _ _ _ c.requires.whole in
    let p₁ = part-put float_text nan m.vertices.now 3 (3 * m.counts.vertices.0) w.vertices c.args.self.now (heading vertices_word (m.counts.vertices.0)) _ c.put_part.ensures in
    part-head float_text nan m.normals.now 3 (3 * m.counts.vertices.0) w.normals c.put_part.new.self (heading normals_word (m.counts.vertices.0)) (room-2 B m.counts c.args.self.now c.requires.room _ p₁)

pub put_part-requires-2-clause-room : goal.put_part-requires-2-clause-room
unfolding float_lines index_lines
put_part-requires-2-clause-room c = let m = c.args.mesh in
    let B = buffers_of m in
    let w = whole_is _ _ _ _ _ _ c.requires.whole in
    let p₁ = part-put float_text nan m.vertices.now 3 (3 * m.counts.vertices.0) w.vertices c.args.self.now (heading vertices_word (m.counts.vertices.0)) _ c.put_part.ensures in
    part-room float_text nan m.normals.now 3 (3 * m.counts.vertices.0) w.normals c.put_part.new.self (heading normals_word (m.counts.vertices.0)) (room-2 B m.counts c.args.self.now c.requires.room _ p₁)

pub overflow_mul-v-3 : goal.overflow_mul-v-3
overflow_mul-v-3 c = let w = whole_is _ _ _ _ _ _ c.requires.whole in omega (arith, w.uvs)

pub slice_bounds-put_part-end-6 : goal.slice_bounds-put_part-end-6
slice_bounds-put_part-end-6 c = let m = c.args.mesh in
    let w = whole_is _ _ _ _ _ _ c.requires.whole in
    sym (taken-all float_text nan m.uvs.now 2 (2 * m.counts.vertices.0) w.uvs)

pub put_part-requires-3-clause-heading : goal.put_part-requires-3-clause-heading
unfolding float_lines index_lines
put_part-requires-3-clause-heading c = let m = c.args.mesh in
    let B = buffers_of m in
    let w = whole_is _ _ _ _ _ _ c.requires.whole in
    let p₁ = part-put float_text nan m.vertices.now 3 (3 * m.counts.vertices.0) w.vertices c.args.self.now (heading vertices_word (m.counts.vertices.0)) _ c.put_part.ensures in
    let p₂ = part-put float_text nan m.normals.now 3 (3 * m.counts.vertices.0) w.normals c.put_part.new.self (heading normals_word (m.counts.vertices.0)) _ c.put_part-2.ensures in
    part-head float_text nan m.uvs.now 2 (2 * m.counts.vertices.0) w.uvs c.put_part-2.new.self (heading uvs_word (m.counts.vertices.0)) (room-3 B m.counts c.args.self.now c.requires.room _ p₁ _ p₂)

pub put_part-requires-3-clause-room : goal.put_part-requires-3-clause-room
unfolding float_lines index_lines
put_part-requires-3-clause-room c = let m = c.args.mesh in
    let B = buffers_of m in
    let w = whole_is _ _ _ _ _ _ c.requires.whole in
    let p₁ = part-put float_text nan m.vertices.now 3 (3 * m.counts.vertices.0) w.vertices c.args.self.now (heading vertices_word (m.counts.vertices.0)) _ c.put_part.ensures in
    let p₂ = part-put float_text nan m.normals.now 3 (3 * m.counts.vertices.0) w.normals c.put_part.new.self (heading normals_word (m.counts.vertices.0)) _ c.put_part-2.ensures in
    part-room float_text nan m.uvs.now 2 (2 * m.counts.vertices.0) w.uvs c.put_part-2.new.self (heading uvs_word (m.counts.vertices.0)) (room-3 B m.counts c.args.self.now c.requires.room _ p₁ _ p₂)

pub slice_bounds-put_part-end-8 : goal.slice_bounds-put_part-end-8
slice_bounds-put_part-end-8 c = let m = c.args.mesh in
    let w = whole_is _ _ _ _ _ _ c.requires.whole in
    sym (taken-all decimal 0 m.indices.now 3 (m.counts.indices.0) w.indices)

pub put_part-requires-4-clause-heading : goal.put_part-requires-4-clause-heading
unfolding float_lines index_lines
put_part-requires-4-clause-heading c = let m = c.args.mesh in
    let B = buffers_of m in
    let w = whole_is _ _ _ _ _ _ c.requires.whole in
    let p₁ = part-put float_text nan m.vertices.now 3 (3 * m.counts.vertices.0) w.vertices c.args.self.now (heading vertices_word (m.counts.vertices.0)) _ c.put_part.ensures in
    let p₂ = part-put float_text nan m.normals.now 3 (3 * m.counts.vertices.0) w.normals c.put_part.new.self (heading normals_word (m.counts.vertices.0)) _ c.put_part-2.ensures in
    let p₃ = part-put float_text nan m.uvs.now 2 (2 * m.counts.vertices.0) w.uvs c.put_part-2.new.self (heading uvs_word (m.counts.vertices.0)) _ c.put_part-3.ensures in
    part-head decimal 0 m.indices.now 3 (m.counts.indices.0) w.indices c.put_part-3.new.self (heading indices_word (m.counts.indices.0)) (room-4 B m.counts c.args.self.now c.requires.room _ p₁ _ p₂ _ p₃)

pub put_part-requires-4-clause-room : goal.put_part-requires-4-clause-room
unfolding float_lines index_lines
put_part-requires-4-clause-room c = let m = c.args.mesh in
    let B = buffers_of m in
    let w = whole_is _ _ _ _ _ _ c.requires.whole in
    let p₁ = part-put float_text nan m.vertices.now 3 (3 * m.counts.vertices.0) w.vertices c.args.self.now (heading vertices_word (m.counts.vertices.0)) _ c.put_part.ensures in
    let p₂ = part-put float_text nan m.normals.now 3 (3 * m.counts.vertices.0) w.normals c.put_part.new.self (heading normals_word (m.counts.vertices.0)) _ c.put_part-2.ensures in
    let p₃ = part-put float_text nan m.uvs.now 2 (2 * m.counts.vertices.0) w.uvs c.put_part-2.new.self (heading uvs_word (m.counts.vertices.0)) _ c.put_part-3.ensures in
    part-room decimal 0 m.indices.now 3 (m.counts.indices.0) w.indices c.put_part-3.new.self (heading indices_word (m.counts.indices.0)) (room-4 B m.counts c.args.self.now c.requires.room _ p₁ _ p₂ _ p₃)

pub returns : goal.returns
unfolding float_lines index_lines
returns c = let m = c.args.mesh in
    let B = buffers_of m in
    let w = whole_is _ _ _ _ _ _ c.requires.whole in
    let p₁ = part-put float_text nan m.vertices.now 3 (3 * m.counts.vertices.0) w.vertices c.args.self.now (heading vertices_word (m.counts.vertices.0)) _ c.put_part.ensures in
    let p₂ = part-put float_text nan m.normals.now 3 (3 * m.counts.vertices.0) w.normals c.put_part.new.self (heading normals_word (m.counts.vertices.0)) _ c.put_part-2.ensures in
    let p₃ = part-put float_text nan m.uvs.now 2 (2 * m.counts.vertices.0) w.uvs c.put_part-2.new.self (heading uvs_word (m.counts.vertices.0)) _ c.put_part-3.ensures in
    let p₄ = part-put decimal 0 m.indices.now 3 (m.counts.indices.0) w.indices c.put_part-3.new.self (heading indices_word (m.counts.indices.0)) _ c.put_part-4.ensures in
    put-parts B m.counts c.args.self.now c.requires.room _ p₁ _ p₂ _ p₃ _ p₄
