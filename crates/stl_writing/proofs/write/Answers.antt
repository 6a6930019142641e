-- `write`: what is done holds every vertex that is named, and its file fits. Assumes nothing.
use Rattle.std.proofs.Common.{rules}
use Rattle.buffers.specs.Laying.{four}
use Rattle.stl_writing.proofs.Testing.{holds_named, file-fits}
use Rattle.stl_writing.proofs.write.Goals as goal

pub put_file-requires : goal.put_file-requires
put_file-requires c = let a = c.args in
    let w = file-fits a.counts (four a.vertices.now a.normals.now a.uvs.now a.indices.now) a.bytes.now {d = c.in_ok-mesh.mesh} (search rules) in
    (holds_named _ a.vertices.now a.normals.now a.uvs.now a.indices.now _ w, w.fits)
