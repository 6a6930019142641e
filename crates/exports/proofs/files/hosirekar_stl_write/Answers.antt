-- `hosirekar_stl_write`: the function below it, with its counts carried from C and what it tells to C. Assumes nothing.
use lib.ListN.{length}
use Rattle.face.specs.declared.triangle.Counts.{Counts}
use Rattle.buffers.specs.Laying.{four}
use Rattle.stl_writing.specs.Writing.{file_answer, written}
use Rattle.boundary.specs.ToC.{file_to_c}
use Rattle.exports.proofs.Carried.{carried}
use Rattle.exports.proofs.files.hosirekar_stl_write.Goals as goal

pub returns : goal.returns
returns c = let a = c.args in
    let M = four a.vertices.now a.normals.now a.uvs.now a.indices.now in
    let from = c.from.ensures in
    let told = carried (λ (n : Counts). file_answer n M (length a.bytes.now)) c.write.ensures.answer from in record { answer = carried file_to_c c.from-2.ensures told; bytes = carried (λ (n : Counts). written n M a.bytes.now) c.write.ensures.bytes from }
