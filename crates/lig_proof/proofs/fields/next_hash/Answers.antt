use Rattle.std.proofs.Common.{sym}
use Rattle.lig_proof.proofs.Loops.{length-front}
use Rattle.lig_proof.proofs.fields.next_hash.Goals as goal

pub copy_from_slice-requires : goal.copy_from_slice-requires
copy_from_slice-requires c =
    sym (length-front 32 c.args.fields.now.rest.now c.in-Some.bytes.now c.bytes.new.self.rest.now
    c.in-Some.ensures.taken)
