use Rattle.std.proofs.Common.{◌∙◌, ap, Ok}
use Rattle.binary_format.specs.Reading.{◌>>=◌}
use Rattle.lig_proof.specs.declared.shared_proof.AnyProof.TheVariants.{First, Second}
use Rattle.lig_proof.specs.Reading.{proof_of}
use Rattle.lig_proof.specs.SharedReading.{proof2_of, any_proof_of}
use Rattle.lig_proof.proofs.AnyWhole.{fails_on, fails_as, is_first, is_second}
use Rattle.lig_proof.proofs.any_read.read_any.Goals as goal

pub returns-in-Ok-clause-exact : goal.returns-in-Ok-clause-exact
returns-in-Ok-clause-exact c =
    let named = c.is_second.ensures in
    is_second c.args.params.now c.args.relation.now.bytes.now c.args.publics.now c.args.bytes.now
    c.is_second.result named.long named.short c.if-is_second.true
    ∙ ap (λ r. r >>= λ proof. Ok (Second proof)) c.in-Ok.ensures.exact

pub returns-in-Err-clause-exact : goal.returns-in-Err-clause-exact
returns-in-Err-clause-exact c =
    let named = c.is_second.ensures in
    let p = c.args.params.now in
    let reading = proof2_of p c.args.relation.now.bytes.now c.args.publics.now c.args.bytes.now in
    fails_as c.in-Err.fault
    (any_proof_of p c.args.relation.now.bytes.now c.args.publics.now c.args.bytes.now)
    (reading >>= λ proof. Ok (Second proof))
    (is_second p c.args.relation.now.bytes.now c.args.publics.now c.args.bytes.now
    c.is_second.result named.long named.short c.if-is_second.true)
    (fails_on c.in-Err.fault reading (λ proof. Ok (Second proof)) c.in-Err.ensures.exact)

pub returns-in-Ok-read_proof-clause-exact : goal.returns-in-Ok-read_proof-clause-exact
returns-in-Ok-read_proof-clause-exact c =
    let named = c.is_second.ensures in
    is_first c.args.params.now c.args.relation.now.bytes.now c.args.publics.now c.args.bytes.now
    c.is_second.result named.long named.short c.if-is_second.false
    ∙ ap (λ r. r >>= λ proof. Ok (First proof)) c.in-Ok-read_proof.ensures.exact

pub returns-in-Err-read_proof-clause-exact : goal.returns-in-Err-read_proof-clause-exact
returns-in-Err-read_proof-clause-exact c =
    let named = c.is_second.ensures in
    let p = c.args.params.now in
    let reading = proof_of p c.args.bytes.now in
    fails_as c.in-Err-read_proof.fault
    (any_proof_of p c.args.relation.now.bytes.now c.args.publics.now c.args.bytes.now)
    (reading >>= λ proof. Ok (First proof))
    (is_first p c.args.relation.now.bytes.now c.args.publics.now c.args.bytes.now c.is_second.result
    named.long named.short c.if-is_second.false)
    (fails_on c.in-Err-read_proof.fault reading
    (λ proof. Ok (First proof)) c.in-Err-read_proof.ensures.exact)
