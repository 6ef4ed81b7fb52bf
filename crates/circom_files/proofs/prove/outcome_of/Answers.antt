use Rattle.std.proofs.Common.{◌≡◌, Ok, subst}
use Rattle.lig_complete.proofs.Answered.{answers_accepted}
use Rattle.circom_files.specs.Accepted.{IsAcceptedFor}
use Rattle.circom_files.proofs.prove.outcome_of.Goals as goal

pub returns-in-Ok-clause-accepted : goal.returns-in-Ok-clause-accepted
returns-in-Ok-clause-accepted g c = λ proof is.
    let w = c.args.witness.now in
    let same : c.in-Ok.proof.items ≡ proof = cc in
    subst (IsAcceptedFor w) same
    (answers_accepted c.args.options.version w.bytes w.file w.values c.args.options.seed
    (Ok c.in-Ok.proof) c.proof_of.ensures.file c.requires.limits c.requires.numbers
    c.in-Ok.ensures.proved)
