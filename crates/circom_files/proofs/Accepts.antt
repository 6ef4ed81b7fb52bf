-- What `prove` writes is accepted, and where `audit` ends well.
use Rattle.std.proofs.Common.{◌≡◌, ◌≢◌, ◌∙◌, ◌↔◌, ℕ, List, Result, Ok}
use Rattle.std.proofs.Common.{Err, IfOk, refl, sym}
use Rattle.std.proofs.Common.{ap, subst, arith}
use Rattle.out_io.specs.Contents.{Contents}
use Rattle.out_io.specs.declared.fault.IoFault.{IoFault}
use Rattle.lig_proof.specs.declared.verdict.Verdict.{Verdict as Audited}
use Rattle.lig_proof.specs.declared.verdict.Verdict.TheVariants as audits
use Rattle.circom_lines.specs.declared.answer.Verdict.{Verdict}
use Rattle.circom_lines.specs.declared.answer.Verdict.TheVariants.{CountsDiffer, WireZero}
use Rattle.circom_lines.specs.declared.answer.Verdict.TheVariants.{ConstraintFails, Satisfied}
use Rattle.circom_lines.specs.Lines.{verdict_status}
use Rattle.circom_lines.specs.Proving.{audit_status}
use Rattle.circom_words.specs.Words.{ProveOptions}
use Rattle.circom_lines.specs.declared.answer.Refusal.{Refusal}
use Rattle.circom_files.specs.Accepted.{IsAccepted, IsProofOf, WritesProof}
use Rattle.out_io.specs.Held.{OfAll}
use Rattle.circom_files.specs.Proving.{Audits, FoundIn, IsAudited, IsProved, Proves, offer_of}
use Rattle.circom_files.specs.Proving.{witness_of}
use Rattle.circom_files.specs.Reply.{Reply, Says, audited, proved, said}
use Rattle.circom_files.specs.Stops.{EndsBy}
use Rattle.circom_files.specs.declared.reply.Reply.{Reply as CodeReply}
use Rattle.circom_files.specs.declared.stop.Stop.{Stop}
use Rattle.circom_files.specs.declared.stop.Stop.TheVariants.{Refused, StoreFailed, OutOfMemory}
use Rattle.circom_files.specs.declared.outcome.Witness.{Witness}
use Rattle.circom_files.specs.declared.outcome.Offer.{Offer}
use Rattle.circom_files.specs.declared.outcome.Outcome.{Outcome}
use Rattle.circom_files.specs.declared.outcome.Outcome.TheVariants.{Made, Unmade}
use Rattle.circom_files.proofs.Once.{one_audit}

-- nothing is found to be wrong with values that satisfy the file
never_satisfied : (options : ProveOptions) (read : Result Witness Refusal) (v : Verdict)
    → FoundIn (IsProved options) read (Ok (Unmade v)) → v ≢ Satisfied
never_satisfied options (Ok w) v h = h.1
never_satisfied options (Err r) v h = absurd h

pub zero_satisfied : (v : Verdict) → verdict_status v ≡ 0 → v ≡ Satisfied
zero_satisfied (CountsDiffer values wires) e = absurd (omega (arith, e))
zero_satisfied WireZero e = absurd (omega (arith, e))
zero_satisfied (ConstraintFails index) e = absurd (omega (arith, e))
zero_satisfied Satisfied e = refl

-- the reply that writes a proof writes what is accepted
pub writes_proof : (files : Contents) (r1cs wtns out : List ℕ) (options : ProveOptions)
    (outcome : Outcome) (r : Reply) → Proves files r1cs wtns options (Ok outcome)
    → ((proof : List ℕ) → outcome ≡ Made proof → IsProofOf files r1cs wtns proof)
    → r ≡ proved out outcome → r.status ≡ 0 → WritesProof files r1cs wtns out r
writes_proof files r1cs wtns out options (Made proof) r proves accepts is zero =
    record { bytes = proof; file = ap (λ (x : Reply). x.file) is; proof = accepts proof refl }
writes_proof files r1cs wtns out options (Unmade v) r proves accepts is zero =
    let status : verdict_status v ≡ 0 = sym (ap (λ (x : Reply). x.status) is) ∙ zero in
    absurd (never_satisfied options (witness_of files r1cs wtns) v proves
    (zero_satisfied v status))

-- a command that was stopped is no success
pub unsuccessful : (held : Contents → Type 0) (P : Contents → CodeReply → Type 0)
    (stop : Stop) (result : Result CodeReply IoFault) → EndsBy stop result
    → IfOk result (λ r. OfAll held (λ files. r.status ≡ 0 → P files r))
unsuccessful held P (Refused refusal) (Ok r) e = λ files may zero.
    absurd (omega (arith, ap (λ (x : Reply). x.status) e, zero))
unsuccessful held P StoreFailed (Ok r) e = absurd e
unsuccessful held P OutOfMemory (Ok r) e = absurd e
unsuccessful held P stop (Err fault) e = tt

-- the offer on which a verdict was found
found_offer : (read : Result Offer Refusal) (found : Audited)
    → FoundIn IsAudited read (Ok found) → (o : Offer) × (read ≡ Ok o) × IsAudited o found
found_offer (Ok o) found h = (o, refl, h)
found_offer (Err r) found h = absurd h

zero_accepted : (v : Audited) → audit_status v ≡ 0 → v ≡ audits.Accepted
zero_accepted audits.Accepted e = refl
zero_accepted audits.PublicCount e = absurd (omega (arith, e))
zero_accepted (audits.Malformed offset) e = absurd (omega (arith, e))
zero_accepted (audits.BadPath opened) e = absurd (omega (arith, e))
zero_accepted audits.Proximity e = absurd (omega (arith, e))
zero_accepted audits.LinearSum e = absurd (omega (arith, e))
zero_accepted audits.LinearColumn e = absurd (omega (arith, e))
zero_accepted audits.QuadZero e = absurd (omega (arith, e))
zero_accepted audits.QuadColumn e = absurd (omega (arith, e))

pub accepted_is : (files : Contents) (r1cs publics proof : List ℕ)
    → IsAccepted files r1cs publics proof
    → Audits files r1cs publics proof (Ok audits.Accepted)
accepted_is files r1cs publics proof a =
    subst (λ (x : Result Offer Refusal). FoundIn IsAudited x (Ok audits.Accepted)) (sym a.read)
    a.accepted

refused_or_not : (r : Result Audited Refusal) (refusal : Refusal) (v : Audited)
    → r ≡ Err refusal → r ≡ Ok v → ⊥
refused_or_not (Ok x) refusal v p q = cc
refused_or_not (Err x) refusal v p q = cc

-- an audit is a success exactly where the offer is accepted
pub says_accepted : (files : Contents) (r1cs publics proof : List ℕ) (r : Reply)
    → Says audited (λ found. Audits files r1cs publics proof found) r
    → (r.status ≡ 0) ↔ IsAccepted files r1cs publics proof
says_accepted files r1cs publics proof r (Ok v, found, is) = (
  λ zero.
      let offer = found_offer (offer_of files r1cs publics proof) v found in
      record {
        offer = offer.0;
        read = offer.1;
        accepted = subst (IsAudited offer.0)
            (zero_accepted v (sym (ap (λ (x : Reply). x.status) is) ∙ zero)) offer.2;
      },
  λ a. ap (λ (x : Reply). x.status) is
      ∙ ap (λ (x : Result Audited Refusal). (said audited x).status)
      (one_audit files r1cs publics proof (Ok v) (Ok audits.Accepted) found
      (accepted_is files r1cs publics proof a)),
)
says_accepted files r1cs publics proof r (Err refusal, found, is) = (
  λ zero. absurd (omega (arith, ap (λ (x : Reply). x.status) is, zero)),
  λ a. absurd (refused_or_not (Err refusal) refusal audits.Accepted refl
      (one_audit files r1cs publics proof (Err refusal) (Ok audits.Accepted) found
      (accepted_is files r1cs publics proof a))),
)
