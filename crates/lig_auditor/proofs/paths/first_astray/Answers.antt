use Rattle.std.proofs.Common.{sym, subst}
use Rattle.lig_proof.specs.declared.shared_proof.AnyProof.{AnyProof}
use Rattle.lig_auditor.specs.Ways.{IsFirstAstray}
use Rattle.lig_auditor.proofs.Concluding.{only_way}
use Rattle.lig_auditor.proofs.paths.first_astray.Goals as goal

pub returns-in-First : goal.returns-in-First
returns-in-First c =
    let p = c.args.params.now in
    let At : AnyProof → Type 0 = λ q. IsFirstAstray p c.args.indices.now q c.first_alone.result in
    subst At (sym c.in-First.is) (c.first_alone.ensures p)

pub returns-in_ok-lead-in-Second : goal.returns-in_ok-lead-in-Second
returns-in_ok-lead-in-Second c =
    let p = c.args.params.now in
    let At : AnyProof → Type 0 = λ q. IsFirstAstray p c.args.indices.now q c.failing.result in
    subst At (sym c.in-Second.is)
    (only_way p c.args.indices.now c.in-Second.proof c.in_ok-lead-in-Second.field-0 c.failing.result
    c.in_ok-lead-in-Second.ensures c.failing.ensures)
