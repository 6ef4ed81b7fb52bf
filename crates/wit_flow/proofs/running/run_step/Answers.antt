use Rattle.std.proofs.Common.{◌≡◌, ◌<◌, List, length, subst, sym, ap, ◌∙◌, arith}
use Rattle.wit_code.specs.declared.code.Proc.{Proc}
use Rattle.wit_code.specs.declared.code.Step.{Step}
use Rattle.wit_code.specs.Code.{IsWellFormed}
use Rattle.wit_code.specs.Table.{Outcome, outcome_of}
use Rattle.wit_flow.specs.Plan.{Plan}
use Rattle.wit_flow.specs.Steps.{step_outcome}
use Rattle.wit_flow.specs.OneThread.{IsCodeEnd}
use Rattle.wit_flow.proofs.Whole.{is_well_formed, each_given}
use Rattle.wit_flow.proofs.running.run_step.Goals as goal

pub run_code-requires : goal.run_code-requires
run_code-requires c =
    let p = c.args.flow.now in let xs = c.args.reads.now in
    let procs : c.as_slice-procs.result.now ≡ p.procs =
    c.as_slice-procs.ensures ∙ ap (λ (q : Plan). q.procs) c.flow.view_is in
    let W : List Proc → Type 0 = λ l. IsWellFormed l (length xs) c.step-step.result.now.code in
    let V : Step → Type 0 = λ s. IsWellFormed p.procs (length xs) s.code in
    subst W (sym procs) (subst V (sym c.step-step.ensures)
    (is_well_formed p c.facts.ensures.plan c.args.at xs c.requires.near c.requires.fits))

pub returns : goal.returns
returns c =
    let p = c.args.flow.now in let xs = c.args.reads.now in
    let procs : c.as_slice-procs.result.now ≡ p.procs =
    c.as_slice-procs.ensures ∙ ap (λ (q : Plan). q.procs) c.flow.view_is in
    let same : outcome_of c.as_slice-procs.result.now c.step-step.result.now.code xs c.args.fuel
    ≡ step_outcome p c.args.at xs c.args.fuel =
    λ j. outcome_of (procs j) (c.step-step.ensures j).code xs c.args.fuel in
    let E : Outcome → Type 0 = λ o. IsCodeEnd c.in_ok-end.end o in
    let end = subst E same c.in_ok-end.ensures in
    let fits : c.args.fuel < 18446744073709551616 = omega arith in
    record {
      end = end;
      each = each_given p c.facts.ensures.plan c.args.fuel c.args.at xs c.requires.near
          c.requires.fits c.requires.below fits c.in_ok-end.end end;
    }
