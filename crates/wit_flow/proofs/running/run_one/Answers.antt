use Rattle.std.proofs.Common.{◌≡◌, ◌≤◌, ℕ, List, length, map, subst, sym, ap, ◌∙◌, arith, Result}
use Rattle.std.proofs.Common.{Vec, Global}
use Rattle.std.proofs.Common.{unwrap_or, Option}
use Rattle.std.specs.Prelude.{IfOk}
use Rattle.std.proofs.lemmas.List.{length-map}
use Rattle.wit_code.specs.declared.code.Step.{Step}
use Rattle.wit_code.specs.declared.code.Stop.{Stop}
use Rattle.wit_flow.specs.Cells.{held, number_at, numbers_at, with_values}
use Rattle.wit_flow.specs.Run.{reads_at, writes_at}
use Rattle.wit_flow.specs.Steps.{step_outcome}
use Rattle.wit_flow.specs.OneThread.{IsCodeEnd}
use Rattle.wit_flow.proofs.Whole.{starts_at, finish, goes, stops}
use Rattle.wit_flow.proofs.running.run_one.Goals as goal

pub loop-at-init : goal.loop-at-init
loop-at-init c = starts_at c.args.flow.now c.facts.ensures.plan c.args.start.now c.args.fuel
    c.in_ok-cells.cells c.in_ok-cells.ensures

pub run_step-requires-clause-fits : goal.run_step-requires-clause-fits
run_step-requires-clause-fits c =
    let p = c.args.flow.now in let at : ℕ = c.loop-at.at in let cells = c.loop-at.cells in
    let reads = c.as_slice-in-loop-at.ensures ∙ ap (λ (s : Step). s.reads) c.step-step.ensures in
    let numbers : c.as_slice-in-loop-at-2.result.now
    ≡ numbers_at (held cells) (reads_at p.steps at) =
    c.as_slice-in-loop-at-2.ensures.value ∙ c.in_ok-reads.ensures.numbers
    ∙ (λ j. numbers_at (held (c.as_slice.ensures j)) (reads j)) in
    ap length numbers ∙ length-map (reads_at p.steps at) (number_at (held cells))

pub put-requires-clause-each : goal.put-requires-clause-each
put-requires-clause-each c =
    let p = c.args.flow.now in let at : ℕ = c.loop-at.at in
    let G : Result (Vec ℕ Global) Stop → Type 0 =
    λ r. IfOk r (λ v. length v.items ≡ length (writes_at p.steps at)) in
    let writes = c.as_slice-in-Ok.ensures ∙ ap (λ (s : Step). s.writes) c.step-step.ensures in
    ap length c.as_slice-in-Ok-2.ensures.value ∙ subst G c.in-Ok.is c.in_ok-values.ensures.each
    ∙ ap length (sym writes)

pub returns-in-Err : goal.returns-in-Err
returns-in-Err c =
    let p = c.args.flow.now in let at : ℕ = c.loop-at.at in let cells = c.loop-at.cells in
    let reads = c.as_slice-in-loop-at.ensures ∙ ap (λ (s : Step). s.reads) c.step-step.ensures in
    let xs = c.as_slice-in-loop-at-2.result.now in
    let numbers : xs ≡ numbers_at (held cells) (reads_at p.steps at) =
    c.as_slice-in-loop-at-2.ensures.value ∙ c.in_ok-reads.ensures.numbers
    ∙ (λ j. numbers_at (held (c.as_slice.ensures j)) (reads j)) in
    let E : Result (Vec ℕ Global) Stop → Type 0 =
    λ r. IsCodeEnd r (step_outcome p at xs c.args.fuel) in
    let end = subst E c.in-Err.is c.in_ok-values.ensures.end in
    stops p c.facts.ensures.plan c.args.start.now c.args.fuel at cells c.loop-at.invariant
    (omega arith) c.in-Err.stop
    (ap (λ (l : List ℕ). step_outcome p at l c.args.fuel) (sym numbers) ∙ end.0) end.1

pub loop-at-preserved : goal.loop-at-preserved
loop-at-preserved c =
    let p = c.args.flow.now in let at : ℕ = c.loop-at.at in let cells = c.loop-at.cells in
    let reads = c.as_slice-in-loop-at.ensures ∙ ap (λ (s : Step). s.reads) c.step-step.ensures in
    let xs = c.as_slice-in-loop-at-2.result.now in
    let numbers : xs ≡ numbers_at (held cells) (reads_at p.steps at) =
    c.as_slice-in-loop-at-2.ensures.value ∙ c.in_ok-reads.ensures.numbers
    ∙ (λ j. numbers_at (held (c.as_slice.ensures j)) (reads j)) in
    let writes = c.as_slice-in-Ok.ensures ∙ ap (λ (s : Step). s.writes) c.step-step.ensures in
    let E : Result (Vec ℕ Global) Stop → Type 0 =
    λ r. IsCodeEnd r (step_outcome p at xs c.args.fuel) in
    let G : Result (Vec ℕ Global) Stop → Type 0 =
    λ r. IfOk r (λ v. length v.items ≡ length (writes_at p.steps at)) in
    let wrote = subst E c.in-Ok.is c.in_ok-values.ensures.end in
    goes p c.facts.ensures.plan c.args.start.now c.args.fuel at cells c.loop-at.invariant
    (omega arith) c.put.new.held_cells c.in-Ok.values.items
    (ap (λ (l : List ℕ). step_outcome p at l c.args.fuel) (sym numbers) ∙ wrote)
    (subst G c.in-Ok.is c.in_ok-values.ensures.each) c.put.ensures.wide
    (c.put.ensures.put
    ∙ (λ j. with_values (held cells) (writes j) (c.as_slice-in-Ok-2.ensures.value j)))

pub returns : goal.returns
returns c =
    let p = c.args.flow.now in
    let past : length p.steps ≤ c.loop-at.at = omega arith in
    finish p c.facts.ensures.plan c.args.start.now c.args.fuel c.loop-at.at c.loop-at.cells
    c.loop-at.invariant c.requires past c.of.result
    (c.of.ensures ∙ c.in_ok-values-2.ensures
    ∙ ap (map (λ (o : Option ℕ). unwrap_or o 0)) c.as_slice-2.ensures)
