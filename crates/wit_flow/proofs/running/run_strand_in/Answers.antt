use Rattle.std.proofs.Common.{◌≡◌, ℕ, ◌+◌, ◌<◌, List, length, refl, subst, sym, ap, ◌∙◌}
use Rattle.std.proofs.Common.{arith, Result, Vec, Global}
use Rattle.std.specs.Prelude.{IfOk}
use Rattle.wit_code.specs.declared.code.Stop.{Stop}
use Rattle.wit_code.specs.Table.{Wrote}
use Rattle.wit_flow.specs.declared.flow.Strand.{Strand}
use Rattle.wit_flow.specs.declared.flow.StrandOut.TheVariants.{Refused}
use Rattle.wit_flow.specs.Cells.{numbers_at}
use Rattle.wit_flow.specs.Run.{reads_at, writes_at}
use Rattle.wit_flow.specs.Cut.{strand_at}
use Rattle.wit_flow.specs.Steps.{step_outcome, strand_cells}
use Rattle.wit_flow.specs.OneThread.{IsCodeEnd, IsStrandOut}
use Rattle.wit_flow.proofs.PartRuns.{IsRunning, strand_ends, goes_on, stops_at}
use Rattle.wit_flow.proofs.running.run_strand_in.Goals as goal

pub overflow_add-at-end : goal.overflow_add-at-end
overflow_add-at-end c =
    let p = c.args.flow.now in let k : ℕ = c.args.strand in
    let end : c.strand-part.result.first + c.strand-part.result.count
    ≡ (strand_at p.strands k).first + (strand_at p.strands k).count =
    ap (λ (s : Strand). s.first + s.count) c.strand-part.ensures in
    let e = strand_ends p c.facts.ensures.plan k c.requires.near in
    let f = c.facts.ensures.plan.can_cut.few in omega arith

pub run_step-requires-clause-near : goal.run_step-requires-clause-near
run_step-requires-clause-near c =
    let p = c.args.flow.now in let k : ℕ = c.args.strand in
    let end : c.strand-part.result.first + c.strand-part.result.count
    ≡ (strand_at p.strands k).first + (strand_at p.strands k).count =
    ap (λ (s : Strand). s.first + s.count) c.strand-part.ensures in
    let e = strand_ends p c.facts.ensures.plan k c.requires.near in
    let t = c.loop-at-test.true in omega arith

pub returns-in-Err : goal.returns-in-Err
returns-in-Err c =
    let p = c.args.flow.now in let k : ℕ = c.args.strand in let at : ℕ = c.loop-at.at in
    let reads = c.args.reads.now in let written = c.loop-at.written.items in
    let end : c.strand-part.result.first + c.strand-part.result.count
    ≡ (strand_at p.strands k).first + (strand_at p.strands k).count =
    ap (λ (s : Strand). s.first + s.count) c.strand-part.ensures in
    let less : at < (strand_at p.strands k).first + (strand_at p.strands k).count =
    let t = c.loop-at-test.true in omega arith in
    let numbers : c.as_slice-in-loop-at.result.now
    ≡ numbers_at (strand_cells p k reads at written) (reads_at p.steps at) =
    c.as_slice-in-loop-at.ensures.value ∙ c.in_ok-numbers.ensures.numbers
    ∙ ap (λ (ws : List ℕ). numbers_at (strand_cells p k reads at ws) (reads_at p.steps at))
    c.as_slice.ensures.value in
    let O = step_outcome p at c.as_slice-in-loop-at.result.now c.args.fuel in
    let by = ap (λ (l : List ℕ). step_outcome p at l c.args.fuel) (sym numbers) in
    let IsEnd : Result (Vec ℕ Global) Stop → Type 0 = λ r. IsCodeEnd r O in
    let stop = subst IsEnd c.in-Err.is c.in_ok-values.ensures.end in
    let over = stops_at p c.facts.ensures.plan c.args.fuel k reads c.requires.near at written
    c.loop-at.invariant less c.in-Err.stop (by ∙ stop.0) in
    subst (IsStrandOut (Refused at c.in-Err.stop c.of.result)) (sym over)
    (refl, refl, stop.1, c.of.ensures)

pub loop-at-preserved : goal.loop-at-preserved
loop-at-preserved c =
    let p = c.args.flow.now in let k : ℕ = c.args.strand in let at : ℕ = c.loop-at.at in
    let reads = c.args.reads.now in let written = c.loop-at.written.items in
    let end : c.strand-part.result.first + c.strand-part.result.count
    ≡ (strand_at p.strands k).first + (strand_at p.strands k).count =
    ap (λ (s : Strand). s.first + s.count) c.strand-part.ensures in
    let less : at < (strand_at p.strands k).first + (strand_at p.strands k).count =
    let t = c.loop-at-test.true in omega arith in
    let numbers : c.as_slice-in-loop-at.result.now
    ≡ numbers_at (strand_cells p k reads at written) (reads_at p.steps at) =
    c.as_slice-in-loop-at.ensures.value ∙ c.in_ok-numbers.ensures.numbers
    ∙ ap (λ (ws : List ℕ). numbers_at (strand_cells p k reads at ws) (reads_at p.steps at))
    c.as_slice.ensures.value in
    let O = step_outcome p at c.as_slice-in-loop-at.result.now c.args.fuel in
    let by = ap (λ (l : List ℕ). step_outcome p at l c.args.fuel) (sym numbers) in
    let ys = c.in-Ok.values.items in
    let IsEnd : Result (Vec ℕ Global) Stop → Type 0 = λ r. IsCodeEnd r O in
    let wrote : O ≡ Wrote ys = subst IsEnd c.in-Ok.is c.in_ok-values.ensures.end in
    let Fills : Result (Vec ℕ Global) Stop → Type 0 =
    λ r. IfOk r (λ v. length v.items ≡ length (writes_at p.steps at)) in
    let fills : length ys ≡ length (writes_at p.steps at) =
    subst Fills c.in-Ok.is c.in_ok-values.ensures.each in
    subst (IsRunning p c.args.fuel k reads (at + 1)) (sym c.in_ok-append-in-Ok.ensures)
    (goes_on p c.facts.ensures.plan c.args.fuel k reads c.requires.near at written
    c.loop-at.invariant less ys (by ∙ wrote) fills)
