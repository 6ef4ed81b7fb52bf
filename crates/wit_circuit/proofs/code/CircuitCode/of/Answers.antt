use Rattle.std.proofs.Common.{◌≡◌, ◌++◌, ◌∙◌, [], List, ap, arith, length, map, Some, subst, sym}
use Rattle.std.proofs.Common.{rules}
use Rattle.std.proofs.lemmas.Grind.{common_steps}
use Rattle.std.proofs.lemmas.List.{append-nil}
use Rattle.wit_code.specs.declared.code.Proc.{Proc}
use Rattle.wit_code.specs.declared.code.Step.{Step as CodeStep}
use Rattle.cir_meaning.specs.Bodies.{most_open}
use Rattle.cir_meaning.specs.RunStatements.{run_call}
use Rattle.wit_circuit.specs.declared.columns.MadeStep.{MadeStep}
use Rattle.wit_circuit.specs.Made.{AreMadeOf}
use Rattle.wit_circuit.specs.Whole.{codes_of}
use Rattle.wit_circuit.proofs.Making.{places_of, logs_of, places_are, logs_are}
use Rattle.wit_circuit.proofs.code.CircuitCode.of.Goals as goal

pub returns : goal.returns
returns c = λ p b same made cells starts homes.
    let call = run_call p most_open in
    let ms = c.args.made.items in
    let procs = c.args.procs.items in
    let l = c.loop-step in
    let done : l.step-iterator.rest.items ≡ [] =
    first_of (cc, grind (arith, common_steps), search rules) in
    let codes : c.of.result ≡ codes_of ms =
    c.of.ensures ∙ sym (append-nil l.steps.items)
    ∙ ap (λ (r : List MadeStep). l.steps.items ++ codes_of r) (sym done) ∙ l.invariant.codes in
    let places : c.of-5.result ≡ places_of ms =
    c.of-5.ensures ∙ sym (append-nil l.places.items)
    ∙ ap (λ (r : List MadeStep). l.places.items ++ places_of r) (sym done) ∙ l.invariant.places in
    let logs : c.of-6.result ≡ logs_of 0 ms =
    c.of-6.ensures ∙ sym (append-nil l.logs.items)
    ∙ ap (λ (r : List MadeStep). l.logs.items ++ logs_of (length l.steps.items) r) (sym done)
    ∙ l.invariant.logs in
    record {
      steps = subst (λ (q : List Proc). AreMadeOf call q b.steps c.of.result) (sym c.of-2.ensures)
          (subst (λ (s : List CodeStep). AreMadeOf call procs b.steps s) (sym codes)
          made);
      cells = cells;
      starts = c.of-3.ensures ∙ starts;
      homes = ap (map Some) c.of-4.ensures ∙ homes;
      places = places ∙ places_are b.steps ms same;
      logs = logs ∙ logs_are 0 b.steps ms same;
    }
