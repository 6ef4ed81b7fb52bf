-- How a run of the code ends is the end of the program's run.
use Rattle.std.proofs.Common.{◌≡◌, ℕ, ◌∷◌, [], List, length, map, take, true, Some, None, Ok, Err}
use Rattle.std.proofs.Common.{Option, refl, sym, ◌∙◌, ap, subst, arith, inl, inr, All}
use Rattle.std.specs.Prelude.{is_some, slice_get, slice_index}
use Rattle.std.specs.Option.{option_map}
use Rattle.std.proofs.lemmas.Bool.{cases_lt, true≢false}
use Rattle.std.proofs.lemmas.List.{get_or-map, get_or_past, length-map, take_all}
use Rattle.std.proofs.lemmas.List.Elements.{All-head, All-tail, All-same}
use Rattle.std.proofs.lemmas.Option.{same_Some, slice_get-map, slice_get_within}
use Rattle.wit_code.specs.Table.{stop_number}
use Rattle.wit_flow.specs.declared.flow.Outcome.{Outcome}
use Rattle.wit_flow.specs.declared.flow.Outcome.TheVariants.{Done, Refused}
use Rattle.wit_flow.specs.Cells.{held}
use Rattle.wit_flow.specs.Cut.{CanCut}
use Rattle.wit_flow.specs.OneThread.{IsOutcome}
use Rattle.cir_ast.specs.Program.{Program}
use Rattle.cir_meaning.specs.Tried.{Where}
use Rattle.cir_meaning.specs.Run.{RunTried, Rejected, Stopped as StoppedSo}
use Rattle.cir_meaning.specs.RunBodies.{Ending, ran}
use Rattle.cir_meaning.specs.Scoped.{IsResolved}
use Rattle.cir_meaning.proofs.RunLaws.{run_has_values}
use Rattle.cir_steps.specs.Step.{Step}
use Rattle.cir_steps.specs.RunSteps.{in_cell}
use Rattle.cir_steps.specs.Circuit.{Circuit}
use Rattle.cir_steps.specs.Places.{ArePlacesMeant}
use Rattle.cir_steps.proofs.InstanceLaw.{instances_stand}
use Rattle.cir_steps.proofs.StartLaw.{starts_counted}
use Rattle.wit_circuit.specs.declared.code.CircuitCode.{CircuitCode}
use Rattle.wit_circuit.specs.declared.code.StepPlace.{StepPlace}
use Rattle.wit_circuit.specs.Whole.{IsCircuitOf, StandsFor, logs_from, place_of}
use Rattle.wit_circuit.specs.Ending.{lines_of, code_ending}
use Rattle.wit_circuit.specs.Told.{Tells}
use Rattle.wit_circuit.proofs.Cutting.{circuits_cut}
use Rattle.wit_circuit.proofs.Telling.{tells_run}
use Rattle.wit_run.specs.declared.ending.RunEnd.{RunEnd}
use Rattle.wit_run.specs.declared.ending.RunEnd.TheVariants.{Ended, Stopped}
use Rattle.wit_run.specs.Ending.{IsEndOf}
use Rattle.wit_run.specs.Lines.{lines_before}
use Rattle.wit_run.specs.Task.{IsTask, EndsBy, HasPlace}
use Rattle.wit_run.proofs.Logs.{lines_are}

-- a cell that has a number has it in the list
there : (values : List ℕ) (c : ℕ) → is_some (held (map Some values) c) ≡ true
    → held (map Some values) c ≡ Some (slice_index values c)
there values c some = elim (cases_lt c (length values)) [
  | inl near ↦ get_or-map Some values c 0 None near
  | inr far ↦ (
      let past : held (map Some values) c ≡ None =
      get_or_past (map Some values) c None (omega (arith, length-map values Some)) in
      absurd (true≢false (sym some ∙ ap (λ (o : Option ℕ). is_some o) past)))
]

numbers_are : (values homes : List ℕ)
    → All (λ o. is_some o ≡ true) (map (in_cell (held (map Some values))) (map Some homes))
    → map (in_cell (held (map Some values))) (map Some homes)
    ≡ map Some (map (slice_index values) homes)
numbers_are values [] all = refl
numbers_are values (c ∷ cs) all =
    let cells = in_cell (held (map Some values)) in
    let Has : Option ℕ → Type 0 = λ o. is_some o ≡ true in
    let one = there values c (All-head Has (cells (Some c)) (map cells (map Some cs)) all) in
    let rest = numbers_are values cs
    (All-tail Has (cells (Some c)) (map cells (map Some cs)) all) in
    λ i. one i ∷ rest i

abbrev HasValues : RunTried Ending → Type 0
HasValues r = (e : Ending) → r ≡ Ok e → All (λ o. is_some o ≡ true) e.values

-- each step stands in the instance of its number
abbrev AreIn : List (List ℕ) → List Step → Type 0
AreIn instances steps = (i : ℕ) (s : Step) → slice_get steps i ≡ Some s
    → slice_get instances s.place.instance ≡ Some s.place.path

module _ (p : Program) (b : Circuit) (code : CircuitCode) (made : StandsFor p b code) where
  as_many : length code.places ≡ length b.steps
  as_many = ap length made.places ∙ length-map b.steps (λ (s : Step). place_of s.place)

  lines : (cells : ℕ → Option ℕ) (k : ℕ)
      → lines_of cells (take k b.steps) [] ≡ lines_before k cells code.logs
  lines cells k =
      lines_are cells b.steps 0 k []
      ∙ ap (λ m. lines_before m cells (logs_from 0 b.steps)) (omega arith)
      ∙ ap (lines_before k cells) (sym made.logs)

  place_at : (n : ℕ) (s : Step) (place : StepPlace) → slice_get b.steps n ≡ Some s
      → slice_get code.places n ≡ Some place → place ≡ place_of s.place
  place_at n s place is at =
      same_Some place (place_of s.place)
      (sym at ∙ ap (λ l. slice_get l n) made.places
      ∙ slice_get-map (λ (s : Step). place_of s.place) b.steps n
      ∙ ap (option_map (λ (s : Step). place_of s.place)) is)

  pub has_place : (o : Outcome) (r : RunTried Ending) → Tells b o r → HasPlace code o
  has_place (Done values) r h = tt
  has_place (Refused n stop cells) (Ok end) h = absurd h
  has_place (Refused n stop cells) (Err (Rejected e)) h = absurd h
  has_place (Refused n stop cells) (Err (StoppedSo number w log)) h =
      let near = slice_get_within b.steps n h.0 h.1.there in omega (arith, as_many)

  module _ (instances : List (List ℕ)) (stand : AreIn instances b.steps) where
    pub is_end : (o : Outcome) (r : RunTried Ending) (e : RunEnd) → Tells b o r → HasValues r
        → EndsBy code o e → IsEndOf instances e r
    is_end (Done values) (Ok end) (Ended numbers log) h has ends =
        let cells = held (map Some values) in
        let homes : end.values ≡ map (in_cell cells) (map Some code.homes) =
        h.0 ∙ ap (map (in_cell cells)) (sym made.homes) in
        let same : end.values ≡ map Some numbers =
        homes
        ∙ numbers_are values code.homes
        (All-same (λ o. is_some o ≡ true) (map (in_cell cells) (map Some code.homes)) end.values
        (sym homes) (has end refl))
        ∙ ap (map Some) (sym ends.0) in
        let told : end.log ≡ log =
        h.1 ∙ ap (λ ss. lines_of cells ss []) (sym (take_all (length code.places) b.steps
        (omega (arith, as_many))))
        ∙ lines cells (length code.places) ∙ sym ends.1 in
        λ i. Ok (record { values = same i; log = told i })
    is_end (Done values) (Ok end) (Stopped stop place log) h has ends = absurd ends
    is_end (Done values) (Err x) e h has ends = absurd h
    is_end (Refused n stop cells) (Ok end) e h has ends = absurd h
    is_end (Refused n stop cells) (Err (Rejected x)) e h has ends = absurd h
    is_end (Refused n stop cells) (Err (StoppedSo number w told)) (Ended numbers log) h has ends =
        absurd ends
    is_end (Refused n stop cells) (Err (StoppedSo number w told)) (Stopped so place log) h _ ends =
        record {
          number = number;
          at = w;
          run = ap (λ l. Err (StoppedSo number w l)) (h.4 ∙ lines (held cells) n ∙ sym ends.2);
          stop = ap stop_number ends.0 ∙ h.3;
          place = place_at n h.0 place h.1.there ends.1 ∙ ap place_of h.2;
          path =
              ap (λ (x : StepPlace). slice_get instances x.instance)
              (place_at n h.0 place h.1.there ends.1)
              ∙ stand n h.0 h.1.there ∙ ap (λ (x : Where). Some x.path) h.2;
        }

module _ (p : Program) (code : CircuitCode) (start inputs : List ℕ) (fuel : ℕ)
    (task : IsTask p code start inputs) (o : Outcome)
    (is : IsOutcome code.cells o (code_ending code.procs fuel code.steps code.starts start)) where
  told : Tells task.made.circuit o (ran p fuel inputs)
  told =
      let b = task.made.circuit in
      let made = task.made.made in
      tells_run p task.meaning code.procs b code.steps inputs fuel o task.resolved task.places
      task.compiles task.made.emitted task.each made.steps
      (subst (λ (n : ℕ). IsOutcome n o (code_ending code.procs fuel code.steps b.starts
      (1 ∷ inputs))) made.cells
      (subst (λ (xs : List ℕ). IsOutcome code.cells o (code_ending code.procs fuel code.steps xs
      (1 ∷ inputs))) made.starts
      (subst (λ (xs : List ℕ). IsOutcome code.cells o (code_ending code.procs fuel code.steps
      code.starts xs)) task.begins is)))

  pub task_has_place : HasPlace code o
  task_has_place = has_place p task.made.circuit code task.made.made o (ran p fuel inputs) told

  pub task_ends : (e : RunEnd) → EndsBy code o e
      → IsEndOf task.meaning.instances e (ran p fuel inputs)
  task_ends e ends =
      is_end p task.made.circuit code task.made.made task.meaning.instances
      (instances_stand p task.meaning task.made.circuit task.resolved task.compiles
      task.made.emitted) o (ran p fuel inputs) e told
      (λ end same. run_has_values p task.meaning fuel inputs end task.resolved task.compiles
      task.each same) ends

pub can_cut : (p : Program) (code : CircuitCode) → IsResolved p → ArePlacesMeant p
    → IsCircuitOf p code → CanCut code.steps code.procs code.cells code.starts
can_cut p code resolved places made =
    let b = made.circuit in
    subst (λ n. CanCut code.steps code.procs n code.starts) (sym made.made.cells)
    (subst (CanCut code.steps code.procs b.cells) (sym made.made.starts)
    (circuits_cut p code.procs b code.steps resolved places made.emitted made.made.steps))

pub starts_each : (p : Program) (code : CircuitCode) (start inputs : List ℕ)
    → IsTask p code start inputs → length start ≡ length code.starts
starts_each p code start inputs task =
    let counted =
    starts_counted p task.meaning task.made.circuit task.resolved task.compiles task.made.emitted in
    let start_is : length start ≡ length (1 ∷ inputs) = ap length task.begins in
    let each = task.each in
    let starts_are : length code.starts ≡ length task.made.circuit.starts =
    ap length task.made.made.starts in
    omega arith
