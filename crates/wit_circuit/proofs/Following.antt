-- The code of all steps follows the run of the circuit.
use Rattle.std.proofs.Common.{◌≡◌, ℕ, suc, ◌+◌, ◌≤◌, List, [], ◌∷◌, ◌++◌, map, length, take, Some}
use Rattle.std.proofs.Common.{None, Ok, Err, refl, sym, ◌∙◌, ap, subst, arith, slice_get, inl, inr}
use Rattle.std.proofs.lemmas.List.{length-map}
use Rattle.wit_code.specs.declared.code.Proc.{Proc}
use Rattle.wit_code.specs.declared.code.Step.{Step as CodeStep}
use Rattle.wit_code.specs.Code.{IsWellFormed}
use Rattle.wit_code.specs.Table.{Outcome, Wrote, Stopped as StoppedAt, RunsTo, outcome_of}
use Rattle.wit_code.specs.Table.{stop_number, start_of}
use Rattle.wit_code.proofs.Ends.{ends_so, one_outcome}
use Rattle.flow_core.specs.Counts.{times, IsIn}
use Rattle.wit_flow.specs.Cells.{no_values, with_values, number_at, numbers_at}
use Rattle.wit_flow.specs.Run.{StopsAt, after_values, end_of, fitted, writes_in}
use Rattle.wit_flow.specs.Run.{run_steps as run_code}
use Rattle.wit_flow.specs.OneThread.{Ending, Ended, Halted, ending}
use Rattle.wit_flow.proofs.Values.{HasOne, with_values_none, with_values_has, with_values_keep}
use Rattle.wit_flow.proofs.Values.{times-append, in_either}
use Rattle.wit_flow.proofs.Runs.{fitted_same, ending_after}
use Rattle.cir_ast.specs.Program.{Program}
use Rattle.cir_meaning.specs.Tried.{next}
use Rattle.cir_meaning.specs.Bodies.{most_open}
use Rattle.cir_meaning.specs.RunStatements.{run_call}
use Rattle.cir_meaning.specs.RunValues.{Ran as RanTo}
use Rattle.cir_meaning.specs.Run.{RunTried, Rejected, Stopped}
use Rattle.cir_steps.specs.Step.{Step}
use Rattle.cir_steps.specs.RunSteps.{Calling, Cells, put_cells, with_line, Progress, stopping}
use Rattle.cir_steps.specs.RunSteps.{written, run_steps}
use Rattle.cir_steps.specs.Read.{AreBehind}
use Rattle.cir_steps.specs.Written.{times as times_in, targets_of}
use Rattle.wit_circuit.specs.Made.{step_numbers, EndsAs, IsMadeOf, AreMadeOf}
use Rattle.cir_steps.specs.Lines.{LineOf, AreLinesOf}
use Rattle.wit_circuit.specs.Ending.{lines_of, NeverMisses, StandsAt, IsEnding, ran_from}
use Rattle.wit_circuit.specs.Ending.{code_ending}
use Rattle.wit_circuit.proofs.Lines.{counts, stands, times_same, put_same, numbers_there, cells_at}
use Rattle.wit_circuit.proofs.Lines.{ending_keeps, line_same}

-- from the step n on, and behind the lines so far
abbrev pub Follows : (n : ℕ) → List Step → (log : List (List ℕ)) → RunTried Progress → Ending
    → Type 0
Follows n ss log (Ok end) (Ended cells) =
    (cells ≡ end.cells) × (end.log ≡ lines_of cells ss log)
Follows n ss log (Ok end) (Halted k at cells) = ⊥
Follows n ss log (Err (Rejected e)) o = ⊥
Follows n ss log (Err (Stopped stop w lines)) (Ended cells) = ⊥
Follows n ss log (Err (Stopped stop w lines)) (Halted k at cells) =
    (j : ℕ) × (k ≡ n + j) × (s : Step) × StandsAt ss j s × (s.place ≡ w)
    × (stop_number at ≡ Some stop) × (lines ≡ lines_of cells (take j ss) log)

pub writes_same : (call : Calling) (procs : List Proc) (ss : List Step) (ms : List CodeStep)
    → AreMadeOf call procs ss ms → writes_in ms ≡ targets_of ss
writes_same call procs [] [] h = refl
writes_same call procs [] (m ∷ ms) h = absurd h
writes_same call procs (s ∷ ss) [] h = absurd h
writes_same call procs (s ∷ ss) (m ∷ ms) h =
    let p = h.0.writes in
    let q = writes_same call procs ss ms h.1 in
    λ i. p i ++ q i

-- a step more in front
module _ (n : ℕ) (s : Step) (ss : List Step) (log log1 : List (List ℕ)) where
  steps_more : (r : RunTried Progress) (o : Ending)
      → with_line (cells_at o) s.line log ≡ log1
      → Follows (n + 1) ss log1 r o → Follows n (s ∷ ss) log r o
  steps_more (Ok end) (Ended cells) e f =
      (f.0, f.1 ∙ ap (λ l. lines_of cells ss l) (sym e))
  steps_more (Ok end) (Halted k at cells) e f = absurd f
  steps_more (Err (Rejected x)) o e f = absurd f
  steps_more (Err (Stopped stop w lines)) (Ended cells) e f = absurd f
  steps_more (Err (Stopped stop w lines)) (Halted k at cells) e (j, is, x, stands, place, st, l) = (
    suc j,
    omega arith,
    x,
    record { there = stands.there },
    place,
    st,
    l ∙ ap (λ l. lines_of cells (take j ss) l) (sym e),
  )

module _ (call : Calling) (procs : List Proc) (fuel : ℕ) where
  one : (m : CodeStep) (reads : List ℕ) (o : Outcome)
      → RunsTo procs m.code reads fuel (outcome_of procs m.code reads fuel)
      → RunsTo procs m.code reads fuel o → outcome_of procs m.code reads fuel ≡ o
  one m reads o a b =
      one_outcome procs m.code reads a.0 b.0 (start_of m.code fuel)
      (outcome_of procs m.code reads fuel) o a.1 b.1

  -- the run of one step, by what it gives
  gave : (s : Step) (ss : List Step) (q : Progress) (ns : List ℕ) (u : ℕ)
      → step_numbers call q.cells s fuel ≡ Ok (ns, u)
      → run_steps call fuel (s ∷ ss) q ≡ run_steps call fuel ss (written s q ns)
  gave s ss q ns u e =
      ap (λ r. next (next (stopping s q.log r) (λ values. Ok (written s q values)))
      (run_steps call fuel ss)) e

  stopped : (s : Step) (ss : List Step) (q : Progress) (stop : ℕ)
      → step_numbers call q.cells s fuel ≡ Err stop
      → run_steps call fuel (s ∷ ss) q ≡ Err (Stopped stop s.place q.log)
  stopped s ss q stop e =
      ap (λ (r : RanTo (List ℕ)). next (next (stopping s q.log r)
      (λ values. Ok (written s q values)))
      (run_steps call fuel ss)) e

  -- where the step gives numbers, the rest follows from these
  module _ (n : ℕ) (s : Step) (ss : List Step) (m : CodeStep) (ms : List CodeStep)
      (q : Progress) (made : IsMadeOf call procs s m) (ns : List ℕ)
      (run : RunsTo procs m.code (numbers_at q.cells m.reads) fuel (Wrote ns))
      (ends : RunsTo procs m.code (numbers_at q.cells m.reads) fuel
      (outcome_of procs m.code (numbers_at q.cells m.reads) fuel)) where
    abbrev gone : Progress
    gone = written s q ns

    as_many : length ns ≡ length m.writes
    as_many = made.counted (numbers_at q.cells m.reads) ns fuel run ∙ sym (ap length made.writes)

    cells_behind : with_values q.cells m.writes ns ≡ gone.cells
    cells_behind = put_same q.cells m.writes ns ∙ ap (λ cs. put_cells cs ns q.cells) made.writes

    code_behind : run_code procs fuel n (m ∷ ms) q.cells
        ≡ after_values ns (run_code procs fuel (n + 1) ms (with_values q.cells m.writes ns))
    code_behind =
        ap (λ o. end_of o
        (λ ys. after_values (fitted m.writes ys)
        (run_code procs fuel (n + 1) ms (with_values q.cells m.writes (fitted m.writes ys))))
        (λ stop. StopsAt n stop []))
        (one m (numbers_at q.cells m.reads) (Wrote ns) ends run)
        ∙ ap (λ ys. after_values ys
        (run_code procs fuel (n + 1) ms (with_values q.cells m.writes ys)))
        (fitted_same m.writes ns as_many)

    abbrev ending_behind : Ending
    ending_behind = ending gone.cells (writes_in ms) (run_code procs fuel (n + 1) ms gone.cells)

    ends_behind : ending q.cells (writes_in (m ∷ ms)) (run_code procs fuel n (m ∷ ms) q.cells)
        ≡ ending_behind
    ends_behind =
        ap (ending q.cells (writes_in (m ∷ ms))) code_behind
        ∙ ending_after q.cells m.writes (writes_in ms) ns
        (run_code procs fuel (n + 1) ms (with_values q.cells m.writes ns)) (sym as_many)
        ∙ ap (λ a. ending a (writes_in ms) (run_code procs fuel (n + 1) ms a)) cells_behind

    have_behind : (known : List ℕ) → ((c : ℕ) → IsIn c known → HasOne q.cells c)
        → (c : ℕ) → IsIn c (known ++ s.targets) → HasOne gone.cells c
    have_behind known h c here = subst (λ (a : Cells). HasOne a c) cells_behind (elim
        (in_either c known s.targets here) [
          | inl old ↦ with_values_keep q.cells m.writes ns c (h c old)
          | inr new ↦
              with_values_has q.cells m.writes ns c (sym as_many)
              (subst (λ cs. IsIn c cs) (sym made.writes) new)
        ])

    line_behind : writes_in ms ≡ targets_of ss → LineOf s.targets s.line
        → ((c : ℕ) → times c (targets_of (s ∷ ss)) ≤ 1)
        → with_line (cells_at ending_behind) s.line q.log ≡ gone.log
    line_behind same of once =
        line_same (cells_at ending_behind) gone.cells s.targets s.line q.log of (λ c here.
        ending_keeps gone.cells (writes_in ms)
        (run_code procs fuel (n + 1) ms gone.cells) c (λ again.
        let twice : IsIn c (targets_of ss) = subst (λ cs. IsIn c cs) same again in
        let sum = times-append c s.targets (targets_of ss) in
        let most = once c in
        omega arith))

  abbrev all_from : (n : ℕ) (q : Progress) (m : CodeStep) (ms : List CodeStep) → Ending
  all_from n q m ms =
      ending q.cells (writes_in (m ∷ ms)) (run_code procs fuel n (m ∷ ms) q.cells)

  -- and so does all where what follows does
  follow_step : (n : ℕ) (s : Step) (ss : List Step) (m : CodeStep) (ms : List CodeStep)
      (q : Progress) (known : List ℕ) → IsMadeOf call procs s m → writes_in ms ≡ targets_of ss
      → ((c : ℕ) → IsIn c known → HasOne q.cells c)
      → ((c : ℕ) → IsIn c s.reads → IsIn c known) → LineOf s.targets s.line
      → ((c : ℕ) → times c (targets_of (s ∷ ss)) ≤ 1)
      → NeverMisses (run_steps call fuel (s ∷ ss) q)
      → ((q1 : Progress) → ((c : ℕ) → IsIn c (known ++ s.targets) → HasOne q1.cells c)
      → NeverMisses (run_steps call fuel ss q1)
      → Follows (n + 1) ss q1.log (run_steps call fuel ss q1)
      (ending q1.cells (writes_in ms) (run_code procs fuel (n + 1) ms q1.cells)))
      → Follows n (s ∷ ss) q.log (run_steps call fuel (s ∷ ss) q)
      (all_from n q m ms)
  follow_step n s ss m ms q known made writes have reads line once never later =
      by (step_numbers call q.cells s fuel) refl
    where
      held : map q.cells m.reads ≡ map Some (numbers_at q.cells m.reads)
      held = numbers_there q.cells m.reads (λ c here. have c (reads c (made.reads c here)))

      ends : RunsTo procs m.code (numbers_at q.cells m.reads) fuel
          (outcome_of procs m.code (numbers_at q.cells m.reads) fuel)
      ends = ends_so procs m.code (numbers_at q.cells m.reads) fuel
          (subst (λ k. IsWellFormed procs k m.code)
          (sym (length-map m.reads (number_at q.cells)))
          made.formed)

      runs : (r : RanTo (List ℕ)) → step_numbers call q.cells s fuel ≡ r
          → EndsAs r (RunsTo procs m.code (numbers_at q.cells m.reads) fuel)
      runs r e = subst (λ r. EndsAs r (RunsTo procs m.code (numbers_at q.cells m.reads) fuel)) e
          (made.does q.cells (numbers_at q.cells m.reads) fuel held)

      by : (r : RanTo (List ℕ)) → step_numbers call q.cells s fuel ≡ r
          → Follows n (s ∷ ss) q.log (run_steps call fuel (s ∷ ss) q) (all_from n q m ms)
      by (Ok (ns, u)) e =
          let run = runs (Ok (ns, u)) e in
          let step = gave s ss q ns u e in
          let after : Follows n (s ∷ ss) q.log (run_steps call fuel ss (written s q ns))
          (ending_behind n s ss m ms q made ns run ends) =
          steps_more n s ss q.log (written s q ns).log
          (run_steps call fuel ss (written s q ns))
          (ending_behind n s ss m ms q made ns run ends)
          (line_behind n s ss m ms q made ns run ends writes line once)
          (later (written s q ns) (have_behind n s ss m ms q made ns run ends known have)
          (subst NeverMisses step never)) in
          subst (λ r. Follows n (s ∷ ss) q.log r (all_from n q m ms)) (sym step)
          (subst (λ o. Follows n (s ∷ ss) q.log (run_steps call fuel ss (written s q ns)) o)
          (sym (ends_behind n s ss m ms q made ns run ends)) after)
      by (Err stop) e =
          let step = stopped s ss q stop e in
          let stops = runs (Err stop) e (λ is. never s.place q.log
          (step ∙ ap (λ k. Err (Stopped k s.place q.log)) is)) in
          let ended : (all_from n q m ms) ≡ Halted n stops.0 q.cells =
          ap (λ o. ending q.cells (writes_in (m ∷ ms)) (end_of o
          (λ ys. after_values (fitted m.writes ys)
          (run_code procs fuel (n + 1) ms (with_values q.cells m.writes (fitted m.writes ys))))
          (λ at. StopsAt n at [])))
          (one m (numbers_at q.cells m.reads) (StoppedAt stops.0) ends stops.2)
          ∙ ap (Halted n stops.0) (with_values_none q.cells (writes_in (m ∷ ms))) in
          let here : Follows n (s ∷ ss) q.log (Err (Stopped stop s.place q.log))
          (Halted n stops.0 q.cells) =
          (0, omega arith, s, record { there = refl }, refl, stops.1, refl) in
          subst (λ r. Follows n (s ∷ ss) q.log r (all_from n q m ms)) (sym step)
          (subst (λ o. Follows n (s ∷ ss) q.log (Err (Stopped stop s.place q.log)) o)
          (sym ended) here)

  pub follow : (ss : List Step) (ms : List CodeStep) (n : ℕ) (q : Progress) (known : List ℕ)
      → AreMadeOf call procs ss ms → ((c : ℕ) → IsIn c known → HasOne q.cells c)
      → AreBehind known ss → AreLinesOf ss → ((c : ℕ) → times c (targets_of ss) ≤ 1)
      → NeverMisses (run_steps call fuel ss q)
      → Follows n ss q.log (run_steps call fuel ss q)
      (ending q.cells (writes_in ms) (run_code procs fuel n ms q.cells))
  follow [] [] n q known made have behind lines once never = (refl, refl)
  follow [] (m ∷ ms) n q known made have behind lines once never = absurd made
  follow (s ∷ ss) [] n q known made have behind lines once never = absurd made
  follow (s ∷ ss) (m ∷ ms) n q known made have behind lines once never =
      follow_step n s ss m ms q known made.0 (writes_same call procs ss ms made.1) have
      (λ c h. stands c known (behind.0 c (counts c s.reads h))) lines.0 once never (λ q1 has misses.
      follow ss ms (n + 1) q1 (known ++ s.targets) made.1 has behind.1 lines.1
      (λ c. let sum = times-append c s.targets (targets_of ss) in let most = once c in
      omega arith) misses)

-- from the first step on
from_first : (ss : List Step) (r : RunTried Progress) (o : Ending) → Follows 0 ss [] r o
    → IsEnding ss r o
from_first ss (Ok end) (Ended cells) f = f
from_first ss (Ok end) (Halted k at cells) f = absurd f
from_first ss (Err (Rejected e)) o f = absurd f
from_first ss (Err (Stopped stop w lines)) (Ended cells) f = absurd f
from_first ss (Err (Stopped stop w lines)) (Halted k at cells) (j, is, s, stands, place, st, l) =
    let same : j ≡ k = omega arith in (
      s,
      record { there = subst (λ i. slice_get ss i ≡ Some s) same stands.there },
      place,
      st,
      l ∙ ap (λ i. lines_of cells (take i ss) []) same,
    )

pub runs_as : (p : Program) (procs : List Proc) (ss : List Step) (ms : List CodeStep)
    (starts inputs : List ℕ) (fuel : ℕ) → AreMadeOf (run_call p most_open) procs ss ms
    → length starts ≡ length inputs → AreBehind starts ss → AreLinesOf ss
    → ((c : ℕ) → times_in c (targets_of ss) ≤ 1)
    → NeverMisses (ran_from p fuel starts inputs ss)
    → IsEnding ss (ran_from p fuel starts inputs ss) (code_ending procs fuel ms starts inputs)
runs_as p procs ss ms starts inputs fuel made wide behind lines once never =
    from_first ss (ran_from p fuel starts inputs ss) (code_ending procs fuel ms starts inputs)
    (subst (λ a. Follows 0 ss [] (ran_from p fuel starts inputs ss)
    (ending a (writes_in ms) (run_code procs fuel 0 ms a))) (sym begin)
    (follow (run_call p most_open) procs fuel ss ms 0 q starts made have behind lines
    (λ c. let same = times_same c (targets_of ss) in let most = once c in omega arith) never))
  where
    q : Progress
    q = record { cells = put_cells starts inputs (λ c. None); log = [] }

    begin : with_values no_values starts inputs ≡ q.cells
    begin = put_same no_values starts inputs

    have : (c : ℕ) → IsIn c starts → HasOne q.cells c
    have c here = subst (λ (a : Cells). HasOne a c) begin
        (with_values_has no_values starts inputs c wide here)
