-- The outcome of a circuit's flow tells the run of the circuit.
use Rattle.std.proofs.Common.{refl, ◌≡◌, subst, ◌+◌, ◌∷◌, ℕ, ◌≤◌, List, [], ◌++◌, map, length, take}
use Rattle.std.proofs.Common.{Some, Ok, Err, sym, ◌∙◌, ap, arith, slice_get, nat_lt, Bool, true}
use Rattle.std.proofs.Common.{false, cond}
use Rattle.wit_code.specs.declared.code.Proc.{Proc}
use Rattle.wit_code.specs.declared.code.Step.{Step as CodeStep}
use Rattle.wit_code.specs.Table.{stop_number}
use Rattle.wit_flow.specs.declared.flow.Outcome.{Outcome}
use Rattle.wit_flow.specs.declared.flow.Outcome.TheVariants.{Done, Refused}
use Rattle.wit_flow.specs.Cells.{held}
use Rattle.wit_flow.specs.OneThread.{Ending as CodeEnding, Ended, Halted, IsOutcome}
use Rattle.wit_flow.proofs.Values.{times-append}
use Rattle.cir_ast.specs.Program.{Program}
use Rattle.cir_meaning.specs.Tried.{Where, next}
use Rattle.cir_meaning.specs.Bodies.{most_open}
use Rattle.cir_meaning.specs.Compile.{Circuit as Compiled, compiled, group_size}
use Rattle.cir_meaning.specs.RunValues.{missing}
use Rattle.cir_meaning.specs.Scoped.{IsResolved}
use Rattle.cir_meaning.proofs.RunLaws.{run_never_misses}
use Rattle.cir_meaning.specs.RunStatements.{run_call}
use Rattle.cir_meaning.specs.Run.{RunTried, Rejected, Stopped}
use Rattle.cir_meaning.specs.RunBodies.{Ending, ran}
use Rattle.cir_steps.specs.RunSteps.{Progress, in_cell}
use Rattle.cir_steps.specs.Circuit.{Circuit, circuit_of}
use Rattle.cir_steps.specs.Places.{ArePlacesMeant}
use Rattle.cir_steps.proofs.CircuitLaw.{circuits_run}
use Rattle.cir_steps.proofs.LineLaw.{circuit_lines}
use Rattle.cir_steps.proofs.OnceLaw.{circuit_once}
use Rattle.cir_steps.proofs.ReadLaw.{circuit_behind}
use Rattle.cir_steps.proofs.Resolved.{templates}
use Rattle.cir_steps.proofs.StartLaw.{starts_counted}
use Rattle.cir_steps.specs.Read.{EachReadBehind}
use Rattle.cir_steps.specs.Written.{targets_of, EachCellOnce}
use Rattle.wit_circuit.specs.Made.{AreMadeOf}
use Rattle.cir_steps.specs.Lines.{AreLinesOf}
use Rattle.wit_circuit.specs.Ending.{NeverMisses, IsEnding, code_ending, lines_of}
use Rattle.wit_circuit.specs.Told.{steps_ran, Tells}
use Rattle.wit_circuit.proofs.Lines.{times_same}
use Rattle.wit_circuit.proofs.Following.{runs_as}

abbrev ended : Circuit → RunTried Progress → RunTried Ending
ended b r = next r (λ end. Ok record { values = map (in_cell end.cells) b.homes; log = end.log })

told : (b : Circuit) (o : Outcome) (r : RunTried Progress) (e : CodeEnding)
    → IsOutcome b.cells o e → IsEnding b.steps r e → Tells b o (ended b r)
told b (Done values) (Ok end) (Ended cells) is h =
    let all : held (map Some values) ≡ cells = λ i c. is.1 c i in (
      ap (λ a. map (in_cell a) b.homes) (sym h.0 ∙ sym all),
      h.1 ∙ ap (λ a. lines_of a b.steps []) (sym all),
    )
told b (Done values) (Ok end) (Halted n stop cells) is h = absurd h
told b (Done values) (Err (Rejected x)) e is h = absurd h
told b (Done values) (Err (Stopped number w log)) (Ended cells) is h = absurd h
told b (Done values) (Err (Stopped number w log)) (Halted n stop cells) is h = absurd is
told b (Refused k at list) (Ok end) (Ended cells) is h = absurd is
told b (Refused k at list) (Ok end) (Halted n stop cells) is h = absurd h
told b (Refused k at list) (Err (Rejected x)) e is h = absurd h
told b (Refused k at list) (Err (Stopped number w log)) (Ended cells) is h = absurd h
told b (Refused k at list) (Err (Stopped number w log)) (Halted n stop cells)
    (step, same, memory, shows) (s, stands, place, st, lines) =
    let all : held list ≡ cells = λ i c. shows.1 c i in (
      s,
      record { there = ap (slice_get b.steps) step ∙ stands.there },
      place,
      ap stop_number same ∙ st,
      lines ∙ ap (λ a. lines_of a (take n b.steps) []) (sym all)
          ∙ ap (λ j. lines_of (held list) (take j b.steps) []) (sym step),
    )

pub tells : (p : Program) (procs : List Proc) (b : Circuit) (ms : List CodeStep)
    (inputs : List ℕ) (fuel : ℕ) (o : Outcome) → AreMadeOf (run_call p most_open) procs b.steps ms
    → EachCellOnce b → length b.starts ≡ length inputs → EachReadBehind b → AreLinesOf b.steps
    → NeverMisses (steps_ran p fuel inputs b)
    → IsOutcome b.cells o (code_ending procs fuel ms b.starts inputs)
    → Tells b o (ended b (steps_ran p fuel inputs b))
tells p procs b ms inputs fuel o made once wide behind lines never is =
    told b o (steps_ran p fuel inputs b) (code_ending procs fuel ms b.starts inputs) is
    (runs_as p procs b.steps ms b.starts inputs fuel made wide behind lines (λ c.
    let one = once c in
    let sum = times-append c b.starts (targets_of b.steps) in
    let all = times_same c (b.starts ++ targets_of b.steps) in
    let some = times_same c (targets_of b.steps) in
    let most = few (nat_lt c b.cells) in
    omega arith) never)
  where
    few : (x : Bool) → cond x 1 0 ≤ 1
    few true = omega arith
    few false = omega arith

-- of a program that compiles
stopped : (b : Circuit) (r : RunTried Progress) (w : Where) (log : List (List ℕ))
    → r ≡ Err (Stopped missing w log) → ended b r ≡ Err (Stopped missing w log)
stopped b r w log e = ap (ended b) e

pub tells_run : (p : Program) (c : Compiled) (procs : List Proc) (b : Circuit)
    (ms : List CodeStep) (inputs : List ℕ) (fuel : ℕ) (o : Outcome) → IsResolved p
    → ArePlacesMeant p → compiled p ≡ Ok c → circuit_of p ≡ Ok b
    → length inputs ≡ c.public_inputs + c.private_inputs
    → AreMadeOf (run_call p most_open) procs b.steps ms
    → IsOutcome b.cells o (code_ending procs fuel ms b.starts (1 ∷ inputs))
    → Tells b o (ran p fuel inputs)
tells_run p c procs b ms inputs fuel o resolved places good is wide made outcome =
    subst (Tells b o) same
    (tells p procs b ms (1 ∷ inputs) fuel o made
    (circuit_once group_size p (templates p resolved) b is)
    (starts_counted p c b resolved good is ∙ more)
    (circuit_behind p resolved places b is)
    (circuit_lines group_size p (templates p resolved) b is)
    (λ w log e. run_never_misses p c fuel inputs missing w log resolved good wide
    (sym same ∙ stopped b (steps_ran p fuel (1 ∷ inputs) b) w log e) refl) outcome)
  where
    same : ended b (steps_ran p fuel (1 ∷ inputs) b) ≡ ran p fuel inputs
    same = circuits_run p c b fuel inputs resolved good is wide

    more : 1 + (c.public_inputs + c.private_inputs) ≡ length (1 ∷ inputs)
    more = omega (arith, wide)
