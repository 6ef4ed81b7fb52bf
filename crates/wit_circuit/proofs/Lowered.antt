-- The code of a step that is lowered stands for the step.
use Rattle.std.proofs.Common.{◌≡◌, ◌≢◌, ℕ, zero, suc, ◌≤◌, Bool, true, false, List, [], ◌∷◌, ◌++◌}
use Rattle.std.proofs.Common.{map, length, Option, Some, Ok, Err, refl, sym, ◌∙◌, ap, subst, arith}
use Rattle.std.proofs.Common.{inl, inr}
use Rattle.std.proofs.lemmas.Bool.{cases_eq, eq-eqb, ne_eqb}
use Rattle.std.specs.Prelude.{unwrap_or, ◌==◌, ◌||◌}
use Rattle.std.specs.List.{list_any}
use Rattle.wit_code.specs.declared.code.Proc.{Proc}
use Rattle.wit_code.specs.declared.code.Step.{Step as CodeStep}
use Rattle.wit_code.specs.declared.code.Stop.{Stop}
use Rattle.wit_code.specs.declared.code.Stop.TheVariants.{ConstraintFails, AssertFails, ZeroDivisor}
use Rattle.wit_code.specs.declared.code.Stop.TheVariants.{IndexOut, FuelSpent, TooDeep}
use Rattle.wit_code.specs.Code.{IsWellFormed}
use Rattle.wit_code.specs.Table.{Wrote, Stopped, RunsTo, stop_number}
use Rattle.flow_core.specs.Counts.{IsIn}
use Rattle.wit_flow.specs.Cells.{number_at}
use Rattle.wit_flow.proofs.Values.{here_first, here_later, in_cons}
use Rattle.cir_ast.specs.Program.{Program}
use Rattle.cir_meaning.specs.Bodies.{most_open}
use Rattle.cir_meaning.specs.Costs.{Made as Key}
use Rattle.cir_meaning.specs.RunStatements.{run_call}
use Rattle.cir_meaning.specs.RunValues.{Ran, missing}
use Rattle.cir_steps.specs.Step.{Step}
use Rattle.cir_steps.specs.RunSteps.{Cells, environment_at, store_at}
use Rattle.wit_lower.specs.Procedures.{IsTable}
use Rattle.wit_lower.specs.Sources.{Sources, cells_read}
use Rattle.wit_lower.specs.Steps.{StepFits}
use Rattle.wit_lower.specs.Tasks.{IsOutcome, meant_by, step_code, step_ground}
use Rattle.cir_emit.specs.Tasks.{step_task}
use Rattle.cir_emit.specs.Lowered.{IsLoweredStep, IsStepRight, HaveNumbers}
use Rattle.cir_emit.proofs.Law.{task_same, step_right}
use Rattle.cir_emit.proofs.Works.{work_same}
use Rattle.wit_circuit.specs.Made.{EndsAs, IsMadeOf, step_numbers}
use Rattle.wit_circuit.proofs.Stops.{Few, few_err, few_meant}

-- the stop of a number
stop_at : (stop : ℕ) → stop ≤ 6 → stop ≢ missing → (at : Stop) × (stop_number at ≡ Some stop)
stop_at zero h ne = absurd (ne refl)
stop_at (suc zero) h ne = (ConstraintFails, refl)
stop_at (suc (suc zero)) h ne = (AssertFails, refl)
stop_at (suc (suc (suc zero))) h ne = (ZeroDivisor, refl)
stop_at (suc (suc (suc (suc zero)))) h ne = (IndexOut, refl)
stop_at (suc (suc (suc (suc (suc zero))))) h ne = (FuelSpent, refl)
stop_at (suc (suc (suc (suc (suc (suc zero)))))) h ne = (TooDeep, refl)
stop_at (suc (suc (suc (suc (suc (suc (suc n))))))) h ne = absurd (omega arith)

-- what is said of each outcome of a meaning
ends_as : (r : Ran (List ℕ)) (procs : List Proc) (code : Proc) (numbers : List ℕ) (fuel : ℕ)
    → Few r → ((o : _) → IsOutcome r o → RunsTo procs code numbers fuel o)
    → EndsAs r (RunsTo procs code numbers fuel)
ends_as (Ok (ns, u)) procs code numbers fuel few h = h (Wrote ns) refl
ends_as (Err stop) procs code numbers fuel few h = λ ne.
    let at = stop_at stop (few_err _ stop few) ne in
    (at.0, at.1, h (Stopped at.0) (record { as_stop = at.0; is = refl; number = at.1 }))

-- cells that hold numbers
held : (o : Option ℕ) (x : ℕ) → o ≡ Some x → unwrap_or o 0 ≡ x
held o x e = ap (λ (q : Option ℕ). unwrap_or q 0) e

held_all : (cells : Cells) (cs numbers : List ℕ) → map cells cs ≡ map Some numbers
    → map (number_at cells) cs ≡ numbers
held_all cells [] [] e = refl
held_all cells [] (x ∷ xs) e = cc
held_all cells (c ∷ cs) [] e = cc
held_all cells (c ∷ cs) (x ∷ xs) e =
    let p : cells c ≡ Some x = cc in
    let q : map cells cs ≡ map Some xs = cc in
    let a = held (cells c) x p in
    let b = held_all cells cs xs q in
    λ i. a i ∷ b i

have_all : (cells : Cells) (cs numbers : List ℕ) → map cells cs ≡ map Some numbers
    → HaveNumbers cells (number_at cells) cs
have_all cells [] numbers e c any = cc
have_all cells (d ∷ cs) [] e c any = cc
have_all cells (d ∷ cs) (x ∷ xs) e c any =
    let p : cells d ≡ Some x = cc in
    let q : map cells cs ≡ map Some xs = cc in elim (cases_eq d c) [
      | inl same ↦
          subst (λ b. cells b ≡ Some (number_at cells b)) same
          (p ∙ ap Some (sym (held (cells d) x p)))
      | inr other ↦
          have_all cells cs xs q c (sym (ap (λ (b : Bool). b || list_any (λ y. y == c) cs)
          (ne_eqb d c other)) ∙ any)
    ]

-- what stands in a list, in both forms
in_any : (c : ℕ) (cs : List ℕ) → list_any (λ d. d == c) cs ≡ true → IsIn c cs
in_any c [] e = cc
in_any c (d ∷ cs) e = elim (cases_eq d c) [
  | inl same ↦ subst (λ x. IsIn c (x ∷ cs)) (sym same) (here_first c cs)
  | inr other ↦
      here_later c d cs (in_any c cs (sym (ap (λ (b : Bool). b || list_any (λ y. y == c) cs)
      (ne_eqb d c other)) ∙ e))
]

any_in : (c : ℕ) (cs : List ℕ) → IsIn c cs → list_any (λ d. d == c) cs ≡ true
any_in c [] h = absurd (omega arith)
any_in c (d ∷ cs) h = elim (in_cons c d cs h) [
  | inl same ↦ ap (λ (b : Bool). b || list_any (λ y. y == c) cs) (eq-eqb d c (sym same))
  | inr later ↦ or_true (d == c) (any_in c cs later)
]
  where
    or_true : (b : Bool) {x : Bool} → x ≡ true → (b || x) ≡ true
    or_true true e = refl
    or_true false e = e

module _ (p : Program) (keys later : List Key) (procs : List Proc) (s : Step) (sources : Sources)
    (m : CodeStep) (low : IsLoweredStep keys s sources)
    (fits : StepFits keys sources (length s.variables) (step_task s)) where
  same : (cells : Cells) (fuel : ℕ)
      → HaveNumbers cells (number_at cells) (cells_read sources.list)
      → meant_by p sources (length s.variables) (step_task s) (number_at cells) fuel
      ≡ step_numbers (run_call p most_open) cells s fuel
  same cells fuel have =
      task_same p keys s sources low cells (number_at cells) have (step_task s) fits low.loaded fuel
      ∙ work_same (environment_at (run_call p most_open) cells s.names)
      (store_at cells s.variables) s.place.spot s.work fuel

  few : (cells : Cells) (fuel : ℕ)
      → HaveNumbers cells (number_at cells) (cells_read sources.list)
      → Few (step_numbers (run_call p most_open) cells s fuel)
  few cells fuel have =
      subst Few (same cells fuel have)
      (few_meant p sources (length s.variables) (step_task s) (number_at cells) fuel)

  pub made_of_lowered : IsTable p (keys ++ later) procs
      → m.code ≡ step_code (step_ground keys sources (step_task s)) sources (step_task s)
      → m.reads ≡ cells_read sources.list → m.writes ≡ s.targets
      → IsMadeOf (run_call p most_open) procs s m
  made_of_lowered table is reads writes = record {
    reads = λ c here.
        in_any c s.reads (low.reads c
        (any_in c (cells_read sources.list) (subst (λ cs. IsIn c cs) reads here)));
    writes = writes;
    formed = subst (λ x. IsWellFormed procs (length m.reads) x) (sym is)
        (subst (λ cs. IsWellFormed procs (length cs)
        (step_code (step_ground keys sources (step_task s)) sources (step_task s))) (sym reads)
        (right.formed later procs table));
    counted = λ numbers values fuel run.
        right.counted later procs table numbers fuel values
        (subst (λ x. RunsTo procs x numbers fuel (Wrote values)) is run);
    does = λ cells numbers fuel h.
        let there : map cells (cells_read sources.list) ≡ map Some numbers =
        ap (map cells) (sym reads) ∙ h in
        let have = have_all cells (cells_read sources.list) numbers there in
        ends_as (step_numbers (run_call p most_open) cells s fuel) procs m.code numbers fuel
        (few cells fuel have) (λ o so.
        subst (λ x. RunsTo procs x numbers fuel o) (sym is)
        (subst (λ ns. RunsTo procs
        (step_code (step_ground keys sources (step_task s)) sources (step_task s)) ns fuel o)
        (held_all cells (cells_read sources.list) numbers there)
        (right.runs later procs table cells (number_at cells) have fuel o so)));
  }
    where
      right : IsStepRight p keys s (cells_read sources.list)
          (step_code (step_ground keys sources (step_task s)) sources (step_task s))
      right = step_right p keys s sources low fits
