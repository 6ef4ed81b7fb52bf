-- The run of all steps on one thread
use Rattle.std.proofs.Common.{◌≡◌, ◌≢◌, ℕ, zero, suc, ◌+◌, ◌<◌, ◌≤◌, List, [], ◌∷◌, map, length}
use Rattle.std.proofs.Common.{drop, get_or, replicate, refl, sym, ◌∙◌, ap, subst, inl, inr, arith}
use Rattle.std.proofs.Common.{Option, Some, None, unwrap_or, ◌^◌}
use Rattle.std.specs.Prelude.{All, Result, Ok, Err, IfOk}
use Rattle.std.specs.declared.vec.Vec.{Vec}
use Rattle.std.specs.declared.alloc.Global.{Global}
use Rattle.std.proofs.lemmas.List.{length-replicate}
use Rattle.gold_field.specs.declared.gold.TheConstants.{P}
use Rattle.wit_code.specs.declared.code.Step.{Step}
use Rattle.wit_code.specs.declared.code.Stop.{Stop}
use Rattle.wit_code.specs.declared.code.Stop.TheVariants.{OutOfMemory}
use Rattle.wit_code.specs.Code.{IsWellFormed}
use Rattle.wit_code.specs.Table.{Wrote, Stopped, outcome_of}
use Rattle.flow_core.specs.Counts.{IsIn}
use Rattle.flow_core.proofs.Lists.{get_or-all_same}
use Rattle.wit_flow.specs.declared.flow.Outcome.TheVariants.{Done, Refused}
use Rattle.wit_flow.specs.Cells.{Cells, no_values, with_values, numbers_at, held, Shows}
use Rattle.wit_flow.specs.Run.{step_at, reads_at, writes_at, writes_in, run_steps}
use Rattle.wit_flow.specs.Plan.{Plan, IsPlan}
use Rattle.wit_flow.specs.Answers.{start_cells}
use Rattle.wit_flow.specs.OneThread.{Ended, Halted, ending, one_thread, IsOutcome, IsCodeEnd}
use Rattle.wit_flow.specs.Steps.{step_outcome}
use Rattle.wit_flow.proofs.Values.{HasOne, with_values_has, in_left, in_right}
use Rattle.wit_flow.proofs.Runs.{step_goes, step_stops, steps_end, ended_has, run_fills}

-- cells without a value get the start values
pub first_shows : (n : ℕ) (starts xs : List ℕ) (old new : List (Option ℕ)) → old ≡ replicate n None
    → length new ≡ length old → held new ≡ with_values (held old) starts xs
    → Shows n new (with_values no_values starts xs)
first_shows n starts xs old new e l h =
    let blank : held old ≡ no_values =
    λ i c. (ap (λ (x : List (Option ℕ)). get_or x c None) e ∙ get_or-all_same n c None) i in (
      l ∙ ap length e ∙ length-replicate n None,
      λ c. ap (λ (a : Cells). a c) (h ∙ ap (λ (a : Cells). with_values a starts xs) blank),
    )

-- how far the run has come: the steps before `at` left these cells
pub record IsAt (p : Plan) (start : List ℕ) (fuel at : ℕ) (cells : List (Option ℕ)) : Type 0 where
  pub wide : length cells ≡ p.graph.cells
  pub same : one_thread p start fuel
      ≡ ending (held cells) (writes_in (drop at p.steps))
      (run_steps p.procs fuel at (drop at p.steps) (held cells))

-- what a step writes is among what all steps write
pub in_writes : (ss : List Step) (k c : ℕ) → IsIn c (writes_at ss k) → IsIn c (writes_in ss)
in_writes [] k c h = absurd (omega arith)
in_writes (s ∷ ss) zero c h = in_left c s.writes (writes_in ss) h
in_writes (s ∷ ss) (suc k) c h = in_right c s.writes (writes_in ss) (in_writes ss k c h)

all_some : (cells : List (Option ℕ)) → ((i : ℕ) → i < length cells → HasOne (held cells) i)
    → map Some (map (λ o. unwrap_or o 0) cells) ≡ cells
all_some [] h = refl
all_some (o ∷ os) h =
    let x = h 0 (omega arith) in let r = all_some os (λ i lt. h (suc i) (omega arith)) in
    let e : Some (unwrap_or o 0) ≡ o = ap (λ (q : Option ℕ). Some (unwrap_or q 0)) x.1 ∙ sym x.1 in
    λ i. e i ∷ r i

module _ (p : Plan) (ok : IsPlan p) (start : List ℕ) (fuel : ℕ) where
  pub starts_at : (cells : List (Option ℕ)) → Shows p.graph.cells cells (start_cells p start)
      → IsAt p start fuel 0 cells
  starts_at cells h =
      let e : held cells ≡ start_cells p start = λ i c. h.1 c i in
      record {
        wide = h.0;
        same =
            ap (λ (a : Cells). ending a (writes_in p.steps) (run_steps p.procs fuel 0 p.steps a))
            (sym e);
      }

  module _ (at : ℕ) (cells : List (Option ℕ)) (run : IsAt p start fuel at cells) where
    -- all steps have run, so every cell has a value
    pub finish : length start ≡ length p.starts → length p.steps ≤ at → (values : List ℕ)
        → values ≡ map (λ o. unwrap_or o 0) cells
        → IsOutcome p.graph.cells (Done values) (one_thread p start fuel)
    finish each past values is =
        let over : one_thread p start fuel ≡ Ended (held cells) =
        run.same ∙ steps_end p.procs fuel at p.steps (held cells) past in
        let a = start_cells p start in let ws = writes_in p.steps in
        let one : (c : ℕ) → c < length cells → HasOne (held cells) c = λ c lt. let w = run.wide in
        ended_has a ws (run_steps p.procs fuel 0 p.steps a) (held cells) c
        (run_fills p.procs fuel 0 p.steps a) over (elim (ok.can_cut.written c (omega arith)) [
          | inl first ↦ inr (with_values_has no_values p.starts start c (sym each) first)
          | inr later ↦ inl (in_writes p.steps later.0 c later.1)
        ]) in
        let same : map Some values ≡ cells = ap (map Some) is ∙ all_some cells one in
        let shows : Shows p.graph.cells (map Some values) (held cells) =
        (ap length same ∙ run.wide, λ c. ap (λ (l : List (Option ℕ)). held l c) same) in
        subst (IsOutcome p.graph.cells (Done values)) (sym over) shows

    module _ (less : at < length p.steps) where
      pub reads_near : (c : ℕ) → IsIn c (reads_at p.steps at) → c < length cells
      reads_near c h = let n = ok.can_cut.reads_near at c h in let w = run.wide in omega arith

      pub writes_near : (c : ℕ) → IsIn c (writes_at p.steps at) → c < length cells
      writes_near c h = let n = ok.can_cut.writes_near at c h in let w = run.wide in omega arith

      pub goes : (new : List (Option ℕ)) (ys : List ℕ)
          → outcome_of p.procs (step_at p.steps at).code
          (numbers_at (held cells) (reads_at p.steps at)) fuel ≡ Wrote ys
          → length ys ≡ length (writes_at p.steps at)
          → length new ≡ length cells
          → held new ≡ with_values (held cells) (writes_at p.steps at) ys
          → IsAt p start fuel (at + 1) new
      goes new ys o l wide is =
          record {
            wide = wide ∙ run.wide;
            same = run.same
                ∙ step_goes p.procs fuel at p.steps (held cells) (held new) ys less o l is;
          }

      pub stops : (stop : Stop)
          → outcome_of p.procs (step_at p.steps at).code
          (numbers_at (held cells) (reads_at p.steps at)) fuel ≡ Stopped stop → stop ≢ OutOfMemory
          → IsOutcome p.graph.cells (Refused at stop cells) (one_thread p start fuel)
      stops stop o memory =
          let over : one_thread p start fuel ≡ Halted at stop (held cells) =
          run.same ∙ step_stops p.procs fuel at p.steps (held cells) stop less o in
          subst (IsOutcome p.graph.cells (Refused at stop cells)) (sym over)
          (refl, refl, memory, (run.wide, λ c. refl))

-- a step's code is well formed for as many numbers as it reads
pub is_well_formed : (p : Plan) → IsPlan p → (at : ℕ) (xs : List ℕ) → at < length p.steps
    → length xs ≡ length (reads_at p.steps at)
    → IsWellFormed p.procs (length xs) (step_at p.steps at).code
is_well_formed p ok at xs less e =
    subst (λ n. IsWellFormed p.procs n (step_at p.steps at).code) (sym e)
    (ok.can_cut.well_formed at less)

-- a step's code gives one value for each cell that its step writes, unless it stops
pub each_given : (p : Plan) → IsPlan p → (fuel at : ℕ) (xs : List ℕ) → at < length p.steps
    → length xs ≡ length (reads_at p.steps at) → All (λ x. x < P) xs → fuel < 2 ^ 64
    → (r : Result (Vec ℕ Global) Stop) → IsCodeEnd r (step_outcome p at xs fuel)
    → IfOk r (λ v. length v.items ≡ length (writes_at p.steps at))
each_given p ok fuel at xs less fits below few (Ok v) o =
    ok.can_cut.writes_each at less xs v.items fuel fits below few o
each_given p ok fuel at xs less fits below few (Err stop) o = tt
