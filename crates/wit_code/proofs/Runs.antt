-- The code's steps are those of the table, from the start on.
use Rattle.std.proofs.Common.{◌≡◌, ℕ, zero, suc, ◌<◌, List, [], ◌∷◌, length, Result, Ok, Err, refl}
use Rattle.std.proofs.Common.{sym, ap, subst, ◌∙◌}
use Rattle.std.specs.Prelude.{slice_get}
use Rattle.std.specs.declared.vec.Vec.{Vec}
use Rattle.std.specs.declared.alloc.Global.{Global}
use Rattle.wit_code.specs.declared.code.Op.{Op}
use Rattle.wit_code.specs.declared.code.Proc.{Proc}
use Rattle.wit_code.specs.declared.code.Stop.{Stop}
use Rattle.wit_code.specs.declared.code.Stop.TheVariants.{ConstraintFails, AssertFails, ZeroDivisor}
use Rattle.wit_code.specs.declared.code.Stop.TheVariants.{IndexOut, FuelSpent, TooDeep, OutOfMemory}
use Rattle.wit_code.specs.declared.machine.Run.{Run}
use Rattle.wit_code.specs.declared.machine.Flow.{Flow}
use Rattle.wit_code.specs.declared.machine.Flow.TheVariants.{Stays, Moves, Ends}
use Rattle.wit_code.specs.Code.{IsWellFormed, Names}
use Rattle.wit_code.specs.Frames.{Open}
use Rattle.wit_code.specs.Table.{State, Outcome, Wrote, Stopped, Next, Goes, Over, act, code_of}
use Rattle.wit_code.specs.Table.{exec, next_of, outcome_of, start_of, step, RunsTo}
use Rattle.wit_code.specs.Seen.{seen, Follows, NextFits, AnswersFit, IsOutcome, stands_of}
use Rattle.wit_code.proofs.Ends.{AreFrames, IsGood, ends_so, falls, fits_at, measure, one_outcome}

-- the run has come to this state
pub record Reached (procs : List Proc) (own : Proc) (reads : List ℕ) (fuel : ℕ)
    (s : State) : Type 0 where
  pub steps : ℕ
  pub is : exec procs own reads steps (start_of own fuel) ≡ Goes s

next_of_goes : (n : Next) → next_of n (λ s. Goes s) ≡ n
next_of_goes (Goes s) = refl
next_of_goes (Over o) = refl

module _ (procs : List Proc) (own : Proc) (reads : List ℕ) where
  next_more : (x : Next) (n : ℕ) (t : State) → next_of x (exec procs own reads n) ≡ Goes t
      → ((u : State) → exec procs own reads n u ≡ Goes t → exec procs own reads (suc n) u
      ≡ step procs own reads t) → next_of x (exec procs own reads (suc n)) ≡ step procs own reads t
  next_more (Goes u) n t e more = more u e
  next_more (Over o) n t e more = cc

  -- one more step
  exec_more : (n : ℕ) (s t : State) → exec procs own reads n s ≡ Goes t
      → exec procs own reads (suc n) s ≡ step procs own reads t
  exec_more zero s t e =
      let same : s ≡ t = cc in
      next_of_goes (step procs own reads s) ∙ ap (step procs own reads) same
  exec_more (suc n) s t e = next_more (step procs own reads s) n t e (λ u h. exec_more n u t h)

  pub reached_more : (fuel : ℕ) (s t : State) → Reached procs own reads fuel s
      → step procs own reads s ≡ Goes t → Reached procs own reads fuel t
  reached_more fuel s t r e =
      record { steps = suc r.steps; is = exec_more r.steps (start_of own fuel) s r.is ∙ e }

  pub runs_to : (fuel : ℕ) (s : State) (o : Outcome) → Reached procs own reads fuel s
      → step procs own reads s ≡ Over o → RunsTo procs own reads fuel o
  runs_to fuel s o r e = (suc r.steps, exec_more r.steps (start_of own fuel) s r.is ∙ e)

  pub stops_as : (fuel : ℕ) (old new : Run) (stop : Stop) → Reached procs own reads fuel (seen old)
      → Follows old (Err stop) new (step procs own reads (seen old))
      → IsOutcome (Err stop) (RunsTo procs own reads fuel)
  stops_as fuel old new OutOfMemory r f = tt
  stops_as fuel old new ConstraintFails r f = runs_to fuel (seen old) (Stopped ConstraintFails) r f
  stops_as fuel old new AssertFails r f = runs_to fuel (seen old) (Stopped AssertFails) r f
  stops_as fuel old new ZeroDivisor r f = runs_to fuel (seen old) (Stopped ZeroDivisor) r f
  stops_as fuel old new IndexOut r f = runs_to fuel (seen old) (Stopped IndexOut) r f
  stops_as fuel old new FuelSpent r f = runs_to fuel (seen old) (Stopped FuelSpent) r f
  stops_as fuel old new TooDeep r f = runs_to fuel (seen old) (Stopped TooDeep) r f

pub answers_fit : (procs : List Proc) (own : Proc) (os : List Open) → AreFrames procs own os
    → AnswersFit os
answers_fit procs own [] w = tt
answers_fit procs own (o ∷ os) w = (w.1, answers_fit procs own os w.2)

pub next_fits : (procs : List Proc) (own : Proc) (reads : ℕ) (body : List Op) (r : Run)
    → IsWellFormed procs reads own → IsGood procs own (seen r)
    → body ≡ (code_of procs own r.running).body → NextFits procs reads body r
next_fits procs own reads body r w g same op h =
    subst (λ n. Names procs (stands_of reads r.running) n op) (sym g.frame.width)
    (fits_at procs own reads (seen r) op w g.frame.there
    (ap (λ b. slice_get b r.place) (sym same) ∙ h)).names

-- after a step the state is good again, the run has come to it, and the measure has fallen
pub record Kept (procs : List Proc) (own : Proc) (reads : List ℕ) (fuel : ℕ)
    (old new : Run) : Type 0 where
  pub good : IsGood procs own (seen new)
  pub reached : Reached procs own reads fuel (seen new)
  pub less : measure procs own (seen new) < measure procs own (seen old)

one : (procs : List Proc) (own : Proc) (reads : List ℕ) (fuel : ℕ)
    → IsWellFormed procs (length reads) own → (o : Outcome) → RunsTo procs own reads fuel o
    → o ≡ outcome_of procs own reads fuel
one procs own reads fuel w o r =
    let e = ends_so procs own reads fuel w in
    one_outcome procs own reads r.0 e.0 (start_of own fuel) o (outcome_of procs own reads fuel) r.1
    e.1

-- the outcome of a run of well-formed code is the one that it has
pub is_outcome : (procs : List Proc) (own : Proc) (reads : List ℕ) (fuel : ℕ)
    → IsWellFormed procs (length reads) own → (result : Result (Vec ℕ Global) Stop)
    → IsOutcome result (RunsTo procs own reads fuel)
    → IsOutcome result (λ o. o ≡ outcome_of procs own reads fuel)
is_outcome procs own reads fuel w (Ok v) r = one procs own reads fuel w _ r
is_outcome procs own reads fuel w (Err OutOfMemory) r = tt
is_outcome procs own reads fuel w (Err ConstraintFails) r = one procs own reads fuel w _ r
is_outcome procs own reads fuel w (Err AssertFails) r = one procs own reads fuel w _ r
is_outcome procs own reads fuel w (Err ZeroDivisor) r = one procs own reads fuel w _ r
is_outcome procs own reads fuel w (Err IndexOut) r = one procs own reads fuel w _ r
is_outcome procs own reads fuel w (Err FuelSpent) r = one procs own reads fuel w _ r
is_outcome procs own reads fuel w (Err TooDeep) r = one procs own reads fuel w _ r

module _ (procs : List Proc) (own : Proc) (reads : List ℕ) (fuel : ℕ) (body : List Op)
    (old new : Run) (w : IsWellFormed procs (length reads) own) (g : IsGood procs own (seen old))
    (same : body ≡ (code_of procs own old.running).body)
    (r : Reached procs own reads fuel (seen old)) where
  -- the step that was taken is the table's
  pub table_step : act procs reads (slice_get body old.place) (seen old)
      ≡ step procs own reads (seen old)
  table_step = ap (λ b. act procs reads (slice_get b old.place) (seen old)) same

  kept : act procs reads (slice_get body old.place) (seen old) ≡ Goes (seen new)
      → Kept procs own reads fuel old new
  kept e =
      let s = sym table_step ∙ e in
      let f = falls procs own reads (seen old) (seen new) w g s in
      record {
        good = f.good;
        reached = reached_more procs own reads fuel (seen old) (seen new) r s;
        less = f.less;
      }

  pub stays : (flow : Flow) → flow ≡ Stays
      → Follows old (Ok flow) new (act procs reads (slice_get body old.place) (seen old))
      → Kept procs own reads fuel old new × (body ≡ (code_of procs own new.running).body)
  stays flow e f =
      let h = subst
      (λ x. Follows old (Ok x) new (act procs reads (slice_get body old.place) (seen old))) e
      f in
      (kept h.0, same ∙ ap (λ x. (code_of procs own x).body) (sym h.1))

  pub moves : (flow : Flow) → flow ≡ Moves
      → Follows old (Ok flow) new (act procs reads (slice_get body old.place) (seen old))
      → Kept procs own reads fuel old new
  moves flow e f =
      kept (subst
      (λ x. Follows old (Ok x) new (act procs reads (slice_get body old.place) (seen old))) e f)

  pub ends : (flow : Flow) → flow ≡ Ends
      → Follows old (Ok flow) new (act procs reads (slice_get body old.place) (seen old))
      → RunsTo procs own reads fuel (Wrote new.written.items)
  ends flow e f =
      let h = subst
      (λ x. Follows old (Ok x) new (act procs reads (slice_get body old.place) (seen old))) e
      f in
      runs_to procs own reads fuel (seen old) (Wrote new.written.items) r (sym table_step ∙ h)

  pub stops : (stop : Stop)
      → Follows old (Err stop) new (act procs reads (slice_get body old.place) (seen old))
      → IsOutcome (Err stop) (RunsTo procs own reads fuel)
  stops stop f =
      stops_as procs own reads fuel old new stop r (subst (Follows old (Err stop) new) table_step f)
