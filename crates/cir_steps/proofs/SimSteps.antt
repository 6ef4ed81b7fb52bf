-- Comparisons, assertions and log lines of a run beside their steps.
use Rattle.std.proofs.Common.{◌≡◌, inr, ℕ, Bool, true, false, cond, List, [], ◌∷◌, Some, None, Ok}
use Rattle.std.proofs.Common.{Err, refl, sym, subst, ◌∙◌}
use Rattle.std.specs.Prelude.{⊤, ◌==◌}
use Rattle.cir_ast.specs.declared.program.Meant.{Meant}
use Rattle.cir_ast.specs.Tree.{Expr}
use Rattle.cir_meaning.specs.Tried.{Where, next}
use Rattle.cir_meaning.specs.Values.{Value, Known, Linear, Quadratic, Opaque}
use Rattle.cir_meaning.specs.Frame.{Part, State, Context}
use Rattle.cir_meaning.specs.Steps.{assert_cost}
use Rattle.cir_meaning.specs.Simple as simple
use Rattle.cir_meaning.specs.Statement.{decided, assert_value}
use Rattle.cir_meaning.specs.RunValues.{missing, gives}
use Rattle.cir_meaning.specs.Run.{RunTried, Wires, Run, stepping, environment, store_of}
use Rattle.cir_meaning.specs.RunSimple as run
use Rattle.cir_meaning.specs.RunSimple.{Runner, with_known, sides}
use Rattle.cir_meaning.specs.RunBodies as run'
use Rattle.cir_meaning.specs.RunBodies.{asserted}
use Rattle.cir_meaning.proofs.Good.{good_is}
use Rattle.cir_meaning.proofs.Likes.{CallKeeps}
use Rattle.cir_meaning.proofs.FineValues.{FineContext}
use Rattle.cir_steps.specs.Step.{Comparing, Asserting}
use Rattle.cir_steps.specs.RunSteps.{Cells, Calling, environment_at, work_numbers, put_cell}
use Rattle.cir_steps.specs.RunSteps.{put_cells, Progress}
use Rattle.cir_steps.specs.Emission.{Emission, quiet, with_state, step_of}
use Rattle.cir_steps.specs.Making.{Caster, make_assertion}
use Rattle.cir_steps.specs.Emit as emit
use Rattle.cir_steps.specs.Statements as emit'
use Rattle.cir_steps.proofs.Templates.{AreApart}
use Rattle.cir_steps.proofs.Unless.{Unless, unless_next}
use Rattle.cir_steps.proofs.UnlessSteps.{sides_unless, asserted_unless}
use Rattle.cir_steps.proofs.Alike.{Grows, put_aside, put_here}
use Rattle.cir_steps.proofs.Related.{BesideAt, wired_grows, tables_grow, stored_grows, Found}
use Rattle.cir_steps.proofs.Simulation.{Calm, running, emitting, Sim, beside_calm, sim_quiet}
use Rattle.cir_steps.proofs.Simulation.{sim_same, sim_step, store_same, richer_at}
use Rattle.cir_steps.proofs.Calming.{equal_calm, assert_calm}

-- what is written stands in its cells
abbrev pub Placed : List ℕ → List ℕ → Cells → Type 0
Placed [] values cells = ⊤
Placed (t ∷ ts) [] cells = ⊤
Placed (t ∷ ts) (v ∷ values) cells = (cells t ≡ Some v) × Placed ts values cells

pub placed : (ts values : List ℕ) (cells : Cells) → AreApart ts
    → Placed ts values (put_cells ts values cells)
placed [] values cells h = tt
placed (t ∷ ts) [] cells h = tt
placed (t ∷ ts) (v ∷ values) cells h = (
  put_aside ts values (put_cell t v cells) t h.0 ∙ put_here t v cells,
  placed ts values (put_cell t v cells) h.1,
)

abbrev nothing : RunTried (Unit {0})
nothing = Ok tt

-- how a step's names make calls: they aren't asked
abbrev pub unused : Calling
unused = λ n ds units. Err missing

module _ (call : Calling) (fuel : ℕ) (body : Runner) where
  -- where cells get numbers
  pub beside_grows : (ran : ℕ → Part → Bool) (final : Wires) (r : Run) (x : Emission)
      (p q : Progress) → Grows p.cells q.cells → q.log ≡ p.log
      → BesideAt call fuel body ran final r x p → BesideAt call fuel body ran final r x q
  beside_grows ran final r x p q h log b = record {
    zero = h 0 1 b.zero;
    wired = wired_grows p.cells q.cells r.own final h b.wired;
    made = b.made;
    stored = stored_grows p.cells q.cells r.numbers x.sources h b.stored;
    told = b.told;
    fine = b.fine;
    parts = λ j part there.
        let f : Found call fuel body p.cells (ran j part) r.parts x.cells.parts x.bodies j =
        b.parts j part there in record {
          run = f.run;
          cast = f.cast;
          steps = f.steps;
          run_there = f.run_there;
          cast_there = f.cast_there;
          steps_there = f.steps_there;
          runs = record {
            same = f.runs.same;
            wired = wired_grows p.cells q.cells f.run.ports f.cast.ports h f.runs.wired;
            waits = f.runs.waits;
            inside = λ fed. tables_grow p.cells q.cells f.run.inside f.cast.inside h
                (f.runs.inside fed);
          };
        };
    ports = λ j a there. (
      (b.ports j a there).0,
      (b.ports j a there).1,
      wired_grows p.cells q.cells a.ports (b.ports j a there).0.ports h (b.ports j a there).2,
    );
    count = b.count;
    casts = b.casts;
    bodies = b.bodies;
    log = log ∙ b.log;
  }

module _ (k : Context) (keeps : CallKeeps k.call) (fuel : ℕ) (call : Calling) (body : Runner)
    (cast : Caster) where
  pub compared_sim : FineContext k → (w : Where) (a b : Expr Meant) (r : Run) (x : Emission)
      → Sim k fuel call body cast r x
      (run.run_equal (running k fuel call body cast) w a b r)
      (emit.emit_equal (emitting k fuel call body cast) w a b (with_state r.known x))
  compared_sim fine w a b r x =
      sim_same k fuel call body cast r x (simple.equal k w a b r.known) _ _ (λ s is.
      sim_step k fuel call body cast r x w
      (sides (environment k w call r.known r) (store_of r.known r.numbers) a b fuel) (λ u. [])
      (λ u. with_known s r) _ (with_state s x) refl (λ n i c there. there)
      (λ final grows p h.
      subst (λ st. Unless (next (sides (environment k w call r.known r)
      (store_of r.known r.numbers) a b fuel) (λ (u, v). gives [] v))
      (work_numbers (environment_at call p.cells (environment k w unused r.known x.cells)) st
      (Comparing a b) fuel)) (sym (store_same k fuel call body cast final r x p h))
      (unless_next _ _ _ _ (sides_unless _ _
      (richer_at k fuel call body cast final r x p h grows w r.known refl unused)
      (store_of r.known r.numbers) a b fuel) (λ u. inr refl)))
      (λ final grows u v ran p h apart free. (
        refl,
        beside_calm k fuel call body cast final r x p s
            (good_is (Calm r.known) (simple.equal k w a b r.known) s is
            (equal_calm k keeps fine w a b r.known)) h,
      )))

  pub asserted_sim : (w : Where) (a : Expr Meant) (v : Value) (s : State) (r : Run)
      (x : Emission) → Calm r.known s
      → Sim k fuel call body cast r x
      (run'.run_assert_value (running k fuel call body cast) w a v s r)
      (emit'.emit_assert_value (emitting k fuel call body cast) w a v s (with_state r.known x))
  asserted_sim w a v s r x calm =
      sim_same k fuel call body cast r x (assert_value k w a r.known v s) _ _ (λ s1 is.
      at v s1 (good_is (Calm r.known) (assert_value k w a r.known v s) s1 is
      (assert_calm k keeps w a r.known v s calm)))
    where
      step : (s1 : State) → Calm r.known s1
          → Sim k fuel call body cast r x
          (next (stepping w r (asserted (environment k w call r.known r)
          (store_of r.known r.numbers) a fuel)) (λ u. Ok (with_known s1 r)))
          (make_assertion k w a s1 (with_state r.known x))
      step s1 c =
          sim_step k fuel call body cast r x w
          (asserted (environment k w call r.known r) (store_of r.known r.numbers) a fuel)
          (λ u. []) (λ u. with_known s1 r) (step_of k w r.known (assert_cost k w a r.known)
          (Asserting a) [] None (with_state r.known x)) (with_state s1 x) refl
          (λ n i c there. there)
          (λ final grows p h.
          subst (λ st. Unless (next (asserted (environment k w call r.known r)
          (store_of r.known r.numbers) a fuel) (λ (u, v). gives [] v))
          (work_numbers (environment_at call p.cells (environment k w unused r.known x.cells)) st
          (Asserting a) fuel)) (sym (store_same k fuel call body cast final r x p h))
          (unless_next _ _ _ _ (asserted_unless _ _
          (richer_at k fuel call body cast final r x p h grows w r.known refl unused)
          (store_of r.known r.numbers) a fuel) (λ u. inr refl)))
          (λ final grows u v ran p h apart free.
          (refl, beside_calm k fuel call body cast final r x p s1 c h))

      at : (v : Value) (s1 : State) → Calm r.known s1
          → Sim k fuel call body cast r x
          (next (decided v nothing nothing
          (run'.assert_step (running k fuel call body cast) w a r))
          (λ u. Ok (with_known s1 r)))
          (decided v
          (quiet (with_state s1 x))
          (quiet (with_state s1 x))
          (make_assertion k w a s1 (with_state r.known x)))
      at (Known n) s1 c = by (n == 0)
        where
          by : (b : Bool) → Sim k fuel call body cast r x
              (next (cond b nothing nothing) (λ u. Ok (with_known s1 r)))
              (cond b (quiet (with_state s1 x))
              (quiet (with_state s1 x)))
          by true = sim_quiet k fuel call body cast r x s1 c
          by false = sim_quiet k fuel call body cast r x s1 c
      at (Linear f) s1 c = step s1 c
      at (Quadratic d e f) s1 c = step s1 c
      at Opaque s1 c = step s1 c
