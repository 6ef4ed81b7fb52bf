-- An assignment to a variable in a run beside its step, or beside none.
use Rattle.std.proofs.Common.{◌≡◌, inr, ℕ, Bool, true, false, not, cond, List, map, length, Option}
use Rattle.std.proofs.Common.{None, Ok, refl, sym, ap, subst, ◌∙◌, slice_get, slice_index}
use Rattle.std.specs.Prelude.{unwrap_or, ◌==◌}
use Rattle.cir_ast.specs.declared.program.Meant.{Meant}
use Rattle.cir_ast.specs.declared.program.Meant.TheVariants as meant
use Rattle.cir_ast.specs.Tree.{Expr, Accessors, Assign}
use Rattle.cir_meaning.specs.Tried.{Where, Tried, next}
use Rattle.cir_meaning.specs.Places.{elements, numbers_from}
use Rattle.cir_meaning.specs.Limits.{Counts}
use Rattle.cir_meaning.specs.Arrays.{Datum, single, forgotten, is_known, is_all_known, put_items}
use Rattle.cir_meaning.specs.Values.{Known, Opaque}
use Rattle.cir_meaning.specs.Frame.{State, Context, variable_at, entry_at, is_fed}
use Rattle.cir_meaning.specs.Scoped.{IsSetMeant}
use Rattle.cir_meaning.specs.Steps.{stepped, variable_cost, new_cells}
use Rattle.cir_meaning.specs.Simple as simple
use Rattle.cir_meaning.specs.Writing.{VariableAssignment, variable_assignment, write_variable}
use Rattle.cir_meaning.specs.Writing.{is_unknown, written_datum}
use Rattle.cir_meaning.specs.RunValues.{Numbers, Store, stored, gives}
use Rattle.cir_meaning.specs.RunStatements.{step_set}
use Rattle.cir_meaning.specs.Run.{Wires, Run, stepping, store_of, environment, put_numbers}
use Rattle.cir_meaning.specs.RunSimple as run
use Rattle.cir_meaning.specs.RunSimple.{Runner, with_known}
use Rattle.cir_meaning.proofs.Good.{good_is}
use Rattle.cir_meaning.proofs.Likes.{CallKeeps}
use Rattle.cir_meaning.proofs.FineValues.{Fine}
use Rattle.cir_meaning.proofs.FineStatements.{set_variable_fine}
use Rattle.cir_meaning.proofs.KnownValues.{all_pass}
use Rattle.cir_meaning.proofs.Rows.{all_map}
use Rattle.cir_meaning.proofs.Same.{Same}
use Rattle.cir_meaning.proofs.Settling.{settle_of, opaque_same, put_same, Variable, variable_of}
use Rattle.cir_meaning.proofs.Settling.{set_variables}
use Rattle.cir_meaning.proofs.ScopedQuiet.{everything}
use Rattle.cir_meaning.proofs.VariableRuns.{IsAdded, stepped_adds, with_added}
use Rattle.cir_steps.specs.Step.{Step, Assigning}
use Rattle.cir_steps.specs.RunSteps.{Calling, environment_at, work_numbers, Progress, written}
use Rattle.cir_steps.specs.Emission.{Emission, quiet, with_state, step_of}
use Rattle.cir_steps.specs.Making.{Caster, new_places, with_cells, make_assignment}
use Rattle.cir_steps.specs.Emit as emit
use Rattle.cir_steps.proofs.Templates.{AreApart}
use Rattle.cir_steps.proofs.Unless.{Unless, unless_next}
use Rattle.cir_steps.proofs.UnlessSteps.{set_unless}
use Rattle.cir_steps.proofs.Alike.{AreFree, put_grows}
use Rattle.cir_steps.proofs.Related.{Nowhere, Beside}
use Rattle.cir_steps.proofs.Simulation.{Calm, running, emitting, Sim, sim_quiet, sim_same, sim_step}
use Rattle.cir_steps.proofs.Simulation.{store_same, richer_at}
use Rattle.cir_steps.proofs.Calming.{good_later}
use Rattle.cir_steps.proofs.SimSteps.{placed, unused, beside_grows}
use Rattle.cir_steps.proofs.Knowing.{IsSound}
use Rattle.cir_steps.proofs.Putting.{put_stored}
use Rattle.cir_steps.proofs.SimAssigned.{parts_are, signals_are, variables_are, told_after}
use Rattle.cir_steps.proofs.SimAssigned.{new_gives}

not_false : (b : Bool) → not b ≡ false → b ≡ true
not_false true h = refl
not_false false h = cc

-- without a step each element that is written is known, or all are forgotten
unstepped : (old : Datum) (a : VariableAssignment) (o : Option Numbers) (z : Bool)
    → cond a.reach.is_sure (not (is_all_known a.value)) z ≡ false
    → Same Nowhere old (settle_of old o)
    → Same Nowhere (written_datum old a.reach a.value)
    (settle_of (written_datum old a.reach a.value) o)
unstepped old a o z known h = at a.reach.is_sure known
  where
    at : (b : Bool) → cond b (not (is_all_known a.value)) z ≡ false
        → Same Nowhere (cond b
        record { dims = old.dims; items = put_items a.reach.places a.value.items old.items }
        (forgotten old)) (settle_of (cond b
        record { dims = old.dims; items = put_items a.reach.places a.value.items old.items }
        (forgotten old)) o)
    at true f =
        put_same Nowhere a.reach.places a.value.items old o
        (all_pass is_known a.value.items (not_false (is_all_known a.value) f)) h
    at false f =
        opaque_same Nowhere (forgotten old) o
        (all_map (λ v. v ≡ Opaque) (λ v. Opaque) old.items (λ v. refl))

module _ (functions : ℕ) (k : Context) (keeps : CallKeeps k.call) (fuel : ℕ) (call : Calling)
    (body : Runner) (cast : Caster) (sound : IsSound functions k call) (w : Where)
    (written' : Assign Meant) (n : ℕ) (accessors : Accessors Meant) (e : Expr Meant) (r : Run)
    (x : Emission) (te : IsSetMeant (everything functions) (meant.Variable n) accessors e) where
  module _ (a : VariableAssignment) (made' : variable_assignment k w n accessors e r.known ≡ Ok a)
      (s : State) (c : Counts) (s_is : s ≡ with_added (write_variable n a) c)
      (finely : Fine r.known → Fine s) where
    -- no step
    calm : is_unknown n a ≡ false → Calm r.known s
    calm known = (
      parts_are functions k call sound w n accessors e te r x a made' s c s_is,
      signals_are functions k call sound w n accessors e te r x a made' s c s_is,
      (λ numbers h m. subst (λ vs. Variable Nowhere vs numbers m)
          (sym (variables_are functions k call sound w n accessors e te r x a made' s c s_is))
          (set_variables Nowhere r.known.frame.variables numbers n
          (written_datum (variable_at r.known.frame n) a.reach a.value) (λ old at.
          let is_old : variable_at r.known.frame n ≡ old =
          ap (λ (o : Option Datum). unwrap_or o (single (Known 0))) at in
          unstepped (variable_at r.known.frame n) a (slice_get numbers n)
          (not (elements (variable_at a.state.frame n).dims == 0)) known
          (subst (λ d. Same Nowhere d (settle_of d (slice_get numbers n))) (sym is_old)
          (variable_of Nowhere r.known.frame.variables numbers n old at (h n)))) h m)),
      finely,
    )

    -- a step
    abbrev places : List ℕ
    places = new_places n a

    abbrev step : Step
    step =
        step_of k w r.known (variable_cost k w written' n accessors e a r.known)
        (Assigning n accessors e places) (numbers_from x.next (length places)) None
        (with_state r.known x)

    abbrev values : Store → List ℕ
    values store = map (slice_index (stored store n).items) places

    abbrev behind_run : Store → Run
    behind_run store =
        record r { known = s; numbers = put_numbers n (stored store n) r.numbers }

    abbrev behind_cells : Emission
    behind_cells = with_cells n places s (with_state r.known x)

    after_step : (final : Wires) (store : Store) (u : ℕ)
        → step_set (environment k w call r.known r) (meant.Variable n) accessors e
        (store_of r.known r.numbers) fuel ≡ Ok (store, u) → (p : Progress)
        → Beside call fuel body final r x p → AreApart step.targets → AreFree step.targets p.cells
        → Beside call fuel body final (behind_run store) behind_cells
        (written step p (values store))
    after_step final store u ran p h apart free = record {
      zero = up.zero;
      wired = up.wired;
      made = λ m d i there. up.made m d i (ap (λ xs. entry_at xs m)
          (sym (signals_are functions k call sound w n accessors e te r x a made' s c s_is))
          ∙ there);
      stored = put_stored after.cells r.numbers x.sources n (stored store n) _ up.stored
          (new_gives functions k call sound w n accessors e te r x a made' s c s_is
          (λ j q there. ((h.parts j q there).run, (h.parts j q there).run_there)) h.told h.fine
          fuel u store ran after.cells up.stored
          (placed step.targets (values store) p.cells apart));
      told = told_after functions k call sound w n accessors e te r x a made' s c s_is
          (λ j q there. ((h.parts j q there).run, (h.parts j q there).run_there)) h.told h.fine
          fuel u store ran;
      fine = finely h.fine;
      parts = λ j part there. up.parts j part (ap (λ ps. slice_get ps j)
          (sym (parts_are functions k call sound w n accessors e te r x a made' s c s_is))
          ∙ there);
      ports = up.ports;
      count = ap length
          (parts_are functions k call sound w n accessors e te r x a made' s c s_is) ∙ up.count;
      casts = up.casts;
      bodies = up.bodies;
      log = up.log;
    }
      where
        after : Progress
        after = written step p (values store)

        up : Beside call fuel body final r x after
        up =
            beside_grows call fuel body (λ j part. is_fed part.signals) final r x p after
            (put_grows step.targets (values store) p.cells free) refl h

    step_sim : Sim k fuel call body cast r x
        (next (stepping w r (step_set (environment k w call r.known r) (meant.Variable n) accessors
        e (store_of r.known r.numbers) fuel)) (λ store. Ok (behind_run store)))
        (make_assignment k w written' n accessors e a s (with_state r.known x))
    step_sim =
        sim_step k fuel call body cast r x w
        (step_set (environment k w call r.known r) (meant.Variable n) accessors e
        (store_of r.known r.numbers) fuel) values behind_run step behind_cells refl
        (λ n i c there. there)
        (λ final grows p h.
        subst (λ st. Unless (next (step_set (environment k w call r.known r) (meant.Variable n)
        accessors e (store_of r.known r.numbers) fuel) (λ (store, u). gives (values store) u))
        (work_numbers (environment_at call p.cells (environment k w unused r.known x.cells)) st
        (Assigning n accessors e places) fuel))
        (sym (store_same k fuel call body cast final r x p h))
        (unless_next _ _ _ _ (set_unless _ _
        (richer_at k fuel call body cast final r x p h grows w r.known refl unused)
        (meant.Variable n) accessors e (store_of r.known r.numbers) fuel) (λ u. inr refl)))
        (λ final grows store u ran p h apart free.
        (refl, after_step final store u ran p h apart free))

  pub assigned_sim : Sim k fuel call body cast r x
      (run.run_set_variable (running k fuel call body cast) w written' n accessors e r)
      (emit.emit_set_variable (emitting k fuel call body cast) w written' n accessors e
      (with_state r.known x))
  assigned_sim =
      sim_same k fuel call body cast r x (variable_assignment k w n accessors e r.known) _ _
      (λ a made'.
      sim_same k fuel call body cast r x
      (simple.set_variable k w written' n accessors e r.known) _ _ (λ s is.
      at a made' s (good_is (λ t. Fine r.known → Fine t)
      (simple.set_variable k w written' n accessors e r.known) s is
      (good_later (Fine r.known) Fine (simple.set_variable k w written' n accessors e r.known)
      (set_variable_fine k sound.fine w written' n accessors e r.known))) (is_unknown n a) refl
      (sym (ap (λ m. next m (λ b. cond (is_unknown n b)
      (stepped k w (variable_cost k w written' n accessors e b r.known) (new_cells n b)
      (write_variable n b)) (Ok (write_variable n b)))) made') ∙ is)))
    where
      at : (a : VariableAssignment) → variable_assignment k w n accessors e r.known ≡ Ok a
          → (s : State) → (Fine r.known → Fine s) → (b : Bool) → is_unknown n a ≡ b
          → cond (is_unknown n a)
          (stepped k w (variable_cost k w written' n accessors e a r.known) (new_cells n a)
          (write_variable n a)) (Ok (write_variable n a)) ≡ Ok s
          → Sim k fuel call body cast r x
          (cond (is_unknown n a) (next (stepping w r (step_set (environment k w call r.known r)
          (meant.Variable n) accessors e (store_of r.known r.numbers) fuel)) (λ store.
          Ok record r { known = s; numbers = put_numbers n (stored store n) r.numbers }))
          (Ok (with_known s r)))
          (cond (is_unknown n a)
          (make_assignment k w written' n accessors e a s (with_state r.known x))
          (quiet (with_state s x)))
      at a made' s finely true u is =
          subst (λ b. Sim k fuel call body cast r x
          (cond b (next (stepping w r (step_set (environment k w call r.known r)
          (meant.Variable n) accessors e (store_of r.known r.numbers) fuel)) (λ store.
          Ok record r { known = s; numbers = put_numbers n (stored store n) r.numbers }))
          (Ok (with_known s r)))
          (cond b (make_assignment k w written' n accessors e a s (with_state r.known x))
          (quiet (with_state s x)))) (sym u)
          (step_sim a made' s added.0 added.1 finely)
        where
          added : IsAdded (write_variable n a) s
          added =
              good_is (IsAdded (write_variable n a))
              (stepped k w (variable_cost k w written' n accessors e a r.known) (new_cells n a)
              (write_variable n a)) s
              (sym (ap (λ b. cond b
              (stepped k w (variable_cost k w written' n accessors e a r.known) (new_cells n a)
              (write_variable n a)) (Ok (write_variable n a))) u) ∙ is)
              (stepped_adds k w (variable_cost k w written' n accessors e a r.known)
              (new_cells n a) (write_variable n a))
      at a made' s finely false u is =
          subst (λ b. Sim k fuel call body cast r x
          (cond b (next (stepping w r (step_set (environment k w call r.known r)
          (meant.Variable n) accessors e (store_of r.known r.numbers) fuel)) (λ store.
          Ok record r { known = s; numbers = put_numbers n (stored store n) r.numbers }))
          (Ok (with_known s r)))
          (cond b (make_assignment k w written' n accessors e a s (with_state r.known x))
          (quiet (with_state s x)))) (sym u)
          (sim_quiet k fuel call body cast r x s
          (calm a made' s a.state.frame.added (sym same) finely u))
        where
          written_so : ◌≡◌ {A = Tried State} (Ok (write_variable n a)) (Ok s)
          written_so =
              sym (ap (λ b. cond b
              (stepped k w (variable_cost k w written' n accessors e a r.known) (new_cells n a)
              (write_variable n a)) (Ok (write_variable n a))) u) ∙ is

          same : write_variable n a ≡ s
          same = cc
