-- An assignment to signals in a run beside its step, where values have as many numbers as items.
use Rattle.std.proofs.Common.{◌≡◌, inr, ℕ, List, [], ◌∷◌, ◌++◌, length, Option, Some, None, Ok}
use Rattle.std.proofs.Common.{refl, sym, ap, subst, ◌∙◌, slice_get}
use Rattle.cir_ast.specs.declared.program.Meant.{Meant}
use Rattle.cir_ast.specs.declared.operators.Arrow.{Arrow}
use Rattle.cir_ast.specs.Tree.{Expr, Accessors, Assign}
use Rattle.cir_meaning.specs.Tried.{Where, next}
use Rattle.cir_meaning.specs.Frame.{Part, State, Context, entry_at, is_fed}
use Rattle.cir_meaning.specs.Writing.{signals_of, part_signals, SignalAssignment, signal_assignment}
use Rattle.cir_meaning.specs.Writing.{write_signal, write_elements}
use Rattle.cir_meaning.specs.Costs.{Cost}
use Rattle.cir_meaning.specs.Steps.{signal_cost}
use Rattle.cir_meaning.specs.Simple as simple
use Rattle.cir_meaning.specs.RunValues.{Numbers, gives, number_in}
use Rattle.cir_meaning.specs.Run.{Wires, RunPart, Run, stepping, environment, store_of, put_ports}
use Rattle.cir_meaning.specs.Run.{write_wires}
use Rattle.cir_meaning.specs.RunSimple as run
use Rattle.cir_meaning.specs.RunSimple.{Runner, with_known, started, started_at}
use Rattle.cir_meaning.proofs.Good.{good_is}
use Rattle.cir_meaning.proofs.Likes.{CallKeeps, Like, like_itself}
use Rattle.cir_meaning.proofs.SignalTargets.{TargetIs, SignalLike, assignment_target}
use Rattle.cir_steps.specs.Step.{Step, Valuing}
use Rattle.cir_steps.specs.RunSteps.{Calling, environment_at, work_numbers, Progress, written}
use Rattle.cir_steps.specs.RunSteps.{run_steps}
use Rattle.cir_steps.specs.Emission.{Emission, Emitted, with_state}
use Rattle.cir_steps.specs.Making.{Caster, wiring, freed, freed_at}
use Rattle.cir_steps.specs.Emit as emit
use Rattle.cir_steps.proofs.Templates.{AreApart}
use Rattle.cir_steps.proofs.Unless.{Unless, unless_next, value_unless}
use Rattle.cir_steps.proofs.Alike.{Alike, alike_weaker, alike_step, Fresh, AreFree}
use Rattle.cir_steps.proofs.Related.{OwnGrows, Beside}
use Rattle.cir_steps.proofs.Simulation.{Calm, calm_like, running, emitting, After, Sim, sim_quiet}
use Rattle.cir_steps.proofs.Simulation.{sim_same, store_same, richer_at}
use Rattle.cir_steps.proofs.SimSteps.{unused}
use Rattle.cir_steps.proofs.Wiring.{result, wired_to}
use Rattle.cir_steps.proofs.Knowing.{IsSound, sized}
use Rattle.cir_steps.proofs.Calming.{good_later}
use Rattle.cir_meaning.proofs.FineValues.{Fine}
use Rattle.cir_meaning.proofs.FineStatements.{set_signal_fine}
use Rattle.cir_meaning.specs.Scoped.{AreCallsMeant}
use Rattle.cir_meaning.proofs.ScopedQuiet.{everything}
use Rattle.cir_steps.proofs.SimWired.{own_written, part_written, new_part, its_part}

module _ (k : Context) (keeps : CallKeeps k.call) (fuel : ℕ) (call : Calling) (body : Runner)
    (cast : Caster) where
  module _ (w : Where) (written' : Assign Meant) (accessors : Accessors Meant) (a : Expr Meant)
      (arrow : Arrow) (cost : Cost) (r : Run) (x : Emission) (b : SignalAssignment) (s : State)
      (like : Like r.known b.state) (is : TargetIs r.known b.target)
      (done : result k w arrow cost r.known b like is ≡ Ok s) (finely : Fine r.known → Fine s)
      (counted : (d : Numbers) (u : ℕ) → number_in (environment k w call r.known r)
      (store_of r.known r.numbers) a fuel ≡ Ok (d, u) → length d.items ≡ length b.value.items)
      (final : Wires) (grows : OwnGrows x.cells.own final) (p : Progress)
      (h : Beside call fuel body final r x p) where
    abbrev step : Step
    step = wiring k w written' accessors a b (with_state r.known x)

    abbrev Ends : Run → Progress → Type 0
    Ends r' p' = (s ≡ r'.known) × Beside call fuel body final r' (with_state s x) p'

    abbrev Rest : Numbers → (was now : Option Part) → Option RunPart → (j : ℕ) → Type 0
    Rest d was now ran j =
        Alike Ends (started (running k fuel call body cast) j (is_fed (part_signals was)) now
        (with_known s (record r {
          parts = put_ports b.target.number b.target.reach.places d.items ran r.parts j;
        }))) (run_steps call fuel (freed j (is_fed (part_signals was)) now (with_state s x) ++ [])
        (written step p d.items))

    abbrev Goes : Numbers → Option ℕ → Type 0
    Goes d part =
        Alike Ends (started_at (running k fuel call body cast) part
        (is_fed (signals_of part r.known.frame))
        (with_known s (write_wires part b.target.number b.target.reach.places d.items r)))
        (run_steps call fuel (freed_at part (is_fed (signals_of part r.known.frame))
        (with_state s x) ++ []) (written step p d.items))

    goes_on : (d : Numbers) → length d.items ≡ length b.value.items → AreApart step.targets
        → AreFree step.targets p.cells
        → Fresh (freed_at b.target.part (is_fed (signals_of b.target.part r.known.frame))
        (with_state s x) ++ []) (written step p d.items).cells → (part : Option ℕ)
        → b.target.part ≡ part → Goes d part
    goes_on d same apart free fresh None none =
        own_written k keeps fuel call body cast w written' accessors a arrow cost r x b s like is
        done finely final grows p h d same none apart free
    goes_on d same apart free fresh (Some j) some = at (slice_get r.known.frame.parts j) refl
      where
        at : (o : Option Part) → slice_get r.known.frame.parts j ≡ o → Goes d (Some j)
        at None here =
            let none : signals_of b.target.part r.known.frame ≡ [] =
            ap (λ o. signals_of o r.known.frame) some ∙ ap part_signals here in
            let lost : entry_at [] b.target.number ≡ Some is.entry =
            ap (λ xs. entry_at xs b.target.number) (sym none) ∙ is.there in cc
        at (Some q) here =
            subst (λ o. Rest d o (slice_get s.frame.parts j) (slice_get r.parts j) j)
            (sym here) (subst (λ o. Rest d (Some q) o (slice_get r.parts j) j) (sym now)
            (subst (λ o. Rest d (Some q) (Some part) o j) (sym ran)
            (alike_weaker (λ r' p'. (r'.known ≡ s)
            × Beside call fuel body final r' (with_state s x) p') Ends _ _
            (part_written k keeps fuel call body cast w written' accessors a arrow cost r x b s
            like is done finely final grows p h d same j some q here apart free
            (subst (λ ss. Fresh ss (written step p d.items).cells) steps fresh))
            (λ r' p' e g. (sym g.0, g.1)))))
          where
            part : Part
            part =
                new_part k keeps fuel call body cast w written' accessors a arrow cost r x b s
                like is done finely final grows p h d same j some q here apart free

            now : slice_get s.frame.parts j ≡ Some part
            now =
                its_part k keeps fuel call body cast w written' accessors a arrow cost r x b s
                like is done finely final grows p h d same j some q here apart free

            ran : slice_get r.parts j ≡ Some (h.parts j q here).run
            ran = (h.parts j q here).run_there

            steps : freed_at b.target.part (is_fed (signals_of b.target.part r.known.frame))
                (with_state s x) ++ []
                ≡ freed j (is_fed q.signals) (Some part) (with_state s x) ++ []
            steps =
                ap (λ o. freed_at o (is_fed (signals_of o r.known.frame)) (with_state s x) ++ [])
                some
                ∙ ap (λ o. freed j (is_fed (part_signals o)) (slice_get s.frame.parts j)
                (with_state s x) ++ []) here
                ∙ ap (λ o. freed j (is_fed q.signals) o (with_state s x) ++ []) now

    pub wired_alike : Fresh (wired_to record { context = k; cast = cast } w written' accessors a
        (with_state r.known x) b s).steps p.cells
        → Alike Ends (next (stepping w r (number_in (environment k w call r.known r)
        (store_of r.known r.numbers) a fuel)) (λ d. started_at (running k fuel call body cast)
        b.target.part (is_fed (signals_of b.target.part r.known.frame)) (with_known s
        (write_wires b.target.part b.target.number b.target.reach.places d.items r))))
        (run_steps call fuel (wired_to record { context = k; cast = cast } w written' accessors a
        (with_state r.known x) b s).steps p)
    wired_alike fresh =
        alike_step call fuel Ends w r
        (number_in (environment k w call r.known r) (store_of r.known r.numbers) a fuel)
        (λ d. d.items) _ step (freed_at b.target.part
        (is_fed (signals_of b.target.part r.known.frame)) (with_state s x) ++ []) p refl h.log
        (subst (λ st. Unless (next (number_in (environment k w call r.known r)
        (store_of r.known r.numbers) a fuel) (λ (d, u). gives d.items u))
        (work_numbers (environment_at call p.cells (environment k w unused r.known x.cells)) st
        (Valuing a) fuel)) (sym (store_same k fuel call body cast final r x p h))
        (unless_next (number_in (environment k w call r.known r) (store_of r.known r.numbers) a
        fuel) (number_in (environment_at call p.cells (environment k w unused r.known x.cells))
        (store_of r.known r.numbers) a fuel) (λ (d, u). gives d.items u)
        (λ (d, u). gives d.items u) (value_unless _ _ (store_of r.known r.numbers)
        (richer_at k fuel call body cast final r x p h grows w r.known refl unused) a fuel)
        (λ d. inr refl)))
        (λ d u ran. goes_on d (counted d u ran) fresh.0 fresh.1 (fresh.2 d.items) b.target.part
        refl)

  -- an assignment to signals
  pub wired_sim : (functions : ℕ) → IsSound functions k call → (w : Where)
      (written' : Assign Meant) (m : Meant) (accessors : Accessors Meant) (arrow : Arrow)
      (a : Expr Meant) (r : Run) (x : Emission) → AreCallsMeant (everything functions) a
      → Sim k fuel call body cast r x
      (run.run_set_signal (running k fuel call body cast) w written' m accessors arrow a r)
      (emit.emit_set_signal (emitting k fuel call body cast) w written' m accessors arrow a
      (with_state r.known x))
  wired_sim functions sound w written' m accessors arrow a r x te =
      sim_same k fuel call body cast r x (signal_assignment k w m accessors a r.known) _ _ (λ b is.
      sim_same k fuel call body cast r x
      (simple.set_signal k w written' m accessors arrow a r.known) _ _ (λ s made.
      at b is s (sym (ap (λ n. next n (λ c. next (write_signal k w arrow c)
      (simple.wired k w (signal_cost k w written' accessors a r.known) c.target.reach.places))) is)
      ∙ made) (good_is (λ t. Fine r.known → Fine t)
      (simple.set_signal k w written' m accessors arrow a r.known) s made
      (good_later (Fine r.known) Fine (simple.set_signal k w written' m accessors arrow a r.known)
      (set_signal_fine k sound.fine w written' m accessors arrow a r.known)))
      b.target.reach.places refl))
    where
      its : (b : SignalAssignment) → signal_assignment k w m accessors a r.known ≡ Ok b
          → SignalLike k keeps r.known w b
      its b is =
          good_is (SignalLike k keeps r.known w) (signal_assignment k w m accessors a r.known) b is
          (assignment_target k keeps r.known w m accessors a r.known (like_itself r.known))

      at : (b : SignalAssignment) → signal_assignment k w m accessors a r.known ≡ Ok b
          → (s : State) → next (write_signal k w arrow b) (simple.wired k w
          (signal_cost k w written' accessors a r.known) b.target.reach.places) ≡ Ok s
          → (Fine r.known → Fine s) → (places : List ℕ) → b.target.reach.places ≡ places
          → Sim k fuel call body cast r x
          (run.signal_step (running k fuel call body cast) w a b s places r)
          (emit.make_wiring (emitting k fuel call body cast) w written' accessors a b s places
          (with_state r.known x))
      at b is s done finely [] same z e =
          let stays : Ok b.state ≡ Ok s =
          sym (ap (λ ps. next (write_elements k w arrow b.target ps b.value.items b.state)
          (simple.wired k w (signal_cost k w written' accessors a r.known) ps)) same) ∙ done in
          let is_s : b.state ≡ s = cc in
          sim_quiet k fuel call body cast r x s
          (subst (Calm r.known) is_s (calm_like r.known b.state (its b is).0)) z e
      at b is s done finely (place ∷ places) same z e =
          let is_z : wired_to (emitting k fuel call body cast) w written' accessors a
          (with_state r.known x) b s ≡ z = cc in (
            subst (λ (y : Emitted). OwnGrows x.cells.own y.state.cells.own) is_z
                (λ n i c there. there),
            (λ final later p h fresh.
                subst (λ (y : Emitted). Alike (After k fuel call body cast final y)
                (run.signal_step (running k fuel call body cast) w a b s (place ∷ places) r)
                (run_steps call fuel y.steps p)) is_z
                (wired_alike w written' accessors a arrow
                (signal_cost k w written' accessors a r.known) r x b s (its b is).0 (its b is).1
                done finely
                (λ d u ran. sized functions k call sound r
                (λ j q there. ((h.parts j q there).run, (h.parts j q there).run_there)) h.told
                h.fine w m accessors a fuel u b d te is ran) final
                (subst (λ (y : Emitted). OwnGrows y.state.cells.own final) (sym is_z) later) p h
                (subst (λ (y : Emitted). Fresh y.steps p.cells) (sym is_z) fresh))),
          )
