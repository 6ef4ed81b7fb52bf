-- Declarations of signals and creations of components in a run beside their steps; and a component
-- whose body begins.
use Rattle.std.proofs.Common.{◌≡◌, ◌≢◌, ◌⊎◌, inl, inr, ℕ, zero, suc, ◌+◌, ◌<◌, Bool, true, false}
use Rattle.std.proofs.Common.{cond, nat_eq, List, [], ◌++◌, length, replicate, Option, Some, None}
use Rattle.std.proofs.Common.{Ok, refl, sym, ap, subst, ◌∙◌, slice_get, slice_set, arith}
use Rattle.std.specs.Prelude.{not, ◌&&◌, nat_lt}
use Rattle.std.proofs.lemmas.List.{append-nil}
use Rattle.std.proofs.lemmas.Bool.{eq-eqb, ne_eqb, lt-ltb}
use Rattle.cir_ast.specs.declared.program.Spot.{Spot}
use Rattle.cir_ast.specs.declared.operators.Direction.{Direction}
use Rattle.cir_meaning.specs.Tried.{Tried, next}
use Rattle.cir_meaning.specs.Places.{elements}
use Rattle.cir_meaning.specs.Limits.{is_too_large}
use Rattle.cir_meaning.specs.Frame.{SignalEntry, Signals, Part, World, State, Context, entry_at}
use Rattle.cir_meaning.specs.Frame.{put_at, is_input, is_fed}
use Rattle.cir_meaning.specs.Declaring.{declare_signal, new_signal}
use Rattle.cir_meaning.specs.Run.{RunTried, Wires, RunPart, Run}
use Rattle.cir_meaning.specs.RunSimple.{Outcome, Runner, with_known, with_outcome, run_part}
use Rattle.cir_meaning.specs.RunSimple.{started}
use Rattle.cir_meaning.specs.RunBodies.{or_else}
use Rattle.cir_meaning.proofs.Marking.{put_entry}
use Rattle.cir_meaning.proofs.Writing.{get_set}
use Rattle.cir_meaning.proofs.PartWrites.{get_other, set_count, same_or_not}
use Rattle.cir_steps.specs.Running.{Wired}
use Rattle.cir_steps.specs.Step.{Step}
use Rattle.cir_steps.specs.RunSteps.{Cells, Calling, Progress, run_steps}
use Rattle.cir_steps.specs.Emission.{Emission, Emitted, with_state, made_elements, put_signal}
use Rattle.cir_steps.specs.Emission.{with_signal, steps_in}
use Rattle.cir_steps.specs.Making.{Caster, freed}
use Rattle.cir_steps.proofs.Alike.{Alike, alike_ok, alike_ends, Fresh, Grows, steps_grow}
use Rattle.cir_steps.proofs.Related.{OwnGrows, HasCells, Ran, Found, BesideAt, Beside}
use Rattle.cir_steps.proofs.Simulation.{Calm, running, Sim}
use Rattle.cir_steps.proofs.SimSteps.{beside_grows}

-- declarations
put_keeps : (n first count : ℕ) (own : Wires) → OwnGrows own (put_signal n first count own)
put_keeps n first count own m k c there =
    ap (λ o. or_else o (cond (nat_eq n m && nat_lt k count) (Some (first + k)) None)) there

replicate_count : {A : Type 0} (m : ℕ) (a : A) → length (replicate m a) ≡ m
replicate_count zero a = refl
replicate_count (suc m) a = ap (λ (i : ℕ). suc i) (replicate_count m a)

either_some : (o : Option ℕ) (c : ℕ) → (d : ℕ) × (or_else o (Some c) ≡ Some d)
either_some None c = (c, refl)
either_some (Some d) c = (d, refl)

module _ (k : Context) (spot : Spot) (direction : Direction) (n first : ℕ) (name dims : List ℕ)
    (world : World) (own : Wires) where
  abbrev entry : SignalEntry
  entry = new_signal k spot direction name dims world

  new_cells : (i : ℕ) → i < length entry.written
      → (c : ℕ) × (put_signal n first (made_elements dims) own n i ≡ Some c)
  new_cells i less = at (is_too_large dims) less
    where
      at : (b : Bool) → i < length (cond b [] (replicate (elements dims) (is_input direction)))
          → (c : ℕ) × (or_else (own n i) (cond (nat_eq n n && nat_lt i (cond b 0 (elements dims)))
          (Some (first + i)) None) ≡ Some c)
      at true less = absurd (omega arith)
      at false less =
          let count : length (replicate (elements dims) (is_input direction)) ≡ elements dims =
          replicate_count (elements dims) (is_input direction) in
          let below : i < elements dims = omega arith in
          let its : (d : ℕ) × (or_else (own n i) (Some (first + i)) ≡ Some d) =
          either_some (own n i) (first + i) in (
            its.0,
            ap (λ (b : Bool). or_else (own n i) (cond (b && nat_lt i (elements dims))
                (Some (first + i)) None)) (eq-eqb n n refl)
                ∙ ap (λ (b : Bool). or_else (own n i) (cond b (Some (first + i)) None))
                (lt-ltb i (elements dims) below) ∙ its.1,
          )

  declared_cells : (signals : Signals) → HasCells signals own
      → HasCells (put_at n entry signals) (put_signal n first (made_elements dims) own)
  declared_cells signals h m e i there less = at (put_entry n m entry e signals there)
    where
      at : ((n ≡ m) × (entry ≡ e)) ⊎ ((n ≢ m) × (entry_at signals m ≡ Some e))
          → (c : ℕ) × (put_signal n first (made_elements dims) own m i ≡ Some c)
      at (inl both) =
          let its : (c : ℕ) × (put_signal n first (made_elements dims) own n i ≡ Some c) =
          new_cells i (subst (λ a. i < length a.written) (sym both.1) less) in (
            its.0,
            ap (λ (j : ℕ). put_signal n first (made_elements dims) own j i) (sym both.0)
                ∙ its.1,
          )
      at (inr other) =
          let old : (c : ℕ) × (own m i ≡ Some c) = h m e i other.1 less in
          (old.0, put_keeps n first (made_elements dims) own m i old.0 old.1)

-- components
abbrev pub late : (i : ℕ) (was : Bool) → ℕ → Part → Bool
late i was j part = cond (nat_eq i j) was (is_fed part.signals)

module _ (k : Context) (fuel : ℕ) (call : Calling) (body : Runner) (cast : Caster) where
  pub declared_sim : (spot : Spot) (direction : Direction) (n : ℕ) (name dims : List ℕ)
      (s : State) (r : Run) (x : Emission) (m : RunTried Run) (y : Tried Emitted)
      → Calm r.known s
      → Sim k fuel call body cast (with_known (declare_signal k spot direction n name dims s) r)
      (with_signal n (made_elements dims)
      (with_state (declare_signal k spot direction n name dims s) x)) m y
      → Sim k fuel call body cast r x m y
  declared_sim spot direction n name dims s r x m y c h z e = (
    (λ i j v there. (h z e).0 i j v
        (put_keeps n x.next (made_elements dims) x.cells.own i j v there)),
    (λ final grows p b fresh. (h z e).1 final grows p record {
      zero = b.zero;
      wired = b.wired;
      made = declared_cells k spot direction n x.next name dims s.world x.cells.own
          s.frame.signals
          (λ i a j there. b.made i a j (ap (λ xs. entry_at xs i) (sym c.1) ∙ there));
      stored = b.stored;
      told = c.2 r.numbers b.told;
      fine = c.3 b.fine;
      parts = λ j part there. b.parts j part (ap (λ ps. slice_get ps j) (sym c.0) ∙ there);
      ports = b.ports;
      count = ap length c.0 ∙ b.count;
      casts = b.casts;
      bodies = b.bodies;
      log = b.log;
    } fresh),
  )

  module _ (final : Wires) (j : ℕ) (was : Bool) (part : Part) (r : Run) (x : Emission)
      (here : slice_get r.known.frame.parts j ≡ Some part)
      (fed : was ≡ true → is_fed part.signals ≡ true) where
    -- all others stand as they are
    others_found : (new : Bool) (rs : List RunPart) (cells : Cells)
        → (done : is_fed part.signals ≡ new) (i : ℕ) (p : Part)
        → slice_get r.known.frame.parts i ≡ Some p
        → (j ≡ i → Found call fuel body cells new rs x.cells.parts x.bodies i)
        → (j ≢ i → Found call fuel body cells (is_fed p.signals) rs x.cells.parts x.bodies i)
        → Found call fuel body cells (is_fed p.signals) rs x.cells.parts x.bodies i
    others_found new rs cells done i p there h g = at (same_or_not j i)
      where
        at : (j ≡ i) ⊎ (j ≢ i)
            → Found call fuel body cells (is_fed p.signals) rs x.cells.parts x.bodies i
        at (inl same) =
            let both : Some part ≡ Some p = sym here ∙ ap (slice_get r.known.frame.parts) same
            ∙ there in
            let is_p : part ≡ p = cc in
            subst (λ f. Found call fuel body cells f rs x.cells.parts x.bodies i)
            (sym done ∙ ap (λ (a : Part). is_fed a.signals) is_p) (h same)
        at (inr ne) = g ne

    late_same : (i : ℕ) (p : Part) → j ≡ i → late j was i p ≡ was
    late_same i p same = ap (λ b. cond b was (is_fed p.signals)) (eq-eqb j i same)

    late_other : (i : ℕ) (p : Part) → j ≢ i → late j was i p ≡ is_fed p.signals
    late_other i p ne = ap (λ b. cond b was (is_fed p.signals)) (ne_eqb j i ne)

    -- nothing begins
    settled_parts : (p : Progress) → was ≡ is_fed part.signals
        → BesideAt call fuel body (late j was) final r x p
        → Beside call fuel body final r x p
    settled_parts p same b = record {
      zero = b.zero;
      wired = b.wired;
      made = b.made;
      stored = b.stored;
      told = b.told;
      fine = b.fine;
      parts = λ i a there. others_found was r.parts p.cells (sym same) i a there
          (λ e. subst (λ f. Found call fuel body p.cells f r.parts x.cells.parts x.bodies i)
          (late_same i a e) (b.parts i a there))
          (λ ne. subst (λ f. Found call fuel body p.cells f r.parts x.cells.parts x.bodies i)
          (late_other i a ne) (b.parts i a there));
      ports = b.ports;
      count = b.count;
      casts = b.casts;
      bodies = b.bodies;
      log = b.log;
    }

    -- the body begins and ends
    module _ (p p' : Progress) (o : Outcome) (grows : Grows p.cells p'.cells)
        (b : BesideAt call fuel body (late j was) final r x p)
        (f : Found call fuel body p.cells was r.parts x.cells.parts x.bodies j)
        (out : Ran call fuel body f.cast o p') where
      abbrev ran_part : RunPart
      ran_part = record f.run { ports = o.own; inside = o.inside }

      ended_parts : is_fed part.signals ≡ true
          → Beside call fuel body final (with_outcome j o f.run r) x p'
      ended_parts done = record {
        zero = after.zero;
        wired = after.wired;
        made = after.made;
        stored = after.stored;
        told = after.told;
        fine = after.fine;
        parts = λ i a there. others_found true (slice_set r.parts j ran_part) p'.cells done i a
            there (its i) (λ ne. other i a there ne);
        ports = λ i a there. port i a there (same_or_not j i);
        count = after.count ∙ sym (set_count r.parts j ran_part);
        casts = set_count r.parts j ran_part ∙ after.casts;
        bodies = after.bodies;
        log = out.2;
      }
        where
          after : BesideAt call fuel body (late j was) final r x record p' { log = p.log }
          after =
              beside_grows call fuel body (late j was) final r x p record p' { log = p.log } grows
              refl b

          its : (i : ℕ) → j ≡ i → Found call fuel body p'.cells true
              (slice_set r.parts j ran_part) x.cells.parts x.bodies i
          its i same =
              subst (λ a. Found call fuel body p'.cells true (slice_set r.parts j ran_part)
              x.cells.parts x.bodies a) same record {
                run = ran_part;
                cast = f.cast;
                steps = f.steps;
                run_there = get_set r.parts j f.run ran_part f.run_there;
                cast_there = f.cast_there;
                steps_there = f.steps_there;
                runs = record {
                  same = ap (λ (a : RunPart). record a { ports = o.own; inside = o.inside })
                      f.runs.same;
                  wired = out.0;
                  waits = λ e. cc;
                  inside = λ e. out.1;
                };
              }

          other : (i : ℕ) (a : Part) → slice_get r.known.frame.parts i ≡ Some a → j ≢ i
              → Found call fuel body p'.cells (is_fed a.signals) (slice_set r.parts j ran_part)
              x.cells.parts x.bodies i
          other i a there ne =
              let old : Found call fuel body p'.cells (late j was i a) r.parts x.cells.parts
              x.bodies i = after.parts i a there in
              subst (λ d. Found call fuel body p'.cells d (slice_set r.parts j ran_part)
              x.cells.parts x.bodies i) (late_other i a ne) record {
                run = old.run;
                cast = old.cast;
                steps = old.steps;
                run_there = get_other r.parts j i ran_part ne ∙ old.run_there;
                cast_there = old.cast_there;
                steps_there = old.steps_there;
                runs = old.runs;
              }

          port : (i : ℕ) (a : RunPart) → slice_get (slice_set r.parts j ran_part) i ≡ Some a
              → (j ≡ i) ⊎ (j ≢ i)
              → (y : RunPart) × (slice_get x.cells.parts i ≡ Some y)
              × Wired p'.cells a.ports y.ports
          port i a there (inl same) =
              let new : Some ran_part ≡ Some a = sym (get_set r.parts j f.run ran_part f.run_there)
              ∙ ap (slice_get (slice_set r.parts j ran_part)) same ∙ there in
              let is_a : ran_part ≡ a = cc in (
                f.cast,
                ap (slice_get x.cells.parts) (sym same) ∙ f.cast_there,
                subst (λ (c : RunPart). Wired p'.cells c.ports
                    f.cast.ports) is_a out.0,
              )
          port i a there (inr ne) =
              after.ports i a (sym (get_other r.parts j i ran_part ne) ∙ there)

    -- a component that is fed now, and wasn't before, begins
    pub began : (p : Progress) → BesideAt call fuel body (late j was) final r x p
        → Fresh (freed j was (Some part) x ++ []) p.cells
        → Alike (λ r' p'. (r'.known ≡ r.known) × Beside call fuel body final r' x p')
        (started (running k fuel call body cast) j was (Some part) r)
        (run_steps call fuel (freed j was (Some part) x ++ []) p)
    began p b fresh = at was (is_fed part.signals) refl refl
      where
        Goal : RunTried Run → List Step → Type 0
        Goal m steps =
            Alike (λ r' p'. (r'.known ≡ r.known) × Beside call fuel body final r' x p') m
            (run_steps call fuel (steps ++ []) p)

        still : was ≡ is_fed part.signals → Goal (Ok r) []
        still same =
            alike_ok (λ r' p'. (r'.known ≡ r.known) × Beside call fuel body final r' x p') r
            (Ok p) p refl (refl, settled_parts p same b)

        found : Found call fuel body p.cells was r.parts x.cells.parts x.bodies j
        found =
            subst (λ f. Found call fuel body p.cells f r.parts x.cells.parts x.bodies j)
            (late_same j part refl) (b.parts j part here)

        begins : was ≡ false → is_fed part.signals ≡ true → Fresh (found.steps ++ []) p.cells
            → Goal (run_part (running k fuel call body cast) j (Some found.run) r) found.steps
        begins idle done apart =
            subst (λ ss. Alike (λ r' p'. (r'.known ≡ r.known)
            × Beside call fuel body final r' x p')
            (run_part (running k fuel call body cast) j (Some found.run) r)
            (run_steps call fuel ss p)) (sym (append-nil found.steps))
            (with_end (subst (λ ss. Fresh ss p.cells) (append-nil found.steps) apart))
          where
            alike : Fresh found.steps p.cells → Alike (Ran call fuel body found.cast)
                (body found.run.where_made found.run.template found.run.arguments found.run.path
                found.run.before found.run.ports r.log) (run_steps call fuel found.steps p)
            alike ss =
                subst (λ l. Alike (Ran call fuel body found.cast)
                (body found.run.where_made found.run.template found.run.arguments found.run.path
                found.run.before found.run.ports l) (run_steps call fuel found.steps p)) b.log
                (subst (λ (a : RunPart). Alike (Ran call fuel body found.cast)
                (body a.where_made a.template a.arguments a.path a.before found.run.ports p.log)
                (run_steps call fuel found.steps p)) (sym found.runs.same)
                (found.runs.waits idle found.run.ports p b.zero found.runs.wired ss))

            plain : (m : RunTried Outcome) (ss : List Step) → Fresh ss p.cells
                → Alike (Ran call fuel body found.cast) m (run_steps call fuel ss p)
                → Alike (λ r' p'. (r'.known ≡ r.known) × Beside call fuel body final r' x p')
                (next m (λ o. Ok (with_outcome j o found.run r))) (run_steps call fuel ss p)
            plain m ss f h =
                alike_ends (Ran call fuel body found.cast)
                (λ r' p'. (r'.known ≡ r.known) × Beside call fuel body final r' x p') m
                (run_steps call fuel ss p) (λ o. with_outcome j o found.run r) h
                (λ o p' e out. (
                  refl,
                  ended_parts p p' o (steps_grow call fuel ss p p' e f) b found
                      out done,
                ))

            with_end : Fresh found.steps p.cells
                → Alike (λ r' p'. (r'.known ≡ r.known) × Beside call fuel body final r' x p')
                (run_part (running k fuel call body cast) j (Some found.run) r)
                (run_steps call fuel found.steps p)
            with_end ss =
                plain (body found.run.where_made found.run.template found.run.arguments
                found.run.path found.run.before found.run.ports r.log) found.steps ss (alike ss)

        at : (w f : Bool) → was ≡ w → is_fed part.signals ≡ f
            → Goal (started (running k fuel call body cast) j was (Some part) r)
            (freed j was (Some part) x)
        at true true is fed_is =
            subst (λ a. Goal (cond (not a && is_fed part.signals)
            (run_part (running k fuel call body cast) j (slice_get r.parts j) r) (Ok r))
            (cond (not a && is_fed part.signals) (steps_in (slice_get x.bodies j)) [])) (sym is)
            (still (is ∙ sym fed_is))
        at true false is fed_is = let no : true ≡ false = sym (fed is) ∙ fed_is in cc
        at false false is fed_is =
            subst (λ a. Goal (cond (not a && is_fed part.signals)
            (run_part (running k fuel call body cast) j (slice_get r.parts j) r) (Ok r))
            (cond (not a && is_fed part.signals) (steps_in (slice_get x.bodies j)) [])) (sym is)
            (subst (λ a. Goal (cond a
            (run_part (running k fuel call body cast) j (slice_get r.parts j) r) (Ok r))
            (cond a (steps_in (slice_get x.bodies j)) [])) (sym fed_is) (still (is ∙ sym fed_is)))
        at false true is fed_is =
            subst (λ a. Goal (cond (not a && is_fed part.signals)
            (run_part (running k fuel call body cast) j (slice_get r.parts j) r) (Ok r))
            (cond (not a && is_fed part.signals) (steps_in (slice_get x.bodies j)) [])) (sym is)
            (subst (λ a. Goal (cond a
            (run_part (running k fuel call body cast) j (slice_get r.parts j) r) (Ok r))
            (cond a (steps_in (slice_get x.bodies j)) [])) (sym fed_is)
            (subst (λ o. Goal (run_part (running k fuel call body cast) j o r)
            (steps_in (slice_get x.bodies j))) (sym found.run_there)
            (subst (λ o. Goal (run_part (running k fuel call body cast) j (Some found.run) r)
            (steps_in o)) (sym found.steps_there) (begins is fed_is freed_apart))))
          where
            freed_is : freed j was (Some part) x ≡ found.steps
            freed_is =
                ap (λ a. cond (not a && is_fed part.signals) (steps_in (slice_get x.bodies j)) [])
                is
                ∙ ap (λ a. cond a (steps_in (slice_get x.bodies j)) []) fed_is
                ∙ ap steps_in found.steps_there

            freed_apart : Fresh (found.steps ++ []) p.cells
            freed_apart = subst (λ ss. Fresh (ss ++ []) p.cells) freed_is fresh
