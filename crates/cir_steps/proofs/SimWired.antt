-- A write of signals in a run beside its step, where the value has as many numbers as it has items.
use Rattle.std.proofs.Common.{◌≡◌, ◌≢◌, ◌⊎◌, inl, inr, ℕ, suc, ◌<◌, Bool, true, false, cond, nat_eq}
use Rattle.std.proofs.Common.{List, [], ◌∷◌, ◌++◌, map, length, Option, Some, None, Ok, refl, sym}
use Rattle.std.proofs.Common.{ap, subst, ◌∙◌, slice_get, slice_set, unwrap_or, arith}
use Rattle.std.specs.Prelude.{◌&&◌}
use Rattle.std.proofs.lemmas.Bool.{eqb-true, eq-eqb, ne_eqb}
use Rattle.cir_ast.specs.declared.program.Meant.{Meant}
use Rattle.cir_ast.specs.declared.operators.Arrow.{Arrow}
use Rattle.cir_ast.specs.Tree.{Expr, Accessors, Assign}
use Rattle.cir_meaning.specs.Tried.{Where}
use Rattle.cir_meaning.specs.Values.{Value}
use Rattle.cir_meaning.specs.Frame.{SignalEntry, Part, State, Context, entry_at, is_fed}
use Rattle.cir_meaning.specs.Writing.{signals_of, part_signals, with_part_signals, with_signals}
use Rattle.cir_meaning.specs.Writing.{SignalAssignment}
use Rattle.cir_meaning.specs.Costs.{Cost}
use Rattle.cir_meaning.specs.RunValues.{Numbers}
use Rattle.cir_meaning.specs.RunSimple.{Runner, with_known, started, started_at}
use Rattle.cir_meaning.proofs.FineValues.{Fine}
use Rattle.cir_meaning.proofs.Likes.{CallKeeps, Like}
use Rattle.cir_meaning.proofs.Writing.{get_set}
use Rattle.cir_meaning.proofs.PartWrites.{get_other, set_count, same_or_not}
use Rattle.cir_meaning.proofs.Standing.{SameEntry}
use Rattle.cir_meaning.proofs.SignalTargets.{TargetIs}
use Rattle.cir_meaning.specs.Run.{Wires, RunPart, Run, put_wire, put_wires, write_wires}
use Rattle.cir_steps.specs.Running.{Wired}
use Rattle.cir_steps.specs.Step.{Step}
use Rattle.cir_steps.specs.RunSteps.{Cells, Calling, in_cell, put_cell, put_cells, Progress}
use Rattle.cir_steps.specs.RunSteps.{written, run_steps}
use Rattle.cir_steps.specs.Emission.{Emission, with_state, wire_cell, part_ports, ports_of}
use Rattle.cir_steps.specs.Making.{Caster, written_elements, wiring, freed, freed_at}
use Rattle.cir_steps.proofs.Templates.{Apart, AreApart}
use Rattle.cir_steps.proofs.Alike.{Alike, alike_ok, Fresh, AreFree, put_here, put_aside, put_grows}
use Rattle.cir_steps.proofs.Related.{OwnGrows, HasCells, tables_grow, Found, BesideAt, Beside}
use Rattle.cir_steps.proofs.Simulation.{knows_as, running}
use Rattle.cir_steps.proofs.SimSteps.{beside_grows}
use Rattle.cir_steps.proofs.SimParts.{late, began}
use Rattle.cir_steps.proofs.Wiring.{result, Behind, behind}

-- a cell that is free isn't cell 0
free_cell : (o : Option ℕ) (cells : Cells) → cells 0 ≡ Some 1 → cells (unwrap_or o 0) ≡ None
    → o ≡ Some (unwrap_or o 0)
free_cell (Some c) cells h e = refl
free_cell None cells h e = let none : ◌≡◌ {A = Option ℕ} (Some 1) None = sym h ∙ e in cc

still_free : (t v : ℕ) (ts : List ℕ) (cells : Cells) → Apart t ts → AreFree ts cells
    → AreFree ts (put_cell t v cells)
still_free t v [] cells h g = tt
still_free t v (u ∷ ts) cells h g = (
  put_aside (t ∷ []) (v ∷ []) cells u ((λ e. h.0 (sym e)), tt) ∙ g.0,
  still_free t v ts cells h.1 g.1,
)

put_one : (n place v t : ℕ) (wires final : Wires) (cells : Cells) → cells t ≡ None
    → final n place ≡ Some t → Wired cells wires final
    → Wired (put_cell t v cells) (put_wire n place v wires) final
put_one n place v t wires final cells free there h m i y e =
    at (nat_eq n m) (nat_eq place i) refl refl e
  where
    old : wires m i ≡ Some y → in_cell (put_cell t v cells) (final m i) ≡ Some y
    old e = grown (final m i) (h m i y e)
      where
        grown : (o : Option ℕ) → in_cell cells o ≡ Some y
            → in_cell (put_cell t v cells) o ≡ Some y
        grown None e = cc
        grown (Some c) e = put_grows (t ∷ []) (v ∷ []) cells (free, tt) c y e

    at : (a b : Bool) → nat_eq n m ≡ a → nat_eq place i ≡ b
        → cond (nat_eq n m && nat_eq place i) (Some v) (wires m i) ≡ Some y
        → in_cell (put_cell t v cells) (final m i) ≡ Some y
    at true true f g e =
        let same_n : n ≡ m = eqb-true n m f in
        let same_i : place ≡ i = eqb-true place i g in
        let put : cond (nat_eq n m && nat_eq place i) (Some v) (wires m i) ≡ Some v =
        ap (λ b. cond (b && nat_eq place i) (Some v) (wires m i)) f
        ∙ ap (λ b. cond b (Some v) (wires m i)) g in
        let value : Some v ≡ Some y = sym put ∙ e in
        ap (in_cell (put_cell t v cells))
        (sym (ap (λ (j : ℕ). final j place) same_n ∙ ap (final m) same_i) ∙ there)
        ∙ put_here t v cells ∙ value
    at true false f g e =
        old (sym (ap (λ b. cond (b && nat_eq place i) (Some v) (wires m i)) f
        ∙ ap (λ b. cond b (Some v) (wires m i)) g) ∙ e)
    at false b f g e =
        old (sym (ap (λ b. cond (b && nat_eq place i) (Some v) (wires m i)) f) ∙ e)

pub puts_wired : (n : ℕ) (places : List ℕ) (vs : List Value) (values : List ℕ)
    (wires own final : Wires) (cells : Cells) → length values ≡ length vs
    → OwnGrows own final → cells 0 ≡ Some 1
    → AreApart (map (wire_cell own n) (written_elements places vs))
    → AreFree (map (wire_cell own n) (written_elements places vs)) cells
    → Wired cells wires final
    → Wired (put_cells (map (wire_cell own n) (written_elements places vs)) values cells)
    (put_wires n places values wires) final
puts_wired n [] vs values wires own final cells same grows one apart free h = h
puts_wired n (place ∷ places) [] [] wires own final cells same grows one apart free h = h
puts_wired n (place ∷ places) [] (y ∷ ys) wires own final cells same grows one apart free h = cc
puts_wired n (place ∷ places) (v ∷ vs) [] wires own final cells same grows one apart free h = cc
puts_wired n (place ∷ places) (v ∷ vs) (y ∷ ys) wires own final cells same grows one apart free h =
    let t : ℕ = wire_cell own n place in
    let there : own n place ≡ Some t = free_cell (own n place) cells one free.0 in
    puts_wired n places vs ys (put_wire n place y wires) own final (put_cell t y cells)
    (let more : suc (length ys) ≡ suc (length vs) = same in omega arith) grows
    (put_grows (t ∷ []) (y ∷ []) cells (free.0, tt) 0 1 one) apart.1
    (still_free t y (map (wire_cell own n) (written_elements places vs)) cells apart.0 free.1)
    (put_one n place y t wires final cells free.0 (grows n place t there) h)

module _ (k : Context) (keeps : CallKeeps k.call) (fuel : ℕ) (call : Calling) (body : Runner)
    (cast : Caster) where
  module _ (w : Where) (written' : Assign Meant) (accessors : Accessors Meant) (a : Expr Meant)
      (arrow : Arrow) (cost : Cost) (r : Run) (x : Emission) (b : SignalAssignment) (s : State)
      (like : Like r.known b.state) (is : TargetIs r.known b.target)
      (done : result k w arrow cost r.known b like is ≡ Ok s) (finely : Fine r.known → Fine s)
      (final : Wires)
      (grows : OwnGrows x.cells.own final) (p : Progress)
      (h : Beside call fuel body final r x p) (d : Numbers)
      (same : length d.items ≡ length b.value.items) where
    abbrev pub step : Step
    step = wiring k w written' accessors a b (with_state r.known x)

    abbrev pub after : Progress
    after = written step p d.items

    abbrev pub was : Bool
    was = is_fed (signals_of b.target.part r.known.frame)

    abbrev pub run_at : Option ℕ → Run
    run_at part =
        with_known s (write_wires part b.target.number b.target.reach.places d.items r)

    abbrev pub Goal : Option ℕ → Type 0
    Goal part =
        Alike (λ r' p'. (s ≡ r'.known) × Beside call fuel body final r' (with_state s x) p')
        (started_at (running k fuel call body cast) part (is_fed (signals_of part r.known.frame))
        (run_at part))
        (run_steps call fuel (freed_at part (is_fed (signals_of part r.known.frame))
        (with_state s x) ++ []) after)

    pub wrote : Behind k w arrow cost r.known b like is s
    wrote = behind k w arrow cost r.known b like is s done

    lifted : AreFree step.targets p.cells → Beside call fuel body final r x after
    lifted free =
        beside_grows call fuel body (λ j part. is_fed part.signals) final r x p after
        (put_grows step.targets d.items p.cells free) refl h

    -- own signals
    pub own_written : b.target.part ≡ None → AreApart step.targets → AreFree step.targets p.cells
        → Goal None
    own_written none apart free =
        alike_ok (λ r' p'. (s ≡ r'.known) × Beside call fuel body final r' (with_state s x) p')
        (run_at None) (Ok after) after refl (
          refl,
          record {
            zero = up.zero;
            wired = subst (λ ts. Wired (put_cells ts d.items p.cells) (put_wires b.target.number
                b.target.reach.places d.items r.own) final) (sym targets)
                (puts_wired b.target.number b.target.reach.places b.value.items d.items r.own
                x.cells.own final p.cells same grows h.zero
                (subst AreApart targets apart) (subst (λ ts. AreFree ts p.cells) targets free)
                h.wired);
            made = made;
            stored = up.stored;
            told = knows_as r.known.frame.variables s.frame.variables r.numbers variables up.told;
            fine = finely up.fine;
            parts = λ j part there. up.parts j part (ap (λ ps. slice_get ps j) (sym parts) ∙ there);
            ports = up.ports;
            count = ap length parts ∙ up.count;
            casts = up.casts;
            bodies = up.bodies;
            log = up.log;
          },
        )
      where
        up : Beside call fuel body final r x after
        up = lifted free

        targets : step.targets ≡ map (wire_cell x.cells.own b.target.number)
            (written_elements b.target.reach.places b.value.items)
        targets =
            ap (λ o. map (wire_cell (ports_of o (with_state r.known x)) b.target.number)
            (written_elements b.target.reach.places b.value.items)) none

        parts : s.frame.parts ≡ r.known.frame.parts
        parts =
            ap (λ (t : State). t.frame.parts) wrote.wrote.is
            ∙ ap (λ o. (with_signals o wrote.wrote.signals r.known.frame).parts) none

        variables : s.frame.variables ≡ r.known.frame.variables
        variables =
            ap (λ (t : State). t.frame.variables) wrote.wrote.is
            ∙ ap (λ o. (with_signals o wrote.wrote.signals r.known.frame).variables) none

        made : HasCells s.frame.signals x.cells.own
        made n e i there less =
            let now : wrote.wrote.signals ≡ s.frame.signals = sym wrote.wrote.now
            ∙ ap (λ o. signals_of o s.frame) none in
            let old : (q : SignalEntry)
            × (entry_at (signals_of b.target.part r.known.frame) n ≡ Some q) × SameEntry e q =
            wrote.wrote.shapes_back n e (ap (λ xs. entry_at xs n) now ∙ there) in
            h.made n old.0 i
            (ap (λ o. entry_at (signals_of o r.known.frame) n) (sym none) ∙ old.1)
            (subst (λ (c : ℕ). i < c) old.2.2 less)

    -- a component's inputs
    module _ (j : ℕ) (at_part : b.target.part ≡ Some j) (q : Part)
        (here : slice_get r.known.frame.parts j ≡ Some q) (apart : AreApart step.targets)
        (free : AreFree step.targets p.cells) where
      abbrev pub old : Found call fuel body p.cells (is_fed q.signals) r.parts x.cells.parts
          x.bodies j
      old = h.parts j q here

      abbrev pub new_part : Part
      new_part = record q { signals = wrote.wrote.signals }

      abbrev pub new_ports : RunPart
      new_ports = record (old.run) {
        ports = put_wires b.target.number b.target.reach.places d.items old.run.ports;
      }

      abbrev pub new_run : Run
      new_run = record r { known = s; parts = slice_set r.parts j new_ports }

      part_targets : step.targets ≡ map (wire_cell old.cast.ports b.target.number)
          (written_elements b.target.reach.places b.value.items)
      part_targets =
          ap (λ o. map (wire_cell (ports_of o (with_state r.known x)) b.target.number)
          (written_elements b.target.reach.places b.value.items)) at_part
          ∙ ap (λ o. map (wire_cell (part_ports o) b.target.number)
          (written_elements b.target.reach.places b.value.items)) old.cast_there

      part_wired : Wired after.cells new_ports.ports old.cast.ports
      part_wired =
          subst (λ ts. Wired (put_cells ts d.items p.cells) new_ports.ports old.cast.ports)
          (sym part_targets)
          (puts_wired b.target.number b.target.reach.places b.value.items d.items old.run.ports
          old.cast.ports old.cast.ports p.cells same (λ n i c there. there) h.zero
          (subst AreApart part_targets apart)
          (subst (λ ts. AreFree ts p.cells) part_targets free) old.runs.wired)

      parts_now : s.frame.parts ≡ slice_set r.known.frame.parts j new_part
      parts_now =
          ap (λ (t : State). t.frame.parts) wrote.wrote.is
          ∙ ap (λ o. (with_signals o wrote.wrote.signals r.known.frame).parts) at_part
          ∙ ap (λ o. (with_part_signals j wrote.wrote.signals o r.known.frame).parts) here

      signals_now : s.frame.signals ≡ r.known.frame.signals
      signals_now =
          ap (λ (t : State). t.frame.signals) wrote.wrote.is
          ∙ ap (λ o. (with_signals o wrote.wrote.signals r.known.frame).signals) at_part
          ∙ ap (λ o. (with_part_signals j wrote.wrote.signals o r.known.frame).signals) here

      variables_now : s.frame.variables ≡ r.known.frame.variables
      variables_now =
          ap (λ (t : State). t.frame.variables) wrote.wrote.is
          ∙ ap (λ o. (with_signals o wrote.wrote.signals r.known.frame).variables) at_part
          ∙ ap (λ o. (with_part_signals j wrote.wrote.signals o r.known.frame).variables) here

      pub its_part : slice_get s.frame.parts j ≡ Some new_part
      its_part =
          ap (λ ps. slice_get ps j) parts_now ∙ get_set r.known.frame.parts j q new_part here

      found_now : (i : ℕ) (a' : Part) → slice_get s.frame.parts i ≡ Some a'
          → (j ≡ i) ⊎ (j ≢ i)
          → Found call fuel body after.cells (late j (is_fed q.signals) i a')
          new_run.parts x.cells.parts x.bodies i
      found_now i a' there (inl e) =
          subst (λ m. Found call fuel body after.cells (late j (is_fed q.signals) m a')
          new_run.parts x.cells.parts x.bodies m) e
          (subst (λ f. Found call fuel body after.cells f new_run.parts x.cells.parts x.bodies j)
          (sym (ap (λ f. cond f (is_fed q.signals) (is_fed a'.signals)) (eq-eqb j j refl))) record {
            run = new_ports;
            cast = old.cast;
            steps = old.steps;
            run_there = get_set r.parts j old.run new_ports old.run_there;
            cast_there = old.cast_there;
            steps_there = old.steps_there;
            runs = record {
              same = ap (λ (z : RunPart). record z {
                ports = new_ports.ports;
                inside = new_ports.inside;
              }) old.runs.same;
              wired = part_wired;
              waits = old.runs.waits;
              inside = λ fed. tables_grow p.cells after.cells old.run.inside old.cast.inside
                  (put_grows step.targets d.items p.cells free) (old.runs.inside fed);
            };
          })
      found_now i a' there (inr ne) =
          let before : slice_get r.known.frame.parts i ≡ Some a' =
          sym (get_other r.known.frame.parts j i new_part ne)
          ∙ ap (λ ps. slice_get ps i) (sym parts_now) ∙ there in
          let f : Found call fuel body after.cells (is_fed a'.signals) r.parts x.cells.parts
          x.bodies i = (lifted free).parts i a' before in
          subst (λ g. Found call fuel body after.cells g new_run.parts x.cells.parts x.bodies i)
          (sym (ap (λ g. cond g (is_fed q.signals) (is_fed a'.signals)) (ne_eqb j i ne))) record {
            run = f.run;
            cast = f.cast;
            steps = f.steps;
            run_there = get_other r.parts j i new_ports ne ∙ f.run_there;
            cast_there = f.cast_there;
            steps_there = f.steps_there;
            runs = f.runs;
          }

      port_now : (i : ℕ) (a' : RunPart) → slice_get new_run.parts i ≡ Some a'
          → (j ≡ i) ⊎ (j ≢ i)
          → (y : RunPart) × (slice_get x.cells.parts i ≡ Some y)
          × Wired after.cells a'.ports y.ports
      port_now i a' there (inl e) =
          let both : Some new_ports ≡ Some a' =
          sym (get_set r.parts j old.run new_ports old.run_there)
          ∙ ap (slice_get new_run.parts) e ∙ there in
          let is_a : new_ports ≡ a' = cc in (
            old.cast,
            ap (slice_get x.cells.parts) (sym e) ∙ old.cast_there,
            subst (λ (z : RunPart). Wired after.cells z.ports old.cast.ports) is_a part_wired,
          )
      port_now i a' there (inr ne) =
          (lifted free).ports i a' (sym (get_other r.parts j i new_ports ne) ∙ there)

      part_late : BesideAt call fuel body (late j (is_fed q.signals)) final new_run
          (with_state s x) after
      part_late = record {
        zero = (lifted free).zero;
        wired = (lifted free).wired;
        made = λ n e i there. h.made n e i (ap (λ xs. entry_at xs n) (sym signals_now) ∙ there);
        stored = (lifted free).stored;
        told = knows_as r.known.frame.variables s.frame.variables r.numbers variables_now h.told;
        fine = finely h.fine;
        parts = λ i a' there. found_now i a' there (same_or_not j i);
        ports = λ i a' there. port_now i a' there (same_or_not j i);
        count = ap length parts_now ∙ set_count r.known.frame.parts j new_part ∙ h.count
            ∙ sym (set_count r.parts j new_ports);
        casts = set_count r.parts j new_ports ∙ h.casts;
        bodies = h.bodies;
        log = h.log;
      }

      pub part_written : Fresh (freed j (is_fed q.signals) (Some new_part) (with_state s x) ++ [])
          after.cells
          → Alike (λ r' p'. (r'.known ≡ s) × Beside call fuel body final r' (with_state s x) p')
          (started (running k fuel call body cast) j (is_fed q.signals) (Some new_part) new_run)
          (run_steps call fuel (freed j (is_fed q.signals) (Some new_part) (with_state s x) ++ [])
          after)
      part_written fresh =
          began k fuel call body cast final j (is_fed q.signals) new_part new_run (with_state s x)
          its_part (λ fed. wrote.wrote.fed (ap is_fed (ap (λ o. signals_of o r.known.frame) at_part
          ∙ ap part_signals here) ∙ fed)) after part_late fresh
