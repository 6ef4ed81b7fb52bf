-- What holds of cells is kept by a write of signals.
use Rattle.std.proofs.Common.{◌≡◌, ◌≢◌, ◌⊎◌, inl, inr, ℕ, zero, suc, ◌+◌, ◌<◌, Bool, true}
use Rattle.std.proofs.Common.{false, cond, List, [], ◌∷◌, ◌++◌, length, Option, Some, None, Ok}
use Rattle.std.proofs.Common.{refl, sym, ap, subst, ◌∙◌, slice_get, slice_set, is_some}
use Rattle.std.specs.Prelude.{◌&&◌, not, unwrap_or}
use Rattle.std.specs.List.{AllByRecursion}
use Rattle.std.proofs.lemmas.List.{append-nil}
use Rattle.cir_ast.specs.declared.program.Meant.{Meant}
use Rattle.cir_ast.specs.declared.operators.Arrow.{Arrow}
use Rattle.cir_ast.specs.Tree.{Expr, Accessors, Assign}
use Rattle.cir_meaning.specs.Tried.{Where, next}
use Rattle.cir_meaning.specs.Places.{elements}
use Rattle.cir_meaning.specs.Frame.{SignalEntry, Signals, Part, Sizes, State, is_input, is_fed}
use Rattle.cir_meaning.specs.Frame.{entry_at}
use Rattle.cir_meaning.specs.Writing.{part_signals, signals_of, with_part_signals, with_signals}
use Rattle.cir_meaning.specs.Writing.{marked, SignalAssignment, signal_assignment, write_signal}
use Rattle.cir_meaning.specs.Writing.{write_elements}
use Rattle.cir_meaning.specs.Simple.{set_signal, wired}
use Rattle.cir_meaning.specs.Costs.{Cost}
use Rattle.cir_meaning.specs.Steps.{signal_cost}
use Rattle.cir_meaning.specs.Run.{Wires, RunPart}
use Rattle.cir_meaning.specs.RunBodies.{port_tables}
use Rattle.cir_meaning.proofs.Good.{good_ok, good_as, good_is, good_next}
use Rattle.cir_meaning.proofs.Likes.{CallKeeps, Like, like_itself}
use Rattle.cir_meaning.proofs.KnownCalls.{CallBoth}
use Rattle.cir_meaning.proofs.GroupSizes.{Less, Fits, less_itself}
use Rattle.cir_meaning.proofs.Weights.{cover_entries, cover_tables, under}
use Rattle.cir_meaning.proofs.NumberPlaces.{Roomy}
use Rattle.cir_meaning.proofs.Standing.{SameEntry}
use Rattle.cir_meaning.proofs.PartWeights.{same_cover}
use Rattle.cir_meaning.proofs.PartWrites.{same_or_not, get_other, set_count}
use Rattle.cir_meaning.proofs.Writing.{get_set}
use Rattle.cir_meaning.proofs.SignalTargets.{TargetIs, SignalLike, assignment_target}
use Rattle.cir_steps.specs.Step.{Step}
use Rattle.cir_steps.specs.Emission.{Emission, Emitted, known_in, with_state, wire_cell, ports_of}
use Rattle.cir_steps.specs.Emission.{part_ports, steps_in}
use Rattle.cir_steps.specs.Making.{Emitting, written_elements, signal_targets, wiring, freed}
use Rattle.cir_steps.specs.Making.{freed_at}
use Rattle.cir_steps.specs.Emit.{make_wiring, emit_set_signal}
use Rattle.cir_steps.specs.Written.{targets_of}
use Rattle.cir_steps.specs.Places.{IsWiredPlace}
use Rattle.cir_steps.proofs.Walk.{StaysClear}
use Rattle.cir_steps.proofs.Wiring.{Behind as Wrote, result, behind, marks_at}
use Rattle.cir_steps.proofs.Casting.{set_signal_written, stays_clear as written_clear}
use Rattle.cir_steps.proofs.Still.{Still, still_itself, still_like}
use Rattle.cir_steps.proofs.ReadWalk.{Leaf}
use Rattle.cir_steps.proofs.ReadCells.{In, in_left, in_right, Behind, Given, PartHolds, Holding}
use Rattle.cir_steps.proofs.ReadCells.{Holds, holding_more, part_more, roomy_less, step_reads}
use Rattle.cir_steps.proofs.ReadCells.{in_either, behind_weaker}
use Rattle.cir_steps.proofs.ReadLeaves.{sizes_of, GivenOf, Moved, Moves, Reads, moves_still}
use Rattle.cir_steps.proofs.ReadLeaves.{stays_clear, Good}
use Rattle.cir_steps.proofs.ReadWired.{in_map, put_marks, mark_there, fed_behind, Entries}
use Rattle.cir_steps.proofs.ReadWired.{elements_keep, wired_keeps, cover_set, signal_told}

abbrev IsExact : SignalEntry → Type 0
IsExact e = length e.written ≡ elements e.dims

exact_marks : (e : SignalEntry) (i : ℕ) → IsExact e → IsExact (marked e i)
exact_marks e i h = count e.written i ∙ h
  where
    count : (bs : List Bool) (i : ℕ) → length (slice_set bs i true) ≡ length bs
    count [] i = refl
    count (b ∷ bs) zero = refl
    count (b ∷ bs) (suc i) = ap (λ (n : ℕ). suc n) (count bs i)

module _ (size : ℕ) (final : Sizes) (room : Roomy size final) (q : Emitting)
    (twice : CallBoth q.context.call) (keeps : CallKeeps q.context.call) (w : Where)
    (written : Assign Meant) (accessors : Accessors Meant) (e : Expr Meant) (x : Emission)
    (b : SignalAssignment) (s : State) (a : Arrow) (cost : Cost)
    (like : Like (known_in x) b.state) (is : TargetIs (known_in x) b.target)
    (wrote : result q.context w a cost (known_in x) b like is ≡ Ok s)
    (told : Reads size final room q.context twice keeps w (known_in x)
    (signal_cost q.context w written accessors e (known_in x))) where
  abbrev f : State
  f = known_in x

  after : Wrote q.context w a cost f b like is s
  after = behind q.context w a cost f b like is s wrote

  abbrev new : Signals
  new = after.wrote.signals

  abbrev now_written : List ℕ
  now_written = written_elements b.target.reach.places b.value.items

  abbrev targets : List ℕ
  targets = signal_targets b x

  abbrev step : Step
  step = wiring q.context w written accessors e b x

  -- the marks
  mark_told : (n : ℕ) (d : SignalEntry) → entry_at new n ≡ Some d → (i : ℕ)
      → slice_get d.written i ≡ Some true
      → ((o : SignalEntry) × (entry_at (signals_of b.target.part f.frame) n ≡ Some o)
      × (slice_get o.written i ≡ Some true)) ⊎ ((b.target.number ≡ n) × In i now_written)
  mark_told n d there i mark =
      at (put_marks b.target.number b.target.reach.places b.value.items _ n i
      (after.marks n d there refl i true mark))
    where
      at : (is_some (marks_at (entry_at (signals_of b.target.part f.frame) n) i) ≡ true)
          ⊎ ((b.target.number ≡ n) × In i now_written)
          → ((o : SignalEntry) × (entry_at (signals_of b.target.part f.frame) n ≡ Some o)
          × (slice_get o.written i ≡ Some true)) ⊎ ((b.target.number ≡ n) × In i now_written)
      at (inl g) = inl (mark_there (entry_at (signals_of b.target.part f.frame) n) i g)
      at (inr g) = inr g

  -- the cell of an element that is written is a target
  target_cell : (wires : Wires) → ports_of b.target.part x ≡ wires → (n i c : ℕ)
      → b.target.number ≡ n → wires n i ≡ Some c → In i now_written → In c targets
  target_cell wires same n i c number own h =
      subst (λ (d : ℕ). In d targets)
      (ap (λ (v : Wires). unwrap_or (v b.target.number i) 0) same
      ∙ ap (λ (m : ℕ). unwrap_or (wires m i) 0) number ∙ ap (λ o. unwrap_or o 0) own)
      (in_map (wire_cell (ports_of b.target.part x) b.target.number) i now_written h)

  exact_new : Entries IsExact (signals_of b.target.part f.frame) → Entries IsExact new
  exact_new h =
      subst (Entries IsExact) after.wrote.now
      (good_is (λ u. Entries IsExact (signals_of b.target.part u.frame))
      (result q.context w a cost f b like is) s wrote
      (good_next (λ u. Entries IsExact (signals_of b.target.part u.frame))
      (λ u. Entries IsExact (signals_of b.target.part u.frame)) (write_signal q.context w a b) _
      (elements_keep IsExact exact_marks q.context w b.target a b.target.reach.places
      b.value.items b.state (subst (Entries IsExact) (sym (same_signals b.target.part)) h))
      (λ t g. wired_keeps IsExact exact_marks q.context w b.target cost b.target.reach.places t
      g)))
    where
      same_signals : (part : Option ℕ) → signals_of part b.state.frame ≡ signals_of part f.frame
      same_signals None = like.1
      same_signals (Some j) =
          ap (λ (ps : List Part). part_signals (slice_get ps j)) like.3

  same_sizes : s.world.sizes ≡ f.world.sizes
  same_sizes = ap (λ (t : State). t.world.sizes) after.wrote.is

  covers : (m : ℕ) → cover_entries m new
      ≡ cover_entries m (signals_of b.target.part f.frame)
  covers m =
      sym (same_cover m (signals_of b.target.part f.frame) new after.wrote.shapes
      after.wrote.shapes_back)

  abbrev steps_of : Option ℕ → List Step
  steps_of part =
      (step ∷ freed_at part (is_fed (signals_of part f.frame)) (with_state s x)) ++ []

  abbrev made : Option ℕ → Emitted
  made part = record { state = with_state s x; steps = steps_of part }

  -- given cells stay given
  given_new : (old : Signals) (wires : Wires) → signals_of b.target.part f.frame ≡ old → (c : ℕ)
      → Given old wires c → Given new wires c
  given_new old wires same c (n, o, there, input, i, less, own) =
      let its : (d : SignalEntry) × (entry_at new n ≡ Some d) × SameEntry o d =
      after.wrote.shapes n o (ap (λ xs. entry_at xs n) same ∙ there) in (
        n,
        its.0,
        its.1,
        ap is_input (sym its.2.0) ∙ input,
        i,
        subst (λ (m : ℕ). i < m) its.2.2 less,
        own,
      )

  module _ (first : Sizes) (before : List ℕ) (holds : Holds size first before x)
      (less : Less s.world.sizes final) where
    reads_there : AllByRecursion (λ c. GivenOf x c ⊎ In c before) step.reads
    reads_there =
        step_reads size first before x holds roomy
        (signal_cost q.context w written accessors e f).reads
        (told first before x holds roomy (still_itself f))
      where
        roomy : Roomy size (sizes_of x)
        roomy =
            roomy_less size (sizes_of x) final (subst (λ z. Less z final) same_sizes less) room

    given_reads : (G : ℕ → Type 0) → ((c : ℕ) → GivenOf x c → G c) → (cs : List ℕ)
        → AllByRecursion (λ c. GivenOf x c ⊎ In c before) cs
        → AllByRecursion (λ c. G c ⊎ In c before) cs
    given_reads G g [] h = tt
    given_reads G g (c ∷ cs) h = (at h.0, given_reads G g cs h.1)
      where
        at : GivenOf x c ⊎ In c before → G c ⊎ In c before
        at (inl i) = inl (g c i)
        at (inr i) = inr i

    -- own signals
    module _ (same : b.target.part ≡ None) where
      own : s.frame.signals ≡ new
      own = ap (λ o. signals_of o s.frame) (sym same) ∙ after.wrote.now

      old : signals_of b.target.part f.frame ≡ f.frame.signals
      old = ap (λ o. signals_of o f.frame) same

      parts : s.frame.parts ≡ f.frame.parts
      parts =
          ap (λ (t : State). t.frame.parts) after.wrote.is
          ∙ ap (λ (o : Option ℕ). (with_signals o new f.frame).parts) same

      abbrev all : List ℕ
      all = before ++ (targets ++ [])

      old_in : (c : ℕ) → In c before → In c all
      old_in c i = in_left c before (targets ++ []) i

      new_in : (c : ℕ) → In c targets → In c all
      new_in c i = in_right c before (targets ++ []) (in_left c targets [] i)

      owned : (n : ℕ) (d : SignalEntry) → entry_at new n ≡ Some d → (i : ℕ)
          → i < length d.written → (c : ℕ) × (x.cells.own n i ≡ Some c)
          × (slice_get d.written i ≡ Some true → is_input d.direction ≡ false → In c all)
      owned n d there i inside =
          let back : (o : SignalEntry)
          × (entry_at (signals_of b.target.part f.frame) n ≡ Some o) × SameEntry d o =
          after.wrote.shapes_back n d there in
          let in_old : entry_at f.frame.signals n ≡ Some back.0 =
          ap (λ xs. entry_at xs n) (sym old) ∙ back.1 in
          let its : (c : ℕ) × (x.cells.own n i ≡ Some c)
          × (slice_get back.0.written i ≡ Some true → is_input back.0.direction ≡ false
          → In c before) =
          holds.owned n back.0 in_old i (subst (λ (m : ℕ). i < m) back.2.2 inside) in (
            its.0,
            its.1,
            (λ mark input. at its.0 its.1 in_old
                (λ g. its.2 g (ap is_input (sym back.2.0) ∙ input)) (mark_told n d there i mark)),
          )
        where
          at : (c : ℕ) → x.cells.own n i ≡ Some c → {d : SignalEntry}
              → entry_at f.frame.signals n ≡ Some d
              → (slice_get d.written i ≡ Some true → In c before)
              → ((o : SignalEntry) × (entry_at (signals_of b.target.part f.frame) n ≡ Some o)
              × (slice_get o.written i ≡ Some true))
              ⊎ ((b.target.number ≡ n) × In i now_written) → In c all
          at c cell {d} in_old go (inl (o, there, mark)) =
              let both : Some o ≡ Some d =
              sym there ∙ ap (λ xs. entry_at xs n) old ∙ in_old in
              let one : o ≡ d = cc in
              old_in c (go (subst (λ (z : SignalEntry). slice_get z.written i ≡ Some true) one
              mark))
          at c cell in_old go (inr (number, h)) =
              new_in c (target_cell x.cells.own (ap (λ o. ports_of o x) same) n i c number cell h)

      own_holds : Holds size first all (with_state s x)
      own_holds =
          subst (λ z. Holding size first all s.frame.signals s.frame.parts z x.cells.own
          x.cells.parts x.sources x.bodies) (sym same_sizes)
          (subst (λ ps. Holding size first all s.frame.signals ps f.world.sizes x.cells.own
          x.cells.parts x.sources x.bodies) (sym parts)
          (subst (λ xs. Holding size first all xs f.frame.parts f.world.sizes x.cells.own
          x.cells.parts x.sources x.bodies) (sym own)
          record {
            sourced = λ n i c g. old_in c (holds.sourced n i c g);
            exact = exact_new (subst (Entries IsExact) (sym old) holds.exact);
            owned = owned;
            part = (holding_more size first before all _ _ _ _ _ _ _ old_in holds).part;
            runs_count = holds.runs_count;
            bodies_count = holds.bodies_count;
            covered = λ m.
                ap (λ (n : ℕ). n + (cover_tables m (port_tables f.frame.parts x.cells.parts)
                + under size first m))
                (covers m ∙ ap (cover_entries m) old) ∙ holds.covered m;
          }))

      own_given : (c : ℕ) → GivenOf x c → GivenOf (with_state s x) c
      own_given c g =
          subst (λ xs. Given xs x.cells.own c) (sym own)
          (given_new f.frame.signals x.cells.own old c g)

      own_moved : Moved size first before x (made b.target.part)
      own_moved =
          subst (λ o. Moved size first before x (made o)) (sym same) record {
            behind = (
              given_reads (GivenOf (with_state s x)) own_given step.reads reads_there,
              tt,
            );
            holds = own_holds;
            given = own_given;
          }

    -- inputs of a component
    module _ (j : ℕ) (same : b.target.part ≡ Some j) (p : Part)
        (hp : slice_get f.frame.parts j ≡ Some p) where
      part_old : signals_of b.target.part f.frame ≡ p.signals
      part_old = ap (λ o. signals_of o f.frame) same ∙ ap part_signals hp

      kept_own : s.frame.signals ≡ f.frame.signals
      kept_own =
          ap (λ (t : State). t.frame.signals) after.wrote.is
          ∙ ap (λ (o : Option ℕ). (with_signals o new f.frame).signals) same
          ∙ kept (slice_get f.frame.parts j)
        where
          kept : (o : Option Part)
              → (with_part_signals j new o f.frame).signals ≡ f.frame.signals
          kept None = refl
          kept (Some z) = refl

      abbrev new_part : Part
      new_part = record p { signals = new }

      set_parts : s.frame.parts ≡ slice_set f.frame.parts j new_part
      set_parts =
          ap (λ (t : State). t.frame.parts) after.wrote.is
          ∙ ap (λ (o : Option ℕ). (with_signals o new f.frame).parts) same
          ∙ ap (λ (o : Option Part). (with_part_signals j new o f.frame).parts) hp

      its : (r : RunPart) × (slice_get x.cells.parts j ≡ Some r) × (steps : List Step)
          × (slice_get x.bodies j ≡ Some steps) × PartHolds before p r steps
      its = holds.part j p hp

      abbrev freed_now : List Step
      freed_now = cond (not (is_fed p.signals) && is_fed new) its.2 []

      freed_are : freed_at (Some j) (is_fed (signals_of (Some j) f.frame)) (with_state s x)
          ≡ freed_now
      freed_are =
          ap (λ o. freed_at (Some j) (is_fed (part_signals o)) (with_state s x)) hp
          ∙ ap (λ o. freed j (is_fed p.signals) o (with_state s x))
          (ap (λ (ps : List Part). slice_get ps j) set_parts
          ∙ get_set f.frame.parts j p new_part hp)
          ∙ ap (λ o. cond (not (is_fed p.signals) && is_fed new) (steps_in o) []) its.3

      abbrev part_all : List ℕ
      part_all = before ++ (targets ++ targets_of freed_now)

      part_old_in : (c : ℕ) → In c before → In c part_all
      part_old_in c i = in_left c before (targets ++ targets_of freed_now) i

      -- inputs that are written
      input_in : (n : ℕ) (d : SignalEntry) → entry_at new n ≡ Some d → (i c : ℕ)
          → i < length d.written → its.0.ports n i ≡ Some c → is_input d.direction ≡ true
          → slice_get d.written i ≡ Some true → In c (before ++ targets)
      input_in n d there i c inside cell input mark =
          let back : (o : SignalEntry)
          × (entry_at (signals_of b.target.part f.frame) n ≡ Some o) × SameEntry d o =
          after.wrote.shapes_back n d there in
          let in_old : entry_at p.signals n ≡ Some back.0 =
          ap (λ xs. entry_at xs n) (sym part_old) ∙ back.1 in
          let port : (c : ℕ) × (its.0.ports n i ≡ Some c)
          × (is_input back.0.direction ≡ true → slice_get back.0.written i ≡ Some true
          → In c before)
          × (is_input back.0.direction ≡ false → is_fed p.signals ≡ true → In c before)
          × (is_input back.0.direction ≡ false → In c (targets_of its.2)) =
          its.4.ports n back.0 in_old i (subst (λ (m : ℕ). i < m) back.2.2 inside) in
          let both : Some port.0 ≡ Some c = sym port.1 ∙ cell in
          let one : port.0 ≡ c = cc in
          at back.0 in_old
          (λ g. subst (λ (z : ℕ). In z before) one
          (port.2 (ap is_input (sym back.2.0) ∙ input) g)) (mark_told n d there i mark)
        where
          at : (d : SignalEntry) → entry_at p.signals n ≡ Some d
              → (slice_get d.written i ≡ Some true → In c before)
              → ((o : SignalEntry) × (entry_at (signals_of b.target.part f.frame) n ≡ Some o)
              × (slice_get o.written i ≡ Some true))
              ⊎ ((b.target.number ≡ n) × In i now_written) → In c (before ++ targets)
          at d in_old go (inl (o, at_n, marked_so)) =
              let both : Some o ≡ Some d =
              sym at_n ∙ ap (λ xs. entry_at xs n) part_old ∙ in_old in
              let one : o ≡ d = cc in
              in_left c before targets
              (go (subst (λ (z : SignalEntry). slice_get z.written i ≡ Some true) one marked_so))
          at d in_old go (inr (number, h)) =
              in_right c before targets (target_cell its.0.ports
              (ap (λ o. ports_of o x) same ∙ ap part_ports its.1) n i c number cell h)

      to_all : (c : ℕ) → In c (before ++ targets) → In c part_all
      to_all c i = at (in_either c before targets i)
        where
          at : In c before ⊎ In c targets → In c part_all
          at (inl g) = part_old_in c g
          at (inr g) =
              in_right c before (targets ++ targets_of freed_now)
              (in_left c targets (targets_of freed_now) g)

      part_now : PartHolds part_all new_part its.0 its.2
      part_now = record {
        exact = exact_new (subst (Entries IsExact) (sym part_old) its.4.exact);
        ports = ports;
        body = behind_weaker (Given p.signals its.0.ports) (Given new its.0.ports) [] [] its.2 given
            its.4.body;
      }
        where
          given : (c : ℕ) → Given p.signals its.0.ports c ⊎ In c []
              → Given new its.0.ports c ⊎ In c []
          given c (inl g) = inl (given_new p.signals its.0.ports part_old c g)
          given c (inr i) = inr i

          freed_in : (c : ℕ) → In c (targets_of its.2) → is_fed new ≡ true
              → (is_fed p.signals ≡ true → In c before) → In c part_all
          freed_in c body now was = by (is_fed p.signals) refl
            where
              by : (z : Bool) → is_fed p.signals ≡ z → In c part_all
              by true fed = part_old_in c (was fed)
              by false fed =
                  in_right c before (targets ++ targets_of freed_now)
                  (in_right c targets (targets_of freed_now)
                  (subst (λ (ss : List Step). In c (targets_of ss))
                  (sym (ap (λ (z : Bool). cond (not z && is_fed new) its.2 []) fed
                  ∙ ap (λ (z : Bool). cond z its.2 []) now)) body))

          ports : (n : ℕ) (d : SignalEntry) → entry_at new n ≡ Some d → (i : ℕ)
              → i < length d.written → (c : ℕ) × (its.0.ports n i ≡ Some c)
              × (is_input d.direction ≡ true → slice_get d.written i ≡ Some true
              → In c part_all)
              × (is_input d.direction ≡ false → is_fed new ≡ true → In c part_all)
              × (is_input d.direction ≡ false → In c (targets_of its.2))
          ports n d there i inside =
              let back : (o : SignalEntry)
              × (entry_at (signals_of b.target.part f.frame) n ≡ Some o) × SameEntry d o =
              after.wrote.shapes_back n d there in
              let in_old : entry_at p.signals n ≡ Some back.0 =
              ap (λ xs. entry_at xs n) (sym part_old) ∙ back.1 in
              let port : (c : ℕ) × (its.0.ports n i ≡ Some c)
              × (is_input back.0.direction ≡ true → slice_get back.0.written i ≡ Some true
              → In c before)
              × (is_input back.0.direction ≡ false → is_fed p.signals ≡ true → In c before)
              × (is_input back.0.direction ≡ false → In c (targets_of its.2)) =
              its.4.ports n back.0 in_old i (subst (λ (m : ℕ). i < m) back.2.2 inside) in (
                port.0,
                port.1,
                (λ input mark. to_all port.0
                    (input_in n d there i port.0 inside port.1 input mark)),
                (λ input now. freed_in port.0 (port.4 (ap is_input (sym back.2.0) ∙ input)) now
                    (port.3 (ap is_input (sym back.2.0) ∙ input))),
                (λ input. port.4 (ap is_input (sym back.2.0) ∙ input)),
              )

      part_at_i : (i : ℕ) (z : Part) → slice_get (slice_set f.frame.parts j new_part) i ≡ Some z
          → (r : RunPart) × (slice_get x.cells.parts i ≡ Some r) × (steps : List Step)
          × (slice_get x.bodies i ≡ Some steps) × PartHolds part_all z r steps
      part_at_i i z there = by (same_or_not j i)
        where
          by : (j ≡ i) ⊎ (j ≢ i)
              → (r : RunPart) × (slice_get x.cells.parts i ≡ Some r) × (steps : List Step)
              × (slice_get x.bodies i ≡ Some steps) × PartHolds part_all z r steps
          by (inl number) =
              let both : Some new_part ≡ Some z =
              sym (get_set f.frame.parts j p new_part hp)
              ∙ ap (λ (m : ℕ). slice_get (slice_set f.frame.parts j new_part) m) number ∙ there in
              let one : new_part ≡ z = cc in (
                its.0,
                ap (λ (m : ℕ). slice_get x.cells.parts m) (sym number) ∙ its.1,
                its.2,
                ap (λ (m : ℕ). slice_get x.bodies m) (sym number) ∙ its.3,
                subst (λ (y : Part). PartHolds part_all y its.0 its.2) one part_now,
              )
          by (inr ne) =
              let other : (r : RunPart) × (slice_get x.cells.parts i ≡ Some r)
              × (steps : List Step) × (slice_get x.bodies i ≡ Some steps)
              × PartHolds before z r steps =
              holds.part i z (sym (get_other f.frame.parts j i new_part ne) ∙ there) in (
                other.0,
                other.1,
                other.2,
                other.3,
                part_more before part_all z other.0 other.2 part_old_in other.4,
              )

      part_holds : Holds size first part_all (with_state s x)
      part_holds =
          subst (λ z. Holding size first part_all s.frame.signals s.frame.parts z x.cells.own
          x.cells.parts x.sources x.bodies) (sym same_sizes)
          (subst (λ ps. Holding size first part_all s.frame.signals ps f.world.sizes x.cells.own
          x.cells.parts x.sources x.bodies) (sym set_parts)
          (subst (λ xs. Holding size first part_all xs (slice_set f.frame.parts j new_part)
          f.world.sizes x.cells.own x.cells.parts x.sources x.bodies) (sym kept_own)
          record {
            sourced = λ n i c g. part_old_in c (holds.sourced n i c g);
            exact = holds.exact;
            owned = (holding_more size first before part_all _ _ _ _ _ _ _ part_old_in
                holds).owned;
            part = part_at_i;
            runs_count = holds.runs_count ∙ sym (set_count f.frame.parts j new_part);
            bodies_count = holds.bodies_count ∙ sym (set_count f.frame.parts j new_part);
            covered = λ m.
                ap (λ (n : ℕ). cover_entries m f.frame.signals + (n + under size first m))
                (cover_set m f.frame.parts x.cells.parts j p new hp
                (covers m ∙ ap (cover_entries m) part_old)) ∙ holds.covered m;
          }))

      part_given : (c : ℕ) → GivenOf x c → GivenOf (with_state s x) c
      part_given c g = subst (λ xs. Given xs x.cells.own c) (sym kept_own) g

      freed_behind : Behind (GivenOf (with_state s x)) (before ++ targets) freed_now
      freed_behind = by (is_fed p.signals) (is_fed new) refl
        where
          by : (z y : Bool) → is_fed new ≡ y
              → Behind (GivenOf (with_state s x)) (before ++ targets) (cond (not z && y) its.2 [])
          by true true fed = tt
          by true false fed = tt
          by false false fed = tt
          by false true fed =
              fed_behind (GivenOf (with_state s x)) (before ++ targets) new its.0.ports its.2
              input_in fed part_now.body

      part_moved : Moved size first before x (made b.target.part)
      part_moved =
          subst (λ o. Moved size first before x (made o)) (sym same)
          (subst (λ (ss : List Step). Moved size first before x
          record { state = with_state s x; steps = ss })
          (sym (append-nil (step ∷ freed_at (Some j) (is_fed (signals_of (Some j) f.frame))
          (with_state s x)) ∙ ap (λ (ss : List Step). step ∷ ss) freed_are)) record {
            behind = (
              given_reads (GivenOf (with_state s x)) part_given step.reads reads_there,
              freed_behind,
            );
            holds = part_holds;
            given = part_given;
          })

    moved : Moved size first before x (made b.target.part)
    moved = by b.target.part refl
      where
        with_part : (j : ℕ) → b.target.part ≡ Some j → (o : Option Part)
            → slice_get f.frame.parts j ≡ o → Moved size first before x (made b.target.part)
        with_part j same None hp =
            let none : signals_of b.target.part f.frame ≡ [] =
            ap (λ o. signals_of o f.frame) same ∙ ap part_signals hp in
            let no : entry_at [] b.target.number ≡ Some is.entry =
            ap (λ xs. entry_at xs b.target.number) (sym none) ∙ is.there in cc
        with_part j same (Some p) hp = part_moved j same p hp

        by : (part : Option ℕ) → b.target.part ≡ part
            → Moved size first before x (made b.target.part)
        by None same = own_moved same
        by (Some j) same = with_part j same (slice_get f.frame.parts j) refl

  pub wired_moves : Moves size final x (made b.target.part)
  wired_moves fits = (
    subst (λ z. Fits z × Less (sizes_of x) z) (sym same_sizes) (fits, less_itself (sizes_of x)),
    (λ less first before holds. moved first before holds less),
  )

module _ (size : ℕ) (final : Sizes) (room : Roomy size final) (q : Emitting)
    (twice : CallBoth q.context.call) (keeps : CallKeeps q.context.call) where
  pub wired_leaf : (w : Where) (written : Assign Meant) (m : Meant) (accessors : Accessors Meant)
      (a : Arrow) (e : Expr Meant) (x : Emission) → IsWiredPlace m accessors
      → Good size final room q twice keeps x (emit_set_signal q w written m accessors a e x)
  wired_leaf w written m accessors a e x here =
      good_as (Leaf (Moves size final) x) (signal_assignment q.context w m accessors e (known_in x))
      _ (λ b eb.
      good_as (Leaf (Moves size final) x)
      (set_signal q.context w written m accessors a e (known_in x)) _ (λ s es.
      at b s eb es (its b eb) (result_is b s eb es) b.target.reach.places refl))
    where
      its : (b : SignalAssignment) → signal_assignment q.context w m accessors e (known_in x) ≡ Ok b
          → SignalLike q.context keeps (known_in x) w b
      its b eb =
          good_is (SignalLike q.context keeps (known_in x) w)
          (signal_assignment q.context w m accessors e (known_in x)) b eb
          (assignment_target q.context keeps (known_in x) w m accessors e (known_in x)
          (like_itself (known_in x)))

      result_is : (b : SignalAssignment) (s : State)
          → signal_assignment q.context w m accessors e (known_in x) ≡ Ok b
          → set_signal q.context w written m accessors a e (known_in x) ≡ Ok s
          → next (write_signal q.context w a b) (wired q.context w
          (signal_cost q.context w written accessors e (known_in x))
          b.target.reach.places)
          ≡ Ok s
      result_is b s eb es =
          sym (ap (λ n. next n (λ c. next (write_signal q.context w a c)
          (wired q.context w (signal_cost q.context w written accessors e (known_in x))
          c.target.reach.places))) eb) ∙ es

      at : (b : SignalAssignment) (s : State)
          → signal_assignment q.context w m accessors e (known_in x) ≡ Ok b
          → set_signal q.context w written m accessors a e (known_in x) ≡ Ok s
          → SignalLike q.context keeps (known_in x) w b
          → next (write_signal q.context w a b) (wired q.context w
          (signal_cost q.context w written accessors e (known_in x))
          b.target.reach.places)
          ≡ Ok s → (places : List ℕ) → b.target.reach.places ≡ places
          → Good size final room q twice keeps x (make_wiring q w written accessors e b s places x)
      at b s eb es is wrote [] same =
          let stays : Ok b.state ≡ Ok s =
          sym (ap (λ ps. next (write_elements q.context w a b.target ps b.value.items b.state)
          (wired q.context w (signal_cost q.context w written accessors e (known_in x)) ps)) same)
          ∙ wrote in
          let is_s : b.state ≡ s = cc in
          let rests : Still (known_in x) s =
          subst (Still (known_in x)) is_s
          (still_like (known_in x) (known_in x) b.state (still_itself (known_in x)) is.0) in
          good_ok (Leaf (Moves size final) x) _
          (moves_still size final x s rests, stays_clear (known_in x) s rests)
      at b s eb es is wrote (place ∷ places) same =
          good_ok (Leaf (Moves size final) x) _ (
            wired_moves size final room q twice keeps w written accessors e x b s a
                (signal_cost q.context w written accessors e (known_in x)) is.0 is.1
                wrote (signal_told size final room q.context twice keeps w (known_in x) m accessors
                e b here eb),
            good_is (StaysClear (known_in x))
                (set_signal q.context w written m accessors a e (known_in x)) s es
                (set_signal_written StaysClear written_clear q.context w keeps written m accessors a
                e (known_in x)),
          )
