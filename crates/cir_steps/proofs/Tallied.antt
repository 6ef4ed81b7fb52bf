-- All cells and steps that are made are counted, with those that wait for a component's inputs.
use Rattle.std.proofs.Common.{◌≡◌, ℕ, zero, suc, ◌+◌, ◌≤◌, Bool, true, false, cond, not, List, []}
use Rattle.std.proofs.Common.{◌∷◌, ◌++◌, length, Option, Some, None, Ok, Err, refl, sym, ap, subst}
use Rattle.std.proofs.Common.{◌∙◌, slice_get, slice_set, length-append, arith}
use Rattle.std.specs.Prelude.{◌&&◌, ◌-◌, replicate}
use Rattle.std.specs.List.{AllByRecursion}
use Rattle.std.proofs.lemmas.List.{append-nil}
use Rattle.cir_ast.specs.declared.program.Spot.{Spot}
use Rattle.cir_ast.specs.declared.program.Meant.{Meant}
use Rattle.cir_ast.specs.declared.operators.Arrow.{Arrow}
use Rattle.cir_ast.specs.declared.operators.Direction.{Direction}
use Rattle.cir_ast.specs.Program.{Template}
use Rattle.cir_ast.specs.Tree.{Expr, Accessors, Assign}
use Rattle.cir_meaning.specs.Tried.{Where, Tried, next}
use Rattle.cir_meaning.specs.Places.{elements}
use Rattle.cir_meaning.specs.Limits.{Counts, standing, is_too_large}
use Rattle.cir_meaning.specs.Arrays.{Datum, single}
use Rattle.cir_meaning.specs.Values.{Known}
use Rattle.cir_meaning.specs.Frame.{Signals, Part, World, State, Context, is_fed, entry_at}
use Rattle.cir_meaning.specs.Writing.{SignalAssignment, signal_assignment, write_signal}
use Rattle.cir_meaning.specs.Writing.{write_elements, part_signals, signals_of}
use Rattle.cir_meaning.specs.Declaring.{Creation, declare_signal, opened}
use Rattle.cir_meaning.specs.Costs.{Cost}
use Rattle.cir_meaning.specs.Steps.{signal_cost}
use Rattle.cir_meaning.specs.Simple.{set_signal, wired}
use Rattle.cir_meaning.specs.Bodies.{ended, all_written, all_fed}
use Rattle.cir_meaning.specs.RunBodies.{port_tables}
use Rattle.cir_meaning.proofs.Good.{good_is}
use Rattle.cir_meaning.proofs.Likes.{like_itself}
use Rattle.cir_meaning.proofs.Rows.{all_append, all_replicate}
use Rattle.cir_meaning.proofs.Creating.{one_longer}
use Rattle.cir_meaning.proofs.PartWrites.{set_count}
use Rattle.cir_meaning.proofs.SignalTargets.{SignalLike, assignment_target}
use Rattle.cir_meaning.proofs.ValueKeepings.{signal_assignment_kept}
use Rattle.cir_steps.specs.Step.{Step}
use Rattle.cir_steps.specs.Emission.{Emission, Emitted, known_in, with_state, made_elements}
use Rattle.cir_steps.specs.Emission.{with_signal}
use Rattle.cir_steps.specs.Making.{Cast, Emitting, wiring, freed_at}
use Rattle.cir_steps.specs.Emit.{make_wiring}
use Rattle.cir_steps.specs.Statements.{emit_begun}
use Rattle.cir_steps.proofs.Sized.{IsSized, single_sized}
use Rattle.cir_steps.proofs.Rising.{AreSized, cells_counted, steps_counted, Grows, Rises, Calls}
use Rattle.cir_steps.proofs.Rising.{rises_itself, signal_grows, value_grows, Wires}
use Rattle.cir_steps.proofs.Rising.{write_signal_grows}
use Rattle.cir_steps.proofs.Emptied.{IsEmptied}
use Rattle.cir_steps.proofs.Still.{Still, still_itself, still_like}
use Rattle.cir_steps.proofs.Moving.{Moves}
use Rattle.cir_steps.proofs.Following.{Keeps, still_at}
use Rattle.cir_steps.proofs.Walk.{IsFresh, one_step}
use Rattle.cir_steps.proofs.Casting.{Bodies, cast_made}
use Rattle.cir_steps.proofs.Wiring.{wired_to, own_parts, part_parts, freed_steps, partner, wrote}
use Rattle.cir_steps.proofs.OnceBodies.{created_steps}

-- steps that wait
abbrev pub waiting_count : List Part → List (List Step) → ℕ
waiting_count [] bs = 0
waiting_count (p ∷ ps) [] = 0
waiting_count (p ∷ ps) (b ∷ bs) = cond (is_fed p.signals) 0 (length b) + waiting_count ps bs

waiting_more : (ps : List Part) (bs : List (List Step)) (p : Part) (b : List Step)
    → length ps ≡ length bs
    → waiting_count (ps ++ p ∷ []) (bs ++ b ∷ [])
    ≡ waiting_count ps bs + cond (is_fed p.signals) 0 (length b)
waiting_more [] [] p b h = omega arith
waiting_more [] (y ∷ bs) p b h = cc
waiting_more (x ∷ ps) [] p b h = cc
waiting_more (x ∷ ps) (y ∷ bs) p b h =
    let rest : waiting_count (ps ++ p ∷ []) (bs ++ b ∷ [])
    ≡ waiting_count ps bs + cond (is_fed p.signals) 0 (length b) =
    waiting_more ps bs p b (let same : suc (length ps) ≡ suc (length bs) = h in omega arith) in
    omega arith

freed_count : (was now : Bool) (steps : List Step) → (was ≡ true → now ≡ true)
    → length (cond (not was && now) steps []) + cond now 0 (length steps)
    ≡ cond was 0 (length steps)
freed_count true true steps h = omega arith
freed_count true false steps h = let no : false ≡ true = h refl in cc
freed_count false true steps h = omega arith
freed_count false false steps h = omega arith

waiting_set : (j : ℕ) (p q : Part) (steps : List Step) (ps : List Part) (bs : List (List Step))
    → slice_get ps j ≡ Some p → slice_get bs j ≡ Some steps
    → (is_fed p.signals ≡ true → is_fed q.signals ≡ true)
    → length (cond (not (is_fed p.signals) && is_fed q.signals) steps [])
    + waiting_count (slice_set ps j q) bs ≡ waiting_count ps bs
waiting_set j p q steps [] bs hp hb h = cc
waiting_set j p q steps (x ∷ ps) [] hp hb h = cc
waiting_set zero p q steps (x ∷ ps) (y ∷ bs) hp hb h =
    let same_p : p ≡ x = cc in
    let same_b : steps ≡ y = cc in
    let freed : length (cond (not (is_fed p.signals) && is_fed q.signals) steps [])
    + cond (is_fed q.signals) 0 (length steps) ≡ cond (is_fed p.signals) 0 (length steps) =
    freed_count (is_fed p.signals) (is_fed q.signals) steps h in
    let new : cond (is_fed q.signals) 0 (length steps) ≡ cond (is_fed q.signals) 0 (length y) =
    ap (λ (b : List Step). cond (is_fed q.signals) 0 (length b)) same_b in
    let old : cond (is_fed p.signals) 0 (length steps) ≡ cond (is_fed x.signals) 0 (length y) =
    ap (λ (b : List Step). cond (is_fed p.signals) 0 (length b)) same_b
    ∙ ap (λ (a : Part). cond (is_fed a.signals) 0 (length y)) same_p in
    omega arith
waiting_set (suc j) p q steps (x ∷ ps) (y ∷ bs) hp hb h =
    let rest : length (cond (not (is_fed p.signals) && is_fed q.signals) steps [])
    + waiting_count (slice_set ps j q) bs ≡ waiting_count ps bs =
    waiting_set j p q steps ps bs hp hb h in
    omega arith

-- so many cells and steps are counted elsewhere, and so many steps are made already
abbrev pub waiting_in : Emission → ℕ
waiting_in x = waiting_count (known_in x).frame.parts x.bodies

pub record Tallied (c s made : ℕ) (x : Emission) : Type 0 where
  pub sized : AreSized (known_in x)
  pub cells : standing x.next ≤ standing (c + cells_counted (known_in x))
  pub steps : standing (made + waiting_in x) ≤ standing (s + steps_counted (known_in x))
  pub bodies : length (known_in x).frame.parts ≡ length x.bodies

abbrev pub Tallies : Emission → Emitted → Type 0
Tallies x y =
    (c s made : ℕ) → Tallied c s made x → Tallied c s (made + length y.steps) y.state

-- what a body gives
abbrev pub GivesTally : (start : ℕ) → World → Signals × World → Cast → Type 0
GivesTally start world z o =
    (c s made : ℕ) → standing start ≤ standing (c + world.counts.cells)
    → standing made ≤ standing (s + world.counts.steps)
    → (standing o.next ≤ standing (c + z.1.counts.cells))
    × (standing (made + length o.steps) ≤ standing (s + z.1.counts.steps))

-- so much more in both
more : (x y low a b n : ℕ) → y ≡ x + n → standing x ≤ standing (low + a)
    → standing (a + n) ≤ standing b → standing y ≤ standing (low + b)
more x y low a b n is h g = omega arith

-- from one state to another, with so many new cells and steps
tally : (x : Emission) (y : Emitted) (cells steps : ℕ) → y.state.next ≡ x.next + cells
    → length y.steps + waiting_in y.state ≡ waiting_in x + steps
    → length (known_in y.state).frame.parts ≡ length y.state.bodies
    → (AreSized (known_in x) → Grows cells steps (known_in x) (known_in y.state))
    → (c s made : ℕ) → Tallied c s made x → Tallied c s (made + length y.steps) y.state
tally x y cells steps next waits bodies grown c s made h = record {
  sized = (grown h.sized).2 h.sized;
  cells = more x.next y.state.next c (cells_counted (known_in x)) (cells_counted (known_in y.state))
      cells next h.cells (grown h.sized).0;
  steps = more (made + waiting_in x) (made + length y.steps + waiting_in y.state) s
      (steps_counted (known_in x)) (steps_counted (known_in y.state)) steps
      (sum made (length y.steps) (waiting_in y.state) (waiting_in x) steps waits) h.steps
      (grown h.sized).1;
  bodies = bodies;
}
  where
    sum : (made a b w n : ℕ) → a + b ≡ w + n → made + a + b ≡ made + w + n
    sum made a b w n e = omega arith

still_waits : (x y : Emission) → Still (known_in x) (known_in y) → y.bodies ≡ x.bodies
    → waiting_in y ≡ waiting_in x
still_waits x y still bodies =
    ap (λ ps. waiting_count ps y.bodies) still.1
    ∙ ap (waiting_count (known_in x).frame.parts) bodies

still_tallies : (x : Emission) (s : State) → Moves (known_in x) s → Tallies x (still_at s x)
still_tallies x s m c t made h =
    tally x (still_at s x) 0 0 (omega arith)
    (let same : waiting_in (still_at s x).state ≡ waiting_in x =
    still_waits x (still_at s x).state m.0 refl in omega arith)
    (ap length m.0.1 ∙ h.bodies) (λ e. m.1) c t made h

fresh_tallies : (x y : Emission) (step : Step) → IsFresh x y step → Tallies x (one_step step y)
fresh_tallies x y step f c t made h =
    tally x (one_step step y) f.count 1 f.next
    (let same : waiting_in y ≡ waiting_in x = still_waits x y f.still f.bodies in omega arith)
    (ap length f.still.1 ∙ h.bodies ∙ sym (ap length f.bodies)) f.grown c t made h

pub tallies_keep : Keeps Tallies
tallies_keep = record {
  still = still_tallies;
  joins = λ x y z h g c t made i.
      subst (λ n. Tallied c t n z.state) (sum made y.steps z.steps)
      (g c t (made + length y.steps) (h c t made i));
}
  where
    sum : (made : ℕ) (a b : List Step) → made + length a + length b ≡ made + length (a ++ b)
    sum made a b =
        let all : length (a ++ b) ≡ length a + length b = length-append a b in omega arith

declared_tallies : (k : Context) (spot : Spot) (d : Direction) (n : ℕ) (name dims : List ℕ)
    (x : Emission) → Tallies x record {
      state = with_signal n (made_elements dims)
          (with_state (declare_signal k spot d n name dims (known_in x)) x);
      steps = [];
    }
declared_tallies k spot d n name dims x c t made h =
    tally x record {
      state = with_signal n (made_elements dims)
          (with_state (declare_signal k spot d n name dims (known_in x)) x);
      steps = [];
    } (made_elements dims) 0 refl none h.bodies (λ e. (
      fewer (cells_counted (known_in x)) (cells_counted (declare_signal k spot d n name dims
          (known_in x))) (elements dims) (made_elements dims) (made_few (is_too_large dims)) all.0,
      all.1,
      all.2,
    )) c t made h
  where
    none : 0 + waiting_in x ≡ waiting_in x + 0
    none = omega arith

    all : Grows (0 + elements dims) 0 (known_in x)
        (declare_signal k spot d n name dims (known_in x))
    all =
        signal_grows (known_in x) 0 0 k spot d n name dims (known_in x)
        (rises_itself (known_in x))

    made_few : (b : Bool) → cond b 0 (elements dims) ≤ elements dims
    made_few true = omega arith
    made_few false = omega arith

    fewer : (x y a b : ℕ) → b ≤ a → standing (x + (0 + a)) ≤ standing y
        → standing (x + b) ≤ standing y
    fewer x y a b l g = omega arith

-- a write of signals is a step, and those of a component follow that is fed by it
module _ (q : Emitting) (calls : Calls q.context.call) (w : Where) (written : Assign Meant)
    (m : Meant) (accessors : Accessors Meant) (a : Arrow) (e : Expr Meant) (x : Emission)
    (b : SignalAssignment) (s : State)
    (is : signal_assignment q.context w m accessors e (known_in x) ≡ Ok b)
    (made : set_signal q.context w written m accessors a e (known_in x) ≡ Ok s) where
  abbrev its : SignalLike q.context calls.keeps (known_in x) w b
  its =
      good_is (SignalLike q.context calls.keeps (known_in x) w)
      (signal_assignment q.context w m accessors e (known_in x)) b is
      (assignment_target q.context calls.keeps (known_in x) w m accessors e (known_in x)
      (like_itself (known_in x)))

  abbrev cost : Cost
  cost = signal_cost q.context w written accessors e (known_in x)

  abbrev writing : List ℕ → Tried State
  writing places =
      next (write_elements q.context w a b.target places b.value.items b.state)
      (wired q.context w cost places)

  done : writing b.target.reach.places ≡ Ok s
  done =
      sym (ap (λ n. next n (λ c. next (write_signal q.context w a c)
      (wired q.context w cost c.target.reach.places))) is) ∙ made

  behind : Rises (known_in x) b.state
  behind =
      good_is (λ c. Rises (known_in x) c.state)
      (signal_assignment q.context w m accessors e (known_in x)) b is
      (signal_assignment_kept q.context (Rises (known_in x))
      (value_grows (known_in x) 0 0 q.context calls false) w m accessors e (known_in x)
      (rises_itself (known_in x)))

  grown : Wires (known_in x) 0 0 b.target.reach.places s
  grown =
      good_is (Wires (known_in x) 0 0 b.target.reach.places) (writing b.target.reach.places) s done
      (write_signal_grows (known_in x) 0 0 q.context w a cost b behind)

  abbrev to : Emitted
  to = wired_to q w written accessors e x b s

  -- the write itself, and what it frees
  steps_to : length to.steps ≡ suc (length (freed_at b.target.part
      (is_fed (signals_of b.target.part (known_in x).frame)) (with_state s x)))
  steps_to =
      ap (λ (ss : List Step). length ss) (append-nil (wiring q.context w written accessors e b x
      ∷ freed_at b.target.part (is_fed (signals_of b.target.part (known_in x).frame))
      (with_state s x)))

  own_waits : b.target.part ≡ None → length to.steps + waiting_in to.state ≡ waiting_in x + 1
  own_waits same =
      let parts : waiting_in to.state ≡ waiting_in x =
      ap (λ ps. waiting_count ps x.bodies)
      (own_parts q w written accessors e x b s cost a its.0 its.1 done same) in
      let steps : length to.steps ≡ suc 0 =
      steps_to ∙ ap (λ o. suc (length (freed_at o
      (is_fed (signals_of o (known_in x).frame)) (with_state s x)))) same in
      omega arith

  module _ (j : ℕ) (same : b.target.part ≡ Some j) (p : Part)
      (hp : slice_get (known_in x).frame.parts j ≡ Some p)
      (bodies : length (known_in x).frame.parts ≡ length x.bodies) where
    abbrev after : Signals
    after = (wrote q w written accessors e x b s cost a its.0 its.1 done).wrote.signals

    set_parts : s.frame.parts
        ≡ slice_set (known_in x).frame.parts j (record p { signals = after })
    set_parts = part_parts q w written accessors e x b s cost a its.0 its.1 done j p same hp

    waits : (steps : List Step) × (slice_get x.bodies j ≡ Some steps)
    waits = partner (known_in x).frame.parts x.bodies j p bodies hp

    old : signals_of b.target.part (known_in x).frame ≡ p.signals
    old = ap (λ o. signals_of o (known_in x).frame) same ∙ ap part_signals hp

    fed : is_fed p.signals ≡ true → is_fed after ≡ true
    fed f =
        (wrote q w written accessors e x b s cost a its.0 its.1 done).wrote.fed
        (ap is_fed old ∙ f)

    part_waits : length to.steps + waiting_in to.state ≡ waiting_in x + 1
    part_waits =
        let freed : length to.steps
        ≡ suc (length (cond (not (is_fed p.signals) && is_fed after) waits.0 [])) =
        steps_to ∙ ap (λ o. suc (length (freed_at o
        (is_fed (signals_of o (known_in x).frame)) (with_state s x)))) same
        ∙ ap (λ o. suc (length (freed_at (Some j) (is_fed (part_signals o)) (with_state s x)))) hp
        ∙ ap (λ (ss : List Step). suc (length ss))
        (freed_steps x s j p waits.0 after hp waits.1 set_parts) in
        let parts : waiting_in to.state ≡ waiting_count (slice_set (known_in x).frame.parts j
        (record p { signals = after })) x.bodies =
        ap (λ ps. waiting_count ps x.bodies) set_parts in
        let sum : length (cond (not (is_fed p.signals) && is_fed after) waits.0 [])
        + waiting_count (slice_set (known_in x).frame.parts j (record p { signals = after }))
        x.bodies ≡ waiting_in x =
        waiting_set j p (record p { signals = after }) waits.0 (known_in x).frame.parts x.bodies hp
        waits.1 fed in
        omega arith

    part_count : length s.frame.parts ≡ length x.bodies
    part_count = ap length set_parts ∙ set_count (known_in x).frame.parts j _ ∙ bodies

  to_tallies : Grows (0 + 0) (0 + 1) (known_in x) s → Tallies x to
  to_tallies g c t count h =
      let sums : (length to.steps + waiting_in to.state ≡ waiting_in x + 1)
      × (length s.frame.parts ≡ length x.bodies) = by_part b.target.part refl in
      tally x to 0 1 (omega arith) sums.0 sums.1 (λ sized. g) c t count h
    where
      by_part : (part : Option ℕ) → b.target.part ≡ part
          → (length to.steps + waiting_in to.state ≡ waiting_in x + 1)
          × (length s.frame.parts ≡ length x.bodies)
      by_part None same = (
        own_waits same,
        ap length (own_parts q w written accessors e x b s cost a its.0 its.1 done same)
            ∙ h.bodies,
      )
      by_part (Some j) same = at (slice_get (known_in x).frame.parts j) refl
        where
          at : (o : Option Part) → slice_get (known_in x).frame.parts j ≡ o
              → (length to.steps + waiting_in to.state ≡ waiting_in x + 1)
              × (length s.frame.parts ≡ length x.bodies)
          at None hp =
              let none : signals_of b.target.part (known_in x).frame ≡ [] =
              ap (λ o. signals_of o (known_in x).frame) same ∙ ap part_signals hp in
              let no : entry_at [] b.target.number ≡ Some its.1.entry =
              ap (λ xs. entry_at xs b.target.number) (sym none) ∙ its.1.there in cc
          at (Some p) hp = (part_waits j same p hp h.bodies, part_count j same p hp h.bodies)

  pub wiring_tallies : (y : Emitted)
      → make_wiring q w written accessors e b s b.target.reach.places x ≡ Ok y → Tallies x y
  wiring_tallies y emitted = at b.target.reach.places refl emitted
    where
      at : (places : List ℕ) → b.target.reach.places ≡ places
          → make_wiring q w written accessors e b s places x ≡ Ok y → Tallies x y
      at [] same out =
          let stays : Ok b.state ≡ Ok s = sym (ap writing same) ∙ done in
          let is_s : b.state ≡ s = cc in
          let is_y : still_at s x ≡ y = cc in
          subst (Tallies x) is_y (still_tallies x s (
            subst (Still (known_in x)) is_s
                (still_like (known_in x) (known_in x) b.state (still_itself (known_in x)) its.0),
            subst (λ places. Wires (known_in x) 0 0 places s) same grown,
          ))
      at (place ∷ places) same out =
          let is_y : to ≡ y = cc in
          subst (Tallies x) is_y
          (to_tallies (subst (λ places. Wires (known_in x) 0 0 places s) same grown))

-- a component's cells are counted, and its steps wait or are made
creating_tallies : (q : Emitting) (w : Where) (d : Creation) (place : ℕ) (a : Signals × World)
    (o : Cast) (x : Emission) → Moves (known_in x) d.state → GivesTally x.next d.state.world a o
    → Tallies x (cast_made q w d place a o x)
creating_tallies q w d place a o x moves gives c t made h = record {
  sized = moves.1.2 h.sized;
  cells = first o.next c d.state.frame.added.cells a.1.counts.cells given.0;
  steps = first (made + length y.steps + waiting_in y.state) t d.state.frame.added.steps
      a.1.counts.steps (subst (λ n. standing n ≤ standing (t + d.state.frame.added.steps
      + a.1.counts.steps)) (sym all) given.1);
  bodies = one_longer d.state.frame.parts part ∙ ap (λ (n : ℕ). suc n) same
      ∙ sym (one_longer x.bodies o.steps);
}
  where
    y : Emitted
    y = cast_made q w d place a o x

    part : Part
    part = record { spot = w.spot; template = d.template; signals = opened a.0 }

    same : length d.state.frame.parts ≡ length x.bodies
    same = ap length moves.0.1 ∙ h.bodies

    first : (n low added now : ℕ) → standing n ≤ standing (low + added + now)
        → standing n ≤ standing (low + (now + added))
    first n low added now g = omega arith

    starts : (n low f world added : ℕ) → standing (f + 0) ≤ standing (world + added)
        → standing n ≤ standing (low + f) → standing n ≤ standing (low + added + world)
    starts n low f world added g i = omega arith

    given : (standing o.next ≤ standing (c + d.state.frame.added.cells + a.1.counts.cells))
        × (standing (made + waiting_in x + length o.steps)
        ≤ standing (t + d.state.frame.added.steps + a.1.counts.steps))
    given =
        gives (c + d.state.frame.added.cells) (t + d.state.frame.added.steps) (made + waiting_in x)
        (starts x.next c (cells_counted (known_in x)) d.state.world.counts.cells
        d.state.frame.added.cells moves.1.0 h.cells)
        (starts (made + waiting_in x) t (steps_counted (known_in x)) d.state.world.counts.steps
        d.state.frame.added.steps moves.1.1 h.steps)

    all : made + length y.steps + waiting_in y.state ≡ made + waiting_in x + length o.steps
    all =
        let freed : length y.steps ≡ length (cond (is_fed (opened a.0)) o.steps []) =
        ap (λ (ss : List Step). length ss) (created_steps q w d place a o x same) in
        let longer : waiting_in y.state ≡ waiting_count d.state.frame.parts x.bodies
        + cond (is_fed (opened a.0)) 0 (length o.steps) =
        waiting_more d.state.frame.parts x.bodies part o.steps same in
        let before : waiting_count d.state.frame.parts x.bodies ≡ waiting_in x =
        ap (λ ps. waiting_count ps x.bodies) moves.0.1 in
        let sum : length (cond (is_fed (opened a.0)) o.steps [])
        + cond (is_fed (opened a.0)) 0 (length o.steps) ≡ length o.steps =
        freed_count false (is_fed (opened a.0)) o.steps (λ no. cc) in
        omega arith

-- the end of a body
ends_tally : (k : Context) (t : Template) (ds : List Datum) (path : List ℕ) (world : World)
    (start : ℕ) (y : Emitted) (z : Signals × World) → Tallies (emit_begun t ds path world start) y
    → AllByRecursion IsSized ds → IsEmptied (known_in y.state) → ended k (known_in y.state) ≡ Ok z
    → GivesTally start world z record {
      own = y.state.cells.own;
      inside = port_tables (known_in y.state).frame.parts y.state.cells.parts;
      steps = y.steps;
      next = y.state.next;
    }
ends_tally k t ds path world start y z tallies sized empty is c s made cells steps = (
  at_end y.state.next c (known_in y.state).world.counts.cells
      (known_in y.state).frame.added.cells z.1.counts.cells
      (ap (λ (n : Counts). n.cells) empty) (ap (λ (v : World). v.counts.cells) last) end.cells,
  less (made + length y.steps) (waiting_in y.state) _ (at_end (made + length y.steps
      + waiting_in y.state) s (known_in y.state).world.counts.steps
      (known_in y.state).frame.added.steps z.1.counts.steps
      (ap (λ (n : Counts). n.steps) empty) (ap (λ (v : World). v.counts.steps) last) end.steps),
)
  where
    begun : Tallied c s made (emit_begun t ds path world start)
    begun = record {
      sized = all_append IsSized ds (replicate (t.variables - length ds) (single (Known 0))) sized
          (all_replicate IsSized (t.variables - length ds) (single (Known 0))
          (single_sized (Known 0)));
      cells = nothing_added start c world.counts.cells cells;
      steps = nothing_waits made s world.counts.steps steps;
      bodies = refl;
    }
      where
        nothing_added : (n low world : ℕ) → standing n ≤ standing (low + world)
            → standing n ≤ standing (low + (world + 0))
        nothing_added n low world h = omega arith

        nothing_waits : (n low world : ℕ) → standing n ≤ standing (low + world)
            → standing (n + 0) ≤ standing (low + (world + 0))
        nothing_waits n low world h = omega arith

    end : Tallied c s (made + length y.steps) y.state
    end = tallies c s made begun

    last : (known_in y.state).world ≡ z.1
    last =
        at (all_written k (known_in y.state).frame.signals)
        (all_fed k (known_in y.state).frame.parts) is
      where
        at : (a b : Tried (Unit {0})) → next a (λ v. next b (λ w. Ok (
          (known_in y.state).frame.signals,
          (known_in y.state).world,
        ))) ≡ Ok z → (known_in y.state).world ≡ z.1
        at (Ok a) (Ok b) e = cc
        at (Ok a) (Err f) e = cc
        at (Err f) b e = cc

    at_end : (n low now added then : ℕ) → added ≡ 0 → now ≡ then
        → standing n ≤ standing (low + (now + added)) → standing n ≤ standing (low + then)
    at_end n low now added then none same h = omega arith

    less : (n waits all : ℕ) → standing (n + waits) ≤ all → standing n ≤ all
    less n waits all h = omega arith

pub tallies : (size : ℕ) → Bodies size Tallies GivesTally
tallies size = record {
  keeps = tallies_keep;
  fresh = fresh_tallies;
  declared = λ k sized spot direction n name dims x clear.
      declared_tallies k spot direction n name dims x;
  wiring = λ q calls w written m accessors a e x b s y is made emitted.
      wiring_tallies q calls w written m accessors a e x b s is made y emitted;
  creating = creating_tallies;
  ends = ends_tally;
}
