-- In each body what a step reads is given, or is written by an earlier step.
use Rattle.std.proofs.Common.{◌≡◌, ℕ, zero, suc, Bool, true, false, cond, List, [], ◌∷◌, length}
use Rattle.std.proofs.Common.{replicate, Option, Some, None, Ok, Err, refl, sym, ap, subst, ◌∙◌}
use Rattle.std.proofs.Common.{arith, slice_get}
use Rattle.std.specs.Prelude.{⊤, ◌||◌, nat_lt}
use Rattle.std.proofs.lemmas.Bool.{ltb-true}
use Rattle.cir_ast.specs.declared.operators.Direction.{Direction}
use Rattle.cir_ast.specs.declared.refusal.Kind.TheVariants.{WrongKind, NeverWritten}
use Rattle.cir_ast.specs.Program.{Program, Template}
use Rattle.cir_meaning.specs.Scoped.{Scope, IsResolved, IsTemplateScoped, behind_all}
use Rattle.cir_meaning.specs.Tried.{Tried, next, refused, found}
use Rattle.cir_meaning.specs.Arrays.{Datum}
use Rattle.cir_meaning.specs.Frame.{SignalEntry, Signals, Sizes, Group, World, Maker, Context}
use Rattle.cir_meaning.specs.Frame.{at as place_at, entry_at, is_input, is_all_written}
use Rattle.cir_meaning.specs.Statement.{Flow, Going, Returned, exec_all}
use Rattle.cir_meaning.specs.Bodies.{numbered_others, all_written, all_fed, ended, ended_flow}
use Rattle.cir_meaning.specs.Bodies.{template_context, template_state, exec_template, call_at}
use Rattle.cir_meaning.specs.Bodies.{make_at, most_open}
use Rattle.cir_meaning.specs.RunBodies.{port_tables}
use Rattle.cir_meaning.proofs.Good.{good_is}
use Rattle.cir_meaning.proofs.Likes.{CallKeeps}
use Rattle.cir_meaning.proofs.Twins.{Twin}
use Rattle.cir_meaning.proofs.KnownCalls.{CallBoth, all_get, calls_both, calls_keep}
use Rattle.cir_meaning.proofs.GroupSizes.{Less, Fits}
use Rattle.cir_meaning.proofs.Weights.{cover_entries, Bounded}
use Rattle.cir_meaning.proofs.NumberPlaces.{Roomy}
use Rattle.cir_meaning.proofs.ScopeLaws.{IsSound}
use Rattle.cir_meaning.proofs.ScanPoints.{next_to}
use Rattle.cir_steps.specs.Emission.{Emission, Emitted, known_in}
use Rattle.cir_steps.specs.Making.{Cast, Caster, Emitting}
use Rattle.cir_steps.specs.Statements.{emit_all, emit_begun, emit_ended, emit_body, cast_at}
use Rattle.cir_steps.specs.Written.{targets_of}
use Rattle.cir_steps.specs.Places.{AllHavePlaces, ArePlacesMeant}
use Rattle.cir_steps.proofs.Templates.{AreTemplates, all_declare}
use Rattle.cir_steps.proofs.Resolved.{templates}
use Rattle.cir_steps.proofs.Walk.{Clear, all_follow}
use Rattle.cir_steps.proofs.Following.{FollowsFlow}
use Rattle.cir_steps.proofs.Casting.{Fits as FitsAs, leaves as all_leaves, blank_at, blank_clear}
use Rattle.cir_steps.proofs.Casting.{casts_fit}
use Rattle.cir_steps.proofs.Total.{anything}
use Rattle.cir_steps.proofs.CallsRise.{calls_rise}
use Rattle.cir_steps.proofs.ReadWalk.{Quiet, Leaves, Gives, go_all}
use Rattle.cir_steps.proofs.Still.{Still, still_itself, counted_still, dims_still, component_still}
use Rattle.cir_steps.proofs.Still.{dropped_still, condition_still}
use Rattle.cir_steps.proofs.ReadCells.{In, Holds}
use Rattle.cir_steps.proofs.ReadLeaves.{same_ok, Moved, Moves, moves_still, moves_join, equal_leaf}
use Rattle.cir_steps.proofs.ReadLeaves.{assert_leaf, line_leaf, set_leaf}
use Rattle.cir_steps.proofs.ReadDecided.{undecided_leaf}
use Rattle.cir_steps.proofs.ReadDeclared.{declared_moves}
use Rattle.cir_steps.proofs.ReadWired.{all_mark}
use Rattle.cir_steps.proofs.ReadWrites.{wired_leaf}
use Rattle.cir_steps.proofs.ReadCreated.{Covers, CastsWell, created_leaf}

-- where both answer
both_answer : {A B : Type 0} (R : A → B → Type 0) (m : Tried A) (r : Tried B) (a : A) (b : B)
    → Twin R m r → m ≡ Ok a → r ≡ Ok b → R a b
unfolding Twin
both_answer R (Ok x) (Ok y) a b h e g =
    let one : x ≡ a = cc in
    let two : y ≡ b = cc in
    subst (R a) two (subst (λ z. R z y) one h)
both_answer R (Ok x) (Err f) a b h e g = cc
both_answer R (Err f) r a b h e g = cc

-- all that isn't an input is written at the end of a body
written_all : (k : Context) (xs : Signals) → all_written k xs ≡ Ok tt → (n : ℕ) (e : SignalEntry)
    → entry_at xs n ≡ Some e → (is_input e.direction || is_all_written e) ≡ true
written_all k [] h n e there = cc
written_all k (None ∷ xs) h zero e there = cc
written_all k (None ∷ xs) h (suc n) e there = written_all k xs h n e there
written_all k (Some d ∷ xs) h n e there =
    at (is_input d.direction || is_all_written d) refl h n there (written_all k xs)
  where
    at : (b : Bool) → (is_input d.direction || is_all_written d) ≡ b
        → cond b (all_written k xs) (refused (place_at k d.spot) NeverWritten) ≡ Ok tt → (n : ℕ)
        → entry_at (Some d ∷ xs) n ≡ Some e
        → (all_written k xs ≡ Ok tt → (n : ℕ) (e : SignalEntry) → entry_at xs n ≡ Some e
        → (is_input e.direction || is_all_written e) ≡ true)
        → (is_input e.direction || is_all_written e) ≡ true
    at true is rest zero here go =
        let same : d ≡ e = cc in
        subst (λ (z : SignalEntry). (is_input z.direction || is_all_written z) ≡ true) same is
    at true is rest (suc m) here go = go rest m e here
    at false is rest m here go = cc

none_covers : (m count : ℕ) → cover_entries m (replicate count None) ≡ 0
none_covers m zero = refl
none_covers m (suc count) = none_covers m count

abbrev pub cast_of : Emitted → Cast
cast_of y = record {
  own = y.state.cells.own;
  inside = port_tables (known_in y.state).frame.parts y.state.cells.parts;
  steps = y.steps;
  next = y.state.next;
}

module _ (size : ℕ) (final : Sizes) where
  pub begun_holds : (t : Template) (ds : List Datum) (path : List ℕ) (world : World) (start : ℕ)
      → Holds size world.sizes [] (emit_begun t ds path world start)
  begun_holds t ds path world start = record {
    sourced = λ n i c e. cc;
    exact = λ n e there. absurd (no n e there);
    owned = λ n e there i less. absurd (no n e there);
    part = λ j p there. cc;
    runs_count = refl;
    bodies_count = refl;
    covered = λ m.
        let none : cover_entries m (replicate t.signals None) ≡ 0 = none_covers m t.signals in
        omega arith;
  }
    where
      no : (n : ℕ) (e : SignalEntry) → entry_at (replicate t.signals None) n ≡ Some e → ⊥
      no n e there = let bad : Some e ≡ None = sym there ∙ blank_at t.signals n in cc

  ended_covers : (k : Context) (t : Template) (ds : List Datum) (path : List ℕ) (world : World)
      (start : ℕ) (y : Emitted) (z : Signals × World)
      → Moves size final (emit_begun t ds path world start) y
      → ended k (known_in y.state) ≡ Ok z → Fits world.sizes
      → (Fits z.1.sizes × Less world.sizes z.1.sizes)
      × (Less z.1.sizes final → Covers size world z (cast_of y))
  ended_covers k t ds path world start y z moves ex fits =
      let one : (u : Unit {0}) × (all_written k xs ≡ Ok u) × (fed u ≡ Ok z) =
      next_to (all_written k xs) fed z ex in
      let two : (u : Unit {0}) × (all_fed k (known_in y.state).frame.parts ≡ Ok u)
      × (last u ≡ Ok z) = next_to (all_fed k (known_in y.state).frame.parts) last z one.2 in
      let same : (xs, (known_in y.state).world) ≡ z = same_ok (xs, (known_in y.state).world) z
      two.2 in
      subst (λ (v : Signals × World). (Fits v.1.sizes × Less world.sizes v.1.sizes)
      × (Less v.1.sizes final → Covers size world v (cast_of y))) same (
        (moves fits).0,
        (λ less. covers ((moves fits).1 less world.sizes [] (begun_holds t ds path world start))
            one.1),
      )
    where
      xs : Signals
      xs = (known_in y.state).frame.signals

      last : Unit {0} → Tried (Signals × World)
      last u = Ok (xs, (known_in y.state).world)

      fed : Unit {0} → Tried (Signals × World)
      fed u = next (all_fed k (known_in y.state).frame.parts) last

      covers : Moved size world.sizes [] (emit_begun t ds path world start) y
          → all_written k xs ≡ Ok tt
          → Covers size world (xs, (known_in y.state).world) (cast_of y)
      covers moved written = record {
        exact = moved.holds.exact;
        covered = moved.holds.covered;
        ports = λ n e there i less.
            let its : (c : ℕ) × (y.state.cells.own n i ≡ Some c)
            × (slice_get e.written i ≡ Some true → is_input e.direction ≡ false
            → In c (targets_of y.steps)) = moved.holds.owned n e there i less in (
              its.0,
              its.1,
              (λ input. its.2 (all_mark e.written i (at e (written_all k xs written n e there)
                  input) less) input),
            );
        body = moved.behind;
      }
        where
          at : (e : SignalEntry) → (is_input e.direction || is_all_written e) ≡ true
              → is_input e.direction ≡ false → is_all_written e ≡ true
          at e h input =
              sym (ap (λ (b : Bool). b || is_all_written e) input) ∙ h

module _ (p : Program) (resolved : IsResolved p) (places : ArePlacesMeant p) (size : ℕ)
    (final : Sizes) (few : Bounded final) (room : Roomy size final) where
  abbrev functions : ℕ
  functions = length p.functions

  abbrev twice : CallBoth (call_at p size most_open)
  twice = calls_both p size most_open resolved.functions

  abbrev keeps : CallKeeps (call_at p size most_open)
  keeps = calls_keep p size most_open

  abbrev Any : Emission → Emitted → Type 0
  Any x y = ⊤

  abbrev AnyCast : (start : ℕ) → World → Signals × World → Cast → Type 0
  AnyCast start world z o = ⊤

  pub leaves_of : (variables : ℕ) (q : Emitting) → CallBoth q.context.call
      → CallKeeps q.context.call → q.context.group_size ≡ size
      → ((make : Maker) → q.context.make ≡ Some make → CastsWell size final make q.cast)
      → Leaves functions variables q Still (Moves size final)
  leaves_of variables q both calls sized well = record {
    still = moves_still size final;
    joins = moves_join size final;
    declared = declared_moves size final few q.context sized;
    set = λ w written n accessors e x is none.
        set_leaf size final room q both calls w written n accessors e x none;
    wired = λ w written m accessors arrow e x is place.
        wired_leaf size final room q both calls w written m accessors arrow e x place;
    created = created_leaf size final room q both calls well;
    equal = λ w a b x is_a is_b. equal_leaf size final room q both calls w a b x;
    assertion = λ w e x is. assert_leaf size final room q both calls w e x;
    line = λ w arguments x are. line_leaf size final room q both calls w arguments x;
    undecided = λ scope spot fault a x sounds is places le.
        undecided_leaf size final room q both calls functions scope spot fault a x sounds is places;
  }

  quiet_still : (q : Emitting) → CallKeeps q.context.call → Quiet q Still
  quiet_still q calls = record {
    still = λ f s h. h;
    itself = still_itself;
    counted = λ spot s. counted_still s (place_at q.context spot) s (still_itself s);
    dims = λ w es s. dims_still s q.context calls w false es s (still_itself s);
    variable = λ n dims f s h. h;
    component = λ n name dims s. (refl, refl, refl, refl);
    components = λ w c s. component_still s q.context calls w c s (still_itself s);
    dropped = λ w e s. dropped_still s q.context calls w e s (still_itself s);
    condition = λ spot c s. condition_still s q.context calls spot c s (still_itself s);
  }

  -- a body begins with its parameters
  abbrev pub parameters_scope : Template → Scope
  parameters_scope t = record {
    functions = functions;
    seen = λ n. nat_lt n (length t.parameters);
    variables = length t.parameters;
    signals = 0;
  }

  pub parameters_sound : (t : Template) → IsSound functions (parameters_scope t)
  parameters_sound t =
      record { count = refl; below = λ n e. ltb-true n (length t.parameters) e }

  -- a body whose components have steps as they should
  module _ (make : Option Maker) (group : Direction → List ℕ → Group) (cast : Caster)
      (fits : FitsAs AnyCast make cast)
      (well : (m : Maker) → make ≡ Some m → CastsWell size final m cast) where
    -- the state of both is the same in the end
    pub body_ends : (n : ℕ) (t : Template) → slice_get p.templates n ≡ Some t → (ds : List Datum)
        (path : List ℕ) (world : World) (start : ℕ) (z : Signals × World) (o : Cast)
        → next (exec_all (template_context p size (call_at p size most_open) make group t path
        world) t.body (template_state t ds path world)) (ended_flow (template_context p size
        (call_at p size most_open) make group t path world)) ≡ Ok z
        → next (emit_all record {
          context = template_context p size (call_at p size most_open) make group t path world;
          cast = cast;
        } t.body (emit_begun t ds path world start)) (emit_ended (template_context p size
        (call_at p size most_open) make group t path world)) ≡ Ok o
        → (y : Emitted) × (emit_all record {
          context = template_context p size (call_at p size most_open) make group t path world;
          cast = cast;
        } t.body (emit_begun t ds path world start) ≡ Ok y)
        × (ended (template_context p size (call_at p size most_open) make group t path world)
        (known_in y.state) ≡ Ok z) × (cast_of y ≡ o)
    body_ends n t there ds path world start z o ex em =
        let one : (flow : Flow) × (exec_all k t.body (template_state t ds path world) ≡ Ok flow)
        × (ended_flow k flow ≡ Ok z) =
        next_to (exec_all k t.body (template_state t ds path world)) (ended_flow k) z ex in
        let two : (y : Emitted) × (emit_all q t.body begun ≡ Ok y) × (emit_ended k y ≡ Ok o) =
        next_to (emit_all q t.body begun) (emit_ended k) o em in
        let three : (u : Signals × World) × (ended k (known_in two.0.state) ≡ Ok u)
        × (cast_so two.0 u ≡ Ok o) =
        next_to (ended k (known_in two.0.state)) (cast_so two.0) o two.2 in (
          two.0,
          two.1,
          end_of two.0 one.0 one.2
              (both_answer (FollowsFlow Any (anything size).keeps (Clear []) begun)
              (exec_all k t.body (template_state t ds path world)) (emit_all q t.body begun) one.0
              two.0
              (all_follow q (calls_rise p size most_open) Any (anything size).keeps
              (all_leaves size Any AnyCast (anything size) q refl (calls_rise p size most_open)
              fits) t.body (plain n t there).0 [] begun
              (blank_clear (all_declare t.body []) t.signals (plain n t there).1)) one.1 two.1),
          same_ok (cast_of two.0) o three.2,
        )
      where
        k : Context
        k = template_context p size (call_at p size most_open) make group t path world

        q : Emitting
        q = record { context = k; cast = cast }

        begun : Emission
        begun = emit_begun t ds path world start

        plain : AreTemplates p
        plain = templates p resolved

        cast_so : Emitted → Signals × World → Tried Cast
        cast_so y u = Ok (cast_of y)

        end_of : (y : Emitted) (flow : Flow) → ended_flow k flow ≡ Ok z
            → FollowsFlow Any (anything size).keeps (Clear []) begun flow y
            → ended k (known_in y.state) ≡ Ok z
        end_of y (Going s) e h = ap (ended k) h.0 ∙ e
        end_of y (Returned d v) e h = absurd h

    template_well : (n : ℕ) (t : Template) → slice_get p.templates n ≡ Some t → (ds : List Datum)
        (path : List ℕ) (world : World) (start : ℕ) (z : Signals × World) (o : Cast)
        → next (exec_all (template_context p size (call_at p size most_open) make group t path
        world) t.body (template_state t ds path world)) (ended_flow (template_context p size
        (call_at p size most_open) make group t path world)) ≡ Ok z
        → next (emit_all record {
          context = template_context p size (call_at p size most_open) make group t path world;
          cast = cast;
        } t.body (emit_begun t ds path world start)) (emit_ended (template_context p size
        (call_at p size most_open) make group t path world)) ≡ Ok o → Fits world.sizes
        → (Fits z.1.sizes × Less world.sizes z.1.sizes)
        × (Less z.1.sizes final → Covers size world z o)
    template_well n t there ds path world start z o ex em fit =
        let its : (y : Emitted) × (emit_all q t.body begun ≡ Ok y)
        × (ended k (known_in y.state) ≡ Ok z) × (cast_of y ≡ o) =
        body_ends n t there ds path world start z o ex em in
        let moves : Gives functions variables q Still quiet (Moves size final) leaves [] begun
        its.0 =
        good_is (Gives functions variables q Still quiet (Moves size final) leaves [] begun)
        (emit_all q t.body begun) its.0 its.1
        (go_all functions variables q Still quiet (Moves size final) leaves t.body
        (plain n t there).0 (parameters_scope t) (parameters_sound t)
        (all_get (IsTemplateScoped functions) p.templates n t resolved.templates there)
        (omega arith)
        (all_get (λ (t : Template). AllHavePlaces t.body) p.templates n t places there) [] begun
        (blank_clear (all_declare t.body []) t.signals (plain n t there).1)) in
        subst (λ c. (Fits z.1.sizes × Less world.sizes z.1.sizes)
        × (Less z.1.sizes final → Covers size world z c)) its.3
        (ended_covers size final k t ds path world start its.0 z moves.0 its.2 fit)
      where
        k : Context
        k = template_context p size (call_at p size most_open) make group t path world

        q : Emitting
        q = record { context = k; cast = cast }

        begun : Emission
        begun = emit_begun t ds path world start

        plain : AreTemplates p
        plain = templates p resolved

        variables : ℕ
        variables = (behind_all (parameters_scope t) t.body).variables

        quiet : Quiet q Still
        quiet = quiet_still q keeps

        leaves : Leaves functions variables q Still (Moves size final)
        leaves = leaves_of variables q twice keeps refl well

    pub body_well : CastsWell size final
        (exec_template p size (call_at p size most_open) make group)
        (emit_body p size (call_at p size most_open) make group cast)
    body_well w n ds path world start z o ex em fit =
        at (slice_get p.templates n) refl ex em
      where
        k_of : Template → Context
        k_of t = template_context p size (call_at p size most_open) make group t path world

        at : (o' : Option Template) → slice_get p.templates n ≡ o'
            → next (found w WrongKind o') (λ t.
            next (exec_all (k_of t) t.body (template_state t ds path world)) (ended_flow (k_of t)))
            ≡ Ok z
            → next (found w WrongKind o') (λ t.
            next (emit_all record { context = k_of t; cast = cast } t.body
            (emit_begun t ds path world start)) (emit_ended (k_of t))) ≡ Ok o
            → (Fits z.1.sizes × Less world.sizes z.1.sizes)
            × (Less z.1.sizes final → Covers size world z o)
        at None there ex em = cc
        at (Some t) there ex em = template_well n t there ds path world start z o ex em fit

  pub casts_well : (rooms : ℕ) (m : Maker) → make_at p size rooms ≡ Some m
      → CastsWell size final m (cast_at p size rooms)
  casts_well zero m e = cc
  casts_well (suc rooms) m e =
      subst (λ f. CastsWell size final f (cast_at p size (suc rooms))) (some_maker _ m e)
      (body_well (make_at p size rooms) numbered_others (cast_at p size rooms)
      (casts_fit size Any AnyCast (anything size) p (templates p resolved) rooms)
      (casts_well rooms))
    where
      some_maker : (f m : Maker) → Some f ≡ Some m → f ≡ m
      some_maker f m e = cc
