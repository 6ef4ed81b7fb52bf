-- The steps of bodies, by the number of templates that may be open yet.
use Rattle.std.proofs.Common.{◌≡◌, ◌≢◌, ◌⊎◌, inl, inr, ℕ, zero, suc, ◌≤◌, Bool, true, false, List}
use Rattle.std.proofs.Common.{[], ◌∷◌, ◌++◌, length, replicate, Option, Some, None, Ok, Err, refl}
use Rattle.std.proofs.Common.{sym, ap, subst, ◌∙◌, slice_get}
use Rattle.std.specs.Prelude.{⊤, is_none, not, codes}
use Rattle.std.specs.List.{AllByRecursion}
use Rattle.cir_ast.specs.declared.program.Spot.{Spot}
use Rattle.cir_ast.specs.declared.program.Meant.{Meant}
use Rattle.cir_ast.specs.declared.program.Meant.TheVariants as meant
use Rattle.cir_ast.specs.declared.operators.Arrow.{Arrow}
use Rattle.cir_ast.specs.declared.operators.Arrow.TheVariants as arrow
use Rattle.cir_ast.specs.declared.operators.Direction.{Direction}
use Rattle.cir_ast.specs.declared.refusal.Kind.{Kind}
use Rattle.cir_ast.specs.declared.refusal.Kind.TheVariants.{TooDeep, WrongKind, SecondWrite}
use Rattle.cir_ast.specs.declared.refusal.Kind.TheVariants.{ReadBeforeWrite, NotInProfile}
use Rattle.cir_ast.specs.declared.refusal.Form.TheVariants.{MixedComponents}
use Rattle.cir_ast.specs.Program.{Program, Template, Main}
use Rattle.cir_ast.specs.Tree.{Expr, Accessors, Assign}
use Rattle.cir_meaning.specs.Tried.{Where, Tried, next, needed, found}
use Rattle.cir_meaning.specs.Arrays.{Datum}
use Rattle.cir_meaning.specs.Evaluate.{arguments_in}
use Rattle.cir_meaning.specs.Compile.{main_group, main_context, main_state, exec_main}
use Rattle.cir_meaning.specs.RunBodies.{port_tables}
use Rattle.cir_meaning.specs.Values.{Value, Linear, Parts, parts_of, difference_of}
use Rattle.cir_meaning.specs.Frame.{SignalEntry, Signals, Part, Group, Frame, World, State, Caller}
use Rattle.cir_meaning.specs.Frame.{Maker, Context, at, settle, entry_at, put_at, in_frame}
use Rattle.cir_meaning.specs.Frame.{is_written}
use Rattle.cir_meaning.specs.Writing as writing
use Rattle.cir_meaning.specs.Writing.{Target, signals_of, with_part_signals, marked, write_element}
use Rattle.cir_meaning.specs.Writing.{write_elements, constrained_by, appended, SignalAssignment}
use Rattle.cir_meaning.specs.Writing.{signal_assignment, write_signal}
use Rattle.cir_meaning.specs.Declaring.{Creation, creation, create, create_each, may_be}
use Rattle.cir_meaning.specs.Declaring.{template_of, path_of, declare_signal, opened, add_part}
use Rattle.cir_meaning.specs.Costs.{Cost}
use Rattle.cir_meaning.specs.Steps.{signal_cost, stepped}
use Rattle.cir_meaning.specs.Simple.{set_signal, wired}
use Rattle.cir_meaning.specs.Statement.{Flow, Going, Returned, exec_all}
use Rattle.cir_meaning.specs.Bodies.{template_context, template_state, ended, ended_flow}
use Rattle.cir_meaning.specs.Bodies.{exec_template, call_at, make_at, most_open, numbered_others}
use Rattle.cir_meaning.proofs.Good.{OnGood, good_ok, good_bad, good_next, good_needed, good_weaker}
use Rattle.cir_meaning.proofs.Good.{good_found_as, good_any, good_is}
use Rattle.cir_meaning.proofs.Likes.{CallKeeps, Like, like_itself}
use Rattle.cir_meaning.proofs.Creating.{arguments_like, creation_like}
use Rattle.cir_meaning.proofs.Pairs.{good_both}
use Rattle.cir_meaning.proofs.ValueKeepings.{arguments_kept, creation_kept}
use Rattle.cir_meaning.proofs.StepRuns.{settle_like}
use Rattle.cir_meaning.proofs.KnownCalls.{calls_keep}
use Rattle.cir_meaning.proofs.Twins.{Twin, twin_bad}
use Rattle.cir_meaning.proofs.SignalTargets.{SignalLike, assignment_target}
use Rattle.cir_meaning.proofs.Entries.{put_else}
use Rattle.cir_meaning.proofs.PartWrites.{same_or_not}
use Rattle.cir_steps.specs.Step.{Step}
use Rattle.cir_steps.specs.Emission.{Emission, Emitted, known_in, with_state, made_elements}
use Rattle.cir_steps.specs.Emission.{with_signal}
use Rattle.cir_steps.specs.Making.{Cast, Caster, Emitting, freed_at, with_cast}
use Rattle.cir_steps.specs.Emit.{make_wiring, emit_set_signal, emit_created, emit_create}
use Rattle.cir_steps.specs.Statements.{emit_all, emit_begun, emit_ended, emit_body, cast_at}
use Rattle.cir_steps.specs.Circuit.{emit_main}
use Rattle.cir_steps.proofs.Templates.{AreRising, AreTemplates, all_declare}
use Rattle.cir_steps.proofs.Still.{Still, still_itself, still_like, stepped_still}
use Rattle.cir_steps.proofs.Sized.{IsSized, arguments_sized, creation_sized}
use Rattle.cir_steps.proofs.Rising.{Calls, Rises, rises_itself, value_grows}
use Rattle.cir_steps.proofs.Emptied.{IsEmptied, FlowEmptied, body_empties}
use Rattle.cir_steps.proofs.CallsRise.{calls_rise}
use Rattle.cir_steps.proofs.Moving.{Moves}
use Rattle.cir_steps.proofs.Following.{Keeps, FollowsFlow}
use Rattle.cir_steps.proofs.Walk.{IsFresh, IsHere, one_step, Leaves, ClearFrom, ClearIn, Clear}
use Rattle.cir_steps.proofs.Walk.{StaysClear, still_clear, all_follow}

pub blank_at : (count m : ℕ) → entry_at {A = SignalEntry} (replicate count None) m ≡ None
blank_at zero m = refl
blank_at (suc count) zero = refl
blank_at (suc count) (suc m) = blank_at count m

pub blank_clear : (ns : List ℕ) (count : ℕ) → AreRising ns → ClearIn ns (replicate count None)
blank_clear [] count h = tt
blank_clear (n ∷ ns) count h =
    ((λ m above. blank_at count m), h.0, blank_clear ns count h.1)

-- what is written of signals was declared
marked_clear : (n : ℕ) (e a : SignalEntry) (xs : Signals) (ns : List ℕ) → entry_at xs n ≡ Some e
    → ClearIn ns xs → ClearIn ns (put_at n a xs)
marked_clear n e a xs [] there p = tt
marked_clear n e a xs (m ∷ ms) there p =
    ((λ i above. at i above (same_or_not n i)), p.1, marked_clear n e a xs ms there p.2)
  where
    at : (i : ℕ) → m ≤ i → (n ≡ i) ⊎ (n ≢ i) → entry_at (put_at n a xs) i ≡ None
    at i above (inl same) =
        let both : Some e ≡ None = sym there ∙ ap (λ (j : ℕ). entry_at xs j) same ∙ p.0 i above in
        cc
    at i above (inr other) = put_else n i a xs other ∙ p.0 i above

then_clear : (f s t : State) → StaysClear f s → StaysClear s t → StaysClear f t
then_clear f s t h g ns p = g ns (h ns p)

part_clear : (j : ℕ) (signals : Signals) (o : Option Part) (f : State) (ns : List ℕ)
    → Clear ns f → Clear ns (record f { frame = with_part_signals j signals o f.frame })
part_clear j signals None f ns p = p
part_clear j signals (Some x) f ns p = p

-- an element of a signal that is written
abbrev pub with_element : (part : Option ℕ) → (n place : ℕ) → SignalEntry → State → State
with_element part n place e s = record s {
  frame = writing.with_signals part (put_at n (marked e place) (signals_of part s.frame)) s.frame;
}

written_clear : (part : Option ℕ) (n place : ℕ) (e : SignalEntry) (s : State)
    → entry_at (signals_of part s.frame) n ≡ Some e → StaysClear s (with_element part n place e s)
written_clear None n place e s there ns p =
    marked_clear n e (marked e place) s.frame.signals ns there p
written_clear (Some j) n place e s there ns p =
    part_clear j _ (slice_get s.frame.parts j) s ns p

-- what a write of signals does, in steps that each do this
pub record Written (T : State → State → Type 0) : Type 0 where
  pub still : (f s : State) → Still f s → T f s
  pub element : (part : Option ℕ) (n place : ℕ) (e : SignalEntry) (s : State)
      → entry_at (signals_of part s.frame) n ≡ Some e → T s (with_element part n place e s)
  pub joins : (f s t : State) → T f s → T s t → T f t

module _ (T : State → State → Type 0) (h : Written T) (k : Context) (w : Where) where
  element_written : (t : Target) (place : ℕ) (s : State)
      → OnGood (λ x. T s x.1) (write_element w t place s)
  element_written t place s =
      good_found_as (λ x. T s x.1) w ReadBeforeWrite
      (entry_at (signals_of t.part s.frame) t.number) _ (λ e there.
      good_needed (λ x. T s x.1) (not (is_written e place)) w SecondWrite _
      (good_ok (λ x. T s x.1) _ (h.element t.part t.number place e s there)))

  constrained_written : (a : Arrow) (x y : Value) (s : State)
      → OnGood (T s) (constrained_by k w a x y s)
  constrained_written arrow.Assign x y s = good_ok (T s) s (h.still s s (still_itself s))
  constrained_written arrow.Constrain x y s = at (parts_of (difference_of x y))
    where
      at : (o : Option Parts) → OnGood (T s) (appended k w x y s o)
      at None = good_bad (T s) _
      at (Some c) = good_ok (T s) _ (h.still s _ (still_itself s))

  elements_written : (a : Arrow) (t : Target) (places : List ℕ) (vs : List Value) (s : State)
      → OnGood (T s) (write_elements k w a t places vs s)
  elements_written a t [] vs s = good_ok (T s) s (h.still s s (still_itself s))
  elements_written a t (place ∷ places) [] s = good_ok (T s) s (h.still s s (still_itself s))
  elements_written a t (place ∷ places) (v ∷ vs) s =
      good_next (λ x. T s x.1) (T s) (write_element w t place s) _
      (element_written t place s) (λ x g.
      good_next (T x.1) (T s) (constrained_by k w a (Linear _) v x.1) _
      (constrained_written a _ v x.1) (λ s2 i.
      good_weaker (T s2) (T s) (write_elements k w a t places vs s2)
      (elements_written a t places vs s2)
      (λ s3 j. h.joins s s2 s3 (h.joins s x.1 s2 g i) j)))

  wired_written : (cost : Cost) (places : List ℕ) (s : State)
      → OnGood (T s) (wired k w cost places s)
  wired_written cost [] s = good_ok (T s) s (h.still s s (still_itself s))
  wired_written cost (place ∷ places) s =
      good_weaker (Still s) (T s) (stepped k w cost 0 s)
      (stepped_still s k w cost 0 s (still_itself s)) (λ t i. h.still s t i)

  -- an assignment to signals
  pub set_signal_written : (calls : CallKeeps k.call) (written : Assign Meant) (m : Meant)
      (accessors : Accessors Meant) (a : Arrow) (e : Expr Meant) (s : State)
      → OnGood (T s) (set_signal k w written m accessors a e s)
  set_signal_written calls written m accessors a e s =
      good_next (SignalLike k calls s w) (T s) (signal_assignment k w m accessors e s) _
      (assignment_target k calls s w m accessors e s (like_itself s)) (λ b l.
      good_next (T b.state) (T s) (write_signal k w a b) _
      (elements_written a b.target b.target.reach.places b.value.items b.state) (λ t g.
      good_weaker (T t) (T s)
      (wired k w (signal_cost k w written accessors e s) b.target.reach.places t)
      (wired_written (signal_cost k w written accessors e s) b.target.reach.places t)
      (λ u i. h.joins s t u (h.joins s b.state t
      (h.still s b.state (still_like s s b.state (still_itself s) l.0)) g) i)))

pub stays_clear : Written StaysClear
stays_clear = record {
  still = λ f s h ns p. still_clear ns f s h p;
  element = written_clear;
  joins = then_clear;
}

-- what is asked for as a whole, after a part of it
twice : {A B C : Type 0} (R : B → C → Type 0) (m : Tried A) (go : A → Tried B)
    (on : A → B → Tried C)
    → ((a : A) → m ≡ Ok a → Twin R (go a) (next (go a) (on a)))
    → Twin R (next m go) (next m (λ a. next (next m go) (on a)))
unfolding Twin
twice R (Ok a) go on f = f a refl
twice R (Err e) go on f = tt

alone : {B C : Type 0} (P : B → Type 0) (R : B → C → Type 0) (m : Tried B) (on : B → Tried C)
    → OnGood P m → ((b : B) → m ≡ Ok b → P b → Twin R (Ok b) (on b)) → Twin R m (next m on)
unfolding Twin OnGood
alone P R (Ok b) on h f = f b refl h
alone P R (Err e) on h f = tt

twin_is : {B C : Type 0} (R : B → C → Type 0) (b : B) (c : C) → R b c → Twin R (Ok b) (Ok c)
unfolding Twin
twin_is R b c h = h

needed_alone : {B C : Type 0} (R : B → C → Type 0) (test : Bool) (w : Where) (kind : Kind)
    (m : Tried B) (on : B → Tried C) → Twin R m (next m on)
    → Twin R (needed test w kind m) (next (needed test w kind m) on)
unfolding Twin
needed_alone R true w kind m on h = h
needed_alone R false w kind m on h = tt

found_alone : {A B C : Type 0} (R : B → C → Type 0) (w : Where) (kind : Kind) (o : Option A)
    (go : A → Tried B) (on : B → Tried C)
    → ((a : A) → o ≡ Some a → Twin R (go a) (next (go a) on))
    → Twin R (next (found w kind o) go) (next (next (found w kind o) go) on)
unfolding Twin
found_alone R w kind (Some a) go on f = f a refl
found_alone R w kind None go on f = tt

-- the same step in both, of whose answer something is known
good_twin : {A B D : Type 0} (P : A → Type 0) (R : B → D → Type 0) (m : Tried A)
    (go : A → Tried B) (on : A → Tried D) → OnGood P m
    → ((a : A) → P a → Twin R (go a) (on a)) → Twin R (next m go) (next m on)
unfolding Twin OnGood
good_twin P R (Ok a) go on h f = f a h
good_twin P R (Err e) go on h f = tt

-- two answers of which the first is part of a state
made_alone : {A B C D : Type 0} (P : A → C → Type 0) (R : B → D → Type 0) (m : Tried A)
    (r : Tried C) (state : A → B) (other : B → C → D) → Twin P m r
    → ((a : A) (c : C) → m ≡ Ok a → r ≡ Ok c → P a c → R (state a) (other (state a) c))
    → Twin R (next m (λ a. Ok (state a)))
    (next (next m (λ a. Ok (state a))) (λ s. next r (λ c. Ok (other s c))))
unfolding Twin
made_alone P R (Ok a) (Ok c) state other h f = f a c refl refl h
made_alone P R (Ok a) (Err e) state other h f = absurd h
made_alone P R (Err e) r state other h f = tt

-- a relation of what a body gives at compile time, from a world on, and of its steps, from a cell
-- on
abbrev pub Giving : Type 1
Giving = (start : ℕ) → World → Signals × World → Cast → Type 0

abbrev pub Fits : Giving → Option Maker → Caster → Type 0
Fits G make cast =
    (m : Maker) → make ≡ Some m → (w : Where) (n : ℕ) (ds : List Datum) (path : List ℕ)
    (world : World) (start : ℕ) → AllByRecursion IsSized ds
    → Twin (G start world) (m w n ds path world) (cast w n ds path world start)

-- a component with its cells
abbrev pub created_state : Where → Creation → (place : ℕ) → Signals × World → State
created_state w c place a =
    in_frame (add_part c.component c.entry place record {
      spot = w.spot;
      template = c.template;
      signals = opened a.0;
    }) (record (c.state) { world = a.1 })

abbrev pub cast_made : Emitting → Where → Creation → (place : ℕ) → Signals × World → Cast
    → Emission → Emitted
cast_made q w c place a o x =
    let y : Emission = with_cast q.context w c o (created_state w c place a) x in record {
      state = y;
      steps = freed_at (Some (length x.bodies)) false y ++ [];
    }

-- what must be known of a relation to hold of whole bodies, where groups have room for so many
-- signals
pub record Bodies (size : ℕ) (R : Emission → Emitted → Type 0) (G : Giving) : Type 0 where
  pub keeps : Keeps R
  pub fresh : (x y : Emission) (step : Step) → IsFresh x y step → R x (one_step step y)
  pub declared : (k : Context) → k.group_size ≡ size
      → (spot : Spot) (direction : Direction) (n : ℕ) (name dims : List ℕ)
      (x : Emission) → ClearFrom n (known_in x).frame.signals → R x record {
        state = with_signal n (made_elements dims)
            (with_state (declare_signal k spot direction n name dims (known_in x)) x);
        steps = [];
      }
  pub wiring : (q : Emitting) (calls : Calls q.context.call) (w : Where)
      (written : Assign Meant) (m : Meant) (accessors : Accessors Meant) (a : Arrow)
      (e : Expr Meant) (x : Emission) (b : SignalAssignment) (s : State) (y : Emitted)
      → signal_assignment q.context w m accessors e (known_in x) ≡ Ok b
      → set_signal q.context w written m accessors a e (known_in x) ≡ Ok s
      → make_wiring q w written accessors e b s b.target.reach.places x ≡ Ok y → R x y
  pub creating : (q : Emitting) (w : Where) (c : Creation) (place : ℕ) (a : Signals × World)
      (o : Cast) (x : Emission) → Moves (known_in x) c.state → G x.next c.state.world a o
      → R x (cast_made q w c place a o x)
  pub ends : (k : Context) (t : Template) (ds : List Datum) (path : List ℕ) (world : World)
      (start : ℕ) (y : Emitted) (z : Signals × World) → R (emit_begun t ds path world start) y
      → AllByRecursion IsSized ds → IsEmptied (known_in y.state)
      → ended k (known_in y.state) ≡ Ok z → G start world z record {
        own = y.state.cells.own;
        inside = port_tables (known_in y.state).frame.parts y.state.cells.parts;
        steps = y.steps;
        next = y.state.next;
      }

-- what must be known of a relation to hold where a body touches signals and components
pub record Touching (q : Emitting) (R : Emission → Emitted → Type 0) (G : Giving) : Type 0 where
  pub still : (x : Emission) (s : State) → Moves (known_in x) s
      → R x record { state = with_state s x; steps = [] }
  pub wiring : (w : Where) → IsHere q.context w → (written : Assign Meant) (m : Meant)
      (accessors : Accessors Meant) (a : Arrow) (e : Expr Meant) (x : Emission)
      (b : SignalAssignment) (s : State) (y : Emitted)
      → signal_assignment q.context w m accessors e (known_in x) ≡ Ok b
      → set_signal q.context w written m accessors a e (known_in x) ≡ Ok s
      → make_wiring q w written accessors e b s b.target.reach.places x ≡ Ok y → R x y
  pub creating : (w : Where) (c : Creation) (place : ℕ) (a : Signals × World) (o : Cast)
      (x : Emission) → Moves (known_in x) c.state → G x.next c.state.world a o
      → R x (cast_made q w c place a o x)

module _ (R : Emission → Emitted → Type 0) (G : Giving) (q : Emitting)
    (calls : Calls q.context.call) (fits : Fits G q.context.make q.cast)
    (touches : Touching q R G) where
  module _ (w : Where) where
    abbrev Leaf : Emission → State → Emitted → Type 0
    Leaf x s y = (known_in y.state ≡ s) × R x y × StaysClear (known_in x) s

    wired_leaf : (here : IsHere q.context w) (written : Assign Meant) (m : Meant)
        (accessors : Accessors Meant) (a : Arrow) (e : Expr Meant) (x : Emission)
        → Twin (Leaf x) (set_signal q.context w written m accessors a e (known_in x))
        (emit_set_signal q w written m accessors a e x)
    wired_leaf here written m accessors a e x =
        twice (Leaf x) (signal_assignment q.context w m accessors e (known_in x)) _ _ (λ c is.
        alone (StaysClear (known_in x)) (Leaf x) _ _ (next_of c is
        (set_signal_written StaysClear stays_clear q.context w calls.keeps written m accessors a e
        (known_in x)))
        (λ s made clear. at c s is (made_of c s is made) clear c.target.reach.places refl))
      where
        next_of : (c : SignalAssignment)
            → signal_assignment q.context w m accessors e (known_in x) ≡ Ok c
            → OnGood (StaysClear (known_in x))
            (set_signal q.context w written m accessors a e (known_in x))
            → OnGood (StaysClear (known_in x)) (next (write_signal q.context w a c)
            (wired q.context w (signal_cost q.context w written accessors e (known_in x))
            c.target.reach.places))
        next_of c is h =
            subst (λ n. OnGood (StaysClear (known_in x)) (next n (λ c.
            next (write_signal q.context w a c)
            (wired q.context w (signal_cost q.context w written accessors e (known_in x))
            c.target.reach.places)))) is h

        made_of : (c : SignalAssignment) (s : State)
            → signal_assignment q.context w m accessors e (known_in x) ≡ Ok c
            → next (write_signal q.context w a c)
            (wired q.context w (signal_cost q.context w written accessors e (known_in x))
            c.target.reach.places) ≡ Ok s
            → set_signal q.context w written m accessors a e (known_in x) ≡ Ok s
        made_of c s is h =
            ap (λ n. next n (λ c. next (write_signal q.context w a c)
            (wired q.context w (signal_cost q.context w written accessors e (known_in x))
            c.target.reach.places))) is ∙ h

        at : (c : SignalAssignment) (s : State)
            → signal_assignment q.context w m accessors e (known_in x) ≡ Ok c
            → set_signal q.context w written m accessors a e (known_in x) ≡ Ok s
            → StaysClear (known_in x) s → (places : List ℕ) → c.target.reach.places ≡ places
            → Twin (Leaf x) (Ok s) (make_wiring q w written accessors e c s places x)
        at c s is made clear [] same =
            twin_is (Leaf x) s _ (
              refl,
              touches.wiring w here written m accessors a e x c s _ is made
                  (ap (λ ps. make_wiring q w written accessors e c s ps x) same),
              clear,
            )
        at c s is made clear (place ∷ places) same =
            twin_is (Leaf x) s _ (
              refl,
              touches.wiring w here written m accessors a e x c s _ is made
                  (ap (λ ps. make_wiring q w written accessors e c s ps x) same),
              clear,
            )

    -- what is to be created, in a state with the same signals and components
    creation_moves : (f : State) (n : ℕ) (accessors : Accessors Meant) (e : Expr Meant)
        → OnGood (λ c. Moves f c.state × AllByRecursion IsSized c.arguments)
        (creation q.context w n accessors e f)
    creation_moves f n accessors e =
        good_both (λ c. Moves f c.state) (λ c. AllByRecursion IsSized c.arguments)
        (creation q.context w n accessors e f)
        (good_both (λ c. Still f c.state) (λ c. Rises f c.state)
        (creation q.context w n accessors e f)
        (good_weaker (λ c. Like f c.state) (λ c. Still f c.state)
        (creation q.context w n accessors e f)
        (creation_like q.context calls.keeps f w n accessors e f (like_itself f))
        (λ c l. still_like f f c.state (still_itself f) l))
        (creation_kept q.context (Rises f) (value_grows f 0 0 q.context calls false) w n accessors
        e f (rises_itself f)))
        (creation_sized q.context calls.sized w n accessors e f)

    each_leaf : (c : Creation) (x : Emission) → Moves (known_in x) c.state
        → AllByRecursion IsSized c.arguments → (places : List ℕ)
        → Twin (Leaf x) (create_each q.context w c places)
        (next (create_each q.context w c places) (λ s. emit_created q w c places s x))
    each_leaf c x h sized [] =
        twin_is (Leaf x) c.state _ (
          refl,
          touches.still x c.state h,
          (λ ns p. still_clear ns (known_in x) c.state h.0 p),
        )
    each_leaf c x h sized (place ∷ places) =
        needed_alone (Leaf x) (is_none (entry_at c.entry.parts place)) w SecondWrite _ _
        (found_alone (Leaf x) w TooDeep q.context.make _ _ (λ make there.
        needed_alone (Leaf x)
        (may_be c.template (template_of c.state.frame.parts c.entry.parts)) w
        (NotInProfile MixedComponents) _ _
        (made_alone (G x.next c.state.world) (Leaf x)
        (make w c.template c.arguments (path_of q.context c.entry c.indices) c.state.world)
        (q.cast w c.template c.arguments (path_of q.context c.entry c.indices) c.state.world
        x.next) (created_state w c place) (λ s o. record {
          state = with_cast q.context w c o s x;
          steps = freed_at (Some (length x.bodies)) false (with_cast q.context w c o s x) ++ [];
        })
        (fits make there w c.template c.arguments (path_of q.context c.entry c.indices)
        c.state.world x.next sized) (λ a o am oc g. (
          refl,
          touches.creating w c place a o x h g,
          (λ ns p. still_clear ns (known_in x) c.state h.0 p),
        )))))

    created_leaf : (n : ℕ) (accessors : Accessors Meant) (e : Expr Meant) (x : Emission)
        → Twin (Leaf x) (next (creation q.context w n accessors e (known_in x))
        (create q.context w)) (emit_create q w n accessors e x)
    created_leaf n accessors e x =
        at (creation q.context w n accessors e (known_in x))
        (creation_moves (known_in x) n accessors e)
      where
        at : (m : Tried Creation)
            → OnGood (λ c. Moves (known_in x) c.state × AllByRecursion IsSized c.arguments) m
            → Twin (Leaf x) (next m (create q.context w))
            (next m (λ c. next (create q.context w c) (λ s. emit_created q w c c.places s x)))
        at (Ok c) h =
            let its : Moves (known_in x) c.state × AllByRecursion IsSized c.arguments =
            good_is (λ c. Moves (known_in x) c.state × AllByRecursion IsSized c.arguments) (Ok c) c
            refl h in each_leaf c x its.0 its.1 c.places
        at (Err f) h = twin_bad (Leaf x) _ _

  -- the other statements make steps alone
  pub touching_leaves : ((x y : Emission) (step : Step) → IsFresh x y step
      → IsHere q.context step.place → R x (one_step step y))
      → ((spot : Spot) (direction : Direction) (n : ℕ) (name dims : List ℕ) (x : Emission)
      → ClearFrom n (known_in x).frame.signals → R x record {
        state = with_signal n (made_elements dims)
            (with_state (declare_signal q.context spot direction n name dims (known_in x)) x);
        steps = [];
      }) → Leaves q R
  touching_leaves fresh declared = record {
    fresh = fresh;
    declared = declared;
    wired = wired_leaf;
    created = created_leaf;
  }

module _ (R : Emission → Emitted → Type 0) (keeps : Keeps R) (G : Giving) (k : Context)
    (t : Template) (ds : List Datum) (path : List ℕ) (world : World) (start : ℕ)
    (ends : (y : Emitted) (z : Signals × World) → R (emit_begun t ds path world start) y
    → AllByRecursion IsSized ds → IsEmptied (known_in y.state)
    → ended k (known_in y.state) ≡ Ok z → G start world z record {
      own = y.state.cells.own;
      inside = port_tables (known_in y.state).frame.parts y.state.cells.parts;
      steps = y.steps;
      next = y.state.next;
    }) where
  pub ended_fits : (m : Tried Flow) (r : Tried Emitted)
      → AllByRecursion IsSized ds → OnGood FlowEmptied m
      → Twin (FollowsFlow R keeps (Clear []) (emit_begun t ds path world start)) m r
      → Twin (G start world) (next m (ended_flow k)) (next r (emit_ended k))
  unfolding Twin OnGood
  ended_fits (Ok (Going s)) (Ok y) sized empty h =
      subst (λ f. Twin (G start world) (ended k f) (emit_ended k y)) h.0
      (alone (λ z. ⊤) (G start world) (ended k (known_in y.state)) _ (good_any _)
      (λ z is u. twin_is (G start world) z _ (ends y z h.1
      sized (subst IsEmptied (sym h.0) empty) is)))
  ended_fits (Ok (Returned d v)) (Ok y) sized empty h = absurd h
  ended_fits (Ok (Going s)) (Err e) sized empty h = absurd h
  ended_fits (Ok (Returned d v)) (Err e) sized empty h = absurd h
  ended_fits (Err e) r sized empty h = tt

module _ (size : ℕ) (R : Emission → Emitted → Type 0) (G : Giving) (b : Bodies size R G) where
  pub leaves : (q : Emitting) → q.context.group_size ≡ size → Calls q.context.call
      → Fits G q.context.make q.cast → Leaves q R
  leaves q sized calls fits =
      touching_leaves R G q calls fits record {
        still = b.keeps.still;
        wiring = λ w here. b.wiring q calls w;
        creating = b.creating q;
      } (λ x y step f here. b.fresh x y step f) (b.declared q.context sized)

  module _ (p : Program) (plain : AreTemplates p) where
    pub body_fits : (call : Caller) (make : Option Maker) (group : Direction → List ℕ → Group)
        (cast : Caster) → Calls call → Fits G make cast → (w : Where) (n : ℕ)
        (ds : List Datum) (path : List ℕ) (world : World) (start : ℕ) → AllByRecursion IsSized ds
        → Twin (G start world) (exec_template p size call make group w n ds path world)
        (emit_body p size call make group cast w n ds path world start)
    body_fits call make group cast calls fits w n ds path world start sized =
        at (slice_get p.templates n) refl
      where
        k_of : Template → Context
        k_of t = template_context p size call make group t path world

        at : (o : Option Template) → slice_get p.templates n ≡ o
            → Twin (G start world) (next (found w WrongKind o) (λ t.
            next (exec_all (k_of t) t.body (template_state t ds path world)) (ended_flow (k_of t))))
            (next (found w WrongKind o) (λ t.
            next (emit_all record { context = k_of t; cast = cast } t.body
            (emit_begun t ds path world start)) (emit_ended (k_of t))))
        at None e = twin_bad (G start world) _ _
        at (Some t) e =
            let q : Emitting = record { context = k_of t; cast = cast } in
            ended_fits R b.keeps G (k_of t) t ds path world start
            (b.ends (k_of t) t ds path world start)
            (exec_all (k_of t) t.body (template_state t ds path world))
            (emit_all q t.body (emit_begun t ds path world start)) sized
            (body_empties (k_of t) t.body (template_state t ds path world) refl)
            (all_follow q calls R b.keeps (leaves q refl calls fits) t.body (plain n t e).0 []
            (emit_begun t ds path world start)
            (blank_clear (all_declare t.body []) t.signals (plain n t e).1))

    pub casts_fit : (room : ℕ) → Fits G (make_at p size room) (cast_at p size room)
    casts_fit zero m e w n ds path world start sized = cc
    casts_fit (suc room) m e w n ds path world start sized =
        subst (λ f. Twin (G start world) (f w n ds path world)
        (cast_at p size (suc room) w n ds path world start)) (some_maker _ m e)
        (body_fits (call_at p size most_open) (make_at p size room) numbered_others
        (cast_at p size room) (calls_rise p size most_open) (casts_fit room) w n ds path world
        start sized)
      where
        some_maker : (f m : Maker) → Some f ≡ Some m → f ≡ m
        some_maker f m e = cc

    -- main's own world differs in counts
    pub record MainGives (z : Signals × World) (o : Cast) : Type 0 where
      pub first : World
      pub begins : first.sizes ≡ main_state.world.sizes
      pub last : World
      pub ends : last.sizes ≡ z.1.sizes
      pub gives : G 1 first (z.0, last) o
      pub frame : Frame
      pub rises : Rises main_state record { frame = frame; world = first }
      pub place : Where
      pub after : State
      pub settles : settle place record { frame = frame; world = last } ≡ Ok after

    settled_twin : (w : Where) (f : Frame) (world : World)
        → world.sizes ≡ main_state.world.sizes
        → Rises main_state record { frame = f; world = world }
        → (m : Tried (Signals × World)) (r : Tried Cast)
        → Twin (G 1 world) m r
        → Twin MainGives
        (next m (λ a. next (settle w record { frame = f; world = a.1 })
        (λ s1. Ok (a.0, s1.world)))) r
    unfolding Twin OnGood
    settled_twin w f world begins rises (Ok a) (Ok o) h =
        at (settle w record { frame = f; world = a.1 }) refl
        (settle_like record { frame = f; world = a.1 } w record { frame = f; world = a.1 }
        (like_itself record { frame = f; world = a.1 }))
      where
        at : (n : Tried State) → settle w record { frame = f; world = a.1 } ≡ n
            → OnGood (Like record { frame = f; world = a.1 }) n
            → Twin MainGives (next n (λ s1. Ok (a.0, s1.world))) (Ok o)
        at (Ok s1) is l = record {
          first = world;
          begins = begins;
          last = a.1;
          ends = sym (ap (λ (v : World). v.sizes) l.4);
          gives = h;
          frame = f;
          rises = rises;
          place = w;
          after = s1;
          settles = is;
        }
        at (Err e) is l = tt
    settled_twin w f world begins rises (Ok a) (Err e) h = absurd h
    settled_twin w f world begins rises (Err e) r h = tt

    -- main
    pub main_fits : (m : Main) (t : Meant)
        → Twin MainGives (exec_main p size m t) (emit_main p size m t)
    main_fits m (meant.Template t) =
        good_twin (λ a. (Like main_state a.1 × Rises main_state a.1) × AllByRecursion IsSized a.0)
        MainGives
        (arguments_in (main_context p size m) (at (main_context p size m) m.spot) m.arguments
        main_state) _ _
        (good_both (λ a. Like main_state a.1 × Rises main_state a.1)
        (λ a. AllByRecursion IsSized a.0)
        (arguments_in (main_context p size m) (at (main_context p size m) m.spot) m.arguments
        main_state)
        (good_both (λ a. Like main_state a.1) (λ a. Rises main_state a.1)
        (arguments_in (main_context p size m) (at (main_context p size m) m.spot) m.arguments
        main_state)
        (arguments_like (main_context p size m) (calls_keep p size most_open) main_state
        (at (main_context p size m) m.spot) m.arguments main_state (like_itself main_state))
        (arguments_kept (main_context p size m) (Rises main_state)
        (value_grows main_state 0 0 (main_context p size m) (calls_rise p size most_open) false)
        (at (main_context p size m) m.spot) m.arguments main_state (rises_itself main_state)))
        (arguments_sized (main_context p size m) (calls_rise p size most_open).sized
        (at (main_context p size m) m.spot) m.arguments main_state))
        (λ a l.
        settled_twin (at (main_context p size m) m.spot) a.1.frame a.1.world
        (ap (λ (v : World). v.sizes) l.0.0.4) l.0.1 _ _
        (body_fits (call_at p size most_open) (make_at p size 255) (main_group m.public_names)
        (cast_at p size 255) (calls_rise p size most_open) (casts_fit 255)
        (at (main_context p size m) m.spot) t a.0 (codes "main") a.1.world 1 l.1))
    main_fits m meant.Other = twin_bad MainGives _ _
    main_fits m (meant.Variable n) = twin_bad MainGives _ _
    main_fits m (meant.Signal direction n) = twin_bad MainGives _ _
    main_fits m (meant.Component n) = twin_bad MainGives _ _
    main_fits m (meant.Function n) = twin_bad MainGives _ _
