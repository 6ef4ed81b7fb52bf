-- Each step that a statement makes is lowered and fits, whatever shows its sources.
use Rattle.std.proofs.Common.{◌≡◌, ℕ, zero, suc, ◌+◌, ◌<◌, ◌≤◌, Bool, true, false, cond, List, []}
use Rattle.std.proofs.Common.{◌∷◌, ◌++◌, length, Option, Some, None, Ok, Err, refl, sym, ap, subst}
use Rattle.std.proofs.Common.{◌∙◌, arith, slice_get}
use Rattle.std.specs.Prelude.{not, ◌==◌, ◌&&◌, is_none}
use Rattle.std.specs.List.{AllByRecursion}
use Rattle.std.proofs.lemmas.Bool.{ltb-true}
use Rattle.cir_ast.specs.declared.operators.Arrow.{Arrow}
use Rattle.cir_ast.specs.declared.program.Meant.{Meant}
use Rattle.cir_ast.specs.declared.program.Meant.TheVariants as meant
use Rattle.cir_ast.specs.declared.program.Spot.{Spot}
use Rattle.cir_ast.specs.declared.refusal.Form.TheVariants.{MixedComponents}
use Rattle.cir_ast.specs.declared.refusal.Kind.TheVariants.{NotInProfile, SecondWrite, TooDeep}
use Rattle.cir_ast.specs.Tree.{Expr, Accessors, Assign, LogArgument, Statement}
use Rattle.cir_meaning.specs.Tried.{Where, Tried, next, found}
use Rattle.cir_meaning.specs.Arrays.{Datum, Scalar, the_item}
use Rattle.cir_meaning.specs.Values.{Value, Known, Linear, Quadratic, Opaque}
use Rattle.cir_meaning.specs.Frame.{SignalEntry, Signals, Part, World, State, Context, at, is_fed}
use Rattle.cir_meaning.specs.Frame.{Sizes, Maker, entry_at, adding, one_statement}
use Rattle.cir_meaning.specs.Evaluate.{value_in}
use Rattle.cir_meaning.specs.Run.{RunPart}
use Rattle.cir_meaning.specs.Declaring.{Creation, creation, create, create_each, may_be}
use Rattle.cir_meaning.specs.Declaring.{template_of, path_of}
use Rattle.cir_meaning.specs.Scoped.{Scope as Names, AreCallsMeant, IsSetMeant, IsArgumentMeant}
use Rattle.cir_meaning.specs.Scoped.{IsScoped, behind as behind_scope}
use Rattle.cir_meaning.specs.Simple as simple
use Rattle.cir_meaning.specs.Statement.{assert_value, log_values, decided}
use Rattle.cir_meaning.specs.Scan.{undecided}
use Rattle.cir_meaning.specs.Steps.{variable_cost, new_cells, logged_cells}
use Rattle.cir_meaning.specs.Unknown.{Fault, outer_assigned}
use Rattle.cir_meaning.specs.Writing.{VariableAssignment, variable_assignment, is_unknown}
use Rattle.cir_meaning.specs.Writing.{SignalAssignment, signal_assignment, signals_of}
use Rattle.cir_meaning.specs.Writing.{with_part_signals}
use Rattle.cir_meaning.proofs.Creating.{creation_like, one_longer}
use Rattle.cir_meaning.proofs.FineValues.{FineContext, Fine, FineWorld, IsDatum}
use Rattle.cir_meaning.proofs.FineWriting.{FineCreation, creation_fine}
use Rattle.cir_meaning.proofs.Good.{OnGood, good_ok, good_next, good_needed, good_as, good_is}
use Rattle.cir_meaning.proofs.Good.{either}
use Rattle.cir_steps.specs.Making.{with_variables, wanted_of, with_cells, new_places, Cast, Caster}
use Rattle.cir_steps.specs.Making.{Emitting, freed, freed_at, with_cast, make_assignment}
use Rattle.cir_steps.specs.Making.{make_assertion}
use Rattle.cir_meaning.proofs.Keepings.{component_keeps, dropped_keeps, condition_keeps}
use Rattle.cir_meaning.proofs.Keepings.{undecided_keeps, assert_keeps, log_keeps}
use Rattle.cir_meaning.proofs.GroupSizes.{Fits, Less, less_then}
use Rattle.cir_meaning.proofs.KnownCalls.{CallBoth, all_get}
use Rattle.cir_meaning.proofs.Likes.{CallKeeps, Like, like_itself, value_like}
use Rattle.cir_meaning.proofs.PartWrites.{set_count}
use Rattle.cir_meaning.proofs.NumberPlaces.{Roomy}
use Rattle.cir_meaning.proofs.Rows.{all_append}
use Rattle.cir_meaning.proofs.ScanPoints.{found_to}
use Rattle.cir_meaning.proofs.ScopeLaws.{IsSound as IsSoundScope}
use Rattle.cir_meaning.proofs.ValueKeepings.{dims_kept}
use Rattle.cir_steps.specs.Step.{Step, variable_sources}
use Rattle.cir_steps.specs.Emission.{Emission, Emitted, quiet, known_in, with_state, steps_in}
use Rattle.cir_steps.specs.Emission.{waiting_steps}
use Rattle.cir_steps.specs.Emit.{emit_set_variable, emit_set_signal, emit_create, emit_created}
use Rattle.cir_steps.specs.Emit.{make_wiring, emit_equal}
use Rattle.cir_steps.specs.Statements.{emit_undecided, emit_assert, emit_log}
use Rattle.cir_steps.specs.Places.{HasNoMember, IsWiredPlace, HasPlaces}
use Rattle.cir_steps.proofs.Casting.{Written, stays_clear, set_signal_written, with_element}
use Rattle.cir_steps.specs.Written.{targets_of}
use Rattle.cir_steps.proofs.Following.{joined}
use Rattle.cir_steps.proofs.ReadCells.{Holds, IsTabled, are_tabled, roomy_less}
use Rattle.cir_steps.proofs.ReadLeaves.{same_ok, stays_clear as still_stays, sizes_of, Moved, Moves}
use Rattle.cir_steps.proofs.ReadLeaves.{moves_join}
use Rattle.cir_steps.proofs.ReadWalk.{Quiet, Leaf, Leaves}
use Rattle.cir_steps.proofs.Sized.{SizedCall}
use Rattle.cir_steps.proofs.Still.{Still, still_itself, still_like, counted_still, dims_still}
use Rattle.cir_steps.proofs.Still.{condition_still, dropped_still, component_still, equal_still}
use Rattle.cir_steps.proofs.Still.{log_still, assert_still, undecided_still, assignment_still}
use Rattle.cir_steps.proofs.Still.{behind_still}
use Rattle.cir_steps.proofs.Walk.{StaysClear, ClearIn}
use Rattle.cir_steps.proofs.Wide.{below}
use Rattle.cir_emit.proofs.Decisions.{decision_sound}
use Rattle.cir_emit.proofs.Keeps.{HasRoom, Kept, keeping}
use Rattle.cir_emit.proofs.MadeSteps.{IsSound, assigned_sound, wiring_sound, comparison_sound}
use Rattle.cir_emit.proofs.MadeSteps.{assertion_sound, line_sound}
use Rattle.cir_emit.proofs.Targets.{variables_long}

abbrev pub AllSound : List Step → Type 0
AllSound steps = AllByRecursion IsSound steps

-- where steps may be made: values are of the field, there is room for the variables, components
-- have their cells, and steps that wait are right
pub record IsPrepared (room : ℕ) (x : Emission) : Type 0 where
  pub fine : Fine (known_in x)
  pub long : HasRoom room (known_in x)
  pub runs : length x.cells.parts ≡ length (known_in x).frame.parts
  pub waiting : AllByRecursion AllSound x.bodies

-- a program has no more signals in the end, and the cells of signals stand in the tables
pub record IsNumbered (final : Sizes) (x : Emission) (y : Emitted) : Type 0 where
  pub fits : Fits (sizes_of x)
  pub less : Less (sizes_of y.state) final
  pub tabled : IsTabled x

abbrev pub Makes : (final : Sizes) → ℕ → Emission → Emitted → Type 0
Makes final room x y =
    IsNumbered final x y → IsPrepared room x → IsPrepared room y.state × AllSound y.steps

-- as many of both
beside_there : {A B : Type 0} (xs : List A) (ys : List B) (j : ℕ) (b : B)
    → length xs ≡ length ys → slice_get ys j ≡ Some b → (a : A) × (slice_get xs j ≡ Some a)
beside_there [] [] j b long e = cc
beside_there [] (y ∷ ys) j b long e = cc
beside_there (x ∷ xs) [] j b long e = cc
beside_there (x ∷ xs) (y ∷ ys) zero b long e = (x, refl)
beside_there (x ∷ xs) (y ∷ ys) (suc j) b long e =
    beside_there xs ys j b (omega (arith, long)) e

both_good : {A : Type 0} (P Q : A → Type 0) (C : Type 0) (m : Tried A) → OnGood P m
    → (C → OnGood Q m) → OnGood (λ a. P a × (C → Q a)) m
unfolding OnGood
both_good P Q C (Ok a) h g = (h, g)
both_good P Q C (Err e) h g = tt

-- what waits and is freed
freed_sound : (part : Option ℕ) (was : Bool) (x : Emission) → AllByRecursion AllSound x.bodies
    → AllSound (freed_at part was x)
freed_sound None was x h = tt
freed_sound (Some j) was x h = by (slice_get (known_in x).frame.parts j)
  where
    waiting : (o : Option (List Step)) → slice_get x.bodies j ≡ o → AllSound (steps_in o)
    waiting None is = tt
    waiting (Some steps) is = all_get AllSound x.bodies j steps h is

    by : (o : Option Part) → AllSound (freed j was o x)
    by None = tt
    by (Some p) =
        either AllSound (not was && is_fed p.signals) (waiting_steps x j) []
        (waiting (slice_get x.bodies j) refl) tt

-- as many components
abbrev SameCount : State → State → Type 0
SameCount f s = length s.frame.parts ≡ length f.frame.parts

element_count : (part : Option ℕ) (n place : ℕ) (e : SignalEntry) (s : State)
    → SameCount s (with_element part n place e s)
element_count None n place e s = refl
element_count (Some j) n place e s = by (slice_get s.frame.parts j) _
  where
    by : (o : Option Part) (signals : Signals)
        → length (with_part_signals j signals o s.frame).parts ≡ length s.frame.parts
    by None signals = refl
    by (Some p) signals = set_count s.frame.parts j _

parts_count : Written SameCount
parts_count = record {
  still = λ f s h. ap (λ (ps : List Part). length ps) h.1;
  element = λ part n place e s there. element_count part n place e s;
  joins = λ f s t h g. g ∙ h;
}

-- steps of components, where bodies are made as they are executed
abbrev pub CastsSound : (final : Sizes) → Maker → Caster → Type 0
CastsSound final make cast =
    (w : Where) (n : ℕ) (ds : List Datum) (path : List ℕ) (world : World) (start : ℕ)
    (z : Signals × World) (o : Cast) → make w n ds path world ≡ Ok z
    → cast w n ds path world start ≡ Ok o → Fits world.sizes → Less z.1.sizes final
    → AllByRecursion IsDatum ds → FineWorld world → AllSound o.steps

-- what is created, with one component more
record IsCreated (k : Context) (w : Where) (c : Creation) (s : State) : Type 0 where
  signals : s.frame.signals ≡ c.state.frame.signals
  count : length s.frame.parts ≡ suc (length c.state.frame.parts)
  make : Maker
  makes : k.make ≡ Some make
  body : Signals × World
  is : make w c.template c.arguments (path_of k c.entry c.indices) c.state.world ≡ Ok body
  sizes : body.1.sizes ≡ s.world.sizes

created_is : (k : Context) (w : Where) (c : Creation) (place : ℕ) (places : List ℕ)
    → OnGood (IsCreated k w c) (create_each k w c (place ∷ places))
created_is k w c place places =
    good_needed Is (is_none (entry_at c.entry.parts place)) w SecondWrite _
    (good_as Is (found w TooDeep k.make) _ (λ make there.
    good_needed Is (may_be c.template (template_of c.state.frame.parts c.entry.parts)) w
    (NotInProfile MixedComponents) _
    (good_as Is (make w c.template c.arguments (path_of k c.entry c.indices) c.state.world) _
    (λ a ea. good_ok Is _ record {
      signals = refl;
      count = one_longer c.state.frame.parts _;
      make = make;
      makes = found_to w TooDeep k.make make there;
      body = a;
      is = ea;
      sizes = refl;
    }))))
  where
    Is : State → Type 0
    Is = IsCreated k w c

module _ (functions room : ℕ) (final : Sizes) (q : Emitting) (keeps : CallKeeps q.context.call)
    (both : CallBoth q.context.call) (fine : FineContext q.context)
    (sized : SizedCall q.context.call)
    (casts : (make : Maker) → q.context.make ≡ Some make → CastsSound final make q.cast) where
  abbrev k : Context
  k = q.context

  abbrev Fit : State → Type 0
  Fit = Kept room k keeps fine

  abbrev pub Turns : State → State → Type 0
  Turns f s = Still f s × (Fit f → Fit s)

  turns : {A : Type 0} (f : State) (state : A → State) (m : Tried A)
      → OnGood (λ a. Still f (state a)) m → (Fit f → OnGood (λ a. Fit (state a)) m)
      → OnGood (λ a. Turns f (state a)) m
  turns f state m h g = both_good (λ a. Still f (state a)) (λ a. Fit (state a)) (Fit f) m h g

  pub quiet_turns : Quiet q Turns
  quiet_turns = record {
    still = λ f s h. h.0;
    itself = λ s. (still_itself s, λ h. h);
    counted = λ spot s. turns s (λ t. t) _ (counted_still s (at k spot) s (still_itself s))
        (λ h. (keeping room k keeps fine).settle (at k spot) (adding one_statement s) h);
    dims = λ w es s. turns s (λ a. a.1) _ (dims_still s k keeps w false es s (still_itself s))
        (λ h. dims_kept k Fit false
        (λ w want e s h. (keeping room k keeps fine).value w false want e s h) w es s h);
    variable = λ n dims f s h. (h.0, λ g. (keeping room k keeps fine).variable n dims s (h.1 g));
    component = λ n name dims s. ((refl, refl, refl, refl), λ h. h);
    components = λ w c s. turns s (λ t. t) _ (component_still s k keeps w c s (still_itself s))
        (component_keeps k (keeping room k keeps fine) w c s);
    dropped = λ w e s. turns s (λ t. t) _ (dropped_still s k keeps w e s (still_itself s))
        (dropped_keeps k (keeping room k keeps fine) w e s);
    condition = λ spot c s. turns s (λ a. a.1) _
        (condition_still s k keeps spot c s (still_itself s))
        (condition_keeps k (keeping room k keeps fine) spot c s);
  }

  abbrev pub R : Emission → Emitted → Type 0
  R = Makes final room

  abbrev Right : Emission → Tried Emitted → Type 0
  Right x m = OnGood (Leaf R x) m

  -- behind what leaves components and what waits
  prepared : (x y : Emission) → y.cells.parts ≡ x.cells.parts → y.bodies ≡ x.bodies
      → Turns (known_in x) (known_in y) → IsPrepared room x → IsPrepared room y
  prepared x y parts bodies h p =
      let fit : Fit (known_in y) = h.1 (p.fine, p.long) in record {
        fine = fit.0;
        long = fit.1;
        runs = ap (λ (rs : List RunPart). length rs) parts ∙ p.runs
            ∙ sym (ap (λ (ps : List Part). length ps) h.0.1);
        waiting = subst (AllByRecursion AllSound) (sym bodies) p.waiting;
      }

  -- what must be known where a step is made
  runs_of : (x : Emission) → IsPrepared room x → (j : ℕ) (p : Part)
      → slice_get (known_in x).frame.parts j ≡ Some p
      → (r : RunPart) × (slice_get x.cells.parts j ≡ Some r)
  runs_of x h j p e =
      beside_there x.cells.parts (known_in x).frame.parts j p h.runs e

  few_of : (x : Emission) → IsPrepared room x → (n : ℕ) → (below functions room).seen n ≡ true
      → n < length (variable_sources (known_in x).frame.variables x.sources)
  few_of x h n e =
      let less : n < room = ltb-true n room e in
      omega (arith, less, h.long, variables_long (known_in x).frame.variables x.sources)

  -- one step
  one : (x y : Emission) (step : Step) → y.cells.parts ≡ x.cells.parts → y.bodies ≡ x.bodies
      → Turns (known_in x) (known_in y) → (IsTabled x → IsPrepared room x → IsSound step)
      → Right x (Ok record { state = y; steps = step ∷ [] })
  one x y step parts bodies h sound =
      good_ok (Leaf R x) _ (
        (λ u p. (prepared x y parts bodies h p, (sound u.tabled p, tt))),
        still_stays (known_in x) (known_in y) h.0,
      )

  none : (x : Emission) (s : State) → Turns (known_in x) s → Right x (quiet (with_state s x))
  none x s h =
      good_ok (Leaf R x) _ (
        (λ u p. (prepared x (with_state s x) refl refl h p, tt)),
        still_stays (known_in x) s h.0,
      )

  equal_leaf : (w : Where) (a b : Expr Meant) (x : Emission)
      → AreCallsMeant (below functions room) a → AreCallsMeant (below functions room) b
      → Right x (emit_equal q w a b x)
  equal_leaf w a b x meant_a meant_b =
      good_as (Leaf R x) (simple.equal k w a b (known_in x)) _ (λ s es.
      one x (with_state s x) _ refl refl
      (good_is (Turns (known_in x)) (simple.equal k w a b (known_in x)) s es
      (turns (known_in x) (λ t. t) _
      (equal_still (known_in x) k keeps w a b (known_in x) (still_itself (known_in x)))
      ((keeping room k keeps fine).equal w a b (known_in x))))
      (λ t p. comparison_sound k keeps both fine sized w x p.fine (runs_of x p) t
      (below functions room) (few_of x p) a b s es meant_a meant_b))

  line_leaf : (w : Where) (arguments : List (LogArgument Meant)) (x : Emission)
      → AllByRecursion (IsArgumentMeant (below functions room)) arguments
      → Right x (emit_log q w arguments x)
  line_leaf w arguments x meant_all =
      good_as (Leaf R x) (log_values k w arguments (known_in x)) _ (λ s es.
      one x (record (with_state s x) { next = x.next + logged_cells arguments }) _ refl refl
      (good_is (Turns (known_in x)) (log_values k w arguments (known_in x)) s es
      (turns (known_in x) (λ t. t) _
      (log_still (known_in x) k keeps w arguments (known_in x) (still_itself (known_in x)))
      (log_keeps k (keeping room k keeps fine) w arguments (known_in x))))
      (λ t p. line_sound k keeps both fine sized w x p.fine (runs_of x p) t
      (below functions room) (few_of x p) arguments s es meant_all))

  assert_leaf : (w : Where) (e : Expr Meant) (x : Emission)
      → AreCallsMeant (below functions room) e → Right x (emit_assert q w e x)
  assert_leaf w e x meant_e =
      good_as (Leaf R x) (value_in k w false Scalar e f) _ (λ y ey.
      good_as (Leaf R x) (assert_value k w e f (the_item y.0) y.1) _ (λ s es.
      by y ey s (good_is (Turns f) (assert_value k w e f (the_item y.0) y.1) s es
      (turns f (λ t. t) _ (assert_still f k keeps w e f (the_item y.0) y.1 (still y ey))
      (λ h. assert_keeps k (keeping room k keeps fine) w e f (the_item y.0) y.1
      (good_is (λ z. Fit z.1) (value_in k w false Scalar e f) y ey
      ((keeping room k keeps fine).value w false Scalar e f h))))) (the_item y.0)))
    where
      f : State
      f = known_in x

      still : (y : Datum × State) → value_in k w false Scalar e f ≡ Ok y → Still f y.1
      still y ey =
          still_like f f y.1 (still_itself f)
          (good_is (λ z. Like f z.1) (value_in k w false Scalar e f) y ey
          (value_like f k keeps w false Scalar e f (like_itself f)))

      step : (y : Datum × State) → value_in k w false Scalar e f ≡ Ok y → (s : State)
          → Turns f s → Right x (make_assertion k w e s x)
      step y ey s h =
          one x (with_state s x) _ refl refl h
          (λ t p. assertion_sound k keeps both fine sized w x p.fine (runs_of x p) t
          (below functions room) (few_of x p) e y ey meant_e)

      by : (y : Datum × State) → value_in k w false Scalar e f ≡ Ok y → (s : State) → Turns f s
          → (v : Value) → Right x (decided v (quiet (with_state s x)) (quiet (with_state s x))
          (make_assertion k w e s x))
      by y ey s h (Known n) =
          either (Right x) (n == 0) (quiet (with_state s x)) (quiet (with_state s x)) (none x s h)
          (none x s h)
      by y ey s h (Linear g) = step y ey s h
      by y ey s h (Quadratic a b c) = step y ey s h
      by y ey s h Opaque = step y ey s h

  undecided_leaf : (scope : Names) (spot : Spot) (fault : Option Fault) (a : Statement Spot Meant)
      (x : Emission) → IsSoundScope functions scope → IsScoped scope a → HasPlaces a
      → (behind_scope scope a).variables ≤ room → Right x (emit_undecided q spot fault a x)
  undecided_leaf scope spot fault a x sounds is places le =
      good_as (Leaf R x) (undecided k spot fault a (known_in x)) _ (λ s es.
      one x (with_variables (wanted_of (outer_assigned a) (known_in x)) s x) _ refl refl
      (good_is (Turns (known_in x)) (undecided k spot fault a (known_in x)) s es
      (turns (known_in x) (λ t. t) _
      (undecided_still (known_in x) k keeps spot fault a (known_in x) (still_itself (known_in x)))
      (undecided_keeps k (keeping room k keeps fine) spot fault a (known_in x))))
      (λ t p. decision_sound k keeps both fine sized spot fault a x p.fine (runs_of x p) t s es
      functions scope sounds is places (omega (arith, le, p.long))))

  set_leaf : (w : Where) (written : Assign Meant) (n : ℕ) (accessors : Accessors Meant)
      (e : Expr Meant) (x : Emission)
      → IsSetMeant (below functions room) (meant.Variable n) accessors e → HasNoMember accessors
      → Right x (emit_set_variable q w written n accessors e x)
  set_leaf w written n accessors e x is none_there =
      good_as (Leaf R x) (variable_assignment k w n accessors e f) _ (λ a ea.
      good_as (Leaf R x) (simple.set_variable k w written n accessors e f) _ (λ s es.
      by a ea s (good_is (Turns f) (simple.set_variable k w written n accessors e f) s es
      (turns f (λ t. t) _ rests
      ((keeping room k keeps fine).set_variable w written n accessors e f))) (is_unknown n a)))
    where
      f : State
      f = known_in x

      rests : OnGood (Still f) (simple.set_variable k w written n accessors e f)
      rests =
          good_next (λ a. Still f a.state) (Still f) (variable_assignment k w n accessors e f) _
          (assignment_still f k keeps w n accessors e f (still_itself f)) (λ a h.
          behind_still f k keeps w (variable_cost k w written n accessors e a f) (new_cells n a) n
          a (is_unknown n a) h)

      by : (a : VariableAssignment) → variable_assignment k w n accessors e f ≡ Ok a → (s : State)
          → Turns f s → (b : Bool)
          → Right x (cond b (make_assignment k w written n accessors e a s x)
          (quiet (with_state s x)))
      by a ea s h true =
          one x (with_cells n (new_places n a) s x) _ refl refl h
          (λ t p. assigned_sound k keeps both fine sized w x p.fine (runs_of x p) t
          (below functions room) (few_of x p) written n accessors e a ea none_there is)
      by a ea s h false = none x s h

  wired_leaf : (w : Where) (written : Assign Meant) (m : Meant) (accessors : Accessors Meant)
      (a : Arrow) (e : Expr Meant) (x : Emission) → AreCallsMeant (below functions room) e
      → IsWiredPlace m accessors → Right x (emit_set_signal q w written m accessors a e x)
  wired_leaf w written m accessors a e x meant_e place_there =
      good_as (Leaf R x) (signal_assignment k w m accessors e f) _ (λ b eb.
      good_as (Leaf R x) (simple.set_signal k w written m accessors a e f) _ (λ s es.
      by b eb s es b.target.reach.places))
    where
      f : State
      f = known_in x

      count : (s : State) → simple.set_signal k w written m accessors a e f ≡ Ok s → SameCount f s
      count s es =
          good_is (SameCount f) (simple.set_signal k w written m accessors a e f) s es
          (set_signal_written SameCount parts_count k w keeps written m accessors a e f)

      clear : (s : State) → simple.set_signal k w written m accessors a e f ≡ Ok s
          → StaysClear f s
      clear s es =
          good_is (StaysClear f) (simple.set_signal k w written m accessors a e f) s es
          (set_signal_written StaysClear stays_clear k w keeps written m accessors a e f)

      behind : (s : State) → simple.set_signal k w written m accessors a e f ≡ Ok s
          → IsPrepared room x → IsPrepared room (with_state s x)
      behind s es p =
          let fit : Fit s =
          good_is Fit (simple.set_signal k w written m accessors a e f) s es
          ((keeping room k keeps fine).set_signal w written m accessors a e f
          (p.fine, p.long)) in record {
            fine = fit.0;
            long = fit.1;
            runs = p.runs ∙ sym (count s es);
            waiting = p.waiting;
          }

      by : (b : SignalAssignment) → signal_assignment k w m accessors e f ≡ Ok b → (s : State)
          → simple.set_signal k w written m accessors a e f ≡ Ok s → (places : List ℕ)
          → Right x (make_wiring q w written accessors e b s places x)
      by b eb s es [] = good_ok (Leaf R x) _ ((λ u p. (behind s es p, tt)), clear s es)
      by b eb s es (place ∷ places) =
          good_ok (Leaf R x) _ (
            (λ u p. (
              behind s es p,
              (
                wiring_sound k keeps both fine sized w x p.fine (runs_of x p) u.tabled
                    (below functions room) (few_of x p) written m accessors e b eb meant_e,
                all_append IsSound (freed_at b.target.part
                    (is_fed (signals_of b.target.part f.frame)) (with_state s x)) []
                    (freed_sound b.target.part (is_fed (signals_of b.target.part f.frame))
                    (with_state s x) p.waiting) tt,
              ),
            )),
            clear s es,
          )

  created_leaf : (w : Where) (n : ℕ) (accessors : Accessors Meant) (e : Expr Meant) (x : Emission)
      → Right x (emit_create q w n accessors e x)
  created_leaf w n accessors e x =
      good_as (Leaf R x) (creation k w n accessors e f) _ (λ c ec.
      good_as (Leaf R x) (create k w c) _ (λ s es. by c ec s c.places es (fit c ec s es)))
    where
      f : State
      f = known_in x

      fit : (c : Creation) → creation k w n accessors e f ≡ Ok c → (s : State)
          → create k w c ≡ Ok s → IsPrepared room x → Fit s
      fit c ec s es p =
          good_is Fit (next (creation k w n accessors e f) (create k w)) s
          (ap (λ m. next m (create k w)) ec ∙ es)
          ((keeping room k keeps fine).create w n accessors e f (p.fine, p.long))

      rests : (c : Creation) → creation k w n accessors e f ≡ Ok c → Still f c.state
      rests c ec =
          still_like f f c.state (still_itself f)
          (good_is (λ c. Like f c.state) (creation k w n accessors e f) c ec
          (creation_like k keeps f w n accessors e f (like_itself f)))

      by : (c : Creation) → creation k w n accessors e f ≡ Ok c → (s : State) → (places : List ℕ)
          → create_each k w c places ≡ Ok s → (IsPrepared room x → Fit s)
          → Right x (emit_created q w c places s x)
      by c ec s [] es fits =
          let same : c.state ≡ s = same_ok c.state s es in
          let h : Still f s = subst (Still f) same (rests c ec) in
          good_ok (Leaf R x) _ (
            (λ u p. (
              record {
                fine = (fits p).0;
                long = (fits p).1;
                runs = p.runs ∙ sym (ap (λ (ps : List Part). length ps) h.1);
                waiting = p.waiting;
              },
              tt,
            )),
            still_stays f s h,
          )
      by c ec s (place ∷ places) es fits =
          good_as (Leaf R x) (q.cast w c.template c.arguments (path_of k c.entry c.indices)
          c.state.world x.next) _ (λ o eo.
          good_ok (Leaf R x) _ ((λ u p. made o eo u.fits u.less p), clear))
        where
          its : IsCreated k w c s
          its =
              good_is (IsCreated k w c) (create_each k w c (place ∷ places)) s es
              (created_is k w c place places)

          clear : StaysClear f s
          clear ns h =
              subst (ClearIn ns) (sym (its.signals ∙ (rests c ec).0)) h

          made : (o : Cast) → q.cast w c.template c.arguments (path_of k c.entry c.indices)
              c.state.world x.next ≡ Ok o → Fits (sizes_of x) → Less s.world.sizes final
              → IsPrepared room x → IsPrepared room (with_cast k w c o s x)
              × AllSound (freed_at (Some (length x.bodies)) false (with_cast k w c o s x) ++ [])
          made o eo numbers less p =
              let args : FineCreation c =
              good_is FineCreation (creation k w n accessors e f) c ec
              (creation_fine k fine w n accessors e f p.fine) in
              let sound : AllSound o.steps =
              casts its.make its.makes w c.template c.arguments (path_of k c.entry c.indices)
              c.state.world x.next its.body o its.is eo (subst Fits (sym (rests c ec).2) numbers)
              (subst (λ z. Less z final) (sym its.sizes) less) args.0 args.1.1 in
              let waits : AllByRecursion AllSound (x.bodies ++ o.steps ∷ []) =
              all_append AllSound x.bodies (o.steps ∷ []) p.waiting (sound, tt) in (
                record {
                  fine = (fits p).0;
                  long = (fits p).1;
                  runs = one_longer x.cells.parts _ ∙ ap (λ (n : ℕ). suc n) (p.runs
                      ∙ sym (ap (λ (ps : List Part). length ps) (rests c ec).1)) ∙ sym its.count;
                  waiting = waits;
                },
                all_append IsSound (freed_at (Some (length x.bodies)) false
                    (with_cast k w c o s x)) []
                    (freed_sound (Some (length x.bodies)) false (with_cast k w c o s x) waits) tt,
              )

  -- from any numbers that hold where a statement begins its steps are right
  module _ (size : ℕ) (roomy : Roomy size final)
      (moves : Leaves functions room q Still (Moves size final)) where
    abbrev Sound : Emission → Emitted → Type 0
    Sound x y =
        Less (sizes_of y.state) final → Fits (sizes_of x) → (first : Sizes) (before : List ℕ)
        → Holds size first before x → IsPrepared room x → IsPrepared room y.state × AllSound y.steps

    abbrev pub MovesSound : Emission → Emitted → Type 0
    MovesSound x y = Moves size final x y × Sound x y

    sound_from : (x : Emission) (y : Emitted) → Moves size final x y → R x y → Sound x y
    sound_from x y h g less fits first before holds p =
        g record {
          fits = fits;
          less = less;
          tabled = are_tabled size first before x holds
              (roomy_less size (sizes_of x) final (less_then _ _ _ (h fits).0.1 less) roomy);
        } p

    paired : (x : Emission) (m : Tried Emitted) → OnGood (Leaf (Moves size final) x) m → Right x m
        → OnGood (Leaf MovesSound x) m
    unfolding OnGood
    paired x (Ok y) h g = ((h.0, sound_from x y h.0 g.0), h.1)
    paired x (Err e) h g = tt

    both_joined : (x : Emission) (y z : Emitted) → MovesSound x y → MovesSound y.state z
        → MovesSound x (joined y z)
    both_joined x y z h g = (
      moves_join size final x y z h.0 g.0,
      λ less fits first before holds p.
          let middle : Less (sizes_of y.state) final =
          less_then _ _ _ (g.0 (h.0 fits).0.0).0.1 less in
          let moved : Moved size first before x y = (h.0 fits).1 middle first before holds in
          let a : IsPrepared room y.state × AllSound y.steps =
          h.1 middle fits first before holds p in
          let b : IsPrepared room z.state × AllSound z.steps =
          g.1 less (h.0 fits).0.0 first (before ++ targets_of y.steps) moved.holds a.0 in
          (b.0, all_append IsSound y.steps z.steps a.1 b.1),
    )

    pub sound_leaves : Leaves functions room q Turns MovesSound
    sound_leaves = record {
      still = λ x s h. (
        moves.still x s h.0,
        λ less fits first before holds p. (prepared x (with_state s x) refl refl h p, tt),
      );
      joins = both_joined;
      declared = λ spot direction n name dims x clear. (
        moves.declared spot direction n name dims x clear,
        λ less fits first before holds p. (
          record { fine = p.fine; long = p.long; runs = p.runs; waiting = p.waiting },
          tt,
        ),
      );
      set = λ w written n accessors e x is none_there.
          paired x _ (moves.set w written n accessors e x is none_there)
          (set_leaf w written n accessors e x is none_there);
      wired = λ w written m accessors a e x meant_e place_there.
          paired x _ (moves.wired w written m accessors a e x meant_e place_there)
          (wired_leaf w written m accessors a e x meant_e place_there);
      created = λ w n accessors e x.
          paired x _ (moves.created w n accessors e x) (created_leaf w n accessors e x);
      equal = λ w a b x meant_a meant_b.
          paired x _ (moves.equal w a b x meant_a meant_b) (equal_leaf w a b x meant_a meant_b);
      assertion = λ w e x meant_e.
          paired x _ (moves.assertion w e x meant_e) (assert_leaf w e x meant_e);
      line = λ w arguments x meant_all.
          paired x _ (moves.line w arguments x meant_all) (line_leaf w arguments x meant_all);
      undecided = λ scope spot fault a x sounds is places le.
          paired x _ (moves.undecided scope spot fault a x sounds is places le)
          (undecided_leaf scope spot fault a x sounds is places le);
    }
