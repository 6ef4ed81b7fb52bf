-- Statements keep all values and equations over declared signals.
use Rattle.std.proofs.Common.{◌≡◌, ℕ, Bool, false, List, [], ◌∷◌, refl, sym, subst}
use Rattle.cir_ast.specs.declared.program.Meant.{Meant}
use Rattle.cir_ast.specs.declared.operators.Arrow.{Arrow}
use Rattle.cir_ast.specs.Tree.{Expr, Accessors, Assign, Statements}
use Rattle.cir_ast.specs.declared.program.Spot.{Spot}
use Rattle.cir_meaning.specs.Tried.{Where, Tried, next}
use Rattle.cir_meaning.specs.Limits.{with_array}
use Rattle.cir_meaning.specs.Arrays.{Datum, Want, Scalar, Whole, filled, forgotten, the_item}
use Rattle.cir_meaning.specs.Values.{Value, Known, Opaque}
use Rattle.cir_meaning.specs.Frame.{Row, State, Context, variable_at, counted, one_statement}
use Rattle.cir_meaning.specs.Evaluate.{scalar, value_in}
use Rattle.cir_meaning.specs.Writing.{put_variable, variable_assignment, is_unknown, write_variable}
use Rattle.cir_meaning.specs.Writing.{signal_assignment, write_signal, constrained}
use Rattle.cir_meaning.specs.Declaring.{creation, create}
use Rattle.cir_meaning.specs.Costs.{Cost}
use Rattle.cir_meaning.specs.Steps.{variable_cost, signal_cost, equal_cost, new_cells}
use Rattle.cir_meaning.specs.Simple as simple
use Rattle.cir_meaning.specs.Statement.{Flow, exec_all}
use Rattle.cir_meaning.proofs.Good.{OnGood, good_ok, good_next, good_weaker, either}
use Rattle.cir_meaning.proofs.Pairs.{good_both}
use Rattle.cir_meaning.proofs.Likes.{Like, like_itself, value_like}
use Rattle.cir_meaning.proofs.KnownValues.{KnownStore}
use Rattle.cir_meaning.proofs.Keepings.{FlowIs, Keeping, exec_all_keeps}
use Rattle.cir_meaning.proofs.Depending.{Over}
use Rattle.cir_meaning.proofs.DependingValues.{DatumOver, the_over, value_over}
use Rattle.cir_meaning.proofs.DependingWriting.{AtRows, WorldOver, StateOver, BodyOver, rows_like}
use Rattle.cir_meaning.proofs.DependingWriting.{like_over, datum_like, counted_as_over, settle_over}
use Rattle.cir_meaning.proofs.DependingWriting.{counted_over, stepped_over, set_over}
use Rattle.cir_meaning.proofs.DependingWriting.{forgotten_over, write_over, declare_variable_over}
use Rattle.cir_meaning.proofs.DependingWriting.{constrained_over, elements_over}
use Rattle.cir_meaning.proofs.DependingWriting.{declare_signal_over, create_over}
use Rattle.cir_meaning.proofs.DependingWriting.{declare_component_over, assignment_over}
use Rattle.cir_meaning.proofs.DependingWriting.{signal_assignment_over, creation_over}

module _ (size : ℕ) (base : List Row) (k : Context) (body : BodyOver size k) where
  abbrev Kept : State → Type 0
  Kept = StateOver size base

  -- a value, in a state that differs in counts alone
  abbrev Told : State → Datum × State → Type 0
  Told s x = DatumOver (AtRows size s.world.rows) x.0 × Like s x.1

  valued : {A : Type 0} (Q : A → Type 0) (w : Where) (shaded : Bool) (want : Want)
      (e : Expr Meant) (s : State) (go : Datum × State → Tried A) → Kept s
      → ((x : Datum × State) → DatumOver (AtRows size x.1.world.rows) x.0 → Kept x.1
      → Like s x.1 → OnGood Q (go x))
      → OnGood Q (next (value_in k w shaded want e s) go)
  valued Q w shaded want e s go g h =
      good_next (Told s) Q (value_in k w shaded want e s) go
      (good_both (λ x. DatumOver (AtRows size s.world.rows) x.0) (λ x. Like s x.1)
      (value_in k w shaded want e s)
      (value_over (AtRows size s.world.rows) s g.frame k body.calls w shaded want e s
      (like_itself s))
      (value_like s k body.calls.keeps w shaded want e s (like_itself s)))
      (λ x p. h x (datum_like size s x.1 x.0 p.1 p.0) (like_over size base s x.1 p.1 g) p.1)

  scalared : {A : Type 0} (Q : A → Type 0) (w : Where) (shaded : Bool) (e : Expr Meant)
      (s : State) (go : Value → State → Tried A) → Kept s
      → ((v : Value) (s1 : State) → Over (AtRows size s1.world.rows) v → Kept s1 → Like s s1
      → OnGood Q (go v s1))
      → OnGood Q (scalar (value_in k w shaded Scalar e s) go)
  scalared Q w shaded e s go g h =
      valued Q w shaded Scalar e s (λ (d, s1). go (the_item d) s1) g
      (λ x p g1 l. h (the_item x.0) x.1 (the_over (AtRows size x.1.world.rows) x.0 p) g1 l)

  set_variable_over : (w : Where) (written : Assign Meant) (n : ℕ)
      (accessors : Accessors Meant) (e : Expr Meant)
      → (s : State) → Kept s
      → OnGood Kept (simple.set_variable k w written n accessors e s)
  set_variable_over w written n accessors e s g =
      good_next (λ a. DatumOver (AtRows size s.world.rows) a.value × Like s a.state) Kept
      (variable_assignment k w n accessors e s) _
      (assignment_over (AtRows size s.world.rows) k body.calls s g.frame w n accessors e)
      (λ a p.
      let after : Kept (write_variable n a) =
      write_over size base n a (datum_like size s a.state a.value p.1 p.0)
      (like_over size base s a.state p.1 g) in
      either (OnGood Kept) (is_unknown n a) _ _
      (stepped_over size base k w (variable_cost k w written n accessors e a s) (new_cells n a)
      (write_variable n a) after)
      (good_ok Kept (write_variable n a) after))

  created : (w : Where) (n : ℕ) (accessors : Accessors Meant) (e : Expr Meant) (s : State)
      → Kept s → OnGood Kept (next (creation k w n accessors e s) (create k w))
  created w n accessors e s g =
      good_next (λ c. KnownStore c.arguments × Like s c.state) Kept
      (creation k w n accessors e s) (create k w)
      (creation_over (AtRows size s.world.rows) k body.calls s g.frame w n accessors e)
      (λ c p. create_over size base k body w c c.places p.0
      (like_over size base s c.state p.1 g))

  wired_over : (w : Where) (cost : Cost) (places : List ℕ) → (s : State)
      → Kept s → OnGood Kept (simple.wired k w cost places s)
  wired_over w cost [] s g = good_ok Kept s g
  wired_over w cost (place ∷ places) s g = stepped_over size base k w cost 0 s g

  set_signal_over : (w : Where) (written : Assign Meant) (m : Meant)
      (accessors : Accessors Meant) (arrow : Arrow) (e : Expr Meant)
      → (s : State) → Kept s
      → OnGood Kept (simple.set_signal k w written m accessors arrow e s)
  set_signal_over w written m accessors arrow e s g =
      good_next (λ a. DatumOver (AtRows size s.world.rows) a.value × Like s a.state) Kept
      (signal_assignment k w m accessors e s) _
      (signal_assignment_over (AtRows size s.world.rows) k body.calls s g.frame w m accessors e)
      (λ a p.
      good_next Kept Kept (write_signal k w arrow a)
      (simple.wired k w (signal_cost k w written accessors e s) a.target.reach.places)
      (elements_over size base a.state.world.rows k w arrow a.target a.target.reach.places
      a.value.items a.state refl (datum_like size s a.state a.value p.1 p.0)
      (like_over size base s a.state p.1 g))
      (wired_over w (signal_cost k w written accessors e s) a.target.reach.places))

  equal_over : (w : Where) (a b : Expr Meant) → (s : State) → Kept s
      → OnGood Kept (simple.equal k w a b s)
  equal_over w a b s g =
      scalared Kept w false a s _ g (λ x s1 h g1 l.
      scalared Kept w false b s1 _ g1 (λ y s2 i g2 m.
      good_next (λ z. Kept z × (z.world.rows ≡ s2.world.rows)) Kept (constrained k w x y s2) _
      (constrained_over size base s2.world.rows k w x y s2 refl
      (subst (λ rows. Over (AtRows size rows) x) (sym (rows_like size s1 s2 m)) h) i g2)
      (λ s3 p. stepped_over size base k w (equal_cost k w a b s) 0 s3 p.0)))

  abbrev depending : Keeping k
  depending = record {
    Kept = Kept;
    Done = Kept;
    Gone = λ d world. WorldOver size base world;
    done = λ s g. g;
    value = λ w shaded want e s g.
        good_weaker (λ x. Like s x.1) (λ x. Kept x.1) (value_in k w shaded want e s)
        (value_like s k body.calls.keeps w shaded want e s (like_itself s))
        (λ x l. like_over size base s x.1 l g);
    settle = settle_over size base;
    statement = λ s g.
        counted_as_over size base s (one_statement s.frame.added) s.world.counts g;
    step = stepped_over size base k;
    variable = λ n dims s g.
        counted_as_over size base (put_variable n (filled dims (Known 0)) s)
        (with_array dims s.frame.added) s.world.counts
        (declare_variable_over size base n dims (Known 0) s tt g);
    scanned = λ n dims s g.
        counted_as_over size base (put_variable n (filled dims Opaque) s)
        (with_array dims s.frame.added) s.world.counts
        (declare_variable_over size base n dims Opaque s tt g);
    forgotten = λ n s g.
        set_over size base n (forgotten (variable_at s.frame n)) s
        (forgotten_over size (AtRows size s.world.rows) (variable_at s.frame n)) g;
    signal = λ spot direction n name dims s g.
        declare_signal_over size base k spot direction n name dims s body.same g;
    component = declare_component_over size base;
    set_variable = set_variable_over;
    set_signal = set_signal_over;
    equal = equal_over;
    create = created;
    returns = λ w e s g.
        valued (FlowIs Kept (λ d world. WorldOver size base world)) w false Whole e s _ g
        (λ x h g1 l.
        good_next Kept (FlowIs Kept (λ d world. WorldOver size base world)) (counted w x.1) _
        (counted_over size base w x.1 g1)
        (λ s2 g2. good_ok (FlowIs Kept (λ d world. WorldOver size base world)) _ g2.world));
  }

  abbrev pub FlowOver : Flow → Type 0
  FlowOver = FlowIs (StateOver size base) (λ d world. WorldOver size base world)

  pub exec_all_over : (ss : Statements Spot Meant) (s : State) → StateOver size base s
      → OnGood FlowOver (exec_all k ss s)
  exec_all_over ss s g = exec_all_keeps k depending ss s g
