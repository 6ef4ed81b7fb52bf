-- What the compile meaning does without touching signals, their sizes, components
-- and instances.
use Rattle.std.proofs.Common.{◌≡◌, ℕ, Bool, true, false, cond, List, [], ◌∷◌, Option, Some, None}
use Rattle.std.proofs.Common.{Ok, Err, refl, ap, ◌∙◌}
use Rattle.cir_ast.specs.declared.program.Spot.{Spot}
use Rattle.cir_ast.specs.declared.program.Meant.{Meant}
use Rattle.cir_ast.specs.declared.program.Meant.TheVariants as meant
use Rattle.cir_ast.specs.declared.refusal.Kind.{Kind}
use Rattle.cir_ast.specs.declared.refusal.Kind.TheVariants.{ShapeDiffers, UnknownIndex}
use Rattle.cir_ast.specs.Tree.{Expr, Exprs, none, more, Accessors, done, index, member, Variable}
use Rattle.cir_ast.specs.Tree.{Component, Assign, Set, Compound, Left, Increment, Decrement, First}
use Rattle.cir_ast.specs.Tree.{FirstVars, FirstAssign, LogArgument, Words, LogValue, Simple, Vars}
use Rattle.cir_ast.specs.Tree.{Signals, Declared, Created, Assigned, Constrain, Right, TargetLeft}
use Rattle.cir_ast.specs.Tree.{TargetRight, Alone, Statement, Block, If, IfElse, While, For, Return}
use Rattle.cir_ast.specs.Tree.{Assert, Log, Ended, Statements, empty, then_more}
use Rattle.cir_meaning.specs.Tried.{Where, Tried, next, found}
use Rattle.cir_meaning.specs.Limits.{limits, plus, tested}
use Rattle.cir_meaning.specs.Arrays.{Datum, Want, Scalar, Whole, reach, same_dims, the_item}
use Rattle.cir_meaning.specs.Values.{Value, Known, Linear, Quadratic, Opaque, Parts, known_number}
use Rattle.cir_meaning.specs.Values.{parts_of, difference_of}
use Rattle.cir_meaning.specs.Frame.{World, State, Context, at, variable_at, adding, settle}
use Rattle.cir_meaning.specs.Frame.{one_statement, counted}
use Rattle.cir_meaning.specs.Evaluate.{value_in, dims_in, indices_in}
use Rattle.cir_meaning.specs.Writing.{plain, variable_assignment, VariableAssignment}
use Rattle.cir_meaning.specs.Writing.{write_variable, appended, constrained}
use Rattle.cir_meaning.specs.Declaring.{declare_component}
use Rattle.cir_meaning.specs.Costs.{Cost}
use Rattle.cir_meaning.specs.Steps.{stepped, unless_faulty, with_step, log_cost, logged_cells}
use Rattle.cir_meaning.specs.Steps.{equal_cost, assert_cost, undecided_cost, undecided_cells}
use Rattle.cir_meaning.specs.Functions.{function_fault, function_elements}
use Rattle.cir_meaning.specs.Simple as simple
use Rattle.cir_meaning.specs.Simple.{dropped, component_declaration, declared_number, equal}
use Rattle.cir_meaning.specs.Statement.{condition, assert_value, logged, log_values}
use Rattle.cir_meaning.specs.Unknown.{Fault, outer_assigned}
use Rattle.cir_meaning.specs.Scan.{forget_one, forget, scan_test, scan_set, scan_plain, scan_assign}
use Rattle.cir_meaning.specs.Scan.{scan_value, scan_declared, scan_meant, scan_variable, scan_first}
use Rattle.cir_meaning.specs.Scan.{scan_simple, scan, scan_all, undecided}
use Rattle.cir_meaning.proofs.Good.{OnGood, good_ok, good_bad, good_next, good_on, good_needed}
use Rattle.cir_meaning.proofs.Good.{good_weaker, either}
use Rattle.cir_meaning.proofs.Likes.{CallKeeps, Like, value_like, like_itself}
use Rattle.cir_meaning.proofs.VariableRuns.{assignment_like}

abbrev pub Still : State → State → Type 0
Still f s =
    (s.frame.signals ≡ f.frame.signals) × (s.frame.parts ≡ f.frame.parts)
    × (s.world.sizes ≡ f.world.sizes) × (s.world.instances ≡ f.world.instances)

pub still_itself : (s : State) → Still s s
still_itself s = (refl, refl, refl, refl)

pub still_like : (f s t : State) → Still f s → Like s t → Still f t
still_like f s t h l = (
  l.1 ∙ h.0,
  l.3 ∙ h.1,
  ap (λ (v : World). v.sizes) l.4 ∙ h.2,
  ap (λ (v : World). v.instances) l.4 ∙ h.3,
)

module _ (f : State) where
  pub settle_still : (w : Where) (s : State) → Still f s → OnGood (Still f) (settle w s)
  settle_still w s h =
      good_on (Still f) (tested limits w (plus s.world.counts s.frame.added)) _
      (λ c. good_ok (Still f) _ h)

  pub counted_still : (w : Where) (s : State) → Still f s → OnGood (Still f) (counted w s)
  counted_still w s h = settle_still w (adding one_statement s) h

  pub stepped_still : (k : Context) (w : Where) (cost : Cost) (cells : ℕ) (s : State) → Still f s
      → OnGood (Still f) (stepped k w cost cells s)
  stepped_still k w cost cells s h = at (function_fault k.program cost.calls)
    where
      at : (o : Option Kind) → OnGood (Still f) (unless_faulty w o (Ok (adding (with_step cost cells
          (function_elements k.program cost.calls)) s)))
      at None = good_ok (Still f) _ h
      at (Some kind) = good_bad (Still f) _

  forget_still : (ns : List ℕ) (s : State) → Still f s → Still f (forget ns s)
  forget_still [] s h = h
  forget_still (n ∷ ns) s h = forget_still ns (forget_one n s) h

  module _ (k : Context) (keeps : CallKeeps k.call) where
    pub valued_still : {A : Type 0} (Q : A → Type 0) (w : Where) (shaded : Bool) (want : Want)
        (e : Expr Meant) (s : State) (go : Datum × State → Tried A) → Still f s
        → ((x : Datum × State) → Still f x.1 → OnGood Q (go x))
        → OnGood Q (next (value_in k w shaded want e s) go)
    valued_still Q w shaded want e s go h g =
        good_next (λ x. Like s x.1) Q (value_in k w shaded want e s) go
        (value_like s k keeps w shaded want e s (like_itself s))
        (λ x l. g x (still_like f s x.1 h l))

    pub value_still : (w : Where) (want : Want) (e : Expr Meant) (s : State) → Still f s
        → OnGood (λ x. Still f x.1) (value_in k w false want e s)
    unfolding OnGood
    value_still w want e s h = at (value_in k w false want e s)
        (valued_still (λ x. Still f x.1) w false want e s (λ x. Ok x) h
        (λ x g. good_ok (λ x. Still f x.1) x g))
      where
        at : (m : Tried (Datum × State)) → OnGood (λ x. Still f x.1) (next m (λ x. Ok x))
            → OnGood (λ x. Still f x.1) m
        at (Ok x) g = g
        at (Err e) g = tt

    pub indices_still : {A : Type 0} (Q : A → Type 0) (w : Where) (shaded : Bool)
        (indices : List (Option ℕ)) (accessors : Accessors Meant) (s : State)
        (go : List (Option ℕ) → Accessors Meant → State → Tried A) → Still f s
        → ((indices : List (Option ℕ)) (rest : Accessors Meant) (s : State) → Still f s
        → OnGood Q (go indices rest s)) → OnGood Q (indices_in k w shaded indices accessors s go)
    indices_still Q w shaded indices done s go h g = g indices done s h
    indices_still Q w shaded indices (member name rest) s go h g = g indices (member name rest) s h
    indices_still Q w shaded indices (index e rest) s go h g =
        valued_still Q w shaded Scalar e s _ h
        (λ x i. indices_still Q w shaded _ rest x.1 go i g)

    pub dims_still : (w : Where) (shaded : Bool) (es : Exprs Meant) (s : State) → Still f s
        → OnGood (λ x. Still f x.1) (dims_in k w shaded es s)
    dims_still w shaded none s h = good_ok (λ x. Still f x.1) ([], s) h
    dims_still w shaded (more e es) s h =
        valued_still (λ x. Still f x.1) w shaded Scalar e s _ h (λ x i.
        good_on (λ x. Still f x.1) (found w UnknownIndex (known_number (the_item x.0))) _ (λ n.
        good_next (λ x. Still f x.1) (λ x. Still f x.1) (dims_in k w shaded es x.1) _
        (dims_still w shaded es x.1 i)
        (λ y j. good_ok (λ x. Still f x.1) (n ∷ y.0, y.1) j)))

    pub condition_still : (spot : Spot) (c : Expr Meant) (s : State) → Still f s
        → OnGood (λ x. Still f x.1) (condition k spot c s)
    condition_still spot c s h =
        valued_still (λ x. Still f x.1) (at k spot) false Scalar c s _ h (λ x i.
        good_next (Still f) (λ x. Still f x.1) (settle (at k spot) x.1) _
        (settle_still (at k spot) x.1 i) (λ t j. good_ok (λ x. Still f x.1) (_, t) j))

    pub dropped_still : (w : Where) (e : Expr Meant) (s : State) → Still f s
        → OnGood (Still f) (dropped k w e s)
    dropped_still w e s h =
        valued_still (Still f) w false Whole e s _ h (λ x i. good_ok (Still f) x.1 i)

    number_still : (w : Where) (m : Meant) (go : ℕ → Tried State)
        → ((n : ℕ) → OnGood (Still f) (go n)) → OnGood (Still f) (declared_number w m go)
    number_still w (meant.Variable n) go h = h n
    number_still w (meant.Signal direction n) go h = h n
    number_still w (meant.Component n) go h = h n
    number_still w meant.Other go h = good_bad (Still f) _
    number_still w (meant.Template n) go h = good_bad (Still f) _
    number_still w (meant.Function n) go h = good_bad (Still f) _

    pub component_still : (w : Where) (c : Component Meant) (s : State) → Still f s
        → OnGood (Still f) (component_declaration k w c s)
    component_still w c s h =
        number_still w c.meant _ (λ n.
        good_next (λ x. Still f x.1) (Still f) (dims_in k w false c.dimensions s) _
        (dims_still w false c.dimensions s h)
        (λ x i. good_ok (Still f) (declare_component n c.name x.0 x.1) i))

    each_still : {A : Type 0} (go : A → State → Tried State) (xs : List A) (s : State) → Still f s
        → ((x : A) (s : State) → Still f s → OnGood (Still f) (go x s))
        → OnGood (Still f) (simple.each go xs s)
    each_still go [] s h g = good_ok (Still f) s h
    each_still go (x ∷ xs) s h g =
        good_next (Still f) (Still f) (go x s) (simple.each go xs) (g x s h)
        (λ t i. each_still go xs t i g)

    logged_still : (w : Where) (a : LogArgument Meant) (s : State) → Still f s
        → OnGood (Still f) (logged k w a s)
    logged_still w (Words text) s h = good_ok (Still f) s h
    logged_still w (LogValue e) s h =
        valued_still (Still f) w false Scalar e s _ h (λ x i. good_ok (Still f) x.1 i)

    pub log_still : (w : Where) (arguments : List (LogArgument Meant)) (s : State) → Still f s
        → OnGood (Still f) (log_values k w arguments s)
    log_still w arguments s h =
        good_next (Still f) (Still f) (simple.each (logged k w) arguments s) _
        (each_still (logged k w) arguments s h (logged_still w))
        (λ t i. stepped_still k w (log_cost k w arguments s) (logged_cells arguments) t i)

    appended_still : (w : Where) (x y : Value) (s : State) (o : Option Parts) → Still f s
        → OnGood (Still f) (appended k w x y s o)
    appended_still w x y s None h = good_bad (Still f) _
    appended_still w x y s (Some p) h = good_ok (Still f) _ h

    pub equal_still : (w : Where) (a b : Expr Meant) (s : State) → Still f s
        → OnGood (Still f) (equal k w a b s)
    equal_still w a b s h =
        valued_still (Still f) w false Scalar a s _ h (λ x i.
        valued_still (Still f) w false Scalar b x.1 _ i (λ y j.
        good_next (Still f) (Still f) (constrained k w (the_item x.0) (the_item y.0) y.1) _
        (appended_still w (the_item x.0) (the_item y.0) y.1
        (parts_of (difference_of (the_item x.0) (the_item y.0))) j)
        (λ t l. stepped_still k w (equal_cost k w a b s) 0 t l)))

    pub assert_still : (w : Where) (e : Expr Meant) (before : State) (v : Value) (s : State)
        → Still f s → OnGood (Still f) (assert_value k w e before v s)
    assert_still w e before (Known n) s h =
        either (OnGood (Still f)) _ _ (Ok s) (good_bad (Still f) _) (good_ok (Still f) s h)
    assert_still w e before (Linear g) s h =
        stepped_still k w (assert_cost k w e before) 0 s h
    assert_still w e before (Quadratic a b c) s h =
        stepped_still k w (assert_cost k w e before) 0 s h
    assert_still w e before Opaque s h =
        stepped_still k w (assert_cost k w e before) 0 s h

    test_still : (w : Where) (e : Expr Meant) (s : State) → Still f s
        → OnGood (Still f) (scan_test k w e s)
    test_still w e s h =
        valued_still (Still f) w true Scalar e s _ h (λ x i. good_ok (Still f) x.1 i)

    set_still : (w : Where) (m : Meant) (accessors : Accessors Meant) (e : Expr Meant) (s : State)
        → Still f s → OnGood (Still f) (scan_set k w m accessors e s)
    set_still w (meant.Variable n) accessors e s h =
        valued_still (Still f) w true Whole e s _ h (λ x i.
        indices_still (Still f) w true [] accessors x.1 _ i (λ indices rest t j.
        good_on (Still f) (reach w true Whole (variable_at t.frame n).dims indices) _ (λ r.
        good_needed (Still f) (same_dims r.left x.0.dims) w ShapeDiffers _
        (good_ok (Still f) t j))))
    set_still w meant.Other accessors e s h = good_bad (Still f) _
    set_still w (meant.Signal direction n) accessors e s h = good_bad (Still f) _
    set_still w (meant.Component n) accessors e s h = good_bad (Still f) _
    set_still w (meant.Template n) accessors e s h = good_bad (Still f) _
    set_still w (meant.Function n) accessors e s h = good_bad (Still f) _

    plain_still : (w : Where) (a : Assign Meant) (s : State) → Still f s
        → OnGood (Still f) (scan_plain k w a s)
    plain_still w (Set name m accessors e) s h = set_still w m accessors e s h
    plain_still w (Left name m accessors arrow e) s h = good_bad (Still f) _
    plain_still w (Compound name m accessors op e) s h = good_bad (Still f) _
    plain_still w (Increment name m accessors) s h = good_bad (Still f) _
    plain_still w (Decrement name m accessors) s h = good_bad (Still f) _

    first_value_still : (w : Where) (m : Meant) (value : Option (Expr Meant)) (s : State)
        → Still f s → OnGood (Still f) (scan_value k w m value s)
    first_value_still w m None s h = good_ok (Still f) s h
    first_value_still w m (Some e) s h = set_still w m done e s h

    meant_still : (w : Where) (m : Meant) (go : ℕ → Tried State)
        → ((n : ℕ) → OnGood (Still f) (go n)) → OnGood (Still f) (scan_meant w m go)
    meant_still w (meant.Variable n) go h = h n
    meant_still w meant.Other go h = good_bad (Still f) _
    meant_still w (meant.Signal direction n) go h = good_bad (Still f) _
    meant_still w (meant.Component n) go h = good_bad (Still f) _
    meant_still w (meant.Template n) go h = good_bad (Still f) _
    meant_still w (meant.Function n) go h = good_bad (Still f) _

    variable_still : (w : Where) (v : Variable Meant) (s : State) → Still f s
        → OnGood (Still f) (scan_variable k w v s)
    variable_still w v s h =
        meant_still w v.meant _ (λ n.
        good_next (λ x. Still f x.1) (Still f) (dims_in k w true v.dimensions s) _
        (dims_still w true v.dimensions s h)
        (λ x i. first_value_still w v.meant v.value (scan_declared n x.0 x.1) i))

    first_still : (w : Where) (a : First Meant) (s : State) → Still f s
        → OnGood (Still f) (scan_first k w a s)
    first_still w (FirstVars vs) s h = each_still (scan_variable k w) vs s h (variable_still w)
    first_still w (FirstAssign a) s h = plain_still w (plain a) s h

    simple_still : (w : Where) (x : Simple Meant) (s : State) → Still f s
        → OnGood (Still f) (scan_simple k w x s)
    simple_still w (Vars vs) s h = each_still (scan_variable k w) vs s h (variable_still w)
    simple_still w (Assigned a) s h = plain_still w (plain a) s h
    simple_still w (Signals direction ds) s h = good_bad (Still f) _
    simple_still w (Declared cs) s h = good_bad (Still f) _
    simple_still w (Created name m e) s h = good_bad (Still f) _
    simple_still w (Constrain a b) s h = good_bad (Still f) _
    simple_still w (Right e arrow name m accessors) s h = good_bad (Still f) _
    simple_still w (TargetLeft target arrow source) s h = good_bad (Still f) _
    simple_still w (TargetRight source arrow target) s h = good_bad (Still f) _
    simple_still w (Alone parallel name m arguments inputs) s h = good_bad (Still f) _

    then_still : (m : Tried State) (go : State → Tried State) → OnGood (Still f) m
        → ((s : State) → Still f s → OnGood (Still f) (go s)) → OnGood (Still f) (next m go)
    then_still m go h g = good_next (Still f) (Still f) m go h g

    mutual
      scan_still : (w : Where) (a : Statement Spot Meant) (s : State) → Still f s
          → OnGood (Still f) (scan k w a s)
      scan_still w (Block spot ss) s h = all_still w ss s h
      scan_still w (If spot c a) s h =
          then_still (scan_test k w c s) (scan k w a) (test_still w c s h)
          (λ s1 i. scan_still w a s1 i)
      scan_still w (IfElse spot c a b) s h =
          then_still (scan_test k w c s) _ (test_still w c s h)
          (λ s1 i. then_still (scan k w a s1) (scan k w b) (scan_still w a s1 i)
          (λ s2 j. scan_still w b s2 j))
      scan_still w (While spot c a) s h =
          then_still (scan_test k w c s) (scan k w a) (test_still w c s h)
          (λ s1 i. scan_still w a s1 i)
      scan_still w (For spot first_spot first c step_spot a body) s h =
          then_still (scan_first k w first s) _ (first_still w first s h) (λ s1 i.
          then_still (scan_test k w c s1) _ (test_still w c s1 i) (λ s2 j.
          then_still (scan k w body s2) (scan_assign k w a) (scan_still w body s2 j)
          (λ s3 l. plain_still w (plain a) s3 l)))
      scan_still w (Return spot e) s h = good_bad (Still f) _
      scan_still w (Assert spot e) s h = test_still w e s h
      scan_still w (Log spot arguments) s h = good_bad (Still f) _
      scan_still w (Ended spot x) s h = simple_still w x s h

      all_still : (w : Where) (ss : Statements Spot Meant) (s : State) → Still f s
          → OnGood (Still f) (scan_all k w ss s)
      all_still w empty s h = good_ok (Still f) s h
      all_still w (then_more a rest) s h =
          then_still (scan k w a s) (scan_all k w rest) (scan_still w a s h)
          (λ s1 i. all_still w rest s1 i)

    pub undecided_still : (spot : Spot) (fault : Option Fault) (a : Statement Spot Meant)
        (s : State) → Still f s → OnGood (Still f) (undecided k spot fault a s)
    undecided_still spot (Some x) a s h = good_bad (Still f) _
    undecided_still spot None a s h =
        then_still (scan k (at k spot) a (forget (outer_assigned a) s))
        (λ s1. next (stepped k (at k spot) (undecided_cost k (at k spot) a s s1)
        (undecided_cells a s) s1) (settle (at k spot)))
        (scan_still (at k spot) a (forget (outer_assigned a) s)
        (forget_still (outer_assigned a) s h)) (λ s1 i.
        then_still (stepped k (at k spot) (undecided_cost k (at k spot) a s s1)
        (undecided_cells a s) s1) (settle (at k spot))
        (stepped_still k (at k spot) (undecided_cost k (at k spot) a s s1) (undecided_cells a s)
        s1 i) (λ s2 j. settle_still (at k spot) s2 j))

    -- an assignment to a variable
    pub assignment_still : (w : Where) (n : ℕ) (accessors : Accessors Meant) (e : Expr Meant)
        (s : State) → Still f s
        → OnGood (λ a. Still f a.state) (variable_assignment k w n accessors e s)
    assignment_still w n accessors e s h =
        good_weaker (λ a. Like s a.state) (λ a. Still f a.state)
        (variable_assignment k w n accessors e s)
        (assignment_like k keeps s w n accessors e s (like_itself s))
        (λ a l. still_like f s a.state h l)

    pub behind_still : (w : Where) (cost : Cost) (cells n : ℕ) (a : VariableAssignment) (b : Bool)
        → Still f a.state
        → OnGood (Still f) (cond b (stepped k w cost cells (write_variable n a))
        (Ok (write_variable n a)))
    behind_still w cost cells n a b h =
        either (OnGood (Still f)) b _ _ (stepped_still k w cost cells (write_variable n a) h)
        (good_ok (Still f) (write_variable n a) h)
