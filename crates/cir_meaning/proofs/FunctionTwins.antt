-- The execution of a function with known arguments: what it answers is known, and the same whatever
-- is counted.
use Rattle.std.proofs.Common.{◌≡◌, ℕ, zero, suc, Bool, true, false, not, cond, List, [], ◌∷◌, ◌++◌}
use Rattle.std.proofs.Common.{Option, Some, None, Ok, refl, sym, ap, subst, ◌∙◌}
use Rattle.std.specs.Prelude.{◌==◌}
use Rattle.std.specs.List.{AllByRecursion}
use Rattle.cir_ast.specs.declared.program.Spot.{Spot}
use Rattle.cir_ast.specs.declared.program.Meant.{Meant}
use Rattle.cir_ast.specs.declared.program.Meant.TheVariants as meant
use Rattle.cir_ast.specs.declared.refusal.Kind.TheVariants.{ShapeDiffers, AssertFalse}
use Rattle.cir_ast.specs.Tree.{Expr, Exprs, none, more, Accessors, done, index, member, Variable}
use Rattle.cir_ast.specs.Tree.{Assign, Set, Compound, Left, Increment, Decrement, First, FirstVars}
use Rattle.cir_ast.specs.Tree.{FirstAssign, Simple, Vars, Signals, Declared, Created, Assigned}
use Rattle.cir_ast.specs.Tree.{Constrain, Right, TargetLeft, TargetRight, Alone, Statement, Block}
use Rattle.cir_ast.specs.Tree.{If, IfElse, While, For, Return, Assert, Log, Ended, Statements}
use Rattle.cir_ast.specs.Tree.{empty, then_more}
use Rattle.cir_meaning.specs.SignalFree.{IsVariable, IsFreeExpr, AreFree, AreFreeIndices}
use Rattle.cir_meaning.specs.SignalFree.{IsFreeAssign, IsFreeOption, IsFreeVariable, IsFreeFirst}
use Rattle.cir_meaning.specs.SignalFree.{IsFreeSimple, IsFree, AreFreeStatements}
use Rattle.cir_meaning.specs.Tried.{Where, Tried, next, refused, needed}
use Rattle.cir_meaning.specs.Places.{elements}
use Rattle.cir_meaning.specs.Limits.{Counts, with_array}
use Rattle.cir_meaning.specs.Arrays.{Datum, Scalar, Whole, Want, Reach, reach, filled, forgotten}
use Rattle.cir_meaning.specs.Arrays.{the_item, is_known, is_all_known, same_dims, put_items}
use Rattle.cir_meaning.specs.Values.{Value, Known, known_number}
use Rattle.cir_meaning.specs.Frame.{State, Context, at, variable_at, settle, counted}
use Rattle.cir_meaning.specs.Evaluate.{scalar, value_in, dims_in, indices_in, known_at}
use Rattle.cir_meaning.specs.Writing.{put_variable, written_datum, VariableAssignment}
use Rattle.cir_meaning.specs.Writing.{variable_assignment, write_variable, is_unknown}
use Rattle.cir_meaning.specs.Declaring.{declare_variable}
use Rattle.cir_meaning.specs.Simple as simple
use Rattle.cir_meaning.specs.Statement.{Flow, Going, Returned, going, goes, decided, condition}
use Rattle.cir_meaning.specs.Statement.{branch, turns, most_turns, loop_of, first_simple}
use Rattle.cir_meaning.specs.Statement.{assert_value, exec, exec_all}
use Rattle.cir_meaning.specs.Unknown.{first_of, assign_fault, fault_of}
use Rattle.cir_meaning.specs.Scan.{undecided}
use Rattle.cir_meaning.proofs.Good.{good_ok, good_on}
use Rattle.cir_meaning.proofs.Rows.{all_set, all_put}
use Rattle.cir_meaning.proofs.Twins.{Twin, twin_ok, twin_bad, twin_next, twin_itself, twin_needed}
use Rattle.cir_meaning.proofs.Twins.{twin_good, twin_weaker, Below, below_with_array, counted_as}
use Rattle.cir_meaning.proofs.Twins.{IsTwin, at_twin, twin_of, settle_twin, counted_twin}
use Rattle.cir_meaning.proofs.ValueTwins.{Wider, Answers, Equal, WorldTwin, CallTwin, value_twin}
use Rattle.cir_meaning.proofs.KnownValues.{KnownValue, KnownDatum, KnownStore, KnownAnswer}
use Rattle.cir_meaning.proofs.KnownValues.{CallKnown, AreSure, IsSure, sure_more, reach_sure}
use Rattle.cir_meaning.proofs.KnownValues.{pass_all, the_known, known_item, known_variable}
use Rattle.cir_meaning.proofs.KnownValues.{known_filled, known_value}

abbrev pub KnownTwin : State → State → Type 0
KnownTwin s t = IsTwin s t × KnownStore s.frame.variables

pub wide_itself : (want : Want) → Wider want want
wide_itself Scalar = tt
wide_itself Whole = tt

then_known : {A B : Type 0} (R : A → B → Type 0) (m r : Tried State) (go : State → Tried A)
    (on : State → Tried B) → Twin KnownTwin m r
    → ((s : State) (a c : Counts) → Below a s.frame.added → Below c s.world.counts
    → KnownStore s.frame.variables → Twin R (go s) (on (counted_as s a c)))
    → Twin R (next m go) (next r on)
then_known R m r go on h g =
    twin_next KnownTwin R m r go on h (λ s t p.
    at_twin (λ u. Twin R (go s) (on u)) s t p.0 (λ a c i j. g s a c i j p.1))

known_of_twin : (s : State) (a c : Counts) → Below a s.frame.added → Below c s.world.counts
    → KnownStore s.frame.variables → KnownTwin s (counted_as s a c)
known_of_twin s a c i j g = (twin_of s a c i j, g)

settle_both : (w : Where) (s : State) (a c : Counts) → Below a s.frame.added
    → Below c s.world.counts → KnownStore s.frame.variables
    → Twin KnownTwin (settle w s) (settle w (counted_as s a c))
settle_both w s a c i j g =
    twin_weaker (λ x y. KnownStore x.frame.variables × IsTwin x y) KnownTwin (settle w s)
    (settle w (counted_as s a c)) (λ x y p. (p.1, p.0))
    (twin_good (λ x. KnownStore x.frame.variables) IsTwin (settle w s)
    (settle w (counted_as s a c))
    (good_on (λ x. KnownStore x.frame.variables) _ _
    (λ x. good_ok (λ x. KnownStore x.frame.variables) _ g))
    (settle_twin w s a c i j))

counted_both : (w : Where) (s : State) (a c : Counts) → Below a s.frame.added
    → Below c s.world.counts → KnownStore s.frame.variables
    → Twin KnownTwin (counted w s) (counted w (counted_as s a c))
counted_both w s a c i j g =
    twin_weaker (λ x y. KnownStore x.frame.variables × IsTwin x y) KnownTwin (counted w s)
    (counted w (counted_as s a c)) (λ x y p. (p.1, p.0))
    (twin_good (λ x. KnownStore x.frame.variables) IsTwin (counted w s)
    (counted w (counted_as s a c))
    (good_on (λ x. KnownStore x.frame.variables) _ _
    (λ x. good_ok (λ x. KnownStore x.frame.variables) _ g))
    (counted_twin w s a c i j))

-- flows
abbrev pub FlowTwin : Flow → Flow → Type 0
FlowTwin (Going s) (Going t) = KnownTwin s t
FlowTwin (Returned d world) (Returned e other) = KnownDatum d × WorldTwin (d, world) (e, other)
FlowTwin (Going s) (Returned e other) = ⊥
FlowTwin (Returned d world) (Going t) = ⊥

goes_both : (m r : Tried State) → Twin KnownTwin m r → Twin FlowTwin (goes m) (goes r)
goes_both m r h =
    twin_next KnownTwin FlowTwin m r _ _ h (λ s t p. twin_ok FlowTwin (Going s) (Going t) p)

going_both : (f g : Flow) (go on : State → Tried Flow) → FlowTwin f g
    → ((s : State) (a c : Counts) → Below a s.frame.added → Below c s.world.counts
    → KnownStore s.frame.variables → Twin FlowTwin (go s) (on (counted_as s a c)))
    → Twin FlowTwin (going f go) (going g on)
going_both (Going s) (Going t) go on p h =
    at_twin (λ u. Twin FlowTwin (go s) (on u)) s t p.0 (λ a c i j. h s a c i j p.1)
going_both (Returned d world) (Returned e other) go on p h =
    twin_ok FlowTwin (Returned d world) (Returned e other) p
going_both (Going s) (Returned e other) go on p h = absurd p
going_both (Returned d world) (Going t) go on p h = absurd p

module _ (k : Context) (twins : CallTwin k.call) (calls : CallKnown k.call) (functions : ℕ) where
  abbrev Both : Datum × State → Datum × State → Type 0
  Both x y = KnownAnswer x × Answers x y

  value_both : (w : Where) (want : Want) (e : Expr Meant) (s : State) (a c : Counts)
      → IsFreeExpr functions e → Below a s.frame.added → Below c s.world.counts
      → KnownStore s.frame.variables
      → Twin Both (value_in k w false want e s) (value_in k w false want e (counted_as s a c))
  value_both w want e s a c is i j g =
      twin_good KnownAnswer Answers (value_in k w false want e s)
      (value_in k w false want e (counted_as s a c)) (known_value k calls functions w want e s is g)
      (value_twin k twins w false false want want e s a c tt (wide_itself want) i j)

  number_both : {A B : Type 0} (R : A → B → Type 0) (m r : Tried (Datum × State))
      (go : Value → State → Tried A) (on : Value → State → Tried B) → Twin Both m r
      → ((n : ℕ) (s : State) (a c : Counts) → Below a s.frame.added → Below c s.world.counts
      → KnownStore s.frame.variables
      → Twin R (go (Known n) s) (on (Known n) (counted_as s a c)))
      → Twin R (scalar m go) (scalar r on)
  number_both R m r go on h g =
      twin_next Both R m r (λ (d, s). go (the_item d) s) (λ (d, s). on (the_item d) s) h
      (λ x y p.
      at_twin (λ t. Twin R (go (the_item x.0) x.1) (on (the_item y.0) t)) x.1 y.1 p.1.1
      (λ a c i j.
      subst (λ d. Twin R (go (the_item x.0) x.1) (on (the_item d) (counted_as x.1 a c)))
      (sym p.1.0)
      (let one : (n : ℕ) × (the_item x.0 ≡ Known n) = the_known (the_item x.0)
      (known_item x.0 p.0.0) in
      subst (λ v. Twin R (go v x.1) (on v (counted_as x.1 a c))) (sym one.1)
      (g one.0 x.1 a c i j p.0.1))))

  abbrev DimsTwin : List ℕ × State → List ℕ × State → Type 0
  DimsTwin x y = (y.0 ≡ x.0) × KnownTwin x.1 y.1

  dims_both : (w : Where) (es : Exprs Meant) (s : State) (a c : Counts) → AreFree functions es
      → Below a s.frame.added → Below c s.world.counts → KnownStore s.frame.variables
      → Twin DimsTwin (dims_in k w false es s) (dims_in k w false es (counted_as s a c))
  dims_both w none s a c is i j g = twin_ok DimsTwin _ _ (refl, known_of_twin s a c i j g)
  dims_both w (more e es) s a c is i j g =
      number_both DimsTwin (value_in k w false Scalar e s)
      (value_in k w false Scalar e (counted_as s a c)) (λ v s1.
      known_at w (known_number v) (λ n.
      next (dims_in k w false es s1) (λ (ns, s2). Ok (n ∷ ns, s2)))) (λ v s1.
      known_at w (known_number v) (λ n.
      next (dims_in k w false es s1) (λ (ns, s2). Ok (n ∷ ns, s2))))
      (value_both w Scalar e s a c is.0 i j g) (λ n s1 a1 c1 i1 j1 g1.
      twin_next DimsTwin DimsTwin (dims_in k w false es s1)
      (dims_in k w false es (counted_as s1 a1 c1)) (λ (ns, s2). Ok (n ∷ ns, s2))
      (λ (ns, s2). Ok (n ∷ ns, s2)) (dims_both w es s1 a1 c1 is.1 i1 j1 g1)
      (λ x y p. twin_ok DimsTwin (n ∷ x.0, x.1) (n ∷ y.0, y.1)
      (ap (λ (ns : List ℕ). n ∷ ns) p.0, p.1)))

  indices_both : {A B : Type 0} (R : A → B → Type 0) (w : Where) (os : List (Option ℕ))
      (accessors : Accessors Meant) (s : State) (a c : Counts)
      (go : List (Option ℕ) → Accessors Meant → State → Tried A)
      (on : List (Option ℕ) → Accessors Meant → State → Tried B)
      → AreFreeIndices functions accessors → AreSure os → Below a s.frame.added
      → Below c s.world.counts → KnownStore s.frame.variables
      → ((os : List (Option ℕ)) (rest : Accessors Meant) (s : State) (a c : Counts) → AreSure os
      → Below a s.frame.added → Below c s.world.counts → KnownStore s.frame.variables
      → Twin R (go os rest s) (on os rest (counted_as s a c)))
      → Twin R (indices_in k w false os accessors s go)
      (indices_in k w false os accessors (counted_as s a c) on)
  indices_both R w os done s a c go on is sure i j g h = h os done s a c sure i j g
  indices_both R w os (member name rest) s a c go on is sure i j g h = absurd is
  indices_both R w os (index e rest) s a c go on is sure i j g h =
      number_both R (value_in k w false Scalar e s) (value_in k w false Scalar e (counted_as s a
      c)) (λ v s1. indices_in k w false (os ++ known_number v ∷ []) rest s1 go)
      (λ v s1. indices_in k w false (os ++ known_number v ∷ []) rest s1 on)
      (value_both w Scalar e s a c is.0 i j g)
      (λ n s1 a1 c1 i1 j1 g1. indices_both R w (os ++ Some n ∷ []) rest s1 a1 c1 go on is.1
      (sure_more os n sure) i1 j1 g1 h)

  -- assignments
  pub record AssignTwin (x y : VariableAssignment) : Type 0 where
    pub value : y.value ≡ x.value
    pub reach : y.reach ≡ x.reach
    pub state : KnownTwin x.state y.state
    pub known : KnownDatum x.value
    pub sure : x.reach.is_sure ≡ true

  assignment_both : (w : Where) (n : ℕ) (accessors : Accessors Meant) (e : Expr Meant) (s : State)
      (a c : Counts) → AreFreeIndices functions accessors → IsFreeExpr functions e
      → Below a s.frame.added → Below c s.world.counts → KnownStore s.frame.variables
      → Twin AssignTwin (variable_assignment k w n accessors e s)
      (variable_assignment k w n accessors e (counted_as s a c))
  assignment_both w n accessors e s a c is free i j g =
      twin_next Both AssignTwin (value_in k w false Whole e s)
      (value_in k w false Whole e (counted_as s a c)) _ _ (value_both w Whole e s a c free i j g)
      (λ x y p.
      at_twin (λ t. Twin AssignTwin (indices_in k w false [] accessors x.1 (write_at x.0))
      (indices_in k w false [] accessors t (write_at y.0))) x.1 y.1 p.1.1 (λ a1 c1 i1 j1.
      subst (λ d. Twin AssignTwin (indices_in k w false [] accessors x.1 (write_at x.0))
      (indices_in k w false [] accessors (counted_as x.1 a1 c1) (write_at d))) (sym p.1.0)
      (indices_both AssignTwin w [] accessors x.1 a1 c1 (write_at x.0) (write_at x.0) is refl i1 j1
      p.0.1 (λ os rest s2 a2 c2 sure i2 j2 g2.
      twin_next (λ r q. IsSure r × Equal r q) AssignTwin
      (reach w false Whole (variable_at s2.frame n).dims os)
      (reach w false Whole (variable_at s2.frame n).dims os) _ _
      (twin_good IsSure Equal (reach w false Whole (variable_at s2.frame n).dims os)
      (reach w false Whole (variable_at s2.frame n).dims os)
      (reach_sure w Whole (variable_at s2.frame n).dims os sure)
      (twin_itself (reach w false Whole (variable_at s2.frame n).dims os))) (λ r q same.
      twin_needed AssignTwin (same_dims r.left x.0.dims) (same_dims q.left x.0.dims) w ShapeDiffers
      _ _ (λ t. subst (λ b. same_dims b.left x.0.dims ≡ true) (sym same.1) t) (λ t.
      twin_ok AssignTwin _ _ record {
        value = refl;
        reach = same.1;
        state = known_of_twin s2 a2 c2 i2 j2 g2;
        known = p.0.0;
        sure = same.0;
      }))))))
    where
      write_at : Datum → List (Option ℕ) → Accessors Meant → State → Tried VariableAssignment
      write_at d os rest s2 =
          next (reach w false Whole (variable_at s2.frame n).dims os) (λ r.
          needed (same_dims r.left d.dims) w ShapeDiffers
          (Ok record { value = d; reach = r; state = s2 }))

  not_unknown : (n : ℕ) (a : VariableAssignment) → a.reach.is_sure ≡ true → KnownDatum a.value
      → is_unknown n a ≡ false
  not_unknown n a sure known =
      ap (λ (b : Bool). cond b (not (is_all_known a.value))
      (not (elements (variable_at a.state.frame n).dims == 0))) sure
      ∙ ap (λ (b : Bool). not b) (pass_all is_known a.value.items known)

  known_written : (old : Datum) (r : Reach) (d : Datum) → r.is_sure ≡ true → KnownDatum old
      → KnownDatum d → KnownDatum (written_datum old r d)
  known_written old r d sure h g =
      subst (λ b. KnownDatum (cond b
      record { dims = old.dims; items = put_items r.places d.items old.items } (forgotten old)))
      (sym sure) (all_put KnownValue r.places d.items old.items g h)

  put_both : (n : ℕ) (d : Datum) (s : State) (a c : Counts) → KnownDatum d
      → Below a s.frame.added → Below c s.world.counts → KnownStore s.frame.variables
      → KnownTwin (put_variable n d s) (put_variable n d (counted_as s a c))
  put_both n d s a c h i j g =
      (twin_of (put_variable n d s) a c i j, all_set KnownDatum s.frame.variables n d g h)

  write_both : (n : ℕ) (x y : VariableAssignment) → AssignTwin x y
      → KnownTwin (write_variable n x) (write_variable n y)
  write_both n x y h =
      at_twin (λ t. KnownTwin (write_variable n x)
      (put_variable n (written_datum (variable_at t.frame n) y.reach y.value) t)) x.state y.state
      h.state.0 (λ a c i j.
      subst (λ r. KnownTwin (write_variable n x)
      (put_variable n (written_datum (variable_at x.state.frame n) r y.value)
      (counted_as x.state a c))) (sym h.reach)
      (subst (λ d. KnownTwin (write_variable n x)
      (put_variable n (written_datum (variable_at x.state.frame n) x.reach d)
      (counted_as x.state a c))) (sym h.value)
      (put_both n (written_datum (variable_at x.state.frame n) x.reach x.value) x.state a c
      (known_written (variable_at x.state.frame n) x.reach x.value h.sure
      (known_variable x.state.frame n h.state.1) h.known) i j h.state.1)))

  set_both : (w : Where) (written : Assign Meant) (n : ℕ) (accessors : Accessors Meant)
      (e : Expr Meant) (s : State) (a c : Counts) → AreFreeIndices functions accessors
      → IsFreeExpr functions e → Below a s.frame.added → Below c s.world.counts
      → KnownStore s.frame.variables
      → Twin KnownTwin (simple.set_variable k w written n accessors e s)
      (simple.set_variable k w written n accessors e (counted_as s a c))
  set_both w written n accessors e s a c is free i j g =
      twin_next AssignTwin KnownTwin (variable_assignment k w n accessors e s)
      (variable_assignment k w n accessors e (counted_as s a c)) _ _
      (assignment_both w n accessors e s a c is free i j g) (λ x y h.
      let sure : y.reach.is_sure ≡ true = subst (λ r. r.is_sure ≡ true) (sym h.reach) h.sure in
      let known : KnownDatum y.value = subst KnownDatum (sym h.value) h.known in
      no_step (is_unknown n x) (is_unknown n y) (not_unknown n x h.sure h.known)
      (not_unknown n y sure known) _ _ _ _
      (twin_ok KnownTwin (write_variable n x) (write_variable n y) (write_both n x y h)))
    where
      no_step : (b d : Bool) → b ≡ false → d ≡ false → (m r o q : Tried State)
          → Twin KnownTwin r q → Twin KnownTwin (cond b m r) (cond d o q)
      no_step b d e f m r o q h =
          subst (λ z. Twin KnownTwin (cond z m r) (cond d o q)) (sym e)
          (subst (λ z. Twin KnownTwin r (cond z o q)) (sym f) h)

  plain_both : (w : Where) (written : Assign Meant) (m : Meant) (accessors : Accessors Meant)
      (e : Expr Meant) (s : State) (a c : Counts) → IsVariable m
      → AreFreeIndices functions accessors → IsFreeExpr functions e → Below a s.frame.added
      → Below c s.world.counts → KnownStore s.frame.variables
      → Twin KnownTwin (simple.set k w written m accessors e s)
      (simple.set k w written m accessors e (counted_as s a c))
  plain_both w written (meant.Variable n) accessors e s a c v is free i j g =
      set_both w written n accessors e s a c is free i j g
  plain_both w written meant.Other accessors e s a c v is free i j g = absurd v
  plain_both w written (meant.Signal direction n) accessors e s a c v is free i j g = absurd v
  plain_both w written (meant.Component n) accessors e s a c v is free i j g = absurd v
  plain_both w written (meant.Template n) accessors e s a c v is free i j g = absurd v
  plain_both w written (meant.Function n) accessors e s a c v is free i j g = absurd v

  assign_both : (w : Where) (x : Assign Meant) (s : State) (a c : Counts)
      → IsFreeAssign functions x → Below a s.frame.added → Below c s.world.counts
      → KnownStore s.frame.variables
      → Twin KnownTwin (simple.assign k w x s) (simple.assign k w x (counted_as s a c))
  assign_both w (Set name m accessors e) s a c is i j g =
      plain_both w (Set name m accessors e) m accessors e s a c is.0 is.1 is.2 i j g
  assign_both w (Compound name m accessors op e) s a c is i j g =
      plain_both w (Compound name m accessors op e) m accessors _ s a c is.0 is.1
      ((is.0, is.1), is.2) i j g
  assign_both w (Increment name m accessors) s a c is i j g =
      plain_both w (Increment name m accessors) m accessors _ s a c is.0 is.1
      ((is.0, is.1), tt) i j g
  assign_both w (Decrement name m accessors) s a c is i j g =
      plain_both w (Decrement name m accessors) m accessors _ s a c is.0 is.1
      ((is.0, is.1), tt) i j g
  assign_both w (Left name m accessors arrow e) s a c is i j g = absurd is

  -- declarations
  initial_both : (w : Where) (m : Meant) (o : Option (Expr Meant)) (s : State) (a c : Counts)
      → IsVariable m → IsFreeOption functions o → Below a s.frame.added
      → Below c s.world.counts → KnownStore s.frame.variables
      → Twin KnownTwin (simple.initial k w m o s) (simple.initial k w m o (counted_as s a c))
  initial_both w m None s a c v is i j g = twin_ok KnownTwin _ _ (known_of_twin s a c i j g)
  initial_both w m (Some e) s a c v is i j g =
      plain_both w (Set [] m done e) m done e s a c v tt is i j g

  declare_both : (w : Where) (m : Meant) (n : ℕ) (dims : Exprs Meant) (o : Option (Expr Meant))
      (s : State) (a c : Counts) → IsVariable m → AreFree functions dims
      → IsFreeOption functions o → Below a s.frame.added → Below c s.world.counts
      → KnownStore s.frame.variables
      → Twin KnownTwin (next (dims_in k w false dims s) (λ (ns, s1).
      simple.initial k w m o (declare_variable n ns s1)))
      (next (dims_in k w false dims (counted_as s a c)) (λ (ns, s1).
      simple.initial k w m o (declare_variable n ns s1)))
  declare_both w m n dims o s a c v is free i j g =
      twin_next DimsTwin KnownTwin (dims_in k w false dims s)
      (dims_in k w false dims (counted_as s a c)) _ _ (dims_both w dims s a c is i j g) (λ x y p.
      subst (λ ns. Twin KnownTwin (simple.initial k w m o (declare_variable n x.0 x.1))
      (simple.initial k w m o (declare_variable n ns y.1))) (sym p.0)
      (at_twin (λ t. Twin KnownTwin (simple.initial k w m o (declare_variable n x.0 x.1))
      (simple.initial k w m o (declare_variable n x.0 t))) x.1 y.1 p.1.0 (λ a1 c1 i1 j1.
      initial_both w m o (declare_variable n x.0 x.1) (with_array x.0 a1) c1 v free
      (below_with_array x.0 a1 x.1.frame.added i1) j1
      (all_set KnownDatum x.1.frame.variables n (filled x.0 (Known 0)) p.1.1
      (known_filled x.0)))))

  variable_both : (w : Where) (v : Variable Meant) (s : State) (a c : Counts)
      → IsFreeVariable functions v → Below a s.frame.added → Below c s.world.counts
      → KnownStore s.frame.variables
      → Twin KnownTwin (simple.variable_declaration k w v s)
      (simple.variable_declaration k w v (counted_as s a c))
  variable_both w v s a c is i j g = at v.meant is.0
    where
      at : (m : Meant) → IsVariable m
          → Twin KnownTwin (simple.declared_number w m (λ n.
          next (dims_in k w false v.dimensions s) (λ (ns, s1).
          simple.initial k w m v.value (declare_variable n ns s1))))
          (simple.declared_number w m (λ n.
          next (dims_in k w false v.dimensions (counted_as s a c)) (λ (ns, s1).
          simple.initial k w m v.value (declare_variable n ns s1))))
      at (meant.Variable n) t =
          declare_both w (meant.Variable n) n v.dimensions v.value s a c tt is.1 is.2 i j g
      at meant.Other t = absurd t
      at (meant.Signal direction n) t = absurd t
      at (meant.Component n) t = absurd t
      at (meant.Template n) t = absurd t
      at (meant.Function n) t = absurd t

  variables_both : (w : Where) (vs : List (Variable Meant)) (s : State) (a c : Counts)
      → AllByRecursion (IsFreeVariable functions) vs → Below a s.frame.added
      → Below c s.world.counts → KnownStore s.frame.variables
      → Twin KnownTwin (simple.each (simple.variable_declaration k w) vs s)
      (simple.each (simple.variable_declaration k w) vs (counted_as s a c))
  variables_both w [] s a c is i j g = twin_ok KnownTwin _ _ (known_of_twin s a c i j g)
  variables_both w (v ∷ vs) s a c is i j g =
      then_known KnownTwin (simple.variable_declaration k w v s)
      (simple.variable_declaration k w v (counted_as s a c))
      (simple.each (simple.variable_declaration k w) vs)
      (simple.each (simple.variable_declaration k w) vs) (variable_both w v s a c is.0 i j g)
      (λ s1 a1 c1 i1 j1 g1. variables_both w vs s1 a1 c1 is.1 i1 j1 g1)

  -- simple statements: nothing is lifted out of them
  vars_both : (spot : Spot) (vs : List (Variable Meant)) (s : State) (a c : Counts)
      → AllByRecursion (IsFreeVariable functions) vs → Below a s.frame.added
      → Below c s.world.counts → KnownStore s.frame.variables
      → Twin KnownTwin (simple.simple k spot (Vars vs) s)
      (simple.simple k spot (Vars vs) (counted_as s a c))
  vars_both spot vs s a c is i j g =
      then_known KnownTwin (simple.each (simple.variable_declaration k (at k spot)) vs s)
      (simple.each (simple.variable_declaration k (at k spot)) vs (counted_as s a c))
      (counted (at k spot)) (counted (at k spot)) (variables_both (at k spot) vs s a c is i j g)
      (λ s1 a1 c1 i1 j1 g1. counted_both (at k spot) s1 a1 c1 i1 j1 g1)

  then_counted : (spot : Spot) (m r : Tried State) → Twin KnownTwin m r
      → Twin KnownTwin (next m (counted (at k spot))) (next r (counted (at k spot)))
  then_counted spot m r h =
      then_known KnownTwin m r (counted (at k spot)) (counted (at k spot)) h
      (λ s1 a1 c1 i1 j1 g1. counted_both (at k spot) s1 a1 c1 i1 j1 g1)

  assigned_both : (spot : Spot) (x : Assign Meant) (s : State) (a c : Counts)
      → IsFreeAssign functions x → Below a s.frame.added → Below c s.world.counts
      → KnownStore s.frame.variables
      → Twin KnownTwin (simple.simple k spot (Assigned x) s)
      (simple.simple k spot (Assigned x) (counted_as s a c))
  assigned_both spot (Set name m accessors e) s a c is i j g =
      then_counted spot _ _ (assign_both (at k spot) (Set name m accessors e) s a c is i j g)
  assigned_both spot (Compound name m accessors op e) s a c is i j g =
      then_counted spot _ _
      (assign_both (at k spot) (Compound name m accessors op e) s a c is i j g)
  assigned_both spot (Increment name m accessors) s a c is i j g =
      then_counted spot _ _ (assign_both (at k spot) (Increment name m accessors) s a c is i j g)
  assigned_both spot (Decrement name m accessors) s a c is i j g =
      then_counted spot _ _ (assign_both (at k spot) (Decrement name m accessors) s a c is i j g)
  assigned_both spot (Left name m accessors arrow e) s a c is i j g = absurd is

  first_both : (spot : Spot) (f : First Meant) (s : State) (a c : Counts)
      → IsFreeFirst functions f → Below a s.frame.added → Below c s.world.counts
      → KnownStore s.frame.variables
      → Twin KnownTwin (simple.simple k spot (first_simple f) s)
      (simple.simple k spot (first_simple f) (counted_as s a c))
  first_both spot (FirstVars vs) s a c is i j g = vars_both spot vs s a c is i j g
  first_both spot (FirstAssign x) s a c is i j g = assigned_both spot x s a c is i j g

  -- conditions are known
  ConditionTwin : Value × State → Value × State → Type 0
  ConditionTwin x y = ((n : ℕ) × (x.0 ≡ Known n) × (y.0 ≡ Known n)) × KnownTwin x.1 y.1

  condition_both : (spot : Spot) (e : Expr Meant) (s : State) (a c : Counts)
      → IsFreeExpr functions e → Below a s.frame.added → Below c s.world.counts
      → KnownStore s.frame.variables
      → Twin ConditionTwin (condition k spot e s) (condition k spot e (counted_as s a c))
  unfolding ConditionTwin
  condition_both spot e s a c is i j g =
      number_both ConditionTwin (value_in k (at k spot) false Scalar e s)
      (value_in k (at k spot) false Scalar e (counted_as s a c))
      (λ v s1. next (settle (at k spot) s1) (λ s2. Ok (v, s2)))
      (λ v s1. next (settle (at k spot) s1) (λ s2. Ok (v, s2)))
      (value_both (at k spot) Scalar e s a c is i j g) (λ n s1 a1 c1 i1 j1 g1.
      twin_next KnownTwin ConditionTwin (settle (at k spot) s1)
      (settle (at k spot) (counted_as s1 a1 c1)) (λ s2. Ok (Known n, s2))
      (λ s2. Ok (Known n, s2)) (settle_both (at k spot) s1 a1 c1 i1 j1 g1)
      (λ s2 t2 p. twin_ok ConditionTwin (Known n, s2) (Known n, t2) ((n, refl, refl), p)))

  abbrev pub Flows : (State → Tried Flow) → Type 0
  Flows go =
      (s : State) (a c : Counts) → Below a s.frame.added → Below c s.world.counts
      → KnownStore s.frame.variables → Twin FlowTwin (go s) (go (counted_as s a c))

  then_decided : (spot : Spot) (e : Expr Meant) (s : State) (a c : Counts)
      (if_false if_true if_unknown : State → Tried Flow) → IsFreeExpr functions e
      → Below a s.frame.added → Below c s.world.counts → KnownStore s.frame.variables
      → Flows if_false → Flows if_true
      → Twin FlowTwin
      (next (condition k spot e s) (λ (v, s1). decided v if_false if_true if_unknown s1))
      (next (condition k spot e (counted_as s a c)) (λ (v, s1).
      decided v if_false if_true if_unknown s1))
  unfolding ConditionTwin
  then_decided spot e s a c if_false if_true if_unknown is i j g h f =
      twin_next ConditionTwin FlowTwin (condition k spot e s)
      (condition k spot e (counted_as s a c)) _ _ (condition_both spot e s a c is i j g) (λ x y p.
      subst (λ v. Twin FlowTwin (decided v if_false if_true if_unknown x.1)
      (decided y.0 if_false if_true if_unknown y.1)) (sym p.0.1)
      (subst (λ v. Twin FlowTwin (decided (Known p.0.0) if_false if_true if_unknown x.1)
      (decided v if_false if_true if_unknown y.1)) (sym p.0.2)
      (at_twin (λ t. Twin FlowTwin (decided (Known p.0.0) if_false if_true if_unknown x.1)
      (decided (Known p.0.0) if_false if_true if_unknown t)) x.1 y.1 p.1.0 (λ a1 c1 i1 j1.
      one (p.0.0 == 0) x.1 a1 c1 i1 j1 p.1.1))))
    where
      one : (b : Bool) (s : State) (a c : Counts) → Below a s.frame.added
          → Below c s.world.counts → KnownStore s.frame.variables
          → Twin FlowTwin (cond b if_false if_true s) (cond b if_false if_true (counted_as s a c))
      one true s a c i j g = h s a c i j g
      one false s a c i j g = f s a c i j g

  branch_both : (spot : Spot) (e : Expr Meant) (if_false if_true if_unknown : State → Tried Flow)
      (s : State) (a c : Counts) → IsFreeExpr functions e → Below a s.frame.added
      → Below c s.world.counts → KnownStore s.frame.variables → Flows if_false → Flows if_true
      → Twin FlowTwin (branch k spot e if_false if_true if_unknown s)
      (branch k spot e if_false if_true if_unknown (counted_as s a c))
  branch_both spot e if_false if_true if_unknown s a c is i j g h f =
      then_known FlowTwin (counted (at k spot) s) (counted (at k spot) (counted_as s a c)) _ _
      (counted_both (at k spot) s a c i j g)
      (λ s1 a1 c1 i1 j1 g1. then_decided spot e s1 a1 c1 if_false if_true if_unknown is i1 j1 g1 h
      f)

  stay_both : Flows (λ s. Ok (Going s))
  stay_both s a c i j g =
      twin_ok FlowTwin (Going s) (Going (counted_as s a c)) (known_of_twin s a c i j g)

  turns_both : (n : ℕ) (spot : Spot) (e : Expr Meant) (body unknown : State → Tried Flow)
      → IsFreeExpr functions e → Flows body → Flows (turns n k spot e body unknown)
  turns_both zero spot e body unknown is h s a c i j g = twin_bad FlowTwin _ _
  turns_both (suc n) spot e body unknown is h s a c i j g =
      then_decided spot e s a c (λ s2. Ok (Going s2)) (λ s2.
      next (counted (at k spot) s2) (λ s3. next (body s3)
      (λ f. going f (turns n k spot e body unknown)))) unknown is i j g stay_both
      (λ s2 a2 c2 i2 j2 g2.
      then_known FlowTwin (counted (at k spot) s2) (counted (at k spot) (counted_as s2 a2 c2)) _ _
      (counted_both (at k spot) s2 a2 c2 i2 j2 g2) (λ s3 a3 c3 i3 j3 g3.
      twin_next FlowTwin FlowTwin (body s3) (body (counted_as s3 a3 c3)) _ _ (h s3 a3 c3 i3 j3 g3)
      (λ f f1 p. going_both f f1 (turns n k spot e body unknown) (turns n k spot e body unknown) p
      (turns_both n spot e body unknown is h))))

  assert_both : (spot : Spot) (b : Bool) (s : State) (a c : Counts) → Below a s.frame.added
      → Below c s.world.counts → KnownStore s.frame.variables
      → Twin FlowTwin
      (next (cond b (refused (at k spot) AssertFalse) (Ok s))
      (λ s2. goes (counted (at k spot) s2)))
      (next (cond b (refused (at k spot) AssertFalse) (Ok (counted_as s a c)))
      (λ s2. goes (counted (at k spot) s2)))
  assert_both spot true s a c i j g = twin_bad FlowTwin _ _
  assert_both spot false s a c i j g = goes_both _ _ (counted_both (at k spot) s a c i j g)

  simple_both : (spot : Spot) (x : Simple Meant) (s : State) (a c : Counts)
      → IsFreeSimple functions x → Below a s.frame.added → Below c s.world.counts
      → KnownStore s.frame.variables
      → Twin KnownTwin (simple.simple k spot x s) (simple.simple k spot x (counted_as s a c))
  simple_both spot (Vars vs) s a c is i j g = vars_both spot vs s a c is i j g
  simple_both spot (Assigned x) s a c is i j g = assigned_both spot x s a c is i j g
  simple_both spot (Signals direction ds) s a c is i j g = absurd is
  simple_both spot (Declared cs) s a c is i j g = absurd is
  simple_both spot (Created name m e) s a c is i j g = absurd is
  simple_both spot (Constrain x y) s a c is i j g = absurd is
  simple_both spot (Right e arrow name m accessors) s a c is i j g = absurd is
  simple_both spot (TargetLeft target arrow source) s a c is i j g = absurd is
  simple_both spot (TargetRight source arrow target) s a c is i j g = absurd is
  simple_both spot (Alone parallel name m arguments inputs) s a c is i j g = absurd is

  mutual
    exec_both : (x : Statement Spot Meant) → IsFree functions x → Flows (exec k x)
    exec_both (Block spot ss) is s a c i j g =
        then_known FlowTwin (counted (at k spot) s) (counted (at k spot) (counted_as s a c))
        (exec_all k ss) (exec_all k ss) (counted_both (at k spot) s a c i j g)
        (λ s1 a1 c1 i1 j1 g1. exec_all_both ss is s1 a1 c1 i1 j1 g1)
    exec_both (If spot e x) is s a c i j g =
        branch_both spot e (λ s1. Ok (Going s1)) (exec k x)
        (λ s1. goes (undecided k spot (fault_of x) (If spot e x) s1)) s a c is.0 i j g stay_both
        (λ s1 a1 c1 i1 j1 g1. exec_both x is.1 s1 a1 c1 i1 j1 g1)
    exec_both (IfElse spot e x y) is s a c i j g =
        branch_both spot e (exec k y) (exec k x)
        (λ s1. goes (undecided k spot (first_of (fault_of x) (fault_of y)) (IfElse spot e x y) s1))
        s a c is.0 i j g (λ s1 a1 c1 i1 j1 g1. exec_both y is.2 s1 a1 c1 i1 j1 g1)
        (λ s1 a1 c1 i1 j1 g1. exec_both x is.1 s1 a1 c1 i1 j1 g1)
    exec_both (While spot e x) is s a c i j g =
        then_known FlowTwin (counted (at k spot) s) (counted (at k spot) (counted_as s a c)) _ _
        (counted_both (at k spot) s a c i j g)
        (turns_both most_turns spot e (exec k x)
        (λ s1. goes (undecided k spot (fault_of x) (While spot e x) s1)) is.0
        (λ s1 a1 c1 i1 j1 g1. exec_both x is.1 s1 a1 c1 i1 j1 g1))
    exec_both (For spot first_spot f e step_spot x body) is s a c i j g =
        then_known FlowTwin (counted (at k spot) s) (counted (at k spot) (counted_as s a c)) _ _
        (counted_both (at k spot) s a c i j g) (λ s1 a1 c1 i1 j1 g1.
        then_known FlowTwin (simple.simple k first_spot (first_simple f) s1)
        (simple.simple k first_spot (first_simple f) (counted_as s1 a1 c1)) _ _
        (first_both first_spot f s1 a1 c1 is.0 i1 j1 g1) (λ s2 a2 c2 i2 j2 g2.
        then_known FlowTwin (counted (at k spot) s2) (counted (at k spot) (counted_as s2 a2 c2)) _ _
        (counted_both (at k spot) s2 a2 c2 i2 j2 g2)
        (turns_both most_turns spot e (λ s3. next (counted (at k spot) s3)
        (λ s4. next (exec k body s4) (λ flow. going flow (λ s5.
        goes (simple.simple k step_spot (Assigned x) s5)))))
        (λ s3. goes (undecided k spot (first_of (assign_fault step_spot x) (fault_of body))
        (loop_of spot e body step_spot x) s3)) is.1 (λ s3 a3 c3 i3 j3 g3.
        then_known FlowTwin (counted (at k spot) s3) (counted (at k spot) (counted_as s3 a3 c3)) _ _
        (counted_both (at k spot) s3 a3 c3 i3 j3 g3) (λ s4 a4 c4 i4 j4 g4.
        twin_next FlowTwin FlowTwin (exec k body s4) (exec k body (counted_as s4 a4 c4)) _ _
        (exec_both body is.3 s4 a4 c4 i4 j4 g4)
        (λ flow other p. going_both flow other _ _ p (λ s5 a5 c5 i5 j5 g5.
        goes_both _ _ (assigned_both step_spot x s5 a5 c5 is.2 i5 j5 g5))))))))
    exec_both (Return spot e) is s a c i j g =
        twin_next Both FlowTwin (value_in k (at k spot) false Whole e s)
        (value_in k (at k spot) false Whole e (counted_as s a c)) _ _
        (value_both (at k spot) Whole e s a c is i j g) (λ x y p.
        at_twin (λ t. Twin FlowTwin
        (next (counted (at k spot) x.1) (λ s2. Ok (Returned x.0 s2.world)))
        (next (counted (at k spot) t) (λ s2. Ok (Returned y.0 s2.world)))) x.1 y.1 p.1.1
        (λ a1 c1 i1 j1.
        twin_next KnownTwin FlowTwin (counted (at k spot) x.1)
        (counted (at k spot) (counted_as x.1 a1 c1)) _ _
        (counted_both (at k spot) x.1 a1 c1 i1 j1 p.0.1) (λ s2 t2 q.
        at_twin (λ t. Twin FlowTwin (Ok (Returned x.0 s2.world)) (Ok (Returned y.0 t.world))) s2 t2
        q.0 (λ a2 c2 i2 j2.
        twin_ok FlowTwin (Returned x.0 s2.world)
        (Returned y.0 (record (s2.world) { counts = c2 }))
        (p.0.0, (p.1.0, (c2, refl, j2)))))))
    exec_both (Assert spot e) is s a c i j g =
        number_both FlowTwin (value_in k (at k spot) false Scalar e s)
        (value_in k (at k spot) false Scalar e (counted_as s a c)) (λ v s1.
        next (assert_value k (at k spot) e s v s1) (λ s2. goes (counted (at k spot) s2)))
        (λ v s1. next (assert_value k (at k spot) e (counted_as s a c) v s1)
        (λ s2. goes (counted (at k spot) s2))) (value_both (at k spot) Scalar e s a c is i j g)
        (λ n s1 a1 c1 i1 j1 g1.
        assert_both spot (n == 0) s1 a1 c1 i1 j1 g1)
    exec_both (Log spot arguments) is s a c i j g = absurd is
    exec_both (Ended spot x) is s a c i j g = goes_both _ _ (simple_both spot x s a c is i j g)

    pub exec_all_both : (ss : Statements Spot Meant) → AreFreeStatements functions ss
        → Flows (exec_all k ss)
    exec_all_both empty is s a c i j g = stay_both s a c i j g
    exec_all_both (then_more x rest) is s a c i j g =
        twin_next FlowTwin FlowTwin (exec k x s) (exec k x (counted_as s a c)) _ _
        (exec_both x is.0 s a c i j g)
        (λ f f1 p. going_both f f1 (exec_all k rest) (exec_all k rest) p
        (λ s1 a1 c1 i1 j1 g1. exec_all_both rest is.1 s1 a1 c1 i1 j1 g1))
