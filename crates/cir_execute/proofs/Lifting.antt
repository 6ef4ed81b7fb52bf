-- Statements whose anonymous components are lifted: each is executed as it is.
use Rattle.std.proofs.Common.{◌≡◌, ◌∙◌, ℕ, Bool, List, [], ◌∷◌, ◌++◌, length, map, Ok, Err, ap, sym}
use Rattle.std.proofs.Common.{refl}
use Rattle.std.specs.Prelude.{option_map}
use Rattle.std.proofs.lemmas.List.{length-map}
use Rattle.cir_ast.specs.declared.program.Spot.{Spot}
use Rattle.cir_ast.specs.declared.program.Meant.{Meant}
use Rattle.cir_ast.specs.declared.operators.Direction.TheVariants.{Input}
use Rattle.cir_ast.specs.Program.{Program}
use Rattle.cir_ast.specs.Tree.{Expr, Number, Place, Call, Anonymous, Parentheses, Array, Unary}
use Rattle.cir_ast.specs.Tree.{Binary, Choice, Exprs, none, more, Inputs, Listed, Named}
use Rattle.cir_ast.specs.Tree.{NamedInputs, unnamed, named, SignalValue, Nothing, Given, Signal}
use Rattle.cir_ast.specs.Tree.{Target, Discard, Slots, Source, One, Values, Assign, Set, Compound}
use Rattle.cir_ast.specs.Tree.{Left, Increment, Decrement, Simple, Vars, Signals, Declared, Created}
use Rattle.cir_ast.specs.Tree.{Assigned, Constrain, Right, TargetLeft, TargetRight, Alone}
use Rattle.cir_ast.specs.Tree.{bare_simple}
use Rattle.cir_meaning.specs.Tried.{Tried, next}
use Rattle.cir_meaning.specs.Frame.{State, Context, at, counted}
use Rattle.cir_meaning.specs.Anonymous.{Lifted, names_of, listed_writes, named_writes, made_known}
use Rattle.cir_meaning.specs.Anonymous.{lift, lift_all, lift_inputs, lift_named, lift_values}
use Rattle.cir_meaning.specs.Anonymous.{lift_each, lift_source, lift_value, lift_simple, same}
use Rattle.cir_meaning.specs.Anonymous.{then_lift}
use Rattle.cir_meaning.specs.Simple.{each, execute, execute_counted, lifted, simple}
use Rattle.cir_ast.specs.declared.marked.Simple.{Simple as CodeSimple}
use Rattle.cir_lift.specs.declared.lifting.Lifted.{Lifted as CodeLifted}
use Rattle.cir_lift.specs.Lifts.{IsLifted}
use Rattle.cir_lift.specs.Turned.{turned}
use Rattle.cir_frame.specs.declared.frame.Frame.{Frame}
use Rattle.cir_frame.specs.Shown.{component_of}
use Rattle.cir_execute.specs.Turned.{turned_all}

-- statements that are executed as they stand
abbrev pub IsLeft : Simple Meant → Type 0
IsLeft (Right e arrow name m accessors) = ⊥
IsLeft (TargetRight source arrow target) = ⊥
IsLeft (Vars vs) = Unit {0}
IsLeft (Signals d signals) = Unit {0}
IsLeft (Declared cs) = Unit {0}
IsLeft (Created name m e) = Unit {0}
IsLeft (Assigned a) = Unit {0}
IsLeft (Constrain a b) = Unit {0}
IsLeft (TargetLeft target arrow source) = Unit {0}
IsLeft (Alone parallel name m arguments inputs) = Unit {0}

abbrev pub AreLeft : List (Simple Meant) → Type 0
AreLeft [] = Unit {0}
AreLeft (x ∷ xs) = IsLeft x × AreLeft xs

left_both : (xs ys : List (Simple Meant)) → AreLeft xs → AreLeft ys → AreLeft (xs ++ ys)
left_both [] ys h k = k
left_both (x ∷ xs) ys h k = (h.0, left_both xs ys h.1 k)

-- ---- what is lifted
listed_left : (k n : ℕ) (names : List (List ℕ)) (es : Exprs Meant)
    → AreLeft (listed_writes k n names es)
listed_left k n [] es = tt
listed_left k n (name ∷ names) none = tt
listed_left k n (name ∷ names) (more e es) = (tt, listed_left k n names es)

named_left : (k n : ℕ) (is : NamedInputs Meant) → AreLeft (named_writes k n is)
named_left k n unnamed = tt
named_left k n (named name arrow e is) = (tt, named_left k n is)

made_left : (p : Program) (first n : ℕ) (parallel : Bool) (name : List ℕ) (m : Meant)
    (arguments : Exprs Meant) (inputs : Inputs Meant)
    → AreLeft (made_known p first n parallel name m arguments inputs)
made_left p first n parallel name m arguments (Listed es) =
    (tt, listed_left _ n (names_of Input p m) es)
made_left p first n parallel name m arguments (Named is) = (tt, named_left _ n is)

abbrev LiftsLeft : {A : Type 0} → Lifted A → Type 0
LiftsLeft l = AreLeft l.before

made_then : (p : Program) (first n : ℕ) (parallel : Bool) (name : List ℕ) (m : Meant)
    (arguments : Exprs Meant) (inputs : Inputs Meant)
    → AreLeft (made_known p first n parallel name m arguments inputs ++ [])
made_then p first n parallel name m arguments inputs =
    left_both (made_known p first n parallel name m arguments inputs) []
    (made_left p first n parallel name m arguments inputs) tt

mutual
  lift_left : (p : Program) (first : ℕ) (e : Expr Meant) (n : ℕ) → LiftsLeft (lift p first e n)
  lift_left p first (Number i) n = tt
  lift_left p first (Place name m accessors) n = tt
  lift_left p first (Call parallel name m arguments) n = tt
  lift_left p first (Anonymous parallel name m arguments inputs) n =
      left_both (lift_inputs p first inputs n).before _ (inputs_left p first inputs n)
      (made_then p first (lift_inputs p first inputs n).next parallel name m arguments
      (lift_inputs p first inputs n).value)
  lift_left p first (Parentheses e) n = left_both (lift p first e n).before _ (lift_left p first e
      n) tt
  lift_left p first (Array es) n = left_both (lift_all p first es n).before _ (all_left p first es
      n) tt
  lift_left p first (Unary op a) n = left_both (lift p first a n).before _ (lift_left p first a n)
      tt
  lift_left p first (Binary op a b) n =
      let n1 : ℕ = (lift p first a n).next in
      left_both (lift p first a n).before _ (lift_left p first a n)
      (left_both (lift p first b n1).before _ (lift_left p first b n1) tt)
  lift_left p first (Choice c a b) n = left_both (lift p first c n).before _ (lift_left p first c
      n) tt

  all_left : (p : Program) (first : ℕ) (es : Exprs Meant) (n : ℕ)
      → LiftsLeft (lift_all p first es n)
  all_left p first none n = tt
  all_left p first (more e es) n =
      let n1 : ℕ = (lift p first e n).next in
      left_both (lift p first e n).before _ (lift_left p first e n)
      (left_both (lift_all p first es n1).before _ (all_left p first es n1) tt)

  inputs_left : (p : Program) (first : ℕ) (is : Inputs Meant) (n : ℕ)
      → LiftsLeft (lift_inputs p first is n)
  inputs_left p first (Listed es) n =
      left_both (lift_all p first es n).before _ (all_left p first es n) tt
  inputs_left p first (Named is) n =
      left_both (lift_named p first is n).before _ (named_lift_left p first is n) tt

  named_lift_left : (p : Program) (first : ℕ) (is : NamedInputs Meant) (n : ℕ)
      → LiftsLeft (lift_named p first is n)
  named_lift_left p first unnamed n = tt
  named_lift_left p first (named name arrow e is) n =
      let n1 : ℕ = (lift p first e n).next in
      left_both (lift p first e n).before _ (lift_left p first e n)
      (left_both (lift_named p first is n1).before _ (named_lift_left p first is n1) tt)

module _ (p : Program) (first : ℕ) where
  value_left : (v : SignalValue Meant) (n : ℕ) → LiftsLeft (lift_value p first v n)
  value_left Nothing n = tt
  value_left (Given arrow e) n = left_both (lift p first e n).before _ (lift_left p first e n) tt

  values_left : (e : Expr Meant) (n : ℕ) → LiftsLeft (lift_values p first e n)
  values_left (Parentheses e) n = values_left e n
  values_left (Anonymous parallel name m arguments inputs) n =
      left_both (lift_inputs p first inputs n).before _ (inputs_left p first inputs n)
      (made_left p first (lift_inputs p first inputs n).next parallel name m arguments
      (lift_inputs p first inputs n).value)
  values_left (Number i) n = tt
  values_left (Place name m accessors) n = tt
  values_left (Call parallel name m arguments) n = tt
  values_left (Array es) n = left_both (lift p first (Array es) n).before _ (lift_left p first
      (Array es) n) tt
  values_left (Unary op a) n =
      left_both (lift p first (Unary op a) n).before _ (lift_left p first (Unary op a) n) tt
  values_left (Binary op a b) n =
      left_both (lift p first (Binary op a b) n).before _ (lift_left p first (Binary op a b) n) tt
  values_left (Choice c a b) n =
      left_both (lift p first (Choice c a b) n).before _ (lift_left p first (Choice c a b) n) tt

  each_left : {A : Type 0} (f : A → ℕ → Lifted A) (xs : List A) (n : ℕ)
      → ((x : A) (n : ℕ) → LiftsLeft (f x n)) → LiftsLeft (lift_each f xs n)
  each_left f [] n h = tt
  each_left f (x ∷ xs) n h =
      left_both (f x n).before _ (h x n)
      (left_both (lift_each f xs (f x n).next).before _ (each_left f xs (f x n).next h) tt)

  source_left : (target : Target Meant) (source : Source Meant) (n : ℕ)
      → LiftsLeft (lift_source p first target source n)
  source_left target (Values es) n =
      left_both (lift_each (lift p first) es n).before _
      (each_left (lift p first) es n (λ e n. lift_left p first e n)) tt
  source_left (Slots slots) (One e) n =
      left_both (lift_values p first e n).before _ (values_left e n) tt
  source_left Discard (One e) n = left_both (lift p first e n).before _ (lift_left p first e n) tt

  abbrev signal_lift : Signal Meant → ℕ → Lifted (Signal Meant)
  signal_lift s n1 =
      then_lift (lift_value p first s.value n1) (λ v n2. same (record s { value = v }) n2)

  signal_left : (s : Signal Meant) (n : ℕ) → LiftsLeft (signal_lift s n)
  signal_left s n = left_both (lift_value p first s.value n).before _ (value_left s.value n) tt

  assign_left : (a : Assign Meant) (n : ℕ) → LiftsLeft (lift_simple p first (Assigned a) n)
  assign_left (Set name m accessors e) n = tt
  assign_left (Compound name m accessors op e) n = tt
  assign_left (Left name m accessors arrow e) n =
      left_both (lift p first e n).before _ (lift_left p first e n) tt
  assign_left (Increment name m accessors) n = tt
  assign_left (Decrement name m accessors) n = tt

  pub before_left : (x : Simple Meant) (n : ℕ) → LiftsLeft (lift_simple p first x n)
  before_left (Vars vs) n = tt
  before_left (Signals d signals) n =
      left_both (lift_each signal_lift signals n).before _
      (each_left signal_lift signals n signal_left) tt
  before_left (Declared cs) n = tt
  before_left (Created name m e) n = tt
  before_left (Assigned a) n = assign_left a n
  before_left (Constrain a b) n =
      let n1 : ℕ = (lift p first a n).next in
      left_both (lift p first a n).before _ (lift_left p first a n)
      (left_both (lift p first b n1).before _ (lift_left p first b n1) tt)
  before_left (Right e arrow name m accessors) n =
      left_both (lift p first e n).before _ (lift_left p first e n) tt
  before_left (TargetLeft target arrow source) n =
      left_both (lift_source p first target source n).before _ (source_left target source n) tt
  before_left (TargetRight source arrow target) n =
      left_both (lift_source p first target source n).before _ (source_left target source n) tt
  before_left (Alone parallel name m arguments inputs) n =
      left_both (lift_inputs p first inputs n).before _ (inputs_left p first inputs n)
      (made_then p first (lift_inputs p first inputs n).next parallel name m arguments
      (lift_inputs p first inputs n).value)

  assign_value : (a : Assign Meant) (n : ℕ) → IsLeft (lift_simple p first (Assigned a) n).value
  assign_value (Set name m accessors e) n = tt
  assign_value (Compound name m accessors op e) n = tt
  assign_value (Left name m accessors arrow e) n = tt
  assign_value (Increment name m accessors) n = tt
  assign_value (Decrement name m accessors) n = tt

  pub value_is_left : (x : Simple Meant) (n : ℕ) → IsLeft (lift_simple p first x n).value
  value_is_left (Vars vs) n = tt
  value_is_left (Signals d signals) n = tt
  value_is_left (Declared cs) n = tt
  value_is_left (Created name m e) n = tt
  value_is_left (Assigned a) n = assign_value a n
  value_is_left (Constrain a b) n = tt
  value_is_left (Right e arrow name m accessors) n = tt
  value_is_left (TargetLeft target arrow source) n = tt
  value_is_left (TargetRight source arrow target) n = tt
  value_is_left (Alone parallel name m arguments inputs) n = tt

-- ---- and as it is executed
next_same : (f g : State → Tried State) (m : Tried State) → ((s : State) → f s ≡ g s)
    → next m f ≡ next m g
next_same f g (Ok s) h = h s
next_same f g (Err e) h = refl

module _ (k : Context) (spot : Spot) where
  executed : (x : Simple Meant) (s : State) → IsLeft x
      → execute k spot (turned x) s ≡ execute k spot x s
  executed (Right e arrow name m accessors) s h = absurd h
  executed (TargetRight source arrow target) s h = absurd h
  executed (TargetLeft target arrow (One e)) s h = refl
  executed (TargetLeft target arrow (Values es)) s h = refl
  executed (Vars vs) s h = refl
  executed (Signals d signals) s h = refl
  executed (Declared cs) s h = refl
  executed (Created name m e) s h = refl
  executed (Assigned a) s h = refl
  executed (Constrain a b) s h = refl
  executed (Alone parallel name m arguments inputs) s h = refl

  executed_counted : (x : Simple Meant) (s : State) → IsLeft x
      → execute_counted k spot (turned x) s ≡ execute_counted k spot x s
  executed_counted x s h = ap (λ m. next m (counted (at k spot))) (executed x s h)

  each_executed : (xs : List (Simple Meant)) (s : State) → AreLeft xs
      → each (execute_counted k spot) (map turned xs) s ≡ each (execute_counted k spot) xs s
  each_executed [] s h = refl
  each_executed (x ∷ xs) s h =
      ap (λ m. next m (each (execute_counted k spot) (map turned xs)))
      (executed_counted x s h.0)
      ∙ next_same _ _ (execute_counted k spot x s) (λ s1. each_executed xs s1 h.1)

  lifted_left : (l : Lifted (Simple Meant)) (s : State) → AreLeft l.before → IsLeft l.value
      → lifted k spot (turned_all l) s ≡ lifted k spot l s
  lifted_left l s h v =
      ap (λ m. next m (execute_counted k spot (turned l.value))) (each_executed l.before s h)
      ∙ next_same _ _ (each (execute_counted k spot) l.before s)
      (λ s1. executed_counted l.value s1 v)

  -- each lifted statement is executed as it stands
  pub lifted_is : (p : Program) (first : ℕ) (x : Simple Meant) (n : ℕ) (s : State)
      → lifted k spot (turned_all (lift_simple p first x n)) s
      ≡ lifted k spot (lift_simple p first x n) s
  lifted_is p first x n s =
      lifted_left (lift_simple p first x n) s (before_left p first x n) (value_is_left p first x n)

pub map_both : {A B C : Type 0} (f : B → C) (g : A → B) (xs : List A)
    → map f (map g xs) ≡ map (λ x. f (g x)) xs
map_both f g [] = refl
map_both f g (x ∷ xs) = ap (λ ys. f (g x) ∷ ys) (map_both f g xs)

-- what holds none is executed as it stands
pub simple_plain : (k : Context) (spot : Spot) (x : Simple Meant) (s : State)
    → ((p : Program) (first n : ℕ) → lift_simple p first x n ≡ same (turned x) n)
    → simple k spot x s ≡ execute_counted k spot (turned x) s
simple_plain k spot x s h =
    ap (λ l. lifted k spot l s) (h k.program k.named_components (length s.frame.components))

pub assign_plain : (k : Context) (spot : Spot) (a : Assign Meant) (s : State)
    → ((p : Program) (first n : ℕ)
    → lift_simple p first (Assigned a) n ≡ same (Assigned a) n)
    → simple k spot (Assigned a) s ≡ execute_counted k spot (Assigned a) s
assign_plain k spot a s h =
    ap (λ l. lifted k spot l s) (h k.program k.named_components (length s.frame.components))

-- a statement whose components are lifted, numbered behind those that are there
pub lifting_is : (k : Context) (spot : Spot) (x : Simple Meant) (f : Frame) (s : State) (n : ℕ)
    → n ≡ length f.components.items → s.frame.components
    ≡ map (option_map component_of) f.components.items
    → simple k spot x s
    ≡ lifted k spot (turned_all (lift_simple k.program k.named_components x n)) s
lifting_is k spot x f s n is at =
    ap (λ i. lifted k spot (lift_simple k.program k.named_components x i) s)
    (ap length at ∙ length-map f.components.items (option_map component_of) ∙ sym is)
    ∙ sym (lifted_is k spot k.program k.named_components x n s)

-- the code's statements that are lifted, one by one, and then the statement
pub lifted_by : (k : Context) (spot : Spot) (x : Lifted (Simple Meant)) (l : CodeLifted)
    (items : List (CodeSimple Meant)) (s : State) → IsLifted x l → items ≡ l.before.items
    → lifted k spot (turned_all x) s
    ≡ next (each (execute_counted k spot) (map (λ y. turned (bare_simple y)) items) s)
    (execute_counted k spot (turned (bare_simple l.value)))
lifted_by k spot x l items s is it =
    ap (λ xs. next (each (execute_counted k spot) (map turned xs) s)
    (execute_counted k spot (turned x.value))) (sym is.before)
    ∙ ap (λ xs. next (each (execute_counted k spot) (map turned (map bare_simple xs)) s)
    (execute_counted k spot (turned x.value))) (sym it)
    ∙ ap (λ xs. next (each (execute_counted k spot) xs s) (execute_counted k spot (turned x.value)))
    (map_both turned bare_simple items)
    ∙ ap (λ v. next (each (execute_counted k spot) (map (λ y. turned (bare_simple y)) items) s)
    (execute_counted k spot (turned v))) (sym is.value)
