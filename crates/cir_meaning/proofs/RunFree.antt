-- A function that runs never misses a value: it ends, or stops as a program may.
use Rattle.std.proofs.Common.{◌≡◌, ◌≢◌, ℕ, zero, suc, ◌-◌, ◌<◌, Bool, true, false, cond, List, []}
use Rattle.std.proofs.Common.{◌∷◌, ◌++◌, map, length, replicate, Option, Some, None, Result, Ok}
use Rattle.std.proofs.Common.{Err, refl, sym, subst, slice_get, slice_set, slice_index, arith}
use Rattle.std.specs.Prelude.{⊤, ◌==◌, unwrap_or}
use Rattle.std.specs.List.{AllByRecursion}
use Rattle.gold_field.specs.Operators.{unary_of as number_by, binary_of}
use Rattle.cir_ast.specs.declared.program.Spot.{Spot}
use Rattle.cir_ast.specs.declared.program.Meant.{Meant}
use Rattle.cir_ast.specs.declared.program.Meant.TheVariants as meant
use Rattle.cir_ast.specs.Program.{Program, Function}
use Rattle.cir_ast.specs.Tree.{Expr, Number, Place, Call, Anonymous, Parentheses, Array, Unary}
use Rattle.cir_ast.specs.Tree.{Binary, Choice, Exprs, none, more, Accessors, done, index, member}
use Rattle.cir_ast.specs.Tree.{Variable, Assign, Set, Compound, Left, Increment, Decrement, First}
use Rattle.cir_ast.specs.Tree.{FirstVars, FirstAssign, Simple, Vars, Signals, Declared, Created}
use Rattle.cir_ast.specs.Tree.{Assigned, Constrain, Right, TargetLeft, TargetRight, Alone}
use Rattle.cir_ast.specs.Tree.{Statement, Block, If, IfElse, While, For, Return, Assert, Log, Ended}
use Rattle.cir_ast.specs.Tree.{Statements, empty, then_more}
use Rattle.cir_meaning.specs.SignalFree.{IsVariable, IsFunction, IsFreeExpr, AreFree}
use Rattle.cir_meaning.specs.SignalFree.{AreFreeIndices, IsFreeAssign, IsFreeOption, IsFreeVariable}
use Rattle.cir_meaning.specs.SignalFree.{IsFreeFirst, IsFreeSimple, IsFree, AreFreeStatements}
use Rattle.cir_meaning.specs.SignalFree.{AreFunctionsFree}
use Rattle.cir_meaning.specs.Tried.{next}
use Rattle.cir_meaning.specs.Places.{is_inside, left_of, places_of}
use Rattle.cir_meaning.specs.Arrays.{single, made, put_items}
use Rattle.cir_meaning.specs.Values.{and_number, or_number}
use Rattle.cir_meaning.specs.Operators.{Operator, Strict, And, Or, operator_of, unary_of}
use Rattle.cir_meaning.specs.RunValues.{Ran, Numbers, Store, stored, gives, number, number_in}
use Rattle.cir_meaning.specs.RunValues.{numbers_in, place_in, index_numbers, dims_numbers, bounded}
use Rattle.cir_meaning.specs.RunValues.{the_number, RunNamed, call_function, needs_right}
use Rattle.cir_meaning.specs.RunValues.{result_number, unless_zero_divisor, when, assert_fails}
use Rattle.cir_meaning.specs.RunValues.{fuel_spent, too_deep, zero_divisor, index_out}
use Rattle.cir_meaning.specs.RunStatements.{StepFlow, StepGoing, StepReturned, step_goes}
use Rattle.cir_meaning.specs.RunStatements.{step_going, spend, step_set, step_assign, step_value}
use Rattle.cir_meaning.specs.RunStatements.{declared, step_variable, step_variables, step_first}
use Rattle.cir_meaning.specs.RunStatements.{step_simple, step_turns, step_statement}
use Rattle.cir_meaning.specs.RunStatements.{step_statements, in_function, returned_number}
use Rattle.cir_meaning.specs.RunStatements.{run_function, run_call}
use Rattle.cir_meaning.proofs.KnownCalls.{all_get}

unfoldable pub NoMiss : {A : Type 0} → (A → Type 0) → Result A ℕ → Type 0
NoMiss Q (Ok a) = Q a
NoMiss Q (Err stop) = stop ≢ 0

pub no_ok : {A : Type 0} (Q : A → Type 0) (a : A) → Q a → NoMiss Q (Ok a)
unfolding NoMiss
no_ok Q a h = h

pub no_stop : {A : Type 0} (Q : A → Type 0) (stop : ℕ) → stop ≢ 0 → NoMiss Q (Err stop)
unfolding NoMiss
no_stop Q stop h = h

pub no_next : {A B : Type 0} (P : A → Type 0) (Q : B → Type 0) (m : Result A ℕ)
    (go : A → Result B ℕ) → NoMiss P m → ((a : A) → P a → NoMiss Q (go a))
    → NoMiss Q (next m go)
unfolding NoMiss
no_next P Q (Ok a) go h f = f a h
no_next P Q (Err stop) go h f = h

pub no_weaker : {A : Type 0} (P Q : A → Type 0) (m : Result A ℕ) → ((x : A) → P x → Q x)
    → NoMiss P m → NoMiss Q m
unfolding NoMiss
no_weaker P Q (Ok x) f h = f x h
no_weaker P Q (Err stop) f h = h

pub no_if : {A : Type 0} (Q : A → Type 0) (b : Bool) (x y : Result A ℕ) → NoMiss Q x → NoMiss Q y
    → NoMiss Q (cond b x y)
no_if Q true x y h g = h
no_if Q false x y h g = g

abbrev pub Any : {A : Type 0} → A → Type 0
Any a = ⊤

abbrev pub Real : {A : Type 0} → Result A ℕ → Type 0
Real r = NoMiss Any r

-- a call gives one number
abbrev pub IsNumber' : Numbers × ℕ → Type 0
IsNumber' x = (n : ℕ) × (x.0 ≡ single n)

abbrev pub Calls : ℕ → (ℕ → List Numbers → ℕ → Ran Numbers) → Type 0
Calls functions call =
    (f : ℕ) (ds : List Numbers) (u : ℕ) → f < functions → NoMiss IsNumber' (call f ds u)

pub real_number : {A : Type 0} (m : Ran Numbers) (on : ℕ → ℕ → Ran A) → Real m
    → ((n u : ℕ) → Real (on n u)) → Real (number m on)
real_number m on h g = no_next Any Any m _ h (λ x p. g (the_number x.0) x.1)

pub real_then : {A B : Type 0} (m : Result A ℕ) (on : A → Result B ℕ) → Real m
    → ((a : A) → Real (on a)) → Real (next m on)
real_then m on h g = no_next Any Any m on h (λ x p. g x)

real_bounded : {A : Type 0} (dims indices : List ℕ) (go : List ℕ → List ℕ → Result A ℕ)
    → ((left places : List ℕ) → Real (go left places)) → Real (bounded dims indices go)
real_bounded dims indices go h =
    no_if Any (is_inside dims (map Some indices))
    (go (unwrap_or (left_of dims (map Some indices)) []) (places_of dims (map Some indices)))
    (Err index_out)
    (h (unwrap_or (left_of dims (map Some indices)) []) (places_of dims (map Some indices)))
    (no_stop Any index_out (λ no. cc))

real_divided : (o : Option ℕ) → Real (unless_zero_divisor o)
real_divided None = no_stop Any zero_divisor (λ no. cc)
real_divided (Some n) = no_ok Any n tt

real_result : (op : Operator) (m n : ℕ) → Real (result_number op m n)
real_result (Strict op) m n = real_divided (binary_of op m n)
real_result And m n = no_ok Any (and_number m n) tt
real_result Or m n = no_ok Any (or_number m n) tt

real_when : (b : Bool) (u : ℕ) (m : Ran Numbers) → Real m → Real (when b u m)
real_when true u m h = h
real_when false u m h = no_ok Any (single 0, u) tt

module _ (functions : ℕ) (call : ℕ → List Numbers → ℕ → Ran Numbers)
    (calls : Calls functions call) where
  real_call : (m : Meant) (ds : List Numbers) (u : ℕ) → IsFunction functions m
      → Real (call_function (in_function call) m ds u)
  real_call (meant.Function f) ds u is =
      no_weaker IsNumber' Any (call f ds u) (λ x p. tt) (calls f ds u is)
  real_call meant.Other ds u is = absurd is
  real_call (meant.Variable n) ds u is = absurd is
  real_call (meant.Signal direction n) ds u is = absurd is
  real_call (meant.Component n) ds u is = absurd is
  real_call (meant.Template n) ds u is = absurd is

  mutual
    pub real_value : (store : Store) (e : Expr Meant) (u : ℕ) → IsFreeExpr functions e
        → Real (number_in (in_function call) store e u)
    real_value store (Number n) u is = no_ok Any _ tt
    real_value store (Place name (meant.Variable n) accessors) u is =
        real_place store n [] accessors u is.1
    real_value store (Place name meant.Other accessors) u is = absurd is.0
    real_value store (Place name (meant.Signal direction n) accessors) u is = absurd is.0
    real_value store (Place name (meant.Component n) accessors) u is = absurd is.0
    real_value store (Place name (meant.Template n) accessors) u is = absurd is.0
    real_value store (Place name (meant.Function n) accessors) u is = absurd is.0
    real_value store (Call parallel name m arguments) u is =
        real_then (numbers_in (in_function call) store arguments u) _
        (real_values store arguments u is.1) (λ x. real_call m x.0 x.1 is.0)
    real_value store (Anonymous parallel name m arguments inputs) u is = absurd is
    real_value store (Parentheses e) u is = real_value store e u is
    real_value store (Array none) u is = absurd is
    real_value store (Array (more e es)) u is =
        real_then (numbers_in (in_function call) store (more e es) u) _
        (real_then (number_in (in_function call) store e u) _ (real_value store e u is.0) (λ x.
        real_then (numbers_in (in_function call) store es x.1) _
        (real_values store es x.1 is.1) (λ y. no_ok Any _ tt)))
        (λ x. no_ok Any _ tt)
    real_value store (Unary op a) u is =
        real_number (number_in (in_function call) store a u)
        (λ m u1. gives (single (number_by (unary_of op) m)) u1) (real_value store a u is)
        (λ m u1. no_ok Any _ tt)
    real_value store (Binary op a b) u is =
        real_number (number_in (in_function call) store a u) (λ m u1.
        number (when (needs_right (operator_of op) m) u1
        (number_in (in_function call) store b u1)) (λ n u2.
        next (result_number (operator_of op) m n) (λ x. gives (single x) u2)))
        (real_value store a u is.0) (λ m u1.
        real_number (when (needs_right (operator_of op) m) u1
        (number_in (in_function call) store b u1)) (λ n u2.
        next (result_number (operator_of op) m n) (λ x. gives (single x) u2))
        (real_when (needs_right (operator_of op) m) u1 (number_in (in_function call) store b u1)
        (real_value store b u1 is.1))
        (λ n u2. real_then (result_number (operator_of op) m n) _
        (real_result (operator_of op) m n) (λ x. no_ok Any _ tt)))
    real_value store (Choice c a b) u is =
        real_number (number_in (in_function call) store c u) (λ m u1.
        number (cond (m == 0) (number_in (in_function call) store b u1)
        (number_in (in_function call) store a u1)) (λ n u2. gives (single n) u2))
        (real_value store c u is.0) (λ m u1.
        real_number (cond (m == 0) (number_in (in_function call) store b u1)
        (number_in (in_function call) store a u1)) (λ n u2. gives (single n) u2)
        (no_if Any (m == 0) (number_in (in_function call) store b u1)
        (number_in (in_function call) store a u1) (real_value store b u1 is.2)
        (real_value store a u1 is.1)) (λ n u2. no_ok Any _ tt))

    real_values : (store : Store) (es : Exprs Meant) (u : ℕ) → AreFree functions es
        → Real (numbers_in (in_function call) store es u)
    real_values store none u is = no_ok Any _ tt
    real_values store (more e es) u is =
        real_then (number_in (in_function call) store e u) _ (real_value store e u is.0) (λ x.
        real_then (numbers_in (in_function call) store es x.1) _
        (real_values store es x.1 is.1) (λ y. no_ok Any _ tt))

    real_place : (store : Store) (n : ℕ) (ns : List ℕ) (accessors : Accessors Meant) (u : ℕ)
        → AreFreeIndices functions accessors
        → Real (place_in (in_function call) store (RunNamed (meant.Variable n)) ns accessors u)
    real_place store n ns done u is =
        real_bounded (stored store n).dims ns (λ left places.
        gives (made left (map (slice_index (stored store n).items) places)) u)
        (λ left places. no_ok Any _ tt)
    real_place store n ns (index e rest) u is =
        real_number (number_in (in_function call) store e u) (λ i u1.
        place_in (in_function call) store (RunNamed (meant.Variable n)) (ns ++ i ∷ []) rest u1)
        (real_value store e u is.0)
        (λ i u1. real_place store n (ns ++ i ∷ []) rest u1 is.1)
    real_place store n ns (member name rest) u is = absurd is

  real_indices : {A : Type 0} (store : Store) (ns : List ℕ) (accessors : Accessors Meant) (u : ℕ)
      (go : List ℕ → ℕ → Ran A) → AreFreeIndices functions accessors
      → ((ns : List ℕ) (u : ℕ) → Real (go ns u))
      → Real (index_numbers (in_function call) store ns accessors u go)
  real_indices store ns done u go is h = h ns u
  real_indices store ns (member name rest) u go is h = absurd is
  real_indices store ns (index e rest) u go is h =
      real_number (number_in (in_function call) store e u)
      (λ i u1. index_numbers (in_function call) store (ns ++ i ∷ []) rest u1 go)
      (real_value store e u is.0) (λ i u1. real_indices store (ns ++ i ∷ []) rest u1 go is.1 h)

  real_dims : (store : Store) (es : Exprs Meant) (u : ℕ) → AreFree functions es
      → Real (dims_numbers (in_function call) store es u)
  real_dims store none u is = no_ok Any _ tt
  real_dims store (more e es) u is =
      real_number (number_in (in_function call) store e u) (λ n u1.
      next (dims_numbers (in_function call) store es u1) (λ (ns, u2). gives (n ∷ ns) u2))
      (real_value store e u is.0)
      (λ n u1. real_then (dims_numbers (in_function call) store es u1) _
      (real_dims store es u1 is.1) (λ x. no_ok Any _ tt))

  -- statements
  real_set : (m : Meant) (accessors : Accessors Meant) (e : Expr Meant) (store : Store) (u : ℕ)
      → IsVariable m → AreFreeIndices functions accessors → IsFreeExpr functions e
      → Real (step_set (in_function call) m accessors e store u)
  real_set (meant.Variable n) accessors e store u v is free =
      real_then (number_in (in_function call) store e u) _ (real_value store e u free) (λ x.
      real_indices store [] accessors x.1 _ is (λ ns u2.
      real_bounded (stored store n).dims ns (λ left places.
      gives (slice_set store n record {
        dims = (stored store n).dims;
        items = put_items places x.0.items (stored store n).items;
      }) u2) (λ left places. no_ok Any _ tt)))
  real_set meant.Other accessors e store u v is free = absurd v
  real_set (meant.Signal direction n) accessors e store u v is free = absurd v
  real_set (meant.Component n) accessors e store u v is free = absurd v
  real_set (meant.Template n) accessors e store u v is free = absurd v
  real_set (meant.Function n) accessors e store u v is free = absurd v

  real_assign : (a : Assign Meant) (store : Store) (u : ℕ) → IsFreeAssign functions a
      → Real (step_assign (in_function call) a store u)
  real_assign (Set name m accessors e) store u is =
      real_set m accessors e store u is.0 is.1 is.2
  real_assign (Compound name m accessors op e) store u is =
      real_set m accessors _ store u is.0 is.1 ((is.0, is.1), is.2)
  real_assign (Increment name m accessors) store u is =
      real_set m accessors _ store u is.0 is.1 ((is.0, is.1), tt)
  real_assign (Decrement name m accessors) store u is =
      real_set m accessors _ store u is.0 is.1 ((is.0, is.1), tt)
  real_assign (Left name m accessors arrow e) store u is = absurd is

  real_option : (m : Meant) (o : Option (Expr Meant)) (store : Store) (u : ℕ) → IsVariable m
      → IsFreeOption functions o → Real (step_value (in_function call) m o store u)
  real_option m None store u v is = no_ok Any _ tt
  real_option m (Some e) store u v is = real_set m done e store u v tt is

  real_variable : (v : Variable Meant) (store : Store) (u : ℕ) → IsFreeVariable functions v
      → Real (step_variable (in_function call) v store u)
  real_variable v store u is =
      real_then (dims_numbers (in_function call) store v.dimensions u) _
      (real_dims store v.dimensions u is.1)
      (λ x. real_option v.meant v.value (declared v.meant x.0 store) x.1 is.0 is.2)

  real_variables : (vs : List (Variable Meant)) (store : Store) (u : ℕ)
      → AllByRecursion (IsFreeVariable functions) vs
      → Real (step_variables (in_function call) vs store u)
  real_variables [] store u is = no_ok Any _ tt
  real_variables (v ∷ vs) store u is =
      real_then (step_variable (in_function call) v store u) _ (real_variable v store u is.0)
      (λ x. real_variables vs x.0 x.1 is.1)

  real_first : (f : First Meant) (store : Store) (u : ℕ) → IsFreeFirst functions f
      → Real (step_first (in_function call) f store u)
  real_first (FirstVars vs) store u is = real_variables vs store u is
  real_first (FirstAssign a) store u is = real_assign a store u is

  real_simple : (x : Simple Meant) (store : Store) (u : ℕ) → IsFreeSimple functions x
      → Real (step_simple (in_function call) x store u)
  real_simple (Vars vs) store u is = real_variables vs store u is
  real_simple (Assigned a) store u is = real_assign a store u is
  real_simple (Signals direction ds) store u is = absurd is
  real_simple (Declared cs) store u is = absurd is
  real_simple (Created name m e) store u is = absurd is
  real_simple (Constrain x y) store u is = absurd is
  real_simple (Right e arrow name m accessors) store u is = absurd is
  real_simple (TargetLeft target arrow source) store u is = absurd is
  real_simple (TargetRight source arrow target) store u is = absurd is
  real_simple (Alone parallel name m arguments inputs) store u is = absurd is

  real_goes : (m : Ran Store) → Real m → Real (step_goes m)
  real_goes m h = real_then m _ h (λ x. no_ok Any _ tt)

  real_going : (flow : StepFlow) (u : ℕ) (go : Store → ℕ → Ran StepFlow)
      → ((store : Store) (u : ℕ) → Real (go store u)) → Real (step_going flow u go)
  real_going (StepGoing store) u go h = h store u
  real_going (StepReturned d) u go h = no_ok Any _ tt

  real_spend : {A : Type 0} (u : ℕ) (go : ℕ → Ran A) → ((u : ℕ) → Real (go u))
      → Real (spend u go)
  real_spend zero go h = no_stop Any fuel_spent (λ no. cc)
  real_spend (suc u) go h = h u

  real_turns : (most : ℕ) (c : Expr Meant) (body : Store → ℕ → Ran StepFlow) (store : Store)
      (u : ℕ) → IsFreeExpr functions c → ((store : Store) (u : ℕ) → Real (body store u))
      → Real (step_turns most (in_function call) c body store u)
  real_turns zero c body store u is h = no_stop Any fuel_spent (λ no. cc)
  real_turns (suc most) c body store u is h =
      real_number (number_in (in_function call) store c u) (λ m u1.
      cond (m == 0) (gives (StepGoing store) u1) (spend u1 (λ u2.
      next (body store u2) (λ (flow, u3).
      step_going flow u3 (step_turns most (in_function call) c body)))))
      (real_value store c u is) (λ m u1.
      no_if Any (m == 0) _ _ (no_ok Any _ tt) (real_spend u1 _ (λ u2.
      real_then (body store u2) _ (h store u2) (λ x.
      real_going x.0 x.1 _ (λ store1 u4. real_turns most c body store1 u4 is h)))))

  mutual
    real_statement : (x : Statement Spot Meant) (store : Store) (u : ℕ) → IsFree functions x
        → Real (step_statement (in_function call) x store u)
    real_statement (Block spot ss) store u is = real_statements ss store u is
    real_statement (If spot c a) store u is =
        real_number (number_in (in_function call) store c u) (λ m u1.
        cond (m == 0) (gives (StepGoing store) u1)
        (step_statement (in_function call) a store u1)) (real_value store c u is.0) (λ m u1.
        no_if Any (m == 0) _ _ (no_ok Any _ tt) (real_statement a store u1 is.1))
    real_statement (IfElse spot c a b) store u is =
        real_number (number_in (in_function call) store c u) (λ m u1.
        cond (m == 0) (step_statement (in_function call) b store u1)
        (step_statement (in_function call) a store u1)) (real_value store c u is.0) (λ m u1.
        no_if Any (m == 0) _ _ (real_statement b store u1 is.2) (real_statement a store u1 is.1))
    real_statement (While spot c a) store u is =
        real_turns (suc u) c (step_statement (in_function call) a) store u is.0
        (λ store1 u1. real_statement a store1 u1 is.1)
    real_statement (For spot first_spot f c step_spot a body) store u is =
        real_then (step_first (in_function call) f store u) _ (real_first f store u is.0) (λ x.
        real_turns (suc x.1) c (λ store2 u2.
        next (step_statement (in_function call) body store2 u2) (λ (flow, u3).
        step_going flow u3 (λ store3 u4.
        step_goes (step_assign (in_function call) a store3 u4)))) x.0 x.1 is.1 (λ store2 u2.
        real_then (step_statement (in_function call) body store2 u2) _
        (real_statement body store2 u2 is.3) (λ y.
        real_going y.0 y.1 _ (λ store3 u4. real_goes _ (real_assign a store3 u4 is.2)))))
    real_statement (Return spot e) store u is =
        real_then (number_in (in_function call) store e u) _ (real_value store e u is)
        (λ x. no_ok Any _ tt)
    real_statement (Assert spot e) store u is =
        real_number (number_in (in_function call) store e u) (λ m u1.
        cond (m == 0) (Err assert_fails) (gives (StepGoing store) u1))
        (real_value store e u is) (λ m u1.
        no_if Any (m == 0) _ _ (no_stop Any assert_fails (λ no. cc)) (no_ok Any _ tt))
    real_statement (Log spot arguments) store u is = absurd is
    real_statement (Ended spot x) store u is = real_goes _ (real_simple x store u is)

    pub real_statements : (ss : Statements Spot Meant) (store : Store) (u : ℕ)
        → AreFreeStatements functions ss
        → Real (step_statements (in_function call) ss store u)
    real_statements empty store u is = no_ok Any _ tt
    real_statements (then_more a rest) store u is =
        real_then (step_statement (in_function call) a store u) _
        (real_statement a store u is.0)
        (λ x. real_going x.0 x.1 _ (λ store1 u1. real_statements rest store1 u1 is.1))

-- functions of a program, with room for so many open calls
there_is : {A : Type 0} (xs : List A) (n : ℕ) → n < length xs
    → (x : A) × (slice_get xs n ≡ Some x)
there_is [] n l = absurd (let no : n < 0 = l in omega arith)
there_is (x ∷ xs) zero l = (x, refl)
there_is (x ∷ xs) (suc n) l = there_is xs n (omega arith)

one_number : (flow : StepFlow) → (n : ℕ) × (returned_number flow ≡ single n)
one_number (StepGoing store) = (0, refl)
one_number (StepReturned d) = (the_number d, refl)

spent_number : (u : ℕ) (go : ℕ → Ran Numbers) → ((u : ℕ) → NoMiss IsNumber' (go u))
    → NoMiss IsNumber' (spend u go)
spent_number zero go h = no_stop IsNumber' fuel_spent (λ no. cc)
spent_number (suc u) go h = h u

pub run_calls : (p : Program) (room : ℕ) → AreFunctionsFree p
    → Calls (length p.functions) (run_call p room)
run_calls p zero free f ds u l =
    spent_number u (λ u1. Err too_deep) (λ u1. no_stop IsNumber' too_deep (λ no. cc))
run_calls p (suc room) free f ds u l =
    spent_number u (λ u1. run_function (run_call p room) (slice_get p.functions f) ds u1) (λ u1.
    let there : (x : Function) × (slice_get p.functions f ≡ Some x) = there_is p.functions f l in
    subst (λ o. NoMiss IsNumber' (run_function (run_call p room) o ds u1)) (sym there.1)
    (no_next Any IsNumber'
    (step_statements (in_function (run_call p room)) there.0.body
    (ds ++ replicate (there.0.variables - length ds) (single 0)) u1) _
    (real_statements (length p.functions) (run_call p room) (run_calls p room free) there.0.body
    (ds ++ replicate (there.0.variables - length ds) (single 0)) u1
    (all_get (λ g. AreFreeStatements (length p.functions) g.body) p.functions f there.0 free
    there.1))
    (λ x q. no_ok IsNumber' (returned_number x.0, x.1) (one_number x.0))))
