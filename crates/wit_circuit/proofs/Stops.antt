-- A stop of a step has one of the machine's numbers, or is that of a number that is missing.
use Rattle.std.proofs.Common.{ℕ, zero, suc, ◌-◌, ◌≤◌, Bool, true, false, cond, List, [], ◌∷◌, ◌++◌}
use Rattle.std.proofs.Common.{map, length, replicate, Option, Some, None, Result, Ok, Err}
use Rattle.std.proofs.Common.{slice_get, slice_set, slice_index, arith}
use Rattle.std.specs.Prelude.{⊤, ◌==◌, unwrap_or}
use Rattle.gold_field.specs.Operators.{unary_of as number_by, binary_of}
use Rattle.cir_ast.specs.declared.program.Spot.{Spot}
use Rattle.cir_ast.specs.declared.program.Meant.{Meant}
use Rattle.cir_ast.specs.declared.program.Meant.TheVariants as meant
use Rattle.cir_ast.specs.Program.{Program, Function}
use Rattle.cir_ast.specs.Tree.{Expr, Number, Place, Call, Anonymous, Parentheses, Array, Unary}
use Rattle.cir_ast.specs.Tree.{Binary, Choice, Exprs, none, more, Accessors, done, index, member}
use Rattle.cir_ast.specs.Tree.{Variable, Assign, Set, Compound, Left, Increment, Decrement, First}
use Rattle.cir_ast.specs.Tree.{FirstVars, FirstAssign, Simple, Vars, Signals, Declared, Created}
use Rattle.cir_ast.specs.Tree.{Assigned, Constrain, Right, TargetLeft, TargetRight, Alone}
use Rattle.cir_ast.specs.Tree.{Statement, Block, If, IfElse, While, For, Return, Assert, Log, Ended}
use Rattle.cir_ast.specs.Tree.{Statements, empty, then_more}
use Rattle.cir_meaning.specs.Tried.{next}
use Rattle.cir_meaning.specs.Places.{is_inside, left_of, places_of}
use Rattle.cir_meaning.specs.Arrays.{Shaped, single, made, put_items}
use Rattle.cir_meaning.specs.Operators.{Operator, Strict, And, Or, operator_of, unary_of}
use Rattle.cir_meaning.specs.RunValues.{Ran, Numbers, Environment, Store, stored, gives, number}
use Rattle.cir_meaning.specs.RunValues.{number_in, numbers_in, place_in, index_numbers}
use Rattle.cir_meaning.specs.RunValues.{dims_numbers, bounded, the_number, RunRoot, RunNamed}
use Rattle.cir_meaning.specs.RunValues.{RunFound, call_function, needs_right, result_number}
use Rattle.cir_meaning.specs.RunValues.{unless_zero_divisor, unless_known, when, all_there}
use Rattle.cir_meaning.specs.RunValues.{option_at, read_wired, read_option, read_root, inner_root}
use Rattle.cir_meaning.specs.RunValues.{constraint_fails, assert_fails, fuel_spent, too_deep}
use Rattle.cir_meaning.specs.RunValues.{zero_divisor, index_out, missing}
use Rattle.cir_meaning.specs.RunStatements.{StepFlow, StepGoing, StepReturned, step_goes}
use Rattle.cir_meaning.specs.RunStatements.{step_going, spend, step_set, step_assign, step_value}
use Rattle.cir_meaning.specs.RunStatements.{declared, step_variable, step_variables, step_first}
use Rattle.cir_meaning.specs.RunStatements.{step_simple, step_turns, step_statement}
use Rattle.cir_meaning.specs.RunStatements.{step_statements, in_function, run_function, run_call}
use Rattle.cir_meaning.specs.RunSimple.{sides}
use Rattle.cir_meaning.specs.Bodies.{most_open}
use Rattle.wit_lower.specs.Homes.{Port, offset}
use Rattle.wit_lower.specs.Sources.{Sources, environment_of, store_of, or_missing, signal_at}
use Rattle.wit_lower.specs.Tasks.{Task, Gives, Equal, Logs, Executes, numbers_wanted, done_by}
use Rattle.wit_lower.specs.Tasks.{meant_by}

unfoldable pub Few : {A : Type 0} → Result A ℕ → Type 0
Few (Ok a) = ⊤
Few (Err stop) = stop ≤ 6

pub few_ok : {A : Type 0} (a : A) → Few (Ok a)
unfolding Few
few_ok a = tt

pub few_stop : (A : Type 0) (stop : ℕ) → stop ≤ 6 → Few {A = A} (Err stop)
unfolding Few
few_stop A stop h = h

pub few_err : (A : Type 0) (stop : ℕ) → Few {A = A} (Err stop) → stop ≤ 6
unfolding Few
few_err A stop h = h

few_then : {A B : Type 0} (m : Result A ℕ) (on : A → Result B ℕ) → Few m
    → ((a : A) → Few (on a)) → Few (next m on)
unfolding Few
few_then (Ok a) on h g = g a
few_then (Err stop) on h g = h

few_if : {A : Type 0} (b : Bool) (x y : Result A ℕ) → Few x → Few y → Few (cond b x y)
few_if true x y h g = h
few_if false x y h g = g

few_number : {A : Type 0} (m : Ran Numbers) (on : ℕ → ℕ → Ran A) → Few m
    → ((n u : ℕ) → Few (on n u)) → Few (number m on)
few_number m on h g = few_then m _ h (λ x. g (the_number x.0) x.1)

few_bounded : {A : Type 0} (dims indices : List ℕ) (go : List ℕ → List ℕ → Result A ℕ)
    → ((left places : List ℕ) → Few (go left places)) → Few (bounded dims indices go)
few_bounded dims indices go h =
    few_if (is_inside dims (map Some indices))
    (go (unwrap_or (left_of dims (map Some indices)) []) (places_of dims (map Some indices)))
    (Err index_out)
    (h (unwrap_or (left_of dims (map Some indices)) []) (places_of dims (map Some indices)))
    (few_stop _ index_out (omega arith))

few_missing : (A : Type 0) → Few {A = A} (Err missing)
few_missing A = few_stop A missing (omega arith)

few_there : (xs : List (Option ℕ)) → Few (all_there xs)
few_there [] = few_ok _
few_there (None ∷ rest) = few_missing _
few_there (Some n ∷ rest) = few_then (all_there rest) _ (few_there rest) (λ ns. few_ok _)

few_wired : (d : Shaped (Option ℕ)) (indices : List ℕ) (u : ℕ) → Few (read_wired d indices u)
few_wired d indices u =
    few_bounded d.dims indices (λ left places.
    next (all_there (map (option_at d.items) places)) (λ items. gives (made left items) u))
    (λ left places. few_then (all_there (map (option_at d.items) places))
    (λ items. gives (made left items) u)
    (few_there (map (option_at d.items) places)) (λ items. few_ok (made left items, u)))

few_option : (o : Option (Shaped (Option ℕ))) (indices : List ℕ) (u : ℕ)
    → Few (read_option o indices u)
few_option None indices u = few_missing _
few_option (Some d) indices u = few_wired d indices u

few_divided : (o : Option ℕ) → Few (unless_zero_divisor o)
few_divided None = few_stop _ zero_divisor (omega arith)
few_divided (Some n) = few_ok n

few_result : (op : Operator) (m n : ℕ) → Few (result_number op m n)
few_result (Strict op) m n = few_divided (binary_of op m n)
few_result And m n = few_ok _
few_result Or m n = few_ok _

few_when : (b : Bool) (u : ℕ) (m : Ran Numbers) → Few m → Few (when b u m)
few_when true u m h = h
few_when false u m h = few_ok _

few_known : (o : Option Numbers) (u : ℕ) (m : Ran Numbers) → Few m → Few (unless_known o u m)
few_known None u m h = h
few_known (Some d) u m h = few_ok _

few_spend : {A : Type 0} (u : ℕ) (go : ℕ → Ran A) → ((u : ℕ) → Few (go u)) → Few (spend u go)
few_spend zero go h = few_stop _ fuel_spent (omega arith)
few_spend (suc u) go h = h u

few_goes : (m : Ran Store) → Few m → Few (step_goes m)
few_goes m h = few_then m _ h (λ x. few_ok _)

few_going : (flow : StepFlow) (u : ℕ) (go : Store → ℕ → Ran StepFlow)
    → ((store : Store) (u : ℕ) → Few (go store u)) → Few (step_going flow u go)
few_going (StepGoing store) u go h = h store u
few_going (StepReturned d) u go h = few_ok _

-- the stops of what an environment gives
pub record FewIn (env : Environment) : Type 0 where
  pub part : (n : ℕ) (indices name : List ℕ) → Few (env.part n indices name)
  pub call : (f : ℕ) (ds : List Numbers) (u : ℕ) → Few (env.call f ds u)

module _ (env : Environment) (few : FewIn env) where
  few_root : (store : Store) (root : RunRoot) (indices : List ℕ) (u : ℕ)
      → Few (read_root env store root indices u)
  few_root store (RunFound d) indices u = few_wired d indices u
  few_root store (RunNamed (meant.Variable n)) indices u =
      few_bounded (stored store n).dims indices (λ left places.
      gives (made left (map (slice_index (stored store n).items) places)) u)
      (λ left places. few_ok _)
  few_root store (RunNamed (meant.Signal direction n)) indices u =
      few_option (env.signal n) indices u
  few_root store (RunNamed meant.Other) indices u = few_missing _
  few_root store (RunNamed (meant.Component n)) indices u = few_missing _
  few_root store (RunNamed (meant.Template n)) indices u = few_missing _
  few_root store (RunNamed (meant.Function n)) indices u = few_missing _

  few_inner : (root : RunRoot) (indices name : List ℕ) → Few (inner_root env root indices name)
  few_inner (RunNamed (meant.Component n)) indices name = few.part n indices name
  few_inner (RunNamed meant.Other) indices name = few_missing _
  few_inner (RunNamed (meant.Variable n)) indices name = few_missing _
  few_inner (RunNamed (meant.Signal direction n)) indices name = few_missing _
  few_inner (RunNamed (meant.Template n)) indices name = few_missing _
  few_inner (RunNamed (meant.Function n)) indices name = few_missing _
  few_inner (RunFound d) indices name = few_missing _

  few_call : (m : Meant) (ds : List Numbers) (u : ℕ) → Few (call_function env m ds u)
  few_call (meant.Function f) ds u = few.call f ds u
  few_call meant.Other ds u = few_missing _
  few_call (meant.Variable n) ds u = few_missing _
  few_call (meant.Signal direction n) ds u = few_missing _
  few_call (meant.Component n) ds u = few_missing _
  few_call (meant.Template n) ds u = few_missing _

  mutual
    pub few_value : (store : Store) (e : Expr Meant) (u : ℕ) → Few (number_in env store e u)
    few_value store (Number n) u = few_ok _
    few_value store (Place name m accessors) u = few_place store (RunNamed m) [] accessors u
    few_value store (Call parallel name m arguments) u =
        few_known (env.known (Call parallel name m arguments)) u _
        (few_then (numbers_in env store arguments u) _ (few_values store arguments u)
        (λ x. few_call m x.0 x.1))
    few_value store (Anonymous parallel name m arguments inputs) u = few_missing _
    few_value store (Parentheses e) u = few_value store e u
    few_value store (Array elements) u =
        few_then (numbers_in env store elements u) _ (few_values store elements u)
        (λ x. few_ok _)
    few_value store (Unary op a) u =
        few_number (number_in env store a u)
        (λ m u1. gives (single (number_by (unary_of op) m)) u1) (few_value store a u)
        (λ m u1. few_ok _)
    few_value store (Binary op a b) u =
        few_number (number_in env store a u) (λ m u1.
        number (when (needs_right (operator_of op) m) u1 (number_in env store b u1)) (λ n u2.
        next (result_number (operator_of op) m n) (λ x. gives (single x) u2)))
        (few_value store a u) (λ m u1.
        few_number (when (needs_right (operator_of op) m) u1 (number_in env store b u1))
        (λ n u2. next (result_number (operator_of op) m n) (λ x. gives (single x) u2))
        (few_when (needs_right (operator_of op) m) u1 (number_in env store b u1)
        (few_value store b u1))
        (λ n u2. few_then (result_number (operator_of op) m n) _
        (few_result (operator_of op) m n) (λ x. few_ok _)))
    few_value store (Choice c a b) u =
        few_number (number_in env store c u) (λ m u1.
        number (cond (m == 0) (number_in env store b u1) (number_in env store a u1)) (λ n u2.
        gives (single n) u2))
        (few_value store c u) (λ m u1.
        few_number (cond (m == 0) (number_in env store b u1) (number_in env store a u1))
        (λ n u2. gives (single n) u2)
        (few_if (m == 0) (number_in env store b u1) (number_in env store a u1)
        (few_value store b u1) (few_value store a u1)) (λ n u2. few_ok _))

    few_values : (store : Store) (es : Exprs Meant) (u : ℕ) → Few (numbers_in env store es u)
    few_values store none u = few_ok _
    few_values store (more e es) u =
        few_then (number_in env store e u) _ (few_value store e u) (λ x.
        few_then (numbers_in env store es x.1) _ (few_values store es x.1) (λ y. few_ok _))

    few_place : (store : Store) (root : RunRoot) (ns : List ℕ) (accessors : Accessors Meant)
        (u : ℕ) → Few (place_in env store root ns accessors u)
    few_place store root ns done u = few_root store root ns u
    few_place store root ns (index e rest) u =
        few_number (number_in env store e u)
        (λ i u1. place_in env store root (ns ++ i ∷ []) rest u1)
        (few_value store e u) (λ i u1. few_place store root (ns ++ i ∷ []) rest u1)
    few_place store root ns (member name rest) u =
        few_then (inner_root env root ns name) _ (few_inner root ns name)
        (λ d. few_place store (RunFound d) [] rest u)

  few_indices : {A : Type 0} (store : Store) (ns : List ℕ) (accessors : Accessors Meant) (u : ℕ)
      (go : List ℕ → ℕ → Ran A) → ((ns : List ℕ) (u : ℕ) → Few (go ns u))
      → Few (index_numbers env store ns accessors u go)
  few_indices store ns done u go h = h ns u
  few_indices store ns (member name rest) u go h = h ns u
  few_indices store ns (index e rest) u go h =
      few_number (number_in env store e u)
      (λ i u1. index_numbers env store (ns ++ i ∷ []) rest u1 go)
      (few_value store e u) (λ i u1. few_indices store (ns ++ i ∷ []) rest u1 go h)

  few_dims : (store : Store) (es : Exprs Meant) (u : ℕ) → Few (dims_numbers env store es u)
  few_dims store none u = few_ok _
  few_dims store (more e es) u =
      few_number (number_in env store e u) (λ n u1.
      next (dims_numbers env store es u1) (λ (ns, u2). gives (n ∷ ns) u2))
      (few_value store e u)
      (λ n u1. few_then (dims_numbers env store es u1) _ (few_dims store es u1)
      (λ x. few_ok _))

  -- statements
  few_set : (m : Meant) (accessors : Accessors Meant) (e : Expr Meant) (store : Store) (u : ℕ)
      → Few (step_set env m accessors e store u)
  few_set (meant.Variable n) accessors e store u =
      few_then (number_in env store e u) _ (few_value store e u) (λ x.
      few_indices store [] accessors x.1 _ (λ ns u2.
      few_bounded (stored store n).dims ns (λ left places.
      gives (slice_set store n record {
        dims = (stored store n).dims;
        items = put_items places x.0.items (stored store n).items;
      }) u2) (λ left places. few_ok _)))
  few_set meant.Other accessors e store u = few_missing _
  few_set (meant.Signal direction n) accessors e store u = few_missing _
  few_set (meant.Component n) accessors e store u = few_missing _
  few_set (meant.Template n) accessors e store u = few_missing _
  few_set (meant.Function n) accessors e store u = few_missing _

  few_assign : (a : Assign Meant) (store : Store) (u : ℕ) → Few (step_assign env a store u)
  few_assign (Set name m accessors e) store u = few_set m accessors e store u
  few_assign (Compound name m accessors op e) store u = few_set m accessors _ store u
  few_assign (Increment name m accessors) store u = few_set m accessors _ store u
  few_assign (Decrement name m accessors) store u = few_set m accessors _ store u
  few_assign (Left name m accessors arrow e) store u = few_missing _

  few_begin : (m : Meant) (o : Option (Expr Meant)) (store : Store) (u : ℕ)
      → Few (step_value env m o store u)
  few_begin m None store u = few_ok _
  few_begin m (Some e) store u = few_set m done e store u

  few_variable : (v : Variable Meant) (store : Store) (u : ℕ) → Few (step_variable env v store u)
  few_variable v store u =
      few_then (dims_numbers env store v.dimensions u) _ (few_dims store v.dimensions u)
      (λ x. few_begin v.meant v.value (declared v.meant x.0 store) x.1)

  few_variables : (vs : List (Variable Meant)) (store : Store) (u : ℕ)
      → Few (step_variables env vs store u)
  few_variables [] store u = few_ok _
  few_variables (v ∷ vs) store u =
      few_then (step_variable env v store u) _ (few_variable v store u)
      (λ x. few_variables vs x.0 x.1)

  few_first : (f : First Meant) (store : Store) (u : ℕ) → Few (step_first env f store u)
  few_first (FirstVars vs) store u = few_variables vs store u
  few_first (FirstAssign a) store u = few_assign a store u

  few_simple : (x : Simple Meant) (store : Store) (u : ℕ) → Few (step_simple env x store u)
  few_simple (Vars vs) store u = few_variables vs store u
  few_simple (Assigned a) store u = few_assign a store u
  few_simple (Signals direction ds) store u = few_missing _
  few_simple (Declared cs) store u = few_missing _
  few_simple (Created name m e) store u = few_missing _
  few_simple (Constrain x y) store u = few_missing _
  few_simple (Right e arrow name m accessors) store u = few_missing _
  few_simple (TargetLeft target arrow source) store u = few_missing _
  few_simple (TargetRight source arrow target) store u = few_missing _
  few_simple (Alone parallel name m arguments inputs) store u = few_missing _

  few_turns : (most : ℕ) (c : Expr Meant) (body : Store → ℕ → Ran StepFlow) (store : Store)
      (u : ℕ) → ((store : Store) (u : ℕ) → Few (body store u))
      → Few (step_turns most env c body store u)
  few_turns zero c body store u h = few_stop _ fuel_spent (omega arith)
  few_turns (suc most) c body store u h =
      few_number (number_in env store c u) (λ m u1.
      cond (m == 0) (gives (StepGoing store) u1) (spend u1 (λ u2.
      next (body store u2) (λ (flow, u3).
      step_going flow u3 (step_turns most env c body)))))
      (few_value store c u) (λ m u1.
      few_if (m == 0) _ _ (few_ok _) (few_spend u1 _ (λ u2.
      few_then (body store u2) _ (h store u2) (λ x.
      few_going x.0 x.1 _ (λ store1 u4. few_turns most c body store1 u4 h)))))

  mutual
    pub few_statement : (x : Statement Spot Meant) (store : Store) (u : ℕ)
        → Few (step_statement env x store u)
    few_statement (Block spot ss) store u = few_statements ss store u
    few_statement (If spot c a) store u =
        few_number (number_in env store c u) (λ m u1.
        cond (m == 0) (gives (StepGoing store) u1) (step_statement env a store u1))
        (few_value store c u) (λ m u1.
        few_if (m == 0) _ _ (few_ok _) (few_statement a store u1))
    few_statement (IfElse spot c a b) store u =
        few_number (number_in env store c u) (λ m u1.
        cond (m == 0) (step_statement env b store u1) (step_statement env a store u1))
        (few_value store c u) (λ m u1.
        few_if (m == 0) _ _ (few_statement b store u1) (few_statement a store u1))
    few_statement (While spot c a) store u =
        few_turns (suc u) c (step_statement env a) store u
        (λ store1 u1. few_statement a store1 u1)
    few_statement (For spot first_spot f c step_spot a body) store u =
        few_then (step_first env f store u) _ (few_first f store u) (λ x.
        few_turns (suc x.1) c (λ store2 u2.
        next (step_statement env body store2 u2) (λ (flow, u3).
        step_going flow u3 (λ store3 u4. step_goes (step_assign env a store3 u4)))) x.0 x.1
        (λ store2 u2.
        few_then (step_statement env body store2 u2) _ (few_statement body store2 u2) (λ y.
        few_going y.0 y.1 _ (λ store3 u4. few_goes _ (few_assign a store3 u4)))))
    few_statement (Return spot e) store u =
        few_then (number_in env store e u) _ (few_value store e u) (λ x. few_ok _)
    few_statement (Assert spot e) store u =
        few_number (number_in env store e u) (λ m u1.
        cond (m == 0) (Err assert_fails) (gives (StepGoing store) u1))
        (few_value store e u) (λ m u1.
        few_if (m == 0) _ _ (few_stop _ assert_fails (omega arith)) (few_ok _))
    few_statement (Log spot arguments) store u = few_missing _
    few_statement (Ended spot x) store u = few_goes _ (few_simple x store u)

    few_statements : (ss : Statements Spot Meant) (store : Store) (u : ℕ)
        → Few (step_statements env ss store u)
    few_statements empty store u = few_ok _
    few_statements (then_more a rest) store u =
        few_then (step_statement env a store u) _ (few_statement a store u)
        (λ x. few_going x.0 x.1 _ (λ store1 u1. few_statements rest store1 u1))

  -- what a task gives
  few_wanted : (es : List (Expr Meant)) (store : Store) (u : ℕ)
      → Few (numbers_wanted env store es u)
  few_wanted [] store u = few_ok _
  few_wanted (e ∷ es) store u =
      few_number (number_in env store e u) (λ n u1.
      next (numbers_wanted env store es u1) (λ (ns, u2). gives (n ∷ ns) u2))
      (few_value store e u)
      (λ n u1. few_then (numbers_wanted env store es u1) _ (few_wanted es store u1)
      (λ x. few_ok _))

  few_sides : (a b : Expr Meant) (store : Store) (u : ℕ) → Few (sides env store a b u)
  few_sides a b store u =
      few_number (number_in env store a u) (λ m u1.
      number (number_in env store b u1) (λ n u2.
      cond (m == n) (Ok (tt, u2)) (Err constraint_fails)))
      (few_value store a u) (λ m u1.
      few_number (number_in env store b u1) (λ n u2.
      cond (m == n) (Ok (tt, u2)) (Err constraint_fails))
      (few_value store b u1) (λ n u2.
      few_if (m == n) _ _ (few_ok _) (few_stop _ constraint_fails (omega arith))))

  pub few_done : (task : Task) (store : Store) (u : ℕ) → Few (done_by env store task u)
  few_done (Gives e) store u =
      few_then (number_in env store e u) _ (few_value store e u) (λ x. few_ok _)
  few_done (Equal a b) store u =
      few_then (sides env store a b u) _ (few_sides a b store u) (λ x. few_ok _)
  few_done (Logs es) store u = few_wanted es store u
  few_done (Executes a targets) store u =
      few_then (step_statement env a store u) _ (few_statement a store u) (λ x. few_ok _)

-- functions of a program
few_in_function : (call : ℕ → List Numbers → ℕ → Ran Numbers)
    → ((f : ℕ) (ds : List Numbers) (u : ℕ) → Few (call f ds u)) → FewIn (in_function call)
few_in_function call h = record { part = λ n indices name. few_missing _; call = h }

few_function : (call : ℕ → List Numbers → ℕ → Ran Numbers) (o : Option Function)
    (ds : List Numbers) (u : ℕ) → ((f : ℕ) (ds : List Numbers) (u : ℕ) → Few (call f ds u))
    → Few (run_function call o ds u)
few_function call None ds u h = few_missing _
few_function call (Some f) ds u h =
    few_then (step_statements (in_function call) f.body
    (ds ++ replicate (f.variables - length ds) (single 0)) u) _
    (few_statements (in_function call) (few_in_function call h) f.body
    (ds ++ replicate (f.variables - length ds) (single 0)) u) (λ x. few_ok _)

pub few_calls : (p : Program) (room f : ℕ) (ds : List Numbers) (u : ℕ)
    → Few (run_call p room f ds u)
few_calls p zero f ds u =
    few_spend u (λ u1. Err too_deep) (λ u1. few_stop _ too_deep (omega arith))
few_calls p (suc room) f ds u =
    few_spend u (λ u1. run_function (run_call p room) (slice_get p.functions f) ds u1) (λ u1.
    few_function (run_call p room) (slice_get p.functions f) ds u1
    (λ g es v. few_calls p room g es v))

-- a task over its sources
few_or : {A : Type 0} (o : Option A) → Few (or_missing o)
few_or None = few_missing _
few_or (Some a) = few_ok a

pub few_meant : (p : Program) (sources : Sources) (variables : ℕ) (task : Task) (cells : ℕ → ℕ)
    (fuel : ℕ) → Few (meant_by p sources variables task cells fuel)
few_meant p sources variables task cells fuel =
    few_done (environment_of sources cells (run_call p most_open)) record {
      part = λ n indices name.
          few_if (is_inside (sources.components n) (map Some indices))
          (or_missing (signal_at sources cells
          (Port n (offset (sources.components n) indices) name)))
          (Err index_out)
          (few_or (signal_at sources cells
          (Port n (offset (sources.components n) indices) name)))
          (few_stop _ index_out (omega arith));
      call = λ f ds u. few_calls p most_open f ds u;
    } task (store_of sources cells variables) fuel
