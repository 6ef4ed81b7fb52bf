-- What steps and functions leave behind, on numbers of the field, are numbers of the field.
use Rattle.std.proofs.Common.{ℕ, zero, suc, ◌-◌, ◌<◌, List, [], ◌∷◌, ◌++◌, length, replicate}
use Rattle.std.proofs.Common.{Option, Some, None, Err, slice_get, slice_set}
use Rattle.std.specs.Prelude.{⊤, ◌==◌}
use Rattle.gold_field.specs.declared.gold.TheConstants.{P}
use Rattle.cir_ast.specs.declared.program.Spot.{Spot}
use Rattle.cir_ast.specs.declared.program.Meant.{Meant}
use Rattle.cir_ast.specs.declared.program.Meant.TheVariants as meant
use Rattle.cir_ast.specs.Program.{Program, Function}
use Rattle.cir_ast.specs.Tree.{Expr, Accessors, done, Variable, Assign, Set, Compound, Left}
use Rattle.cir_ast.specs.Tree.{Increment, Decrement, First, FirstVars, FirstAssign, Simple, Vars}
use Rattle.cir_ast.specs.Tree.{Signals, Declared, Created, Assigned, Constrain, Right, TargetLeft}
use Rattle.cir_ast.specs.Tree.{TargetRight, Alone, Statement, Block, If, IfElse, While, For, Return}
use Rattle.cir_ast.specs.Tree.{Assert, Log, Ended, Statements, empty, then_more}
use Rattle.cir_meaning.specs.Arrays.{single, put_items}
use Rattle.cir_meaning.specs.Writing.{plain}
use Rattle.cir_meaning.specs.RunValues.{Ran, Numbers, Environment, Store, stored, gives, number_in}
use Rattle.cir_meaning.specs.RunValues.{dims_numbers, the_number}
use Rattle.cir_meaning.specs.RunStatements.{StepFlow, StepGoing, StepReturned, step_goes}
use Rattle.cir_meaning.specs.RunStatements.{step_going, spend, step_set, step_plain, step_assign}
use Rattle.cir_meaning.specs.RunStatements.{step_value, declared, step_variable, step_variables}
use Rattle.cir_meaning.specs.RunStatements.{step_first, step_simple, step_turns, step_statement}
use Rattle.cir_meaning.specs.RunStatements.{step_statements, in_function, returned_number}
use Rattle.cir_meaning.specs.RunStatements.{run_function, run_call}
use Rattle.cir_meaning.proofs.Rows.{all_set, all_append, all_replicate, all_put}
use Rattle.cir_meaning.proofs.SmallNumbers.{Small, SmallAll, Gives, gives_ok, gives_stop}
use Rattle.cir_meaning.proofs.SmallNumbers.{gives_next, gives_if, SmallAnswer, zero_small}
use Rattle.cir_meaning.proofs.SmallNumbers.{single_small, index_small, number_small, filled_small}
use Rattle.cir_meaning.proofs.SmallNumbers.{bounded_gives, stored_small, SmallEnvironment}
use Rattle.cir_meaning.proofs.SmallNumbers.{value_small, indices_gives, dims_give}

abbrev pub SmallStore : Store × ℕ → Type 0
SmallStore x = SmallAll x.0

abbrev pub SmallFlow : StepFlow → Type 0
SmallFlow (StepGoing store) = SmallAll store
SmallFlow (StepReturned d) = Small d

abbrev pub Flowing : StepFlow × ℕ → Type 0
Flowing x = SmallFlow x.0

spend_gives : {A : Type 0} (Q : A → Type 0) (u : ℕ) (go : ℕ → Ran A)
    → ((u : ℕ) → Gives (λ x. Q x.0) (go u)) → Gives (λ x. Q x.0) (spend u go)
spend_gives Q zero go h = gives_stop (λ x. Q x.0) 5
spend_gives Q (suc u) go h = h u

module _ (env : Environment) (small : SmallEnvironment env) where
  pub set_small : (m : Meant) (accessors : Accessors Meant) (e : Expr Meant) (store : Store) (u : ℕ)
      → SmallAll store → Gives SmallStore (step_set env m accessors e store u)
  set_small (meant.Variable n) accessors e store u h =
      gives_next SmallAnswer SmallStore (number_in env store e u) _
      (value_small env small store e u h) (λ x s.
      indices_gives env small SmallAll store [] accessors x.1 _ h (λ indices u2.
      bounded_gives SmallStore (stored store n).dims indices _ (λ left places.
      gives_ok SmallStore (
        slice_set store n record {
          dims = (stored store n).dims;
          items = put_items places x.0.items (stored store n).items;
        },
        u2,
      )
      (all_set Small store n record {
        dims = (stored store n).dims;
        items = put_items places x.0.items (stored store n).items;
      } h (all_put (λ k. k < P) places x.0.items (stored store n).items s
      (stored_small store n h))))))
  set_small meant.Other accessors e store u h = gives_stop SmallStore 0
  set_small (meant.Signal direction n) accessors e store u h = gives_stop SmallStore 0
  set_small (meant.Component n) accessors e store u h = gives_stop SmallStore 0
  set_small (meant.Template n) accessors e store u h = gives_stop SmallStore 0
  set_small (meant.Function n) accessors e store u h = gives_stop SmallStore 0

  plain_small : (a : Assign Meant) (store : Store) (u : ℕ) → SmallAll store
      → Gives SmallStore (step_plain env a store u)
  plain_small (Set name m accessors e) store u h = set_small m accessors e store u h
  plain_small (Compound name m accessors op e) store u h = gives_stop SmallStore 0
  plain_small (Left name m accessors arrow e) store u h = gives_stop SmallStore 0
  plain_small (Increment name m accessors) store u h = gives_stop SmallStore 0
  plain_small (Decrement name m accessors) store u h = gives_stop SmallStore 0

  pub assign_small : (a : Assign Meant) (store : Store) (u : ℕ) → SmallAll store
      → Gives SmallStore (step_assign env a store u)
  assign_small a store u h = plain_small (plain a) store u h

  given_small : (m : Meant) (o : Option (Expr Meant)) (store : Store) (u : ℕ) → SmallAll store
      → Gives SmallStore (step_value env m o store u)
  given_small m None store u h = gives_ok SmallStore (store, u) h
  given_small m (Some e) store u h = set_small m done e store u h

  declared_small : (m : Meant) (dims : List ℕ) (store : Store) → SmallAll store
      → SmallAll (declared m dims store)
  declared_small (meant.Variable n) dims store h =
      all_set Small store n _ h (filled_small dims)
  declared_small meant.Other dims store h = h
  declared_small (meant.Signal direction n) dims store h = h
  declared_small (meant.Component n) dims store h = h
  declared_small (meant.Template n) dims store h = h
  declared_small (meant.Function n) dims store h = h

  pub variable_small : (v : Variable Meant) (store : Store) (u : ℕ) → SmallAll store
      → Gives SmallStore (step_variable env v store u)
  variable_small v store u h =
      gives_next (λ x. ⊤) SmallStore (dims_numbers env store v.dimensions u) _
      (dims_give env small store v.dimensions u h) (λ x t.
      given_small v.meant v.value (declared v.meant x.0 store) x.1
      (declared_small v.meant x.0 store h))

  variables_small : (vs : List (Variable Meant)) (store : Store) (u : ℕ) → SmallAll store
      → Gives SmallStore (step_variables env vs store u)
  variables_small [] store u h = gives_ok SmallStore (store, u) h
  variables_small (v ∷ vs) store u h =
      gives_next SmallStore SmallStore (step_variable env v store u) _
      (variable_small v store u h) (λ x s. variables_small vs x.0 x.1 s)

  first_small : (f : First Meant) (store : Store) (u : ℕ) → SmallAll store
      → Gives SmallStore (step_first env f store u)
  first_small (FirstVars vs) store u h = variables_small vs store u h
  first_small (FirstAssign a) store u h = assign_small a store u h

  simple_small : (x : Simple Meant) (store : Store) (u : ℕ) → SmallAll store
      → Gives SmallStore (step_simple env x store u)
  simple_small (Vars vs) store u h = variables_small vs store u h
  simple_small (Assigned a) store u h = assign_small a store u h
  simple_small (Signals d xs) store u h = gives_stop SmallStore 0
  simple_small (Declared cs) store u h = gives_stop SmallStore 0
  simple_small (Created name m e) store u h = gives_stop SmallStore 0
  simple_small (Constrain a b) store u h = gives_stop SmallStore 0
  simple_small (Right e arrow name m accessors) store u h = gives_stop SmallStore 0
  simple_small (TargetLeft target arrow source) store u h = gives_stop SmallStore 0
  simple_small (TargetRight target arrow source) store u h = gives_stop SmallStore 0
  simple_small (Alone a b c d e) store u h = gives_stop SmallStore 0

  goes_small : (m : Ran Store) → Gives SmallStore m → Gives Flowing (step_goes m)
  goes_small m h =
      gives_next SmallStore Flowing m _ h (λ x s. gives_ok Flowing (StepGoing x.0, x.1) s)

  going_small : (f : StepFlow) (u : ℕ) (go : Store → ℕ → Ran StepFlow) → SmallFlow f
      → ((store : Store) (u : ℕ) → SmallAll store → Gives Flowing (go store u))
      → Gives Flowing (step_going f u go)
  going_small (StepGoing store) u go h f = f store u h
  going_small (StepReturned d) u go h f = gives_ok Flowing (StepReturned d, u) h

  turns_small : (most : ℕ) (c : Expr Meant) (body : Store → ℕ → Ran StepFlow) (store : Store)
      (u : ℕ) → SmallAll store
      → ((store : Store) (u : ℕ) → SmallAll store → Gives Flowing (body store u))
      → Gives Flowing (step_turns most env c body store u)
  turns_small zero c body store u h f = gives_stop Flowing 5
  turns_small (suc most) c body store u h f =
      number_small SmallFlow (number_in env store c u) _ (value_small env small store c u h)
      (λ m u1 s.
      gives_if Flowing (m == 0) (gives (StepGoing store) u1) _
      (gives_ok Flowing (StepGoing store, u1) h)
      (spend_gives SmallFlow u1 _ (λ u2.
      gives_next Flowing Flowing (body store u2) _ (f store u2 h) (λ x t.
      going_small x.0 x.1 (step_turns most env c body) t (λ store1 u3 l.
      turns_small most c body store1 u3 l f)))))

  mutual
    pub statement_small : (a : Statement Spot Meant) (store : Store) (u : ℕ) → SmallAll store
        → Gives Flowing (step_statement env a store u)
    statement_small (Block spot ss) store u h = statements_small ss store u h
    statement_small (If spot c a) store u h =
        number_small SmallFlow (number_in env store c u) _ (value_small env small store c u h)
        (λ m u1 s.
        gives_if Flowing (m == 0) (gives (StepGoing store) u1) (step_statement env a store u1)
        (gives_ok Flowing (StepGoing store, u1) h) (statement_small a store u1 h))
    statement_small (IfElse spot c a b) store u h =
        number_small SmallFlow (number_in env store c u) _ (value_small env small store c u h)
        (λ m u1 s.
        gives_if Flowing (m == 0) (step_statement env b store u1) (step_statement env a store u1)
        (statement_small b store u1 h) (statement_small a store u1 h))
    statement_small (While spot c a) store u h =
        turns_small (suc u) c (step_statement env a) store u h
        (λ store1 u1 l. statement_small a store1 u1 l)
    statement_small (For spot first_spot f c step_spot a body) store u h =
        gives_next SmallStore Flowing (step_first env f store u) _ (first_small f store u h)
        (λ x s.
        turns_small (suc x.1) c _ x.0 x.1 s (λ store2 u2 l.
        gives_next Flowing Flowing (step_statement env body store2 u2) _
        (statement_small body store2 u2 l) (λ y t.
        going_small y.0 y.1 _ t (λ store3 u4 k.
        goes_small (step_assign env a store3 u4) (assign_small a store3 u4 k)))))
    statement_small (Return spot e) store u h =
        gives_next SmallAnswer Flowing (number_in env store e u) _
        (value_small env small store e u h)
        (λ x s. gives_ok Flowing (StepReturned x.0, x.1) s)
    statement_small (Assert spot e) store u h =
        number_small SmallFlow (number_in env store e u) _ (value_small env small store e u h)
        (λ m u1 s.
        gives_if Flowing (m == 0) (Err 2) (gives (StepGoing store) u1)
        (gives_stop Flowing 2) (gives_ok Flowing (StepGoing store, u1) h))
    statement_small (Log spot arguments) store u h = gives_stop Flowing 0
    statement_small (Ended spot x) store u h =
        goes_small (step_simple env x store u) (simple_small x store u h)

    pub statements_small : (ss : Statements Spot Meant) (store : Store) (u : ℕ) → SmallAll store
        → Gives Flowing (step_statements env ss store u)
    statements_small empty store u h = gives_ok Flowing (StepGoing store, u) h
    statements_small (then_more a rest) store u h =
        gives_next Flowing Flowing (step_statement env a store u) _ (statement_small a store u h)
        (λ x s. going_small x.0 x.1 (step_statements env rest) s
        (λ store1 u1 l. statements_small rest store1 u1 l))

-- functions
abbrev pub SmallCalls : (ℕ → List Numbers → ℕ → Ran Numbers) → Type 0
SmallCalls call =
    (f : ℕ) (ds : List Numbers) (u : ℕ) → SmallAll ds → Gives SmallAnswer (call f ds u)

in_function_small : (call : ℕ → List Numbers → ℕ → Ran Numbers) → SmallCalls call
    → SmallEnvironment (in_function call)
in_function_small call calls = record {
  signal = λ n d e. cc;
  part = λ n is name. gives_stop _ 0;
  known = λ e d k. cc;
  call = calls;
}

returned_small : (f : StepFlow) → SmallFlow f → Small (returned_number f)
returned_small (StepGoing store) h = (zero_small, tt)
returned_small (StepReturned d) h = single_small (the_number d) (index_small d.items 0 h)

pub calls_small : (p : Program) (room : ℕ) → SmallCalls (run_call p room)
calls_small p zero f ds u h = spend_gives Small u _ (λ u1. gives_stop SmallAnswer 6)
calls_small p (suc room) f ds u h =
    spend_gives Small u _ (λ u1. at (slice_get p.functions f) u1 (calls_small p room))
  where
    at : (o : Option Function) (u1 : ℕ) → SmallCalls (run_call p room)
        → Gives SmallAnswer (run_function (run_call p room) o ds u1)
    at None u1 calls = gives_stop SmallAnswer 0
    at (Some g) u1 calls =
        gives_next Flowing SmallAnswer _ _
        (statements_small (in_function (run_call p room))
        (in_function_small (run_call p room) calls) g.body
        (ds ++ replicate (g.variables - length ds) (single 0)) u1
        (all_append Small ds (replicate (g.variables - length ds) (single 0)) h
        (all_replicate Small (g.variables - length ds) (single 0) (zero_small, tt))))
        (λ x s. gives_ok SmallAnswer (returned_number x.0, x.1) (returned_small x.0 s))
