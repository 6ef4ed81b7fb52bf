-- Statements that run with more numbers at hand.
use Rattle.std.proofs.Common.{inr, ℕ, zero, suc, cond, List, [], ◌∷◌, Option, Some, None, Ok, Err}
use Rattle.std.proofs.Common.{refl}
use Rattle.std.specs.Prelude.{◌==◌, slice_set}
use Rattle.cir_ast.specs.declared.program.Spot.{Spot}
use Rattle.cir_ast.specs.declared.program.Meant.{Meant}
use Rattle.cir_ast.specs.declared.program.Meant.TheVariants as meant
use Rattle.cir_ast.specs.Tree.{Expr, Accessors, done, Variable, Assign, Set, Compound, Left}
use Rattle.cir_ast.specs.Tree.{Increment, Decrement, First, FirstVars, FirstAssign, Simple, Vars}
use Rattle.cir_ast.specs.Tree.{Signals, Declared, Created, Assigned, Constrain, Right, TargetLeft}
use Rattle.cir_ast.specs.Tree.{TargetRight, Alone, Statement, Block, If, IfElse, While, For, Return}
use Rattle.cir_ast.specs.Tree.{Assert, Log, Ended, Statements, empty, then_more}
use Rattle.cir_meaning.specs.Tried.{next}
use Rattle.cir_meaning.specs.Arrays.{put_items}
use Rattle.cir_meaning.specs.Writing.{plain}
use Rattle.cir_meaning.specs.RunValues.{Ran, Numbers, Environment, Store, stored, gives, bounded}
use Rattle.cir_meaning.specs.RunValues.{number_in, dims_numbers, assert_fails, constraint_fails}
use Rattle.cir_meaning.specs.RunStatements.{StepFlow, StepGoing, StepReturned, step_goes}
use Rattle.cir_meaning.specs.RunStatements.{step_going, spend, step_set, step_plain, step_assign}
use Rattle.cir_meaning.specs.RunStatements.{step_value, declared, step_variable, step_variables}
use Rattle.cir_meaning.specs.RunStatements.{step_first, step_simple, step_turns, step_statement}
use Rattle.cir_meaning.specs.RunStatements.{step_statements}
use Rattle.cir_meaning.specs.RunSimple.{sides}
use Rattle.cir_meaning.specs.RunBodies.{asserted}
use Rattle.cir_steps.proofs.Unless.{Unless, unless_next, unless_if, unless_number, unless_then}
use Rattle.cir_steps.proofs.Unless.{Richer, value_unless, indices_unless, dims_unless}

goes_unless : (m n : Ran Store) → Unless m n → Unless (step_goes m) (step_goes n)
goes_unless m n h = unless_next m n _ _ h (λ x. inr refl)

going_unless : (flow : StepFlow) (u : ℕ) (f g : Store → ℕ → Ran StepFlow)
    → ((store : Store) (v : ℕ) → Unless (f store v) (g store v))
    → Unless (step_going flow u f) (step_going flow u g)
going_unless (StepGoing store) u f g h = h store u
going_unless (StepReturned d) u f g h = inr refl

spend_unless : {A : Type 0} (u : ℕ) (f g : ℕ → Ran A) → ((v : ℕ) → Unless (f v) (g v))
    → Unless (spend u f) (spend u g)
spend_unless zero f g h = inr refl
spend_unless (suc u) f g h = h u

module _ (env other : Environment) (richer : Richer env other) where
  value : (store : Store) (e : Expr Meant) (u : ℕ)
      → Unless (number_in env store e u) (number_in other store e u)
  value store e u = value_unless env other store richer e u

  pub set_unless : (m : Meant) (accessors : Accessors Meant) (e : Expr Meant) (store : Store)
      (u : ℕ) → Unless (step_set env m accessors e store u) (step_set other m accessors e store u)
  set_unless (meant.Variable n) accessors e store u =
      unless_next (number_in env store e u) (number_in other store e u) _ _ (value store e u)
      (λ x. indices_unless env other store richer [] accessors x.1 (put x.0) (put x.0)
      (λ indices v. inr refl))
    where
      put : Numbers → List ℕ → ℕ → Ran Store
      put d indices v =
          bounded (stored store n).dims indices (λ left places. gives (slice_set store n record {
            dims = (stored store n).dims;
            items = put_items places d.items (stored store n).items;
          }) v)
  set_unless meant.Other accessors e store u = inr refl
  set_unless (meant.Signal direction n) accessors e store u = inr refl
  set_unless (meant.Component n) accessors e store u = inr refl
  set_unless (meant.Template n) accessors e store u = inr refl
  set_unless (meant.Function n) accessors e store u = inr refl

  plain_unless : (a : Assign Meant) (store : Store) (u : ℕ)
      → Unless (step_plain env a store u) (step_plain other a store u)
  plain_unless (Set name m accessors e) store u = set_unless m accessors e store u
  plain_unless (Compound name m accessors op e) store u = inr refl
  plain_unless (Left name m accessors arrow e) store u = inr refl
  plain_unless (Increment name m accessors) store u = inr refl
  plain_unless (Decrement name m accessors) store u = inr refl

  assign_unless : (a : Assign Meant) (store : Store) (u : ℕ)
      → Unless (step_assign env a store u) (step_assign other a store u)
  assign_unless a store u = plain_unless (plain a) store u

  first_value_unless : (m : Meant) (o : Option (Expr Meant)) (store : Store) (u : ℕ)
      → Unless (step_value env m o store u) (step_value other m o store u)
  first_value_unless m None store u = inr refl
  first_value_unless m (Some e) store u = set_unless m done e store u

  variable_unless : (v : Variable Meant) (store : Store) (u : ℕ)
      → Unless (step_variable env v store u) (step_variable other v store u)
  variable_unless v store u =
      unless_next (dims_numbers env store v.dimensions u) (dims_numbers other store v.dimensions u)
      _ _ (dims_unless env other store richer v.dimensions u)
      (λ x. first_value_unless v.meant v.value (declared v.meant x.0 store) x.1)

  variables_unless : (vs : List (Variable Meant)) (store : Store) (u : ℕ)
      → Unless (step_variables env vs store u) (step_variables other vs store u)
  variables_unless [] store u = inr refl
  variables_unless (v ∷ vs) store u =
      unless_next (step_variable env v store u) (step_variable other v store u) _ _
      (variable_unless v store u) (λ x. variables_unless vs x.0 x.1)

  first_unless : (f : First Meant) (store : Store) (u : ℕ)
      → Unless (step_first env f store u) (step_first other f store u)
  first_unless (FirstVars vs) store u = variables_unless vs store u
  first_unless (FirstAssign a) store u = assign_unless a store u

  simple_unless : (x : Simple Meant) (store : Store) (u : ℕ)
      → Unless (step_simple env x store u) (step_simple other x store u)
  simple_unless (Vars vs) store u = variables_unless vs store u
  simple_unless (Assigned a) store u = assign_unless a store u
  simple_unless (Signals direction ds) store u = inr refl
  simple_unless (Declared cs) store u = inr refl
  simple_unless (Created name m e) store u = inr refl
  simple_unless (Constrain a b) store u = inr refl
  simple_unless (Right e arrow name m accessors) store u = inr refl
  simple_unless (TargetLeft target arrow source) store u = inr refl
  simple_unless (TargetRight source arrow target) store u = inr refl
  simple_unless (Alone parallel name m arguments inputs) store u = inr refl

  turns_unless : (most : ℕ) (c : Expr Meant) (f g : Store → ℕ → Ran StepFlow)
      → ((store : Store) (v : ℕ) → Unless (f store v) (g store v)) → (store : Store) (u : ℕ)
      → Unless (step_turns most env c f store u) (step_turns most other c g store u)
  turns_unless zero c f g h store u = inr refl
  turns_unless (suc most) c f g h store u =
      unless_number (number_in env store c u) (number_in other store c u) _ _ (value store c u)
      (λ m u1. unless_if (m == 0) (gives (StepGoing store) u1)
      (spend u1 (λ u2. next (f store u2) (λ (flow, u3). step_going flow u3
      (step_turns most env c f)))) (gives (StepGoing store) u1)
      (spend u1 (λ u2. next (g store u2) (λ (flow, u3). step_going flow u3
      (step_turns most other c g)))) (inr refl)
      (spend_unless u1 _ _ (λ u2. unless_next (f store u2) (g store u2) _ _ (h store u2)
      (λ x. going_unless x.0 x.1 _ _ (turns_unless most c f g h)))))

  mutual
    pub statement_unless : (a : Statement Spot Meant) (store : Store) (u : ℕ)
        → Unless (step_statement env a store u) (step_statement other a store u)
    statement_unless (Block spot ss) store u = statements_unless ss store u
    statement_unless (If spot c a) store u =
        unless_number (number_in env store c u) (number_in other store c u) _ _ (value store c u)
        (λ m u1. unless_if (m == 0) (gives (StepGoing store) u1) (step_statement env a store u1)
        (gives (StepGoing store) u1) (step_statement other a store u1) (inr refl)
        (statement_unless a store u1))
    statement_unless (IfElse spot c a b) store u =
        unless_number (number_in env store c u) (number_in other store c u) _ _ (value store c u)
        (λ m u1. unless_if (m == 0) (step_statement env b store u1) (step_statement env a store u1)
        (step_statement other b store u1) (step_statement other a store u1)
        (statement_unless b store u1) (statement_unless a store u1))
    statement_unless (While spot c a) store u =
        turns_unless (suc u) c (step_statement env a) (step_statement other a)
        (statement_unless a) store u
    statement_unless (For spot first_spot f c step_spot a body) store u =
        unless_next (step_first env f store u) (step_first other f store u) _ _
        (first_unless f store u) (λ x. turns_unless (suc x.1) c _ _ (λ store2 u2.
        unless_next (step_statement env body store2 u2) (step_statement other body store2 u2) _ _
        (statement_unless body store2 u2) (λ y. going_unless y.0 y.1 _ _ (λ store3 u4.
        goes_unless (step_assign env a store3 u4) (step_assign other a store3 u4)
        (assign_unless a store3 u4)))) x.0 x.1)
    statement_unless (Return spot e) store u =
        unless_next (number_in env store e u) (number_in other store e u) _ _ (value store e u)
        (λ x. inr refl)
    statement_unless (Assert spot e) store u =
        unless_then (number_in env store e u) (number_in other store e u)
        (λ m u1. cond (m == 0) (Err assert_fails) (gives (StepGoing store) u1)) (value store e u)
    statement_unless (Log spot arguments) store u = inr refl
    statement_unless (Ended spot x) store u =
        goes_unless (step_simple env x store u) (step_simple other x store u)
        (simple_unless x store u)

    statements_unless : (ss : Statements Spot Meant) (store : Store) (u : ℕ)
        → Unless (step_statements env ss store u) (step_statements other ss store u)
    statements_unless empty store u = inr refl
    statements_unless (then_more a rest) store u =
        unless_next (step_statement env a store u) (step_statement other a store u) _ _
        (statement_unless a store u)
        (λ x. going_unless x.0 x.1 _ _ (statements_unless rest))

  -- the other steps
  pub sides_unless : (store : Store) (a b : Expr Meant) (u : ℕ)
      → Unless (sides env store a b u) (sides other store a b u)
  sides_unless store a b u =
      unless_number (number_in env store a u) (number_in other store a u) _ _ (value store a u)
      (λ m u1. unless_then (number_in env store b u1) (number_in other store b u1)
      (λ n u2. cond (m == n) (Ok (tt, u2)) (Err constraint_fails)) (value store b u1))

  pub asserted_unless : (store : Store) (e : Expr Meant) (u : ℕ)
      → Unless (asserted env store e u) (asserted other store e u)
  asserted_unless store e u =
      unless_then (number_in env store e u) (number_in other store e u)
      (λ m u1. cond (m == 0) (Err assert_fails) (Ok (tt, u1))) (value store e u)
