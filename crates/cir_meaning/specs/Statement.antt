-- The execution of statements, in source order.
use Rattle.std.specs.Prelude.{ℕ, zero, suc, ◌==◌, false, if◌then◌else◌, List, Ok}
use Rattle.cir_ast.specs.declared.program.Spot.{Spot}
use Rattle.cir_ast.specs.declared.program.Meant.{Meant}
use Rattle.cir_ast.specs.declared.refusal.Kind.TheVariants.{AssertFalse, Limit}
use Rattle.cir_ast.specs.declared.refusal.Which.TheVariants.{Statements as StatementCount}
use Rattle.cir_ast.specs.Tree.{Expr, First, FirstVars, FirstAssign, Assign, LogArgument, Words}
use Rattle.cir_ast.specs.Tree.{LogValue, Simple, Vars, Assigned, Statement, Block, If, IfElse}
use Rattle.cir_ast.specs.Tree.{While, For, Return, Assert, Log, Ended, Statements, empty, then_more}
use Rattle.cir_meaning.specs.Tried.{Where, Tried, next, refused}
use Rattle.cir_meaning.specs.Arrays.{Datum, Scalar, Whole}
use Rattle.cir_meaning.specs.Values.{Value, Known, Linear, Quadratic, Opaque}
use Rattle.cir_meaning.specs.Frame.{World, State, Context, at, settle, counted}
use Rattle.cir_meaning.specs.Evaluate.{scalar, value_in}
use Rattle.cir_meaning.specs.Simple.{simple, each}
use Rattle.cir_meaning.specs.Unknown.{first_of, assign_fault, fault_of}
use Rattle.cir_meaning.specs.Scan.{undecided}
use Rattle.cir_meaning.specs.Steps.{stepped, assert_cost, log_cost, logged_cells}

-- a statement goes on to the next, or returns from its function
pub data Flow : Type 0 where
  Going : State → Flow
  Returned : Datum → World → Flow

abbrev pub going : Flow → (State → Tried Flow) → Tried Flow
going (Going s) go = go s
going (Returned d world) go = Ok (Returned d world)

abbrev pub goes : Tried State → Tried Flow
goes m = next m (λ s. Ok (Going s))

-- a condition is false, true, or not known
abbrev pub decided : {A : Type 0} → Value → (if_false if_true if_unknown : A) → A
decided (Known n) if_false if_true if_unknown = if n == 0 then if_false else if_true
decided (Linear f) if_false if_true if_unknown = if_unknown
decided (Quadratic a b c) if_false if_true if_unknown = if_unknown
decided Opaque if_false if_true if_unknown = if_unknown

-- a compound statement is counted when it begins; then comes its condition
abbrev pub condition : Context → Spot → Expr Meant → State → Tried (Value × State)
condition k spot c s =
    scalar (value_in k (at k spot) false Scalar c s) (λ v s1. next (settle (at k spot) s1)
    (λ s2. Ok (v, s2)))

abbrev pub branch : Context → Spot → Expr Meant → (if_false if_true if_unknown : State → Tried Flow)
    → State → Tried Flow
branch k spot c if_false if_true if_unknown s =
    next (counted (at k spot) s) (λ s1. next (condition k spot c s1)
    (λ (v, s2). decided v if_false if_true if_unknown s2))

-- at most as many turns are taken as statements may be executed: their count is tested first
unfoldable pub most_turns : ℕ
most_turns = 16777217

abbrev pub turns : ℕ → Context → Spot → Expr Meant → (body unknown : State → Tried Flow) → State
    → Tried Flow
turns zero k spot c body unknown s = refused (at k spot) (Limit StatementCount 16777217)
turns (suc n) k spot c body unknown s =
    next (condition k spot c s) (λ (v, s1). decided v
    (λ s2. Ok (Going s2))
    (λ s2. next (counted (at k spot) s2) (λ s3. next (body s3)
    (λ f. going f (turns n k spot c body unknown))))
    unknown s1)

-- the loop that is left of a `for` behind its first statement
abbrev pub loop_of : Spot → Expr Meant → Statement Spot Meant → Spot → Assign Meant
    → Statement Spot Meant
loop_of spot c body step_spot a =
    While spot c (Block spot (then_more body (then_more (Ended step_spot (Assigned a)) empty)))

abbrev pub first_simple : First Meant → Simple Meant
first_simple (FirstVars vs) = Vars vs
first_simple (FirstAssign a) = Assigned a

-- an assertion that is known must hold; another is left to the run
abbrev pub assert_value : Context → Where → Expr Meant → (before : State) → Value → State
    → Tried State
assert_value k w e before v s =
    decided v (refused w AssertFalse) (Ok s) (stepped k w (assert_cost k w e before) 0 s)

abbrev pub logged : Context → Where → LogArgument Meant → State → Tried State
logged k w (Words text) s = Ok s
logged k w (LogValue e) s = scalar (value_in k w false Scalar e s) (λ v s1. Ok s1)

abbrev pub log_values : Context → Where → List (LogArgument Meant) → State → Tried State
log_values k w arguments s =
    next (each (logged k w) arguments s) (stepped k w (log_cost k w arguments s)
    (logged_cells arguments))

abbrev mutual
  pub exec : Context → Statement Spot Meant → State → Tried Flow
  exec k (Block spot ss) s = next (counted (at k spot) s) (exec_all k ss)
  exec k (If spot c a) s =
      branch k spot c (λ s1. Ok (Going s1)) (exec k a) (λ s1. goes
      (undecided k spot (fault_of a) (If spot c a) s1)) s
  exec k (IfElse spot c a b) s =
      branch k spot c (exec k b) (exec k a)
      (λ s1. goes (undecided k spot (first_of (fault_of a) (fault_of b)) (IfElse spot c a b) s1)) s
  exec k (While spot c a) s =
      next (counted (at k spot) s)
      (turns most_turns k spot c (exec k a) (λ s1. goes
      (undecided k spot (fault_of a) (While spot c a) s1)))
  exec k (For spot first_spot f c step_spot a body) s =
      next (counted (at k spot) s) (λ s1.
      next (simple k first_spot (first_simple f) s1) (λ s2.
      next (counted (at k spot) s2)
      (turns most_turns k spot c
      (λ s3. next (counted (at k spot) s3) (λ s4. next (exec k body s4) (λ flow. going flow (λ s5.
      goes (simple k step_spot (Assigned a) s5)))))
      (λ s3. goes (undecided k spot (first_of (assign_fault step_spot a) (fault_of body))
      (loop_of spot c body step_spot a) s3)))))
  exec k (Return spot e) s =
      next (value_in k (at k spot) false Whole e s) (λ (d, s1). next (counted (at k spot) s1)
      (λ s2. Ok (Returned d s2.world)))
  exec k (Assert spot e) s =
      scalar (value_in k (at k spot) false Scalar e s) (λ v s1.
      next (assert_value k (at k spot) e s v s1) (λ s2. goes (counted (at k spot) s2)))
  exec k (Log spot arguments) s =
      next (log_values k (at k spot) arguments s) (λ s1. goes (counted (at k spot) s1))
  exec k (Ended spot x) s = goes (simple k spot x s)

  pub exec_all : Context → Statements Spot Meant → State → Tried Flow
  exec_all k empty s = Ok (Going s)
  exec_all k (then_more a rest) s = next (exec k a s) (λ f. going f (exec_all k rest))
