-- Statements keep all values in the field, and all equations those of differences.
use Rattle.std.proofs.Common.{ℕ, false, List, [], ◌∷◌, Option, Ok}
use Rattle.cir_ast.specs.declared.program.Spot.{Spot}
use Rattle.cir_ast.specs.declared.program.Meant.{Meant}
use Rattle.cir_ast.specs.declared.operators.Arrow.{Arrow}
use Rattle.cir_ast.specs.Tree.{Expr, Accessors, Component, Assign, LogArgument, Statement}
use Rattle.cir_ast.specs.Tree.{Statements}
use Rattle.cir_meaning.specs.Tried.{Where, Tried, next}
use Rattle.cir_meaning.specs.Arrays.{Datum, Scalar, Whole, filled, forgotten}
use Rattle.cir_meaning.specs.Values.{Value, Known, Opaque}
use Rattle.cir_meaning.specs.Frame.{World, State, Context, variable_at, counted}
use Rattle.cir_meaning.specs.Evaluate.{value_in}
use Rattle.cir_meaning.specs.Writing.{variable_assignment, is_unknown, write_variable}
use Rattle.cir_meaning.specs.Writing.{signal_assignment, write_signal, constrained}
use Rattle.cir_meaning.specs.Declaring.{creation, create}
use Rattle.cir_meaning.specs.Costs.{Cost}
use Rattle.cir_meaning.specs.Steps.{variable_cost, signal_cost, equal_cost, new_cells}
use Rattle.cir_meaning.specs.Unknown.{Fault}
use Rattle.cir_meaning.specs.Simple as simple
use Rattle.cir_meaning.specs.Scan.{undecided}
use Rattle.cir_meaning.specs.Statement.{Flow, Returned, condition, assert_value, log_values}
use Rattle.cir_meaning.specs.Statement.{exec_all}
use Rattle.cir_meaning.proofs.Good.{OnGood, good_ok, good_next, either}
use Rattle.cir_meaning.proofs.Keepings.{FlowIs, Keeping, component_keeps, dropped_keeps}
use Rattle.cir_meaning.proofs.Keepings.{undecided_keeps, condition_keeps, assert_keeps, log_keeps}
use Rattle.cir_meaning.proofs.Keepings.{exec_all_keeps}
use Rattle.cir_meaning.proofs.FineValues.{IsDatum, FineWorld, Fine, known_fine, FineAnswer}
use Rattle.cir_meaning.proofs.FineValues.{FineContext, zero_value, filled_datum, value_fine}
use Rattle.cir_meaning.proofs.FineValues.{scalar_fine}
use Rattle.cir_meaning.proofs.FineWriting.{forgotten_fine, settle_fine, counted_fine, stepped_fine}
use Rattle.cir_meaning.proofs.FineWriting.{set_fine, FineAssignment, FineSignal, FineCreation}
use Rattle.cir_meaning.proofs.FineWriting.{write_fine, constrained_fine, write_signal_fine}
use Rattle.cir_meaning.proofs.FineWriting.{assignment_fine, signal_assignment_fine, creation_fine}
use Rattle.cir_meaning.proofs.FineWriting.{create_fine}

-- steps from state to state
abbrev Keeps : (State → Tried State) → Type 0
Keeps go = (s : State) → Fine s → OnGood Fine (go s)

-- the results of statements
abbrev FineGone : Datum → World → Type 0
FineGone d world = IsDatum d × FineWorld world

abbrev pub FineFlow : Flow → Type 0
FineFlow = FlowIs Fine FineGone

module _ (k : Context) (fine : FineContext k) where
  pub set_variable_fine : (w : Where) (written : Assign Meant) (n : ℕ) (accessors : Accessors Meant)
      (e : Expr Meant)
      → Keeps (simple.set_variable k w written n accessors e)
  set_variable_fine w written n accessors e s g =
      good_next FineAssignment Fine (variable_assignment k w n accessors e s) _
      (assignment_fine k fine w n accessors e s g) (λ a h.
      either (OnGood Fine) (is_unknown n a) _ _
      (stepped_fine k w (variable_cost k w written n accessors e a s) (new_cells n a)
      (write_variable n a) (write_fine n a h))
      (good_ok Fine (write_variable n a) (write_fine n a h)))

  wired_fine : (w : Where) (cost : Cost) (places : List ℕ) → Keeps (simple.wired k w cost places)
  wired_fine w cost [] s g = good_ok Fine s g
  wired_fine w cost (place ∷ places) s g = stepped_fine k w cost 0 s g

  pub set_signal_fine : (w : Where) (written : Assign Meant) (m : Meant)
      (accessors : Accessors Meant) (arrow : Arrow) (e : Expr Meant)
      → Keeps (simple.set_signal k w written m accessors arrow e)
  set_signal_fine w written m accessors arrow e s g =
      good_next FineSignal Fine (signal_assignment k w m accessors e s) _
      (signal_assignment_fine k fine w m accessors e s g) (λ a h.
      good_next Fine Fine (write_signal k w arrow a) (simple.wired k w
      (signal_cost k w written accessors e s) a.target.reach.places)
      (write_signal_fine k w arrow a h) (wired_fine w (signal_cost k w written accessors e s)
      a.target.reach.places))

  pub equal_fine : (w : Where) (a b : Expr Meant) → Keeps (simple.equal k w a b)
  equal_fine w a b s g =
      scalar_fine Fine (value_in k w false Scalar a s) _ (value_fine k fine w false Scalar a s g)
      (λ x s1 h g1.
      scalar_fine Fine (value_in k w false Scalar b s1) _ (value_fine k fine w false Scalar b s1 g1)
      (λ y s2 i g2.
      good_next Fine Fine (constrained k w x y s2) _ (constrained_fine k w x y s2 h i g2)
      (λ s3 g3. stepped_fine k w (equal_cost k w a b s) 0 s3 g3)))

  returns_fine : (w : Where) (e : Expr Meant) (s : State) → Fine s
      → OnGood FineFlow (next (value_in k w false Whole e s)
      (λ (d, s1). next (counted w s1) (λ s2. Ok (Returned d s2.world))))
  returns_fine w e s g =
      good_next FineAnswer FineFlow (value_in k w false Whole e s) _
      (value_fine k fine w false Whole e s g) (λ x p.
      good_next Fine FineFlow (counted w x.1) _ (counted_fine w x.1 p.1)
      (λ s2 g2. good_ok FineFlow (Returned x.0 s2.world) (p.0, g2.1)))

  abbrev keeping : Keeping k
  keeping = record {
    Kept = Fine;
    Done = Fine;
    Gone = FineGone;
    done = λ s g. g;
    value = λ w shaded. known_fine k fine shaded w;
    settle = settle_fine;
    statement = λ s g. g;
    step = stepped_fine k;
    variable = λ n dims s g.
        set_fine n (filled dims (Known 0)) s (filled_datum dims (Known 0) zero_value) g;
    scanned = λ n dims s g. set_fine n (filled dims Opaque) s (filled_datum dims Opaque tt) g;
    forgotten = λ n s g.
        set_fine n (forgotten (variable_at s.frame n)) s (forgotten_fine (variable_at s.frame n)) g;
    signal = λ spot direction n name dims s g. g;
    component = λ n name dims s g. g;
    set_variable = set_variable_fine;
    set_signal = set_signal_fine;
    equal = equal_fine;
    create = λ w n accessors e s g.
        good_next FineCreation Fine (creation k w n accessors e s) (create k w)
        (creation_fine k fine w n accessors e s g) (create_fine k fine w);
    returns = returns_fine;
  }

  pub component_fine : (w : Where) (c : Component Meant)
      → Keeps (simple.component_declaration k w c)
  component_fine = component_keeps k keeping

  pub dropped_fine : (w : Where) (e : Expr Meant) → Keeps (simple.dropped k w e)
  dropped_fine = dropped_keeps k keeping

  pub undecided_fine : (spot : Spot) (fault : Option Fault) (a : Statement Spot Meant)
      → Keeps (undecided k spot fault a)
  undecided_fine = undecided_keeps k keeping

  pub condition_fine : (spot : Spot) (c : Expr Meant) (s : State) → Fine s
      → OnGood (λ x. Fine x.1) (condition k spot c s)
  condition_fine = condition_keeps k keeping

  pub assert_fine : (w : Where) (e : Expr Meant) (before : State) (v : Value)
      → Keeps (assert_value k w e before v)
  assert_fine = assert_keeps k keeping

  pub log_fine : (w : Where) (arguments : List (LogArgument Meant))
      → Keeps (log_values k w arguments)
  log_fine = log_keeps k keeping

  pub exec_all_fine : (ss : Statements Spot Meant) (s : State) → Fine s
      → OnGood FineFlow (exec_all k ss s)
  exec_all_fine = exec_all_keeps k keeping
