-- The run of statements that declare no signal, where the steps of statements whose condition isn't
-- known miss no value.
use Rattle.std.proofs.Common.{◌≡◌, ℕ, false, List, [], ◌∷◌, length, Option, Some, None, Ok, Err}
use Rattle.std.proofs.Common.{refl, sym, subst}
use Rattle.std.specs.Prelude.{⊤}
use Rattle.std.specs.List.{AllByRecursion}
use Rattle.cir_ast.specs.declared.program.Spot.{Spot}
use Rattle.cir_ast.specs.declared.program.Meant.{Meant}
use Rattle.cir_ast.specs.declared.program.Meant.TheVariants as meant
use Rattle.cir_ast.specs.Tree.{Expr, done, Variable, Component, Simple, Vars, Signals, Declared}
use Rattle.cir_ast.specs.Tree.{Created, Assigned, Constrain, Right, TargetLeft, TargetRight, Alone}
use Rattle.cir_ast.specs.Tree.{Statement, Block, If, IfElse, While, For, Return, Assert, Log, Ended}
use Rattle.cir_ast.specs.Tree.{Statements, empty, then_more}
use Rattle.cir_meaning.specs.Scoped.{Scope, AreCallsMeant, IsSetMeant, IsAssignMeant}
use Rattle.cir_meaning.specs.Scoped.{IsArgumentMeant}
use Rattle.cir_meaning.specs.Tried.{Where, Tried, next}
use Rattle.cir_meaning.specs.Arrays.{Scalar, the_item}
use Rattle.cir_meaning.specs.Frame.{State, at, counted}
use Rattle.cir_meaning.specs.Evaluate.{dims_in, value_in}
use Rattle.cir_meaning.specs.Anonymous.{lift_simple}
use Rattle.cir_meaning.specs.Declaring.{declare_component}
use Rattle.cir_meaning.specs.Unknown.{Fault, first_of, assign_fault, fault_of}
use Rattle.cir_meaning.specs.Scan.{undecided}
use Rattle.cir_meaning.specs.Simple as simple
use Rattle.cir_meaning.specs.Statement.{Flow, Going, goes, most_turns, loop_of, first_simple}
use Rattle.cir_meaning.specs.Statement.{assert_value, exec, exec_all}
use Rattle.cir_meaning.specs.RunStatements.{step_statement}
use Rattle.cir_meaning.specs.Run.{Wires, Run, RunTried, refusing, store_of, environment}
use Rattle.cir_meaning.specs.RunSimple.{Running, with_known, run_known, run_each, run_variable}
use Rattle.cir_meaning.specs.RunSimple.{run_signal, run_execute, run_counted, run_execute_counted}
use Rattle.cir_meaning.specs.RunSimple.{run_simple}
use Rattle.cir_meaning.specs.RunBodies.{run_undecided, run_assert, run, run_all}
use Rattle.cir_meaning.proofs.Good.{good_is}
use Rattle.cir_meaning.proofs.Likes.{Like, like_itself}
use Rattle.cir_meaning.proofs.FineValues.{Fine, dims_fine}
use Rattle.cir_meaning.proofs.RunFree.{NoMiss, Any}
use Rattle.cir_meaning.proofs.Goes.{Goes, goes_ok, goes_bad, goes_next}
use Rattle.cir_meaning.proofs.Standing.{Stands, Start}
use Rattle.cir_meaning.proofs.VariableRuns.{Soundly, like_changed, After}
use Rattle.cir_meaning.proofs.StepRuns.{counted_goes, assert_goes}
use Rattle.cir_meaning.proofs.EqualRuns.{log_goes, equal_goes}
use Rattle.cir_meaning.proofs.Starting.{BodiesRun}
use Rattle.cir_meaning.proofs.CreateRuns.{create_goes}
use Rattle.cir_meaning.proofs.SimpleRuns.{dims_like, goes_on, each_goes, assign_goes, variable_goes}
use Rattle.cir_meaning.proofs.SimpleRuns.{number_goes, tuple_goes}
use Rattle.cir_meaning.proofs.UndecidedRuns.{undecided_goes}
use Rattle.cir_meaning.proofs.BranchRuns.{AfterFlow, Flows, goes_flow, then_flow, going_flow}
use Rattle.cir_meaning.proofs.BranchRuns.{branch_flow, turns_flow}

abbrev pub IsInitialMeant : Scope → Variable Meant → Type 0
IsInitialMeant scope v =
    (e : Expr Meant) → v.value ≡ Some e → IsSetMeant scope v.meant done e

abbrev pub IsQuietSimple : Scope → Simple Meant → Type 0
IsQuietSimple scope (Vars vs) = AllByRecursion (IsInitialMeant scope) vs
IsQuietSimple scope (Signals direction ds) = ds ≡ []
IsQuietSimple scope (Assigned a) = IsAssignMeant scope a
IsQuietSimple scope (Constrain a b) = AreCallsMeant scope a × AreCallsMeant scope b
IsQuietSimple scope (TargetLeft target arrow source) =
    AllByRecursion (AreCallsMeant scope) (simple.values_of source)
IsQuietSimple scope _ = ⊤

module _ (given : Wires) (start : Start) (scope : Scope) (q : Running)
    (sound : Soundly scope q) (bodies : BodiesRun start.size q.context.make q.body) where
  abbrev Then : State → Run → Type 0
  Then = After q.context.make given start scope q sound

  abbrev Flow' : Flow → Run → Type 0
  Flow' = AfterFlow q.context.make given start scope q sound

  abbrev pub IsQuietLifted : Simple Meant → Type 0
  IsQuietLifted x =
      (components : ℕ)
      → AllByRecursion (IsQuietSimple scope)
      (lift_simple q.context.program q.context.named_components x components).before
      × IsQuietSimple scope
      (lift_simple q.context.program q.context.named_components x components).value

  goes_twice_known : {A : Type 0} (m : Tried A) (go : A → State) (r : Run)
      → ((a : A) → m ≡ Ok a → Stands q.context.make given start None (with_known (go a) r))
      → Goes Then (next m (λ a. Ok (go a)))
      (next (refusing (next m (λ a. Ok (go a)))) (λ s. Ok (with_known s r)))
  unfolding Goes
  goes_twice_known (Ok a) go r h = (refl, h a refl)
  goes_twice_known (Err e) go r h = tt

  -- components that are declared have no part in what holds
  component_stands : (n : ℕ) (name dims : List ℕ) (s : State) (r : Run)
      → Stands q.context.make given start None r → Like r.known s → Fine s
      → Stands q.context.make given start None (with_known (declare_component n name dims s) r)
  component_stands n name dims s r st l fine =
      subst (λ t. Stands q.context.make given start None
      (record r { known = declare_component n name dims t })) (sym (like_changed r.known s l))
      (record {
        variables = st.variables;
        own = st.own;
        blank = st.blank;
        kept = st.kept;
        parts = st.parts;
        count = st.count;
        fine = subst Fine (like_changed r.known s l) fine;
        equations = st.equations;
        numbered = st.numbered;
      })

  component_goes : (w : Where) (c : Component Meant) (r : Run)
      → Stands q.context.make given start None r
      → Goes Then (simple.component_declaration q.context w c r.known)
      (run_known (simple.component_declaration q.context w c) r)
  component_goes w c r st = at c.meant
    where
      declared : (n : ℕ)
          → Goes Then (next (dims_in q.context w false c.dimensions r.known) (λ (dims, s1).
          Ok (declare_component n c.name dims s1)))
          (next (refusing (next (dims_in q.context w false c.dimensions r.known) (λ (dims, s1).
          Ok (declare_component n c.name dims s1)))) (λ s. Ok (with_known s r)))
      declared n =
          goes_twice_known (dims_in q.context w false c.dimensions r.known)
          (λ x. declare_component n c.name x.0 x.1) r (λ x ex.
          component_stands n c.name x.0 x.1 r st
          (good_is (λ y. Like r.known y.1) (dims_in q.context w false c.dimensions r.known) x ex
          (dims_like q.context sound.keeps r.known w c.dimensions r.known (like_itself r.known)))
          (good_is (λ y. Fine y.1) (dims_in q.context w false c.dimensions r.known) x ex
          (dims_fine q.context sound.fine w false c.dimensions r.known st.fine)))

      at : (m : Meant)
          → Goes Then (simple.declared_number w m (λ n.
          next (dims_in q.context w false c.dimensions r.known) (λ (dims, s1).
          Ok (declare_component n c.name dims s1))))
          (next (refusing (simple.declared_number w m (λ n.
          next (dims_in q.context w false c.dimensions r.known) (λ (dims, s1).
          Ok (declare_component n c.name dims s1))))) (λ s. Ok (with_known s r)))
      at (meant.Variable n) = declared n
      at (meant.Signal direction n) = declared n
      at (meant.Component n) = declared n
      at meant.Other = goes_bad Then _ _
      at (meant.Template n) = goes_bad Then _ _
      at (meant.Function n) = goes_bad Then _ _

  -- simple statements
  pub execute_goes : (spot : Spot) (x : Simple Meant) (r : Run) → IsQuietSimple scope x
      → Stands q.context.make given start None r
      → Goes Then (simple.execute q.context spot x r.known) (run_execute q spot x r)
  execute_goes spot (Vars vs) r is st =
      each_goes given start scope q sound bodies (IsInitialMeant scope)
      (simple.variable_declaration q.context (at q.context spot))
      (run_variable q (at q.context spot)) vs r is
      (λ v r1 ie st1. variable_goes given start scope q sound bodies (at q.context spot) v r1
      ie st1) st
  execute_goes spot (Signals direction ds) r is st =
      subst (λ ds. Goes Then (simple.each (simple.signal_declaration q.context spot direction) ds
      r.known) (run_each (run_signal q spot direction) ds r)) (sym is)
      (goes_ok Then r.known r (refl, st))
  execute_goes spot (Declared cs) r is st =
      each_goes given start scope q sound bodies (λ c. ⊤)
      (simple.component_declaration q.context (at q.context spot))
      (λ c. run_known (simple.component_declaration q.context (at q.context spot) c)) cs r
      (all_any cs) (λ c r1 ie st1. component_goes (at q.context spot) c r1 st1) st
    where
      all_any : (cs : List (Component Meant)) → AllByRecursion (λ c. ⊤) cs
      all_any [] = tt
      all_any (c ∷ rest) = (tt, all_any rest)
  execute_goes spot (Created name m e) r is st =
      number_goes given start scope q sound bodies (at q.context spot) m _ _ (λ n.
      create_goes given start scope q sound bodies (at q.context spot) n done e
      (with_known (declare_component n name [] r.known) r)
      (component_stands n name [] r.known r st (like_itself r.known) st.fine))
  execute_goes spot (Assigned a) r is st =
      assign_goes given start scope q sound bodies (at q.context spot) a r is st
  execute_goes spot (Constrain a b) r is st =
      equal_goes q.context.make given start scope q sound (at q.context spot) r st a b is.0 is.1
  execute_goes spot (TargetLeft target arrow source) r is st =
      tuple_goes given start scope q sound bodies (at q.context spot) arrow target
      (simple.values_of source) r is st
  execute_goes spot (Right e arrow name m accessors) r is st = goes_bad Then _ _
  execute_goes spot (TargetRight source arrow target) r is st = goes_bad Then _ _
  execute_goes spot (Alone parallel name m arguments inputs) r is st = goes_bad Then _ _

  pub one_goes : (spot : Spot) (x : Simple Meant) (r : Run) → IsQuietSimple scope x
      → Stands q.context.make given start None r
      → Goes Then (simple.execute_counted q.context spot x r.known)
      (run_execute_counted q spot x r)
  one_goes spot x r is st =
      goes_on given start scope q sound bodies Then (simple.execute q.context spot x r.known)
      (run_execute q spot x r) (counted (at q.context spot)) (run_counted q spot)
      (execute_goes spot x r is st)
      (λ r1 st1. counted_goes q.context.make given start scope q sound spot r1 st1)

  pub simple_goes : (spot : Spot) (x : Simple Meant) (r : Run) → IsQuietLifted x
      → Stands q.context.make given start None r
      → Goes Then (simple.simple q.context spot x r.known) (run_simple q spot x r)
  simple_goes spot x r is st =
      goes_on given start scope q sound bodies Then
      (simple.each (simple.execute_counted q.context spot) (lift_simple q.context.program
      q.context.named_components x (length r.known.frame.components)).before r.known)
      (run_each (run_execute_counted q spot) (lift_simple q.context.program
      q.context.named_components x (length r.known.frame.components)).before r)
      (simple.execute_counted q.context spot (lift_simple q.context.program
      q.context.named_components x (length r.known.frame.components)).value)
      (run_execute_counted q spot (lift_simple q.context.program
      q.context.named_components x (length r.known.frame.components)).value)
      (each_goes given start scope q sound bodies (IsQuietSimple scope)
      (simple.execute_counted q.context spot) (run_execute_counted q spot)
      (lift_simple q.context.program q.context.named_components x
      (length r.known.frame.components)).before r (is (length r.known.frame.components)).0
      (λ y r1 iy st1. one_goes spot y r1 iy st1) st)
      (λ r1 st1. one_goes spot (lift_simple q.context.program q.context.named_components x
      (length r.known.frame.components)).value r1 (is (length r.known.frame.components)).1 st1)

  -- a step under an unknown condition misses no value
  abbrev pub IsReal : Spot → Option Fault → Statement Spot Meant → Type 0
  IsReal spot fault a =
      (r : Run) → Stands q.context.make given start None r → (s : State)
      → undecided q.context spot fault a r.known ≡ Ok s
      → NoMiss Any (step_statement (environment q.context (at q.context spot) q.call s r) a
      (store_of r.known r.numbers) q.fuel)

  abbrev mutual
    pub IsQuiet : Statement Spot Meant → Type 0
    IsQuiet (Block spot ss) = AreQuiet ss
    IsQuiet (If spot c a) = IsReal spot (fault_of a) (If spot c a) × IsQuiet a
    IsQuiet (IfElse spot c a b) =
        IsReal spot (first_of (fault_of a) (fault_of b)) (IfElse spot c a b) × IsQuiet a
        × IsQuiet b
    IsQuiet (While spot c a) = IsReal spot (fault_of a) (While spot c a) × IsQuiet a
    IsQuiet (For spot first_spot f c step_spot a body) =
        IsReal spot (first_of (assign_fault step_spot a) (fault_of body))
        (loop_of spot c body step_spot a) × IsQuietLifted (first_simple f)
        × IsQuietLifted (Assigned a) × IsQuiet body
    IsQuiet (Return spot e) = ⊥
    IsQuiet (Assert spot e) = AreCallsMeant scope e
    IsQuiet (Log spot arguments) = AllByRecursion (IsArgumentMeant scope) arguments
    IsQuiet (Ended spot x) = IsQuietLifted x

    pub AreQuiet : Statements Spot Meant → Type 0
    AreQuiet empty = ⊤
    AreQuiet (then_more a rest) = IsQuiet a × AreQuiet rest

  pub undecided_flow : (spot : Spot) (fault : Option Fault) (a : Statement Spot Meant)
      → IsReal spot fault a
      → Flows q.context.make given start scope q sound
      (λ s. goes (undecided q.context spot fault a s)) (run_undecided q spot fault a)
  undecided_flow spot fault a real r st =
      goes_flow q.context.make given start scope q sound
      (undecided q.context spot fault a r.known) (run_undecided q spot fault a r)
      (undecided_goes q.context.make given start scope q sound spot fault a r st (real r st))

  asserted_flow : (spot : Spot) (e : Expr Meant) (r : Run) → AreCallsMeant scope e
      → Stands q.context.make given start None r
      → Goes Flow' (exec q.context (Assert spot e) r.known) (run q (Assert spot e) r)
  asserted_flow spot e r te st =
      assoc_goes (value_in q.context (at q.context spot) false Scalar e r.known)
      (λ x. assert_value q.context (at q.context spot) e r.known (the_item x.0) x.1)
      (λ s. goes (counted (at q.context spot) s))
      (run_assert q (at q.context spot) e r) (run_counted q spot)
      (assert_goes q.context.make given start scope q sound (at q.context spot) e r te st)
      (λ r1 st1. goes_flow q.context.make given start scope q sound
      (counted (at q.context spot) r1.known) (run_counted q spot r1)
      (counted_goes q.context.make given start scope q sound spot r1 st1))
    where
      assoc_goes : {A : Type 0} (m : Tried A) (first : A → Tried State)
          (go : State → Tried Flow) (ran : RunTried Run) (on : Run → RunTried Run)
          → Goes Then (next m first) ran
          → Flows q.context.make given start scope q sound go on
          → Goes Flow' (next m (λ a. next (first a) go)) (next ran on)
      assoc_goes (Ok a) first go ran on h f =
          then_flow q.context.make given start scope q sound (first a) ran go on h f
      assoc_goes (Err e) first go ran on h f = goes_bad Flow' _ _

  mutual
    pub exec_flow : (a : Statement Spot Meant) → IsQuiet a
        → Flows q.context.make given start scope q sound (exec q.context a) (run q a)
    exec_flow (Block spot ss) is r st =
        then_flow q.context.make given start scope q sound
        (counted (at q.context spot) r.known) (run_counted q spot r) (exec_all q.context ss)
        (run_all q ss) (counted_goes q.context.make given start scope q sound spot r st)
        (λ r1 st1. exec_all_flow ss is r1 st1)
    exec_flow (If spot c a) is r st =
        branch_flow q.context.make given start scope q sound spot c (λ s. Ok (Going s))
        (exec q.context a) _ (λ r1. Ok r1) (run q a) _
        (λ r1 st1. goes_ok Flow' (Going r1.known) r1 (refl, st1))
        (λ r1 st1. exec_flow a is.1 r1 st1)
        (undecided_flow spot (fault_of a) (If spot c a) is.0) r st
    exec_flow (IfElse spot c a b) is r st =
        branch_flow q.context.make given start scope q sound spot c (exec q.context b)
        (exec q.context a) _ (run q b) (run q a) _ (λ r1 st1. exec_flow b is.2 r1 st1)
        (λ r1 st1. exec_flow a is.1 r1 st1)
        (undecided_flow spot (first_of (fault_of a) (fault_of b)) (IfElse spot c a b) is.0) r st
    exec_flow (While spot c a) is r st =
        then_flow q.context.make given start scope q sound
        (counted (at q.context spot) r.known) (run_counted q spot r) _ _
        (counted_goes q.context.make given start scope q sound spot r st)
        (turns_flow q.context.make given start scope q sound most_turns spot c
        (exec q.context a) _ (run q a) _ (λ r1 st1. exec_flow a is.1 r1 st1)
        (undecided_flow spot (fault_of a) (While spot c a) is.0))
    exec_flow (For spot first_spot f c step_spot a body) is r st =
        then_flow q.context.make given start scope q sound
        (counted (at q.context spot) r.known) (run_counted q spot r) _ _
        (counted_goes q.context.make given start scope q sound spot r st) (λ r1 st1.
        then_flow q.context.make given start scope q sound
        (simple.simple q.context first_spot (first_simple f) r1.known)
        (run_simple q first_spot (first_simple f) r1) _ _
        (simple_goes first_spot (first_simple f) r1 is.1 st1) (λ r2 st2.
        then_flow q.context.make given start scope q sound
        (counted (at q.context spot) r2.known) (run_counted q spot r2) _ _
        (counted_goes q.context.make given start scope q sound spot r2 st2)
        (turns_flow q.context.make given start scope q sound most_turns spot c _ _ _ _
        (λ r3 st3.
        then_flow q.context.make given start scope q sound
        (counted (at q.context spot) r3.known) (run_counted q spot r3) _ _
        (counted_goes q.context.make given start scope q sound spot r3 st3) (λ r4 st4.
        goes_next Flow' Flow' (exec q.context body r4.known) (run q body r4) _ _
        (exec_flow body is.3 r4 st4)
        (λ flow r5 p. going_flow q.context.make given start scope q sound flow r5 _
        (run_simple q step_spot (Assigned a)) p (λ r6 st6.
        goes_flow q.context.make given start scope q sound
        (simple.simple q.context step_spot (Assigned a) r6.known)
        (run_simple q step_spot (Assigned a) r6)
        (simple_goes step_spot (Assigned a) r6 is.2 st6)))))
        (undecided_flow spot (first_of (assign_fault step_spot a) (fault_of body))
        (loop_of spot c body step_spot a) is.0))))
    exec_flow (Return spot e) is r st = absurd is
    exec_flow (Assert spot e) is r st =
        asserted_flow spot e r is st
    exec_flow (Log spot arguments) is r st =
        then_flow q.context.make given start scope q sound _ _ _ _
        (log_goes q.context.make given start scope q sound (at q.context spot) r st arguments
        is)
        (λ r1 st1. goes_flow q.context.make given start scope q sound
        (counted (at q.context spot) r1.known) (run_counted q spot r1)
        (counted_goes q.context.make given start scope q sound spot r1 st1))
    exec_flow (Ended spot x) is r st =
        goes_flow q.context.make given start scope q sound
        (simple.simple q.context spot x r.known) (run_simple q spot x r)
        (simple_goes spot x r is st)

    pub exec_all_flow : (ss : Statements Spot Meant) → AreQuiet ss
        → Flows q.context.make given start scope q sound (exec_all q.context ss) (run_all q ss)
    exec_all_flow empty is r st = goes_ok Flow' (Going r.known) r (refl, st)
    exec_all_flow (then_more a rest) is r st =
        goes_next Flow' Flow' (exec q.context a r.known) (run q a r) _ _ (exec_flow a is.0 r st)
        (λ f r1 p. going_flow q.context.make given start scope q sound f r1
        (exec_all q.context rest) (run_all q rest) p
        (λ r2 st2. exec_all_flow rest is.1 r2 st2))
