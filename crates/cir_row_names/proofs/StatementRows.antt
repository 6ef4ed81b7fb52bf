-- What statements keep, and what a body that returns leaves.
use Rattle.std.proofs.Common.{◌≡◌, ℕ, zero, suc, Bool, true, false, List, [], ◌∷◌}
use Rattle.std.proofs.Common.{length, Option}
use Rattle.std.proofs.Common.{Some, None}
use Rattle.std.proofs.Common.{Ok}
use Rattle.std.specs.Prelude.{⊤, ◌==◌}
use Rattle.std.specs.List.{AllByRecursion}
use Rattle.cir_ast.specs.declared.program.Spot.{Spot}
use Rattle.cir_ast.specs.declared.program.Meant.{Meant}
use Rattle.cir_ast.specs.Tree.{Expr, First, FirstVars, FirstAssign, LogArgument, Words, LogValue}
use Rattle.cir_ast.specs.Tree.{Simple, Assigned, Statement}
use Rattle.cir_ast.specs.Tree.{Block, If, IfElse, While, For, Return, Assert, Log, Ended}
use Rattle.cir_ast.specs.Tree.{Statements, empty, then_more}
use Rattle.cir_meaning.specs.Tried.{Where, Tried}
use Rattle.cir_meaning.specs.Arrays.{Scalar, Whole, the_item}
use Rattle.cir_meaning.specs.Values.{Value, Known, Linear, Quadratic, Opaque}
use Rattle.cir_meaning.specs.Frame.{World, State, Context, at, settle, counted}
use Rattle.cir_meaning.specs.Evaluate.{value_in}
use Rattle.cir_meaning.specs.Anonymous.{Lifted, lift_simple}
use Rattle.cir_meaning.specs.Steps.{stepped, assert_cost, log_cost, logged_cells, undecided_cost}
use Rattle.cir_meaning.specs.Steps.{undecided_cells}
use Rattle.cir_meaning.specs.Unknown.{Fault, first_of, assign_fault, fault_of, outer_assigned}
use Rattle.cir_meaning.specs.Unknown.{declares}
use Rattle.cir_meaning.specs.Scan.{forget, scan, undecided}
use Rattle.cir_meaning.specs.Simple as simple
use Rattle.cir_meaning.specs.Statement.{Flow, Going, Returned, going, goes, condition, branch}
use Rattle.cir_meaning.specs.Statement.{turns, most_turns, loop_of, first_simple, assert_value}
use Rattle.cir_meaning.specs.Statement.{logged, log_values, exec, exec_all}
use Rattle.cir_meaning.proofs.Good.{OnGood, good_ok, good_bad, good_next, good_weaker, either}
use Rattle.cir_meaning.proofs.Likes.{CallKeeps, Like, like_itself, value_like}
use Rattle.cir_meaning.proofs.Scans.{may_any, like_valued, scan_kept}
use Rattle.cir_meaning.proofs.Keepings.{decided_as}
use Rattle.cir_meaning.proofs.VariableRuns.{IsAdded, stepped_adds}
use Rattle.cir_meaning.proofs.StepRuns.{counted_like, settle_like}
use Rattle.cir_meaning.proofs.EqualRuns.{each_stays}
use Rattle.cir_tree_names.specs.Named.{IsNamedFirst, IsNamedSimple, IsNamedStatement}
use Rattle.cir_tree_names.specs.Named.{AreNamedStatements}
use Rattle.cir_row_names.specs.Rows.{IsLineText}
use Rattle.cir_row_names.proofs.Closing.{Closes}
use Rattle.cir_row_names.proofs.Lifting.{IsExecuted}
use Rattle.cir_row_names.proofs.Lifting as lifting
use Rattle.cir_row_names.proofs.SimpleRows.{execute_kept}

module _ (p : List ℕ → Bool) (fits : (name : List ℕ) → p name ≡ true → IsLineText name)
    (k : Context) (keeps : CallKeeps k.call) (Q : State → Type 0) (W : World → Type 0)
    (closed : Closes p k Q) (worlds : (s : State) → Q s → W s.world) where
  abbrev pub FlowKept : Flow → Type 0
  FlowKept (Going s) = Q s
  FlowKept (Returned d world) = W world

  counted_kept : (w : Where) (s : State) → Q s → OnGood Q (counted w s)
  counted_kept w s h =
      good_weaker (λ t. Like s t) Q (counted w s) (counted_like s w s (like_itself s))
      (λ t l. closed.like s t l h)

  settled_kept : (w : Where) (s : State) → Q s → OnGood Q (settle w s)
  settled_kept w s h =
      good_weaker (λ t. Like s t) Q (settle w s) (settle_like s w s (like_itself s))
      (λ t l. closed.like s t l h)

  added_kept : (m : Tried State) (s : State) → OnGood (IsAdded s) m → Q s → OnGood Q m
  added_kept m s g h =
      good_weaker (IsAdded s) Q m g (λ t i. closed.added s t i h)

  one_kept : (spot : Spot) (x : Simple Meant) (s : State) → IsExecuted p x → Q s
      → OnGood Q (simple.execute_counted k spot x s)
  one_kept spot x s is h =
      good_next Q Q (simple.execute k spot x s) (counted (at k spot))
      (execute_kept p k keeps Q closed spot x s is h) (counted_kept (at k spot))

  each_kept : (spot : Spot) (xs : List (Simple Meant)) (s : State)
      → AllByRecursion (IsExecuted p) xs → Q s
      → OnGood Q (simple.each (simple.execute_counted k spot) xs s)
  each_kept spot [] s is h = good_ok Q s h
  each_kept spot (x ∷ xs) s is h =
      good_next Q Q (simple.execute_counted k spot x s)
      (simple.each (simple.execute_counted k spot) xs) (one_kept spot x s is.0 h)
      (λ t g. each_kept spot xs t is.1 g)

  simple_kept : (spot : Spot) (x : Simple Meant) (s : State) → IsNamedSimple p x → Q s
      → OnGood Q (simple.simple k spot x s)
  simple_kept spot x s is h =
      let count : ℕ = length s.frame.components in
      let l : Lifted (Simple Meant) = lift_simple k.program k.named_components x count in
      let all : AllByRecursion (IsExecuted p) l.before × IsExecuted p l.value =
      lifting.simple p fits k.program k.named_components x count is in
      good_next Q Q (simple.each (simple.execute_counted k spot) l.before s)
      (simple.execute_counted k spot l.value) (each_kept spot l.before s all.0 h)
      (λ t g. one_kept spot l.value t all.1 g)

  -- a scan and its step
  forget_kept : (ns : List ℕ) (s : State) → Q s → Q (forget ns s)
  forget_kept [] s h = h
  forget_kept (m ∷ ms) s h = forget_kept ms _ (closed.variable m _ s h)

  undecided_kept : (spot : Spot) (fault : Option Fault) (a : Statement Spot Meant) (s : State)
      → Q s → OnGood Q (undecided k spot fault a s)
  undecided_kept spot (Some x) a s h = good_bad Q _
  undecided_kept spot None a s h =
      good_next Q Q (scan k (at k spot) a (forget (outer_assigned a) s)) _
      (scan_kept k Q (like_valued k keeps Q closed.like true) (λ m. ⊤)
      (λ m dims t i g. closed.array dims _ (closed.variable m _ t g)) (at k spot) a
      (may_any (declares a)) (forget (outer_assigned a) s) (forget_kept (outer_assigned a) s h))
      (λ s1 g.
      good_next Q Q (stepped k (at k spot) (undecided_cost k (at k spot) a s s1)
      (undecided_cells a s) s1) (settle (at k spot))
      (added_kept _ s1 (stepped_adds k (at k spot) (undecided_cost k (at k spot) a s s1)
      (undecided_cells a s) s1) g) (settled_kept (at k spot)))

  -- flows
  goes_kept : (m : Tried State) → OnGood Q m → OnGood FlowKept (goes m)
  goes_kept m h = good_next Q FlowKept m _ h (λ s g. good_ok FlowKept (Going s) g)

  going_kept : (f : Flow) (go : State → Tried Flow) → FlowKept f
      → ((s : State) → Q s → OnGood FlowKept (go s)) → OnGood FlowKept (going f go)
  going_kept (Going s) go h f = f s h
  going_kept (Returned d world) go h f = good_ok FlowKept (Returned d world) h

  abbrev Keeps : (State → Tried Flow) → Type 0
  Keeps go = (s : State) → Q s → OnGood FlowKept (go s)

  condition_kept : (spot : Spot) (c : Expr Meant) (s : State) → Q s
      → OnGood (λ x. Q x.1) (condition k spot c s)
  condition_kept spot c s h =
      good_next (λ x. Like s x.1) (λ x. Q x.1) (value_in k (at k spot) false Scalar c s) _
      (value_like s k keeps (at k spot) false Scalar c s (like_itself s)) (λ x l.
      good_next Q (λ y. Q y.1) (settle (at k spot) x.1) _
      (settled_kept (at k spot) x.1 (closed.like s x.1 l h))
      (λ t g. good_ok (λ y. Q y.1) (the_item x.0, t) g))

  branch_kept : (spot : Spot) (c : Expr Meant) (x y z : State → Tried Flow) → Keeps x
      → Keeps y
      → Keeps z → Keeps (branch k spot c x y z)
  branch_kept spot c x y z h g f s e =
      good_next Q FlowKept (counted (at k spot) s) _ (counted_kept (at k spot) s e)
      (λ s1 e1.
      good_next (λ q. Q q.1) FlowKept (condition k spot c s1) _
      (condition_kept spot c s1 e1) (λ q e2. decided_as Keeps q.0 x y z h g f q.1 e2))

  turns_kept : (i : ℕ) (spot : Spot) (c : Expr Meant) (body unknown : State → Tried Flow)
      → Keeps body → Keeps unknown → Keeps (turns i k spot c body unknown)
  turns_kept zero spot c body unknown h f s e = good_bad FlowKept _
  turns_kept (suc i) spot c body unknown h f s e =
      good_next (λ q. Q q.1) FlowKept (condition k spot c s) _ (condition_kept spot c s e)
      (λ q e1. decided_as Keeps q.0 _ _ unknown (λ s2 e2. good_ok FlowKept (Going s2) e2)
      (λ s2 e2.
      good_next Q FlowKept (counted (at k spot) s2) _ (counted_kept (at k spot) s2 e2)
      (λ s3 e3. good_next FlowKept FlowKept (body s3) _ (h s3 e3)
      (λ flow p. going_kept flow (turns i k spot c body unknown) p
      (turns_kept i spot c body unknown h f)))) f q.1 e1)

  logged_kept : (w : Where) (a : LogArgument Meant) (s : State) → Q s
      → OnGood Q (logged k w a s)
  logged_kept w (Words text) s h = good_ok Q s h
  logged_kept w (LogValue e) s h =
      good_next (λ x. Like s x.1) Q (value_in k w false Scalar e s) _
      (value_like s k keeps w false Scalar e s (like_itself s))
      (λ x l. good_ok Q x.1 (closed.like s x.1 l h))

  asserted_kept : (w : Where) (e : Expr Meant) (before : State) (v : Value) (s : State)
      → Q s → OnGood Q (assert_value k w e before v s)
  asserted_kept w e before (Known i) s h =
      either (OnGood Q) (i == 0) _ (Ok s) (good_bad Q _) (good_ok Q s h)
  asserted_kept w e before (Linear f) s h =
      added_kept _ s (stepped_adds k w (assert_cost k w e before) 0 s) h
  asserted_kept w e before (Quadratic a b c) s h =
      added_kept _ s (stepped_adds k w (assert_cost k w e before) 0 s) h
  asserted_kept w e before Opaque s h =
      added_kept _ s (stepped_adds k w (assert_cost k w e before) 0 s) h

  first_named : (f : First Meant) → IsNamedFirst p f → IsNamedSimple p (first_simple f)
  first_named (FirstVars vs) h = h
  first_named (FirstAssign a) h = h

  mutual
    exec_kept : (a : Statement Spot Meant) → IsNamedStatement p a → Keeps (exec k a)
    exec_kept (Block spot ss) is s h =
        good_next Q FlowKept (counted (at k spot) s) (exec_all k ss)
        (counted_kept (at k spot) s h) (λ t g. exec_all_kept ss is t g)
    exec_kept (If spot c a) is s h =
        branch_kept spot c _ (exec k a) _ (λ t g. good_ok FlowKept (Going t) g)
        (λ t g. exec_kept a is.1 t g)
        (λ t g. goes_kept _ (undecided_kept spot (fault_of a) (If spot c a) t g)) s h
    exec_kept (IfElse spot c a b) is s h =
        branch_kept spot c (exec k b) (exec k a) _ (λ t g. exec_kept b is.2 t g)
        (λ t g. exec_kept a is.1 t g)
        (λ t g. goes_kept _ (undecided_kept spot (first_of (fault_of a) (fault_of b))
        (IfElse spot c a b) t g)) s h
    exec_kept (While spot c a) is s h =
        good_next Q FlowKept (counted (at k spot) s) _ (counted_kept (at k spot) s h)
        (turns_kept most_turns spot c (exec k a) _ (λ t g. exec_kept a is.1 t g)
        (λ t g. goes_kept _ (undecided_kept spot (fault_of a) (While spot c a) t g)))
    exec_kept (For spot first_spot f c step_spot a body) is s h =
        good_next Q FlowKept (counted (at k spot) s) _ (counted_kept (at k spot) s h)
        (λ s1 h1.
        good_next Q FlowKept (simple.simple k first_spot (first_simple f) s1) _
        (simple_kept first_spot (first_simple f) s1 (first_named f is.0) h1) (λ s2 h2.
        good_next Q FlowKept (counted (at k spot) s2) _ (counted_kept (at k spot) s2 h2)
        (turns_kept most_turns spot c _ _
        (λ s3 h3. good_next Q FlowKept (counted (at k spot) s3) _
        (counted_kept (at k spot) s3 h3) (λ s4 h4.
        good_next FlowKept FlowKept (exec k body s4) _ (exec_kept body is.3 s4 h4)
        (λ flow p. going_kept flow _ p (λ s5 h5.
        goes_kept _ (simple_kept step_spot (Assigned a) s5 is.2 h5)))))
        (λ s3 h3. goes_kept _ (undecided_kept spot (first_of (assign_fault step_spot a)
        (fault_of body)) (loop_of spot c body step_spot a) s3 h3)))))
    exec_kept (Return spot e) is s h =
        good_next (λ x. Like s x.1) FlowKept (value_in k (at k spot) false Whole e s) _
        (value_like s k keeps (at k spot) false Whole e s (like_itself s)) (λ x l.
        good_next Q FlowKept (counted (at k spot) x.1) _
        (counted_kept (at k spot) x.1 (closed.like s x.1 l h))
        (λ t g. good_ok FlowKept (Returned x.0 t.world) (worlds t g)))
    exec_kept (Assert spot e) is s h =
        good_next (λ x. Like s x.1) FlowKept (value_in k (at k spot) false Scalar e s) _
        (value_like s k keeps (at k spot) false Scalar e s (like_itself s)) (λ x l.
        good_next Q FlowKept (assert_value k (at k spot) e s (the_item x.0) x.1) _
        (asserted_kept (at k spot) e s (the_item x.0) x.1 (closed.like s x.1 l h))
        (λ t g. goes_kept (counted (at k spot) t) (counted_kept (at k spot) t g)))
    exec_kept (Log spot arguments) is s h =
        good_next Q FlowKept (log_values k (at k spot) arguments s) _
        (good_next Q Q (simple.each (logged k (at k spot)) arguments s) _
        (each_stays Q (logged k (at k spot)) arguments s (logged_kept (at k spot)) h)
        (λ t g. added_kept _ t (stepped_adds k (at k spot) (log_cost k (at k spot) arguments s)
        (logged_cells arguments) t) g))
        (λ t g. goes_kept (counted (at k spot) t) (counted_kept (at k spot) t g))
    exec_kept (Ended spot x) is s h =
        goes_kept (simple.simple k spot x s) (simple_kept spot x s is h)

    pub exec_all_kept : (ss : Statements Spot Meant) → AreNamedStatements p ss
        → Keeps (exec_all k ss)
    exec_all_kept empty is s h = good_ok FlowKept (Going s) h
    exec_all_kept (then_more a rest) is s h =
        good_next FlowKept FlowKept (exec k a s) _ (exec_kept a is.0 s h)
        (λ f p. going_kept f (exec_all k rest) p (λ t g. exec_all_kept rest is.1 t g))
