-- The run of the statements of a body, where their names are in scope.
use Rattle.std.proofs.Common.{◌≡◌, inl, inr, ℕ, ◌≤◌, List, [], ◌∷◌, length, Option, None, Ok, refl}
use Rattle.std.proofs.Common.{sym, ap, subst, ◌∙◌, arith}
use Rattle.std.specs.Prelude.{⊤}
use Rattle.std.specs.List.{AllByRecursion}
use Rattle.cir_ast.specs.declared.operators.Direction.{Direction}
use Rattle.cir_ast.specs.declared.program.Spot.{Spot}
use Rattle.cir_ast.specs.declared.program.Meant.{Meant}
use Rattle.cir_ast.specs.Tree.{Signal, Simple, Vars, Signals, Declared, Created, Assigned}
use Rattle.cir_ast.specs.Tree.{Constrain, Right, TargetLeft, TargetRight, Alone, Statement, Block}
use Rattle.cir_ast.specs.Tree.{If, IfElse, While, For, Return, Assert, Log, Ended, Statements}
use Rattle.cir_ast.specs.Tree.{empty, then_more}
use Rattle.cir_meaning.specs.Scoped.{Scope, with_signal, AreSignalsScoped, IsSimpleScoped}
use Rattle.cir_meaning.specs.Scoped.{IsSignalValueMeant, closed, behind, behind_all, IsScoped}
use Rattle.cir_meaning.specs.Scoped.{AreScoped}
use Rattle.cir_meaning.specs.Tried.{Tried, next}
use Rattle.cir_meaning.specs.Frame.{State, at, entry_at, counted}
use Rattle.cir_meaning.specs.Unknown.{Fault, first_of, fault_of}
use Rattle.cir_meaning.specs.Scan.{undecided}
use Rattle.cir_meaning.specs.Anonymous.{lift_simple}
use Rattle.cir_meaning.specs.Simple as simple
use Rattle.cir_meaning.specs.Statement.{Flow, Going, Returned, going, goes, exec, exec_all}
use Rattle.cir_meaning.specs.Run.{Wires, Run, RunTried}
use Rattle.cir_meaning.specs.RunSimple.{Running, run_signal, run_each, run_counted}
use Rattle.cir_meaning.specs.RunSimple.{run_execute_counted, run_simple}
use Rattle.cir_meaning.specs.RunBodies.{run_undecided, run, run_all}
use Rattle.cir_meaning.proofs.Good.{good_is}
use Rattle.cir_meaning.proofs.Likes.{Like, like_itself}
use Rattle.cir_meaning.proofs.Standing.{Stands, Start}
use Rattle.cir_meaning.proofs.SignalWrites.{same_itself}
use Rattle.cir_meaning.proofs.VariableRuns.{Soundly, After}
use Rattle.cir_meaning.proofs.StepRuns.{counted_like, counted_goes}
use Rattle.cir_meaning.proofs.Starting.{BodiesRun}
use Rattle.cir_meaning.proofs.Goes.{Goes, goes_ok}
use Rattle.cir_meaning.proofs.SimpleRuns.{each_goes}
use Rattle.cir_meaning.proofs.BranchRuns.{AfterFlow, goes_flow}
use Rattle.cir_meaning.proofs.QuietRuns.{IsQuietSimple, one_goes, undecided_flow, exec_flow}
use Rattle.cir_meaning.proofs.Entries.{Entry, entry_closed}
use Rattle.cir_meaning.proofs.KeepingStatements.{FlowKept, each_kept, exec_kept, exec_all_kept}
use Rattle.cir_meaning.proofs.SignalDeclarations.{Stays, stays_marked, IsNone, none_marked}
use Rattle.cir_meaning.proofs.SignalDeclarations.{goes_if_ok}
use Rattle.cir_meaning.proofs.ScopeLaws.{grows, IsSound, sound_closed, sound}
use Rattle.cir_meaning.proofs.LiftedStatements.{IsLifted, SameMeants, LiftedAs, simple_lifted}
use Rattle.cir_meaning.proofs.ScopedQuiet.{everything, NoneDeclared, simple_wide, lifted_quiet}
use Rattle.cir_meaning.proofs.ScopedQuiet.{simple_quiet, real, statement_quiet}
use Rattle.cir_meaning.proofs.Undeclared.{lifted_not, not_declared, none_declared}
use Rattle.cir_meaning.proofs.SignalFlows.{goes_as, Fresh, Shapes, Through, shapes_before, InTurn}
use Rattle.cir_meaning.proofs.SignalFlows.{signals_goes, Flows, counted_flow, condition_flow}

module _ (given : Wires) (start : Start) (functions : ℕ) (q : Running)
    (sounds : Soundly (everything functions) q)
    (bodies : BodiesRun start.size q.context.make q.body)
    (sized : q.context.group_size ≡ start.size) where
  abbrev All : Scope
  All = everything functions

  abbrev Then : State → Run → Type 0
  Then = After q.context.make given start All q sounds

  abbrev Flow' : Flow → Run → Type 0
  Flow' = AfterFlow q.context.make given start All q sounds

  abbrev pub Runs : ℕ → (State → Tried Flow) → (Run → RunTried Run) → Type 0
  Runs = Flows given start functions q sounds bodies sized

  -- what a statement leaves of the signals that aren't its own
  pub fresh_behind : (s : Scope) (a : Statement Spot Meant) (t u : State) → IsSound functions s
      → IsScoped s a → exec q.context a t ≡ Ok (Going u) → Fresh s.signals t
      → Fresh (behind s a).signals u
  fresh_behind s a t u h is e fresh n le =
      let more : s.signals ≤ (behind s a).signals = (grows s a).signals in
      good_is (FlowKept q.context sounds.keeps n (Entry n IsNone none_marked)
      (entry_closed n IsNone none_marked q.context)) (exec q.context a t) (Going u) e
      (exec_kept q.context sounds.keeps n (Entry n IsNone none_marked)
      (entry_closed n IsNone none_marked q.context) a
      (not_declared given start functions q sounds bodies s a n h is (inr le)) t
      (fresh n (omega arith)))

  pub through_all : (s : Scope) (ss : Statements Spot Meant) (t u : State) → IsSound functions s
      → AreScoped s ss → exec_all q.context ss t ≡ Ok (Going u) → Through s.signals t u
  through_all s ss t u h is ex n e less there =
      good_is (FlowKept q.context sounds.keeps n (Entry n (Stays e) (stays_marked e))
      (entry_closed n (Stays e) (stays_marked e) q.context))
      (exec_all q.context ss t) (Going u) ex
      (exec_all_kept q.context sounds.keeps n (Entry n (Stays e) (stays_marked e)) (entry_closed n
      (Stays e) (stays_marked e) q.context) ss
      (none_declared given start functions q sounds bodies s ss n h is (inl less)) t
      (e, there, same_itself e))

  -- no statement of a template returns
  pub goes_on_all : (s : Scope) (ss : Statements Spot Meant) (t : State) (z : Flow)
      → IsSound functions s → AreScoped s ss → exec_all q.context ss t ≡ Ok z
      → (u : State) × (z ≡ Going u)
  goes_on_all s ss t z h is ex =
      at z (good_is (FlowKept q.context sounds.keeps (behind_all s ss).signals (Entry
      (behind_all s ss).signals (λ o. ⊤) (λ e place g. tt)) (entry_closed (behind_all s ss).signals
      (λ o. ⊤) (λ e place g. tt) q.context)) (exec_all q.context ss t) z ex
      (exec_all_kept q.context sounds.keeps (behind_all s ss).signals (Entry
      (behind_all s ss).signals (λ o. ⊤) (λ e place g. tt)) (entry_closed (behind_all s ss).signals
      (λ o. ⊤) (λ e place g. tt) q.context) ss
      (none_declared given start functions q sounds bodies s ss (behind_all s ss).signals h is
      (inr (omega arith))) t tt))
    where
      at : (z : Flow)
          → FlowKept q.context sounds.keeps (behind_all s ss).signals (Entry
          (behind_all s ss).signals (λ o. ⊤) (λ e place g. tt)) (entry_closed
          (behind_all s ss).signals (λ o. ⊤) (λ e place g. tt) q.context) z
          → (u : State) × (z ≡ Going u)
      at (Going u) g = (u, refl)
      at (Returned d world) g = absurd g

  -- declarations of signals
  in_turn : (d : Direction) (s : Scope) (xs ys : List (Signal Meant)) → AreSignalsScoped d s xs
      → SameMeants All q.context.program q.context.named_components xs ys
      → InTurn d s.signals ys
  in_turn d s [] [] is same = tt
  in_turn d s [] (y ∷ ys) is same = absurd same
  in_turn d s (x ∷ xs) [] is same = absurd same
  in_turn d s (x ∷ xs) (y ∷ ys) is same =
      (same.0 ∙ is.0, in_turn d (with_signal s) xs ys is.2 same.1)

  module _ (s : Scope) (spot : Spot) (d : Direction) (xs : List (Signal Meant))
      (h : IsSound functions s) (is : AreSignalsScoped d s xs) (r : Run)
      (st : Stands q.context.make given start None r) (fresh : Fresh s.signals r.known) where
    abbrev before : List (Simple Meant)
    before =
        (lift_simple q.context.program q.context.named_components (Signals d xs)
        (length r.known.frame.components)).before

    abbrev declares : Simple Meant
    declares =
        (lift_simple q.context.program q.context.named_components (Signals d xs)
        (length r.known.frame.components)).value

    lifts : AllByRecursion (IsLifted All) before
        × LiftedAs All q.context.program q.context.named_components (Signals d xs) declares
    lifts =
        simple_lifted All q.context.program q.context.named_components (Signals d xs)
        (length r.known.frame.components)
        (simple_wide given start functions q sounds bodies s (Signals d xs) h is)

    value_goes : (r1 : Run) → (ys : List (Signal Meant)) → Stands q.context.make given start None r1
        → Fresh s.signals r1.known
        → AllByRecursion (λ x. IsSignalValueMeant All x.value) ys
        → InTurn d s.signals ys
        → ((z : State) → simple.execute_counted q.context spot (Signals d ys) r1.known ≡ Ok z
        → Shapes given z)
        → Goes Then (simple.execute_counted q.context spot (Signals d ys) r1.known)
        (run_execute_counted q spot (Signals d ys) r1)
    value_goes r1 ys st1 fresh1 values turn shapes =
        goes_if_ok Then (simple.execute_counted q.context spot (Signals d ys) r1.known) _
        (λ z ez.
        goes_as Then Then (simple.each (simple.signal_declaration q.context spot d) ys r1.known)
        (run_each (run_signal q spot d) ys r1) (counted (at q.context spot)) (run_counted q spot)
        (signals_goes given start functions q sounds bodies sized spot d s.signals ys r1 turn values
        st1
        fresh1 (λ t et. behind_shapes z ez t et)) (λ t r2 et p.
        subst (λ u. Goes Then (counted (at q.context spot) u) (run_counted q spot r2)) p.0
        (counted_goes q.context.make given start All q sounds spot r2 p.1)))
      where
        behind_shapes : (z : State)
            → simple.execute_counted q.context spot (Signals d ys) r1.known ≡ Ok z → (t : State)
            → simple.each (simple.signal_declaration q.context spot d) ys r1.known ≡ Ok t
            → Shapes given t
        behind_shapes z ez t et n e there =
            let ends : counted (at q.context spot) t ≡ Ok z =
            sym (ap (λ m. next m (counted (at q.context spot))) et) ∙ ez in
            let like : Like t z =
            good_is (λ u. Like t u) (counted (at q.context spot) t) z ends
            (counted_like t (at q.context spot) t (like_itself t)) in
            shapes z ez n e (ap (λ es. entry_at es n) like.1 ∙ there)

    declaring_goes : ((z : State) → simple.simple q.context spot (Signals d xs) r.known ≡ Ok z
        → Shapes given z)
        → Goes Then (simple.simple q.context spot (Signals d xs) r.known)
        (run_simple q spot (Signals d xs) r)
    declaring_goes shapes =
        goes_as Then Then (simple.each (simple.execute_counted q.context spot) before r.known)
        (run_each (run_execute_counted q spot) before r)
        (simple.execute_counted q.context spot declares) (run_execute_counted q spot declares)
        (each_goes given start All q sounds bodies (IsQuietSimple All)
        (simple.execute_counted q.context spot) (run_execute_counted q spot) before r
        (lifted_quiet given start functions q sounds bodies before lifts.0)
        (λ y r1 iy st1. one_goes given start All q sounds bodies spot y r1 iy st1) st)
        (λ t r1 et p.
        subst (λ u. Goes Then (simple.execute_counted q.context spot declares u)
        (run_execute_counted q spot declares r1)) p.0
        (value_goes r1 _ p.1
        (subst (Fresh s.signals) (sym p.0) (λ n le.
        good_is (λ u. entry_at u.frame.signals n ≡ None)
        (simple.each (simple.execute_counted q.context spot) before r.known) t et
        (each_kept q.context sounds.keeps n (Entry n IsNone none_marked)
        (entry_closed n IsNone none_marked q.context) spot before r.known
        (lifted_not All n before lifts.0) (fresh n le)))) lifts.1.0
        (in_turn d s xs _ is lifts.1.1.1)
        (λ z ez. shapes z (ap (λ m. next m (simple.execute_counted q.context spot declares)) et
        ∙ subst (λ u. simple.execute_counted q.context spot declares u ≡ Ok z) p.0 ez))))

  -- statements
  unknown : (s : Scope) (spot : Spot) (fault : Option Fault) (a : Statement Spot Meant)
      → IsSound functions s → IsScoped s a
      → Runs s.signals (λ t. goes (undecided q.context spot fault a t))
      (run_undecided q spot fault a)
  unknown s spot fault a h is r st fresh shapes =
      undecided_flow given start All q sounds bodies spot fault a
      (real given start functions q sounds bodies s spot fault a h is) r st

  -- behind the first of some statements
  rest_flow : (s : Scope) (a : Statement Spot Meant) (rest : Statements Spot Meant)
      → IsSound functions s → IsScoped s a → (r : Run) → Fresh s.signals r.known
      → ((u : State) → exec_all q.context (then_more a rest) r.known ≡ Ok (Going u)
      → Shapes given u)
      → Runs (behind s a).signals (exec_all q.context rest) (run_all q rest)
      → (f : Flow) (r1 : Run) → exec q.context a r.known ≡ Ok f → Flow' f r1
      → Goes Flow' (going f (exec_all q.context rest)) (run_all q rest r1)
  rest_flow s a rest h is r fresh shapes flows (Going t) r1 ef p =
      subst (λ u. Goes Flow' (exec_all q.context rest u) (run_all q rest r1)) p.0
      (flows r1 p.1
      (subst (Fresh (behind s a).signals) (sym p.0) (fresh_behind s a r.known t h is ef fresh))
      (λ u eu. shapes u (ap (λ m. next m (λ f. going f (exec_all q.context rest))) ef
      ∙ subst (λ v. exec_all q.context rest v ≡ Ok (Going u)) p.0 eu)))
  rest_flow s a rest h is r fresh shapes flows (Returned d world) r1 ef p = absurd p

  quiet : (s : Scope) (spot : Spot) (x : Simple Meant) → IsSound functions s → IsSimpleScoped s x
      → NoneDeclared x → (r : Run) → Stands q.context.make given start None r
      → Goes Flow' (exec q.context (Ended spot x) r.known) (run q (Ended spot x) r)
  quiet s spot x h is none r st =
      exec_flow given start All q sounds bodies (Ended spot x)
      (simple_quiet given start functions q sounds bodies s x h is none) r st

  mutual
    pub statement_flow : (s : Scope) (a : Statement Spot Meant) → IsSound functions s
        → IsScoped s a → Runs s.signals (exec q.context a) (run q a)
    statement_flow s (Block spot ss) h is r st fresh shapes =
        counted_flow given start functions q sounds bodies sized s.signals spot
        (exec_all q.context ss)
        (run_all q ss) (statements_flow s ss h is) r st fresh shapes
    statement_flow s (If spot c a) h is r st fresh shapes =
        counted_flow given start functions q sounds bodies sized s.signals spot _ _
        (condition_flow given start functions q sounds bodies sized s.signals spot c
        (λ t. Ok (Going t)) (exec q.context a) _ (λ r1. Ok r1) (run q a) _
        (λ r1 st1 fresh1 shapes1. goes_ok Flow' (Going r1.known) r1 (refl, st1))
        (statement_flow s a h is.1)
        (unknown s spot (fault_of a) (If spot c a) h is)) r st fresh shapes
    statement_flow s (IfElse spot c a b) h is r st fresh shapes =
        counted_flow given start functions q sounds bodies sized s.signals spot _ _
        (condition_flow given start functions q sounds bodies sized s.signals spot c
        (exec q.context b) (exec q.context a) _ (run q b) (run q a) _
        (λ r1 st1 fresh1 shapes1.
        let more : s.signals ≤ (behind s a).signals = (grows s a).signals in
        statement_flow (closed s (behind s a)) b
        (sound_closed functions s (behind s a) (grows s a) h) is.2 r1 st1
        (λ n le. fresh1 n (omega arith)) shapes1) (statement_flow s a h is.1)
        (unknown s spot (first_of (fault_of a) (fault_of b)) (IfElse spot c a b) h is)) r st fresh
        shapes
    statement_flow s (While spot c a) h is r st fresh shapes =
        exec_flow given start All q sounds bodies (While spot c a)
        (statement_quiet given start functions q sounds bodies s (While spot c a) h is is.2) r st
    statement_flow s (For spot first_spot f c step_spot a body) h is r st fresh shapes =
        exec_flow given start All q sounds bodies (For spot first_spot f c step_spot a body)
        (statement_quiet given start functions q sounds bodies s
        (For spot first_spot f c step_spot a body) h is is.4) r st
    statement_flow s (Return spot e) h is r st fresh shapes = absurd is
    statement_flow s (Assert spot e) h is r st fresh shapes =
        exec_flow given start All q sounds bodies (Assert spot e)
        (statement_quiet given start functions q sounds bodies s (Assert spot e) h is refl) r st
    statement_flow s (Log spot arguments) h is r st fresh shapes =
        exec_flow given start All q sounds bodies (Log spot arguments)
        (statement_quiet given start functions q sounds bodies s (Log spot arguments) h is refl) r
        st
    statement_flow s (Ended spot (Signals d xs)) h is r st fresh shapes =
        goes_flow q.context.make given start All q sounds
        (simple.simple q.context spot (Signals d xs) r.known) (run_simple q spot (Signals d xs) r)
        (declaring_goes s spot d xs h is r st fresh
        (λ z ez. shapes z (ap goes ez)))
    statement_flow s (Ended spot (Vars vs)) h is r st fresh shapes =
        quiet s spot (Vars vs) h is tt r st
    statement_flow s (Ended spot (Declared cs)) h is r st fresh shapes =
        quiet s spot (Declared cs) h is tt r st
    statement_flow s (Ended spot (Created name m e)) h is r st fresh shapes =
        quiet s spot (Created name m e) h is tt r st
    statement_flow s (Ended spot (Assigned a)) h is r st fresh shapes =
        quiet s spot (Assigned a) h is tt r st
    statement_flow s (Ended spot (Constrain a b)) h is r st fresh shapes =
        quiet s spot (Constrain a b) h is tt r st
    statement_flow s (Ended spot (Right e arrow name m accessors)) h is r st fresh shapes =
        quiet s spot (Right e arrow name m accessors) h is tt r st
    statement_flow s (Ended spot (TargetLeft target arrow source)) h is r st fresh shapes =
        quiet s spot (TargetLeft target arrow source) h is tt r st
    statement_flow s (Ended spot (TargetRight source arrow target)) h is r st fresh shapes =
        quiet s spot (TargetRight source arrow target) h is tt r st
    statement_flow s (Ended spot (Alone parallel name m arguments inputs)) h is r st fresh shapes =
        quiet s spot (Alone parallel name m arguments inputs) h is tt r st

    pub statements_flow : (s : Scope) (ss : Statements Spot Meant) → IsSound functions s
        → AreScoped s ss → Runs s.signals (exec_all q.context ss) (run_all q ss)
    statements_flow s empty h is r st fresh shapes = goes_ok Flow' (Going r.known) r (refl, st)
    statements_flow s (then_more a rest) h is r st fresh shapes =
        goes_if_ok Flow' (exec_all q.context (then_more a rest) r.known) _ (λ z ez.
        goes_as Flow' Flow' (exec q.context a r.known) (run q a r)
        (λ f. going f (exec_all q.context rest)) (run_all q rest)
        (statement_flow s a h is.0 r st fresh (λ t et.
        let ends : exec_all q.context rest t ≡ Ok z =
        sym (ap (λ m. next m (λ f. going f (exec_all q.context rest))) et) ∙ ez in
        let last : (u : State) × (z ≡ Going u) =
        goes_on_all (behind s a) rest t z (sound functions s a h) is.1 ends in
        shapes_before given (behind s a).signals t last.0
        (fresh_behind s a r.known t h is.0 et fresh)
        (through_all (behind s a) rest t last.0 (sound functions s a h) is.1
        (ends ∙ ap (λ x. Ok x) last.1))
        (shapes last.0 (ez ∙ ap (λ x. Ok x) last.1))))
        (λ f r1 ef p. rest_flow s a rest h is.0 r fresh shapes
        (statements_flow (behind s a) rest (sound functions s a h) is.1) f r1 ef p))
