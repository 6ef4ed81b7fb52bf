-- Statements whose names are in scope, and that declare no signal, are quiet: their run goes on.
use Rattle.std.proofs.Common.{◌≡◌, ℕ, ◌+◌, ◌≤◌, true, List, [], ◌∷◌, Option, Some, refl, sym, subst}
use Rattle.std.proofs.Common.{arith}
use Rattle.cir_meaning.proofs.Standing.{Start}
use Rattle.std.specs.Prelude.{⊤}
use Rattle.std.specs.List.{AllByRecursion}
use Rattle.cir_ast.specs.declared.operators.Direction.{Direction}
use Rattle.cir_ast.specs.declared.program.Spot.{Spot}
use Rattle.cir_ast.specs.declared.program.Meant.{Meant}
use Rattle.cir_ast.specs.declared.program.Meant.TheVariants as meant
use Rattle.cir_ast.specs.Tree.{Expr, done, Variable, Signal, Set, Compound, Left, Increment}
use Rattle.cir_ast.specs.Tree.{Decrement, First, FirstVars, FirstAssign, One, Values, Simple, Vars}
use Rattle.cir_ast.specs.Tree.{Signals, Declared, Created, Assigned, Constrain, Right, TargetLeft}
use Rattle.cir_ast.specs.Tree.{TargetRight, Alone, Statement, Block, If, IfElse, While, For, Return}
use Rattle.cir_ast.specs.Tree.{Assert, Log, Ended, Statements, empty, then_more}
use Rattle.cir_meaning.specs.Scoped.{Scope, IsSetMeant, with_variable, IsOptionMeant}
use Rattle.cir_meaning.specs.Scoped.{AreVariablesScoped, with_variables, with_signal}
use Rattle.cir_meaning.specs.Scoped.{AreSignalsScoped, with_signals, IsSimpleScoped, behind_simple}
use Rattle.cir_meaning.specs.Scoped.{IsFirstScoped, behind_first, closed, behind, behind_all}
use Rattle.cir_meaning.specs.Scoped.{IsScoped, AreScoped, IsSignalValueMeant}
use Rattle.cir_meaning.specs.Unknown.{Fault, first_of, assign_fault, fault_of}
use Rattle.cir_meaning.specs.Anonymous.{lift_simple}
use Rattle.cir_meaning.specs.Statement.{loop_of, first_simple}
use Rattle.cir_meaning.specs.Run.{Wires}
use Rattle.cir_meaning.specs.RunSimple.{Running}
use Rattle.cir_meaning.proofs.VariableRuns.{Soundly}
use Rattle.cir_meaning.proofs.Starting.{BodiesRun}
use Rattle.cir_meaning.proofs.QuietRuns.{IsQuietSimple, IsQuietLifted, IsReal, IsQuiet, AreQuiet}
use Rattle.cir_meaning.proofs.ScopeLaws.{grows_signals, grows, grows_all, IsSound, sound_variable}
use Rattle.cir_meaning.proofs.ScopeLaws.{sound_first, sound_closed, sound}
use Rattle.cir_meaning.proofs.UndecidedReal.{undecided_real}
use Rattle.cir_meaning.proofs.WiderScopes.{Wider, wide, wide_inputs, wide_assign, wide_value}
use Rattle.cir_meaning.proofs.WiderScopes.{wide_source, wide_arguments}
use Rattle.cir_meaning.proofs.LiftedStatements.{IsLifted, IsWide, SameMeants, SameSignals, LiftedAs}
use Rattle.cir_meaning.proofs.LiftedStatements.{simple_lifted}

-- where all variables are in scope
abbrev pub everything : ℕ → Scope
everything functions =
    record { functions = functions; seen = λ n. true; variables = 0; signals = 0 }

pub everything_wider : (functions : ℕ) (s : Scope) → IsSound functions s
    → Wider s (everything functions)
everything_wider functions s h = (h.count, λ n e. refl)

-- no signal is declared
abbrev pub NoneDeclared : Simple Meant → Type 0
NoneDeclared (Signals d xs) = xs ≡ []
NoneDeclared _ = ⊤

none_declared : (s : Scope) (x : Simple Meant) → (behind_simple s x).signals ≡ s.signals
    → NoneDeclared x
none_declared s (Signals d []) e = refl
none_declared s (Signals d (x ∷ xs)) e =
    let more : s.signals + 1 ≤ (with_signals (with_signal s) xs).signals =
    (grows_signals (with_signal s) xs).signals in absurd (omega arith)
none_declared s (Vars vs) e = tt
none_declared s (Declared cs) e = tt
none_declared s (Created name m f) e = tt
none_declared s (Assigned a) e = tt
none_declared s (Constrain a b) e = tt
none_declared s (Right f arrow name m accessors) e = tt
none_declared s (TargetLeft target arrow source) e = tt
none_declared s (TargetRight source arrow target) e = tt
none_declared s (Alone parallel name m arguments inputs) e = tt

pub first_scoped : (s : Scope) (f : First Meant) → IsFirstScoped s f
    → IsSimpleScoped s (first_simple f)
first_scoped s (FirstVars vs) h = h
first_scoped s (FirstAssign a) h = h

first_none : (f : First Meant) → NoneDeclared (first_simple f)
first_none (FirstVars vs) = tt
first_none (FirstAssign a) = tt

variables_signals : (s : Scope) (vs : List (Variable Meant))
    → (with_variables s vs).signals ≡ s.signals
variables_signals s [] = refl
variables_signals s (v ∷ vs) = variables_signals (with_variable s) vs

pub first_signals : (s : Scope) (f : First Meant) → (behind_first s f).signals ≡ s.signals
first_signals s (FirstVars vs) = variables_signals s vs
first_signals s (FirstAssign a) = refl

module _ (given : Wires) (start : Start) (functions : ℕ) (q : Running)
    (sounds : Soundly (everything functions) q)
    (bodies : BodiesRun start.size q.context.make q.body) where
  abbrev All : Scope
  All = everything functions

  abbrev Wide : Simple Meant → Type 0
  Wide = IsWide All q.context.program q.context.named_components

  abbrev As : Simple Meant → Simple Meant → Type 0
  As = LiftedAs All q.context.program q.context.named_components

  initial_wide : (s : Scope) (v : Variable Meant) (n : ℕ) → IsSound functions s
      → v.meant ≡ meant.Variable n → IsOptionMeant s v.value → (e : Expr Meant)
      → v.value ≡ Some e → IsSetMeant All v.meant done e
  initial_wide s v n h is value e some =
      subst (λ m. IsSetMeant All m done e) (sym is)
      (refl, tt, wide s All (everything_wider functions s h) e (subst (IsOptionMeant s) some value))

  variables_wide : (s : Scope) (vs : List (Variable Meant)) → IsSound functions s
      → AreVariablesScoped s vs
      → AllByRecursion (λ v. (e : Expr Meant) → v.value ≡ Some e → IsSetMeant All v.meant done e) vs
  variables_wide s [] h is = tt
  variables_wide s (v ∷ vs) h is = (
    initial_wide (with_variable s) v s.variables (sound_variable functions s h) is.0.0 is.0.2,
    variables_wide (with_variable s) vs (sound_variable functions s h) is.1,
  )

  signals_wide : (d : Direction) (s : Scope) (xs : List (Signal Meant)) → IsSound functions s
      → AreSignalsScoped d s xs
      → AllByRecursion (λ x. IsSignalValueMeant All x.value) xs
  signals_wide d s [] h is = tt
  signals_wide d s (x ∷ xs) h is = (
    wide_value s All (everything_wider functions s h) x.value is.1,
    signals_wide d (with_signal s) xs record { count = h.count; below = h.below } is.2,
  )

  pub simple_wide : (s : Scope) (x : Simple Meant) → IsSound functions s → IsSimpleScoped s x
      → Wide x
  simple_wide s (Vars vs) h is = variables_wide s vs h is
  simple_wide s (Signals d xs) h is = signals_wide d s xs h is
  simple_wide s (Declared cs) h is = tt
  simple_wide s (Created name m e) h is = tt
  simple_wide s (Assigned a) h is = wide_assign s All (everything_wider functions s h) a is
  simple_wide s (Constrain a b) h is = (
    wide s All (everything_wider functions s h) a is.0,
    wide s All (everything_wider functions s h) b is.1,
  )
  simple_wide s (Right e arrow name m accessors) h is =
      wide s All (everything_wider functions s h) e is
  simple_wide s (TargetLeft target arrow source) h is =
      wide_source s All (everything_wider functions s h) source is
  simple_wide s (TargetRight source arrow target) h is =
      wide_source s All (everything_wider functions s h) source is
  simple_wide s (Alone parallel name m arguments inputs) h is =
      wide_inputs s All (everything_wider functions s h) inputs is

  pub lifted_quiet : (xs : List (Simple Meant)) → AllByRecursion (IsLifted All) xs
      → AllByRecursion (IsQuietSimple All) xs
  lifted_quiet [] h = tt
  lifted_quiet (x ∷ xs) h = (one x h.0, lifted_quiet xs h.1)
    where
      one : (x : Simple Meant) → IsLifted All x → IsQuietSimple All x
      one (Created name m e) g = tt
      one (Assigned (Left name m accessors arrow e)) g = g
      one (Assigned (Set name m accessors e)) g = absurd g
      one (Assigned (Compound name m accessors op e)) g = absurd g
      one (Assigned (Increment name m accessors)) g = absurd g
      one (Assigned (Decrement name m accessors)) g = absurd g
      one (Vars vs) g = absurd g
      one (Signals d ys) g = absurd g
      one (Declared cs) g = absurd g
      one (Constrain a b) g = absurd g
      one (Right e arrow name m accessors) g = absurd g
      one (TargetLeft target arrow source) g = absurd g
      one (TargetRight source arrow target) g = absurd g
      one (Alone parallel name m arguments inputs) g = absurd g

  none_left : (x : Simple Meant) (d : Direction) (ys : List (Signal Meant))
      → SameSignals All q.context.program q.context.named_components x (Signals d ys)
      → NoneDeclared x → ys ≡ []
  none_left (Signals e xs) d ys h none = at xs ys none h.1
    where
      at : (xs ys : List (Signal Meant)) → xs ≡ []
          → SameMeants All q.context.program q.context.named_components xs ys → ys ≡ []
      at [] [] e g = refl
      at [] (y ∷ zs) e g = absurd g
      at (x ∷ xs) ys e g = cc
  none_left (Vars vs) d ys h none = absurd h
  none_left (Declared cs) d ys h none = absurd h
  none_left (Created name m e) d ys h none = absurd h
  none_left (Assigned a) d ys h none = absurd h
  none_left (Constrain a b) d ys h none = absurd h
  none_left (Right e arrow name m accessors) d ys h none = absurd h
  none_left (TargetLeft target arrow source) d ys h none = absurd h
  none_left (TargetRight source arrow target) d ys h none = absurd h
  none_left (Alone parallel name m arguments inputs) d ys h none = absurd h

  value_quiet : (x y : Simple Meant) → As x y → NoneDeclared x → IsQuietSimple All y
  value_quiet x (Vars vs) h none = h.0
  value_quiet x (Signals d ys) h none = none_left x d ys h.1 none
  value_quiet x (Declared cs) h none = tt
  value_quiet x (Created name m e) h none = tt
  value_quiet x (Assigned a) h none = h.0
  value_quiet x (Constrain a b) h none = h.0
  value_quiet x (Right e arrow name m accessors) h none = tt
  value_quiet x (TargetLeft target arrow (One e)) h none = (h.0, tt)
  value_quiet x (TargetLeft target arrow (Values es)) h none = h.0
  value_quiet x (TargetRight source arrow target) h none = tt
  value_quiet x (Alone parallel name m arguments inputs) h none = tt

  pub simple_quiet : (s : Scope) (x : Simple Meant) → IsSound functions s → IsSimpleScoped s x
      → NoneDeclared x → IsQuietLifted given start All q sounds bodies x
  simple_quiet s x h is none components =
      let lifts : AllByRecursion (IsLifted All)
      (lift_simple q.context.program q.context.named_components x components).before
      × As x (lift_simple q.context.program q.context.named_components x components).value =
      simple_lifted All q.context.program q.context.named_components x components
      (simple_wide s x h is) in (
        lifted_quiet
            (lift_simple q.context.program q.context.named_components x components).before lifts.0,
        value_quiet x
            (lift_simple q.context.program q.context.named_components x components).value lifts.1
            none,
      )

  pub real : (s : Scope) (spot : Spot) (fault : Option Fault) (a : Statement Spot Meant)
      → IsSound functions s → IsScoped s a → IsReal given start All q sounds bodies spot fault a
  real s spot fault a h is r st t et =
      undecided_real q.context.make given start q sounds.fine sounds.both sounds.keeps functions
      sounds.calls spot fault a s h is r st t et

  mutual
    pub statement_quiet : (s : Scope) (a : Statement Spot Meant) → IsSound functions s
        → IsScoped s a → (behind s a).signals ≡ s.signals
        → IsQuiet given start All q sounds bodies a
    statement_quiet s (Block spot ss) h is none = statements_quiet s ss h is none
    statement_quiet s (If spot c a) h is none =
        (real s spot (fault_of a) (If spot c a) h is, statement_quiet s a h is.1 none)
    statement_quiet s (IfElse spot c a b) h is none =
        let first : s.signals ≤ (behind s a).signals = (grows s a).signals in
        let second : (behind s a).signals ≤ (behind (closed s (behind s a)) b).signals =
        (grows (closed s (behind s a)) b).signals in (
          real s spot (first_of (fault_of a) (fault_of b)) (IfElse spot c a b) h is,
          statement_quiet s a h is.1 (omega arith),
          statement_quiet (closed s (behind s a)) b
              (sound_closed functions s (behind s a) (grows s a) h) is.2 (omega arith),
        )
    statement_quiet s (While spot c a) h is none =
        (real s spot (fault_of a) (While spot c a) h is, statement_quiet s a h is.1 is.2)
    statement_quiet s (For spot first_spot f c step_spot a body) h is none =
        let same : (behind_first s f).signals ≡ s.signals = first_signals s f in
        let inner : (behind (behind_first s f) body).signals ≡ (behind_first s f).signals =
        omega arith in (
          real (behind_first s f) spot (first_of (assign_fault step_spot a) (fault_of body))
              (loop_of spot c body step_spot a) (sound_first functions s f h)
              (is.1, (is.2, (is.3, tt)), inner),
          simple_quiet s (first_simple f) h (first_scoped s f is.0) (first_none f),
          simple_quiet (behind (behind_first s f) body) (Assigned a)
              (sound functions (behind_first s f) body (sound_first functions s f h)) is.3 tt,
          statement_quiet (behind_first s f) body (sound_first functions s f h) is.2 inner,
        )
    statement_quiet s (Return spot e) h is none = absurd is
    statement_quiet s (Assert spot e) h is none =
        wide s All (everything_wider functions s h) e is
    statement_quiet s (Log spot arguments) h is none =
        wide_arguments s All (everything_wider functions s h) arguments is
    statement_quiet s (Ended spot x) h is none =
        simple_quiet s x h is (none_declared s x none)

    statements_quiet : (s : Scope) (ss : Statements Spot Meant) → IsSound functions s
        → AreScoped s ss → (behind_all s ss).signals ≡ s.signals
        → AreQuiet given start All q sounds bodies ss
    statements_quiet s empty h is none = tt
    statements_quiet s (then_more a rest) h is none =
        let first : s.signals ≤ (behind s a).signals = (grows s a).signals in
        let others : (behind s a).signals ≤ (behind_all (behind s a) rest).signals =
        (grows_all (behind s a) rest).signals in (
          statement_quiet s a h is.0 (omega arith),
          statements_quiet (behind s a) rest (sound functions s a h) is.1 (omega arith),
        )
