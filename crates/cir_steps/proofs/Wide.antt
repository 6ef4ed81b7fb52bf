-- Names of variables whose numbers are below a bound are in scope where all of these are.
use Rattle.std.proofs.Common.{◌≡◌, ℕ, ◌≤◌, true, List, [], ◌∷◌, Some, refl, sym, subst, arith}
use Rattle.std.specs.Prelude.{nat_lt, ◌==◌}
use Rattle.std.specs.List.{AllByRecursion}
use Rattle.std.proofs.lemmas.Bool.{lt-ltb, or_left, eq-eqb}
use Rattle.cir_ast.specs.declared.operators.Direction.{Direction}
use Rattle.cir_ast.specs.declared.program.Meant.{Meant}
use Rattle.cir_ast.specs.declared.program.Meant.TheVariants as meant
use Rattle.cir_ast.specs.Program.{Program}
use Rattle.cir_ast.specs.Tree.{Expr, done, Variable, Signal, Set, Compound, Left, Increment}
use Rattle.cir_ast.specs.Tree.{Decrement, Source, One, Values, Simple, Vars, Signals, Declared}
use Rattle.cir_ast.specs.Tree.{Created, Assigned, Constrain, Right, TargetLeft, TargetRight, Alone}
use Rattle.cir_meaning.specs.Scoped.{Scope, AreCallsMeant, IsSetMeant, with_variable, IsOptionMeant}
use Rattle.cir_meaning.specs.Scoped.{AreVariablesScoped, with_variables, with_signal}
use Rattle.cir_meaning.specs.Scoped.{IsSignalValueMeant, AreSignalsScoped, IsSourceMeant}
use Rattle.cir_meaning.specs.Scoped.{IsSimpleScoped, behind_simple}
use Rattle.cir_meaning.specs.Simple.{values_of}
use Rattle.cir_meaning.proofs.LiftedStatements.{IsLifted, IsWide}
use Rattle.cir_meaning.proofs.ScopeLaws.{IsSound, sound_variable, grows_variables, grows_signals}
use Rattle.cir_meaning.proofs.WiderScopes.{Wider, wide, wide_assign, wide_value, wide_source}
use Rattle.cir_meaning.proofs.WiderScopes.{wide_inputs}

abbrev pub below : (functions room : ℕ) → Scope
below functions room =
    record {
      functions = functions;
      seen = λ n. nat_lt n room;
      variables = room;
      signals = 0;
    }

pub below_wider : (functions room : ℕ) (s : Scope) → IsSound functions s → s.variables ≤ room
    → Wider s (below functions room)
below_wider functions room s h le =
    (h.count, λ n e. lt-ltb n room (omega (arith, h.below n e, le)))

module _ (s : Scope) (p : Program) (first : ℕ) where
  pub lifted_wide : (y : Simple Meant) → IsLifted s y → IsWide s p first y
  lifted_wide (Created name m a) h = tt
  lifted_wide (Assigned (Left name m accessors arrow a)) h = h
  lifted_wide (Assigned (Set name m accessors a)) h = absurd h
  lifted_wide (Assigned (Compound name m accessors op a)) h = absurd h
  lifted_wide (Assigned (Increment name m accessors)) h = absurd h
  lifted_wide (Assigned (Decrement name m accessors)) h = absurd h
  lifted_wide (Vars vs) h = absurd h
  lifted_wide (Signals d ys) h = absurd h
  lifted_wide (Declared cs) h = absurd h
  lifted_wide (Constrain a b) h = absurd h
  lifted_wide (Right a arrow name m accessors) h = absurd h
  lifted_wide (TargetLeft target arrow source) h = absurd h
  lifted_wide (TargetRight source arrow target) h = absurd h
  lifted_wide (Alone parallel name m arguments inputs) h = absurd h

pub values_meant : (s : Scope) (source : Source Meant) → IsSourceMeant s source
    → AllByRecursion (AreCallsMeant s) (values_of source)
values_meant s (One a) h = (h, tt)
values_meant s (Values es) h = h

module _ (functions room : ℕ) where
  abbrev All : Scope
  All = below functions room

  initial_wide : (s : Scope) (v : Variable Meant) (n : ℕ) → IsSound functions s
      → s.variables ≤ room → v.meant ≡ meant.Variable n → s.seen n ≡ true
      → IsOptionMeant s v.value → (e : Expr Meant) → v.value ≡ Some e
      → IsSetMeant All v.meant done e
  initial_wide s v n h le is seen value e some =
      subst (λ m. IsSetMeant All m done e) (sym is) (
        (below_wider functions room s h le).1 n seen,
        tt,
        wide s All (below_wider functions room s h le) e (subst (IsOptionMeant s) some value),
      )

  variables_wide : (s : Scope) (vs : List (Variable Meant)) → IsSound functions s
      → (with_variables s vs).variables ≤ room → AreVariablesScoped s vs
      → AllByRecursion (λ v. (e : Expr Meant) → v.value ≡ Some e → IsSetMeant All v.meant done e) vs
  variables_wide s [] h le is = tt
  variables_wide s (v ∷ vs) h le is = (
    initial_wide (with_variable s) v s.variables (sound_variable functions s h)
        (omega (arith, le, (grows_variables (with_variable s) vs).variables)) is.0.0
        (or_left (s.variables == s.variables) (s.seen s.variables)
        (eq-eqb s.variables s.variables refl)) is.0.2,
    variables_wide (with_variable s) vs (sound_variable functions s h) le is.1,
  )

  signals_wide : (d : Direction) (s : Scope) (xs : List (Signal Meant)) → IsSound functions s
      → s.variables ≤ room → AreSignalsScoped d s xs
      → AllByRecursion (λ x. IsSignalValueMeant All x.value) xs
  signals_wide d s [] h le is = tt
  signals_wide d s (x ∷ xs) h le is = (
    wide_value s All (below_wider functions room s h le) x.value is.1,
    signals_wide d (with_signal s) xs record { count = h.count; below = h.below } le is.2,
  )

  pub simple_wide : (p : Program) (first : ℕ) (s : Scope) (x : Simple Meant) → IsSound functions s
      → (behind_simple s x).variables ≤ room → IsSimpleScoped s x → IsWide All p first x
  simple_wide p first s (Vars vs) h le is = variables_wide s vs h le is
  simple_wide p first s (Signals d xs) h le is =
      signals_wide d s xs h (omega (arith, le, (grows_signals s xs).variables)) is
  simple_wide p first s (Declared cs) h le is = tt
  simple_wide p first s (Created name m e) h le is = tt
  simple_wide p first s (Assigned a) h le is =
      wide_assign s All (below_wider functions room s h le) a is
  simple_wide p first s (Constrain a b) h le is = (
    wide s All (below_wider functions room s h le) a is.0,
    wide s All (below_wider functions room s h le) b is.1,
  )
  simple_wide p first s (Right e arrow name m accessors) h le is =
      wide s All (below_wider functions room s h le) e is
  simple_wide p first s (TargetLeft target arrow source) h le is =
      wide_source s All (below_wider functions room s h le) source is
  simple_wide p first s (TargetRight source arrow target) h le is =
      wide_source s All (below_wider functions room s h le) source is
  simple_wide p first s (Alone parallel name m arguments inputs) h le is =
      wide_inputs s All (below_wider functions room s h le) inputs is
