-- A statement declares the signals of the numbers that the text gives it, and no others.
use Rattle.std.proofs.Common.{◌≡◌, ◌⊎◌, inl, inr, ℕ, ◌+◌, ◌<◌, ◌≤◌, List, [], ◌∷◌, sym, subst}
use Rattle.std.proofs.Common.{arith}
use Rattle.cir_meaning.proofs.Standing.{Start}
use Rattle.std.specs.List.{AllByRecursion}
use Rattle.cir_ast.specs.declared.operators.Direction.{Direction}
use Rattle.cir_ast.specs.declared.program.Spot.{Spot}
use Rattle.cir_ast.specs.declared.program.Meant.{Meant}
use Rattle.cir_ast.specs.Tree.{Signal, First, FirstVars, FirstAssign, Simple, Vars, Signals}
use Rattle.cir_ast.specs.Tree.{Declared, Created, Assigned, Constrain, Right, TargetLeft}
use Rattle.cir_ast.specs.Tree.{TargetRight, Alone, Statement, Block, If, IfElse, While, For, Return}
use Rattle.cir_ast.specs.Tree.{Assert, Log, Ended, Statements, empty, then_more}
use Rattle.cir_meaning.specs.Scoped.{Scope, with_signal, AreSignalsScoped, with_signals}
use Rattle.cir_meaning.specs.Scoped.{IsSimpleScoped, behind_simple, behind_first, closed, behind}
use Rattle.cir_meaning.specs.Scoped.{behind_all, IsScoped, AreScoped}
use Rattle.cir_meaning.specs.Anonymous.{lift_simple}
use Rattle.cir_meaning.specs.Statement.{first_simple}
use Rattle.cir_meaning.specs.Run.{Wires}
use Rattle.cir_meaning.specs.RunSimple.{Running}
use Rattle.cir_meaning.proofs.VariableRuns.{Soundly}
use Rattle.cir_meaning.proofs.Starting.{BodiesRun}
use Rattle.cir_meaning.proofs.Keeping.{NotNumber, NotSimple}
use Rattle.cir_meaning.proofs.KeepingStatements.{NotLifted, NotDeclared, AreNotDeclared}
use Rattle.cir_meaning.proofs.ScopeLaws.{grows_first, grows_signals, grows, grows_all, IsSound}
use Rattle.cir_meaning.proofs.ScopeLaws.{sound_first, sound_closed, sound}
use Rattle.cir_meaning.proofs.LiftedStatements.{IsLifted, SameMeants, SameSignals, LiftedAs}
use Rattle.cir_meaning.proofs.LiftedStatements.{simple_lifted}
use Rattle.cir_meaning.proofs.ScopedQuiet.{everything, first_scoped, simple_wide}

-- a number that isn't given between
abbrev pub Outside : Scope → Scope → ℕ → Type 0
Outside s t n = (n < s.signals) ⊎ (t.signals ≤ n)

outside_left : (s m t : Scope) (n : ℕ) → m.signals ≤ t.signals → Outside s t n → Outside s m n
outside_left s m t n le (inl h) = inl h
outside_left s m t n le (inr h) = inr (omega arith)

outside_right : (s m t : Scope) (n : ℕ) → s.signals ≤ m.signals → Outside s t n → Outside m t n
outside_right s m t n le (inl h) = inl (omega arith)
outside_right s m t n le (inr h) = inr h

pub signals_not : (d : Direction) (s : Scope) (xs : List (Signal Meant)) (n : ℕ)
    → AreSignalsScoped d s xs → Outside s (with_signals s xs) n
    → AllByRecursion (λ x. NotNumber n x.meant) xs
signals_not d s [] n is out = tt
signals_not d s (x ∷ xs) n is out =
    let more : s.signals + 1 ≤ (with_signals (with_signal s) xs).signals =
    (grows_signals (with_signal s) xs).signals in (
      subst (λ m. NotNumber n m) (sym is.0) (λ e. apart out e more),
      signals_not d (with_signal s) xs n is.2
          (outside_right s (with_signal s) (with_signals (with_signal s) xs) n (omega arith) out),
    )
  where
    apart : Outside s (with_signals (with_signal s) xs) n → s.signals ≡ n
        → s.signals + 1 ≤ (with_signals (with_signal s) xs).signals → ⊥
    apart (inl h) e more = absurd (omega arith)
    apart (inr h) e more = absurd (omega arith)

pub simple_not : (s : Scope) (x : Simple Meant) (n : ℕ) → IsSimpleScoped s x
    → Outside s (behind_simple s x) n → NotSimple n x
simple_not s (Signals d xs) n is out = signals_not d s xs n is out
simple_not s (Vars vs) n is out = tt
simple_not s (Declared cs) n is out = tt
simple_not s (Created name m e) n is out = tt
simple_not s (Assigned a) n is out = tt
simple_not s (Constrain a b) n is out = tt
simple_not s (Right e arrow name m accessors) n is out = tt
simple_not s (TargetLeft target arrow source) n is out = tt
simple_not s (TargetRight source arrow target) n is out = tt
simple_not s (Alone parallel name m arguments inputs) n is out = tt

first_not : (f : First Meant) (n : ℕ) → NotSimple n (first_simple f)
first_not (FirstVars vs) n = tt
first_not (FirstAssign a) n = tt

-- what is lifted declares none
pub lifted_not : (s : Scope) (n : ℕ) (xs : List (Simple Meant)) → AllByRecursion (IsLifted s) xs
    → AllByRecursion (NotSimple n) xs
lifted_not s n [] h = tt
lifted_not s n (x ∷ xs) h = (one x h.0, lifted_not s n xs h.1)
  where
    one : (x : Simple Meant) → IsLifted s x → NotSimple n x
    one (Created name m e) g = tt
    one (Assigned a) g = tt
    one (Vars vs) g = tt
    one (Signals d ys) g = absurd g
    one (Declared cs) g = tt
    one (Constrain a b) g = tt
    one (Right e arrow name m accessors) g = tt
    one (TargetLeft target arrow source) g = tt
    one (TargetRight source arrow target) g = tt
    one (Alone parallel name m arguments inputs) g = tt

module _ (given : Wires) (start : Start) (functions : ℕ) (q : Running)
    (sounds : Soundly (everything functions) q)
    (bodies : BodiesRun start.size q.context.make q.body) where
  abbrev All : Scope
  All = everything functions

  abbrev Same : Simple Meant → Simple Meant → Type 0
  Same = SameSignals All q.context.program q.context.named_components

  value_not : (n : ℕ) (x y : Simple Meant) → Same x y → NotSimple n x → NotSimple n y
  value_not n (Signals d xs) (Signals e ys) h ne = at xs ys h.1 ne
    where
      at : (xs ys : List (Signal Meant))
          → SameMeants All q.context.program q.context.named_components xs ys
          → AllByRecursion (λ x. NotNumber n x.meant) xs
          → AllByRecursion (λ x. NotNumber n x.meant) ys
      at [] [] g ne = tt
      at [] (y ∷ zs) g ne = absurd g
      at (x ∷ xs) [] g ne = absurd g
      at (x ∷ xs) (y ∷ zs) g ne =
          (subst (λ m. NotNumber n m) (sym g.0) ne.0, at xs zs g.1 ne.1)
  value_not n (Vars vs) (Signals e ys) h ne = absurd h
  value_not n (Declared cs) (Signals e ys) h ne = absurd h
  value_not n (Created name m f) (Signals e ys) h ne = absurd h
  value_not n (Assigned a) (Signals e ys) h ne = absurd h
  value_not n (Constrain a b) (Signals e ys) h ne = absurd h
  value_not n (Right f arrow name m accessors) (Signals e ys) h ne = absurd h
  value_not n (TargetLeft target arrow source) (Signals e ys) h ne = absurd h
  value_not n (TargetRight source arrow target) (Signals e ys) h ne = absurd h
  value_not n (Alone parallel name m arguments inputs) (Signals e ys) h ne = absurd h
  value_not n x (Vars vs) h ne = tt
  value_not n x (Declared cs) h ne = tt
  value_not n x (Created name m e) h ne = tt
  value_not n x (Assigned a) h ne = tt
  value_not n x (Constrain a b) h ne = tt
  value_not n x (Right e arrow name m accessors) h ne = tt
  value_not n x (TargetLeft target arrow source) h ne = tt
  value_not n x (TargetRight source arrow target) h ne = tt
  value_not n x (Alone parallel name m arguments inputs) h ne = tt

  pub lifts_not : (s : Scope) (x : Simple Meant) (n : ℕ) → IsSound functions s
      → IsSimpleScoped s x → NotSimple n x → NotLifted q.context n x
  lifts_not s x n h is ne components =
      let lifts : AllByRecursion (IsLifted All)
      (lift_simple q.context.program q.context.named_components x components).before
      × LiftedAs All q.context.program q.context.named_components x
      (lift_simple q.context.program q.context.named_components x components).value =
      simple_lifted All q.context.program q.context.named_components x components
      (simple_wide given start functions q sounds bodies s x h is) in (
        lifted_not All n
            (lift_simple q.context.program q.context.named_components x components).before lifts.0,
        value_not n x
            (lift_simple q.context.program q.context.named_components x components).value lifts.1.1
            ne,
      )

  mutual
    pub not_declared : (s : Scope) (a : Statement Spot Meant) (n : ℕ) → IsSound functions s
        → IsScoped s a → Outside s (behind s a) n → NotDeclared q.context n a
    not_declared s (Block spot ss) n h is out = none_declared s ss n h is out
    not_declared s (If spot c a) n h is out = not_declared s a n h is.1 out
    not_declared s (IfElse spot c a b) n h is out = (
      not_declared s a n h is.1
          (outside_left s (behind s a) (behind (closed s (behind s a)) b) n
          (grows (closed s (behind s a)) b).signals out),
      not_declared (closed s (behind s a)) b n
          (sound_closed functions s (behind s a) (grows s a) h) is.2
          (outside_right s (behind s a) (behind (closed s (behind s a)) b) n (grows s a).signals
          out),
    )
    not_declared s (While spot c a) n h is out = not_declared s a n h is.1 out
    not_declared s (For spot first_spot f c step_spot a body) n h is out = (
      lifts_not s (first_simple f) n h (first_scoped s f is.0) (first_not f n),
      lifts_not (behind (behind_first s f) body) (Assigned a) n
          (sound functions (behind_first s f) body (sound_first functions s f h)) is.3 tt,
      not_declared (behind_first s f) body n (sound_first functions s f h) is.2
          (outside_right s (behind_first s f) (behind (behind_first s f) body) n
          (grows_first s f).signals out),
    )
    not_declared s (Return spot e) n h is out = absurd is
    not_declared s (Assert spot e) n h is out = tt
    not_declared s (Log spot arguments) n h is out = tt
    not_declared s (Ended spot x) n h is out = lifts_not s x n h is (simple_not s x n is out)

    pub none_declared : (s : Scope) (ss : Statements Spot Meant) (n : ℕ) → IsSound functions s
        → AreScoped s ss → Outside s (behind_all s ss) n → AreNotDeclared q.context n ss
    none_declared s empty n h is out = tt
    none_declared s (then_more a rest) n h is out = (
      not_declared s a n h is.0
          (outside_left s (behind s a) (behind_all (behind s a) rest) n
          (grows_all (behind s a) rest).signals out),
      none_declared (behind s a) rest n (sound functions s a h) is.1
          (outside_right s (behind s a) (behind_all (behind s a) rest) n (grows s a).signals out),
    )
