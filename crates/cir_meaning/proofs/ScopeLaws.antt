-- What is in scope stays so, and declarations have the numbers behind those before.
use Rattle.std.proofs.Common.{◌≡◌, ℕ, ◌+◌, ◌≤◌, ◌<◌, Bool, true, false, List, [], ◌∷◌, ◌++◌, refl}
use Rattle.std.proofs.Common.{sym, subst, ◌∙◌, arith}
use Rattle.std.specs.Prelude.{◌==◌, ◌||◌}
use Rattle.std.specs.List.{list_any}
use Rattle.std.proofs.lemmas.Bool.{eqb-true}
use Rattle.cir_ast.specs.declared.program.Spot.{Spot}
use Rattle.cir_ast.specs.declared.program.Meant.{Meant}
use Rattle.cir_ast.specs.declared.program.Meant.TheVariants as meant
use Rattle.cir_ast.specs.Tree.{Expr, Accessors, Variable, Signal, First, FirstVars, FirstAssign}
use Rattle.cir_ast.specs.Tree.{Simple, Vars, Signals, Declared, Created, Assigned, Constrain, Right}
use Rattle.cir_ast.specs.Tree.{TargetLeft, TargetRight, Alone, Statement, Block, If, IfElse, While}
use Rattle.cir_ast.specs.Tree.{For, Return, Assert, Log, Ended, Statements, empty, then_more}
use Rattle.cir_meaning.specs.Scoped.{Scope, IsSeen, AreCallsMeant, AreIndicesMeant, IsSetMeant}
use Rattle.cir_meaning.specs.Scoped.{with_variable, AreVariablesScoped, with_variables, with_signal}
use Rattle.cir_meaning.specs.Scoped.{with_signals, IsSimpleScoped, behind_simple, IsFirstScoped}
use Rattle.cir_meaning.specs.Scoped.{behind_first, closed, behind, behind_all, IsScoped, AreScoped}
use Rattle.cir_meaning.specs.Unknown.{variable_of, vars_declare, first_declares, simple_declares}
use Rattle.cir_meaning.specs.Unknown.{declares, all_declares}
use Rattle.cir_meaning.proofs.Scans.{AllMay}

-- a scope that grows
pub record Grows (s t : Scope) : Type 0 where
  pub functions : t.functions ≡ s.functions
  pub seen : (n : ℕ) → s.seen n ≡ true → t.seen n ≡ true
  pub variables : s.variables ≤ t.variables
  pub signals : s.signals ≤ t.signals

pub grows_itself : (s : Scope) → Grows s s
grows_itself s = record {
  functions = refl;
  seen = λ n e. e;
  variables = omega arith;
  signals = omega arith;
}

pub grows_then : (s t u : Scope) → Grows s t → Grows t u → Grows s u
grows_then s t u h g =
    let v : s.variables ≤ t.variables = h.variables in
    let w : t.variables ≤ u.variables = g.variables in
    let x : s.signals ≤ t.signals = h.signals in
    let y : t.signals ≤ u.signals = g.signals in record {
      functions = g.functions ∙ h.functions;
      seen = λ n e. g.seen n (h.seen n e);
      variables = omega arith;
      signals = omega arith;
    }

or_right : (a b : Bool) → b ≡ true → (a || b) ≡ true
or_right true b e = refl
or_right false b e = e

pub grows_variable : (s : Scope) → Grows s (with_variable s)
grows_variable s = record {
  functions = refl;
  seen = λ n e. or_right (n == s.variables) (s.seen n) e;
  variables = omega arith;
  signals = omega arith;
}

pub grows_variables : (s : Scope) (vs : List (Variable Meant)) → Grows s (with_variables s vs)
grows_variables s [] = grows_itself s
grows_variables s (v ∷ vs) =
    grows_then s (with_variable s) (with_variables (with_variable s) vs) (grows_variable s)
    (grows_variables (with_variable s) vs)

pub grows_signals : (s : Scope) (xs : List (Signal Meant)) → Grows s (with_signals s xs)
grows_signals s [] = grows_itself s
grows_signals s (x ∷ xs) =
    grows_then s (with_signal s) (with_signals (with_signal s) xs) record {
      functions = refl;
      seen = λ n e. e;
      variables = omega arith;
      signals = omega arith;
    } (grows_signals (with_signal s) xs)

pub grows_closed : (s t : Scope) → Grows s t → Grows s (closed s t)
grows_closed s t h = record {
  functions = h.functions;
  seen = λ n e. e;
  variables = h.variables;
  signals = h.signals;
}

pub grows_simple : (s : Scope) (x : Simple Meant) → Grows s (behind_simple s x)
grows_simple s (Vars vs) = grows_variables s vs
grows_simple s (Signals d xs) = grows_signals s xs
grows_simple s (Declared cs) = grows_itself s
grows_simple s (Created name m e) = grows_itself s
grows_simple s (Assigned a) = grows_itself s
grows_simple s (Constrain a b) = grows_itself s
grows_simple s (Right e arrow name m accessors) = grows_itself s
grows_simple s (TargetLeft target arrow source) = grows_itself s
grows_simple s (TargetRight source arrow target) = grows_itself s
grows_simple s (Alone parallel name m arguments inputs) = grows_itself s

pub grows_first : (s : Scope) (f : First Meant) → Grows s (behind_first s f)
grows_first s (FirstVars vs) = grows_variables s vs
grows_first s (FirstAssign a) = grows_itself s

mutual
  pub grows : (s : Scope) (a : Statement Spot Meant) → Grows s (behind s a)
  grows s (Block spot ss) = grows_closed s (behind_all s ss) (grows_all s ss)
  grows s (If spot c a) = grows_closed s (behind s a) (grows s a)
  grows s (IfElse spot c a b) =
      grows_closed s (behind (closed s (behind s a)) b)
      (grows_then s (closed s (behind s a)) (behind (closed s (behind s a)) b)
      (grows_closed s (behind s a) (grows s a)) (grows (closed s (behind s a)) b))
  grows s (While spot c a) = grows_closed s (behind s a) (grows s a)
  grows s (For spot first_spot f c step_spot a body) =
      grows_closed s (behind (behind_first s f) body)
      (grows_then s (behind_first s f) (behind (behind_first s f) body) (grows_first s f)
      (grows (behind_first s f) body))
  grows s (Return spot e) = grows_itself s
  grows s (Assert spot e) = grows_itself s
  grows s (Log spot arguments) = grows_itself s
  grows s (Ended spot x) = grows_simple s x

  pub grows_all : (s : Scope) (ss : Statements Spot Meant) → Grows s (behind_all s ss)
  grows_all s empty = grows_itself s
  grows_all s (then_more a rest) =
      grows_then s (behind s a) (behind_all (behind s a) rest) (grows s a)
      (grows_all (behind s a) rest)

-- what creates a component isn't evaluated
pub set_meant : (s : Scope) (m : Meant) (accessors : Accessors Meant) (e : Expr Meant)
    → IsSeen s m → AreIndicesMeant s accessors → AreCallsMeant s e → IsSetMeant s m accessors e
set_meant s (meant.Component n) accessors e tm ti te = tt
set_meant s (meant.Variable n) accessors e tm ti te = (tm, ti, te)
set_meant s meant.Other accessors e tm ti te = (tm, ti, te)
set_meant s (meant.Signal direction n) accessors e tm ti te = (tm, ti, te)
set_meant s (meant.Template n) accessors e tm ti te = (tm, ti, te)
set_meant s (meant.Function n) accessors e tm ti te = (tm, ti, te)

-- a scope of so many functions, in which what is in scope is declared already
pub record IsSound (functions : ℕ) (s : Scope) : Type 0 where
  pub count : s.functions ≡ functions
  pub below : (n : ℕ) → s.seen n ≡ true → n < s.variables

pub sound_variable : (functions : ℕ) (s : Scope) → IsSound functions s
    → IsSound functions (with_variable s)
sound_variable functions s h = record {
  count = h.count;
  below = λ n e. at n (n == s.variables) refl e;
}
  where
    at : (n : ℕ) (b : Bool) → (n == s.variables) ≡ b → (b || s.seen n) ≡ true
        → n < s.variables + 1
    at n true e g = let same : n ≡ s.variables = eqb-true n s.variables e in omega arith
    at n false e g = let less : n < s.variables = h.below n g in omega arith

pub sound_variables : (functions : ℕ) (s : Scope) (vs : List (Variable Meant))
    → IsSound functions s → IsSound functions (with_variables s vs)
sound_variables functions s [] h = h
sound_variables functions s (v ∷ vs) h =
    sound_variables functions (with_variable s) vs (sound_variable functions s h)

pub sound_closed : (functions : ℕ) (s t : Scope) → Grows s t → IsSound functions s
    → IsSound functions (closed s t)
sound_closed functions s t g h = record {
  count = g.functions ∙ h.count;
  below = λ n e.
      let less : n < s.variables = h.below n e in
      let more : s.variables ≤ t.variables = g.variables in omega arith;
}

pub sound_signals : (functions : ℕ) (s : Scope) (xs : List (Signal Meant))
    → IsSound functions s → IsSound functions (with_signals s xs)
sound_signals functions s [] h = h
sound_signals functions s (x ∷ xs) h =
    sound_signals functions (with_signal s) xs
    record { count = h.count; below = h.below }

pub sound_simple : (functions : ℕ) (s : Scope) (x : Simple Meant) → IsSound functions s
    → IsSound functions (behind_simple s x)
sound_simple functions s (Vars vs) h = sound_variables functions s vs h
sound_simple functions s (Signals d xs) h = sound_signals functions s xs h
sound_simple functions s (Declared cs) h = h
sound_simple functions s (Created name m e) h = h
sound_simple functions s (Assigned a) h = h
sound_simple functions s (Constrain a b) h = h
sound_simple functions s (Right e arrow name m accessors) h = h
sound_simple functions s (TargetLeft target arrow source) h = h
sound_simple functions s (TargetRight source arrow target) h = h
sound_simple functions s (Alone parallel name m arguments inputs) h = h

pub sound_first : (functions : ℕ) (s : Scope) (f : First Meant) → IsSound functions s
    → IsSound functions (behind_first s f)
sound_first functions s (FirstVars vs) h = sound_variables functions s vs h
sound_first functions s (FirstAssign a) h = h

-- closing blocks leaves no more to show: what is in scope is as before
pub sound : (functions : ℕ) (s : Scope) (a : Statement Spot Meant) → IsSound functions s
    → IsSound functions (behind s a)
sound functions s (Block spot ss) h =
    sound_closed functions s (behind_all s ss) (grows_all s ss) h
sound functions s (If spot c a) h = sound_closed functions s (behind s a) (grows s a) h
sound functions s (IfElse spot c a b) h =
    sound_closed functions s (behind (closed s (behind s a)) b)
    (grows_then s (closed s (behind s a)) (behind (closed s (behind s a)) b)
    (grows_closed s (behind s a) (grows s a)) (grows (closed s (behind s a)) b)) h
sound functions s (While spot c a) h = sound_closed functions s (behind s a) (grows s a) h
sound functions s (For spot first_spot f c step_spot a body) h =
    sound_closed functions s (behind (behind_first s f) body)
    (grows_then s (behind_first s f) (behind (behind_first s f) body) (grows_first s f)
    (grows (behind_first s f) body)) h
sound functions s (Return spot e) h = h
sound functions s (Assert spot e) h = h
sound functions s (Log spot arguments) h = h
sound functions s (Ended spot x) h = sound_simple functions s x h

-- variables that are declared have numbers that aren't taken
abbrev pub Later : ℕ → List ℕ → Type 0
Later least ns = AllMay (λ n. least ≤ n) ns

either_any : {A : Type 0} (test : A → Bool) (P : Type 0) (xs ys : List A)
    → (list_any test xs ≡ true → P) → (list_any test ys ≡ true → P)
    → list_any test (xs ++ ys) ≡ true → P
either_any test P [] ys h g e = g e
either_any test P (x ∷ xs) ys h g e =
    one (test x) h e (λ i. either_any test P xs ys i g)
  where
    one : (b : Bool) → ((b || list_any test xs) ≡ true → P)
        → (b || list_any test (xs ++ ys)) ≡ true
        → ((list_any test xs ≡ true → P) → list_any test (xs ++ ys) ≡ true → P) → P
    one true f j go = f refl
    one false f j go = go f j

pub may_both : (May : ℕ → Type 0) (xs ys : List ℕ) → AllMay May xs → AllMay May ys
    → AllMay May (xs ++ ys)
may_both May xs ys h g n e = either_any (λ m. m == n) (May n) xs ys (h n) (g n) e

later_from : (s t : Scope) (ns : List ℕ) → Grows s t → Later t.variables ns → Later s.variables ns
later_from s t ns g h n e =
    let least : t.variables ≤ n = h n e in
    let more : s.variables ≤ t.variables = g.variables in omega arith

pub later_one : (s : Scope) (m : Meant) → m ≡ meant.Variable s.variables
    → Later s.variables (variable_of m)
later_one s m e = subst (λ x. Later s.variables (variable_of x)) (sym e) (λ n i. at n _ refl i)
  where
    at : (n : ℕ) (b : Bool) → (s.variables == n) ≡ b → (b || false) ≡ true → s.variables ≤ n
    at n true f i = let same : s.variables ≡ n = eqb-true s.variables n f in omega arith
    at n false f i = cc

later_none : (least : ℕ) → Later least []
later_none least n e = cc

pub later_variables : (s : Scope) (vs : List (Variable Meant)) → AreVariablesScoped s vs
    → Later s.variables (vars_declare vs)
later_variables s [] h = later_none s.variables
later_variables s (v ∷ vs) h =
    may_both (λ n. s.variables ≤ n) (variable_of v.meant) (vars_declare vs)
    (later_one s v.meant h.0.0)
    (later_from s (with_variable s) (vars_declare vs) (grows_variable s)
    (later_variables (with_variable s) vs h.1))

pub later_simple : (s : Scope) (x : Simple Meant) → IsSimpleScoped s x
    → Later s.variables (simple_declares x)
later_simple s (Vars vs) h = later_variables s vs h
later_simple s (Signals d xs) h = later_none s.variables
later_simple s (Declared cs) h = later_none s.variables
later_simple s (Created name m e) h = later_none s.variables
later_simple s (Assigned a) h = later_none s.variables
later_simple s (Constrain a b) h = later_none s.variables
later_simple s (Right e arrow name m accessors) h = later_none s.variables
later_simple s (TargetLeft target arrow source) h = later_none s.variables
later_simple s (TargetRight source arrow target) h = later_none s.variables
later_simple s (Alone parallel name m arguments inputs) h = later_none s.variables

pub later_first : (s : Scope) (f : First Meant) → IsFirstScoped s f
    → Later s.variables (first_declares f)
later_first s (FirstVars vs) h = later_variables s vs h
later_first s (FirstAssign a) h = later_none s.variables

mutual
  pub later : (s : Scope) (a : Statement Spot Meant) → IsScoped s a → Later s.variables (declares a)
  later s (Block spot ss) h = later_all s ss h
  later s (If spot c a) h = later s a h.1
  later s (IfElse spot c a b) h =
      may_both (λ n. s.variables ≤ n) (declares a) (declares b) (later s a h.1)
      (later_from s (closed s (behind s a)) (declares b)
      (grows_closed s (behind s a) (grows s a)) (later (closed s (behind s a)) b h.2))
  later s (While spot c a) h = later s a h.1
  later s (For spot first_spot f c step_spot a body) h =
      may_both (λ n. s.variables ≤ n) (first_declares f) (declares body) (later_first s f h.0)
      (later_from s (behind_first s f) (declares body) (grows_first s f)
      (later (behind_first s f) body h.2))
  later s (Return spot e) h = absurd h
  later s (Assert spot e) h = later_none s.variables
  later s (Log spot arguments) h = later_none s.variables
  later s (Ended spot x) h = later_simple s x h

  pub later_all : (s : Scope) (ss : Statements Spot Meant) → AreScoped s ss
      → Later s.variables (all_declares ss)
  later_all s empty h = later_none s.variables
  later_all s (then_more a rest) h =
      may_both (λ n. s.variables ≤ n) (declares a) (all_declares rest) (later s a h.0)
      (later_from s (behind s a) (all_declares rest) (grows s a)
      (later_all (behind s a) rest h.1))
