-- Where the names of a definition are resolved, its scope has the same numbers, and each name that
-- means a variable means one that is in scope.
use Rattle.std.proofs.Common.{◌≡◌, ℕ, ◌+◌, ◌<◌, Bool, true, List, length, Option, Some, None, ap}
use Rattle.std.proofs.Common.{sym, subst, arith}
use Rattle.std.specs.Prelude.{◌==◌, ⊤}
use Rattle.std.specs.Option.{option_or}
use Rattle.std.specs.Map.{update}
use Rattle.std.specs.Str.{bytes_eq}
use Rattle.std.proofs.lemmas.Bool.{eq-eqb, or_left, or_right}
use Rattle.std.proofs.lemmas.Option.{slice_get_within}
use Rattle.cir_ast.specs.declared.operators.Direction.{Direction}
use Rattle.cir_ast.specs.declared.program.Meant.{Meant}
use Rattle.cir_ast.specs.declared.program.Meant.TheVariants as meant
use Rattle.cir_resolve.specs.Scope.{Lookup, State, in_scope, meaning, read_at, entered, left}
use Rattle.cir_resolve.specs.Scope.{counted, with_name}
use Rattle.cir_checks.specs.Heads.{Table}
use Rattle.cir_checks.specs.Checked.{IsCall}
use Rattle.cir_meaning.specs.SignalFree.{IsFunction}
use Rattle.cir_meaning.specs.Scoped.{Scope, IsSeen, with_variable, with_signal, closed}
use Rattle.cir_scope.proofs.Lookups.{of_first, of_more}

-- it isn't a variable that isn't seen
abbrev pub IsCovered : (ℕ → Bool) → Option Meant → Type 0
IsCovered seen (Some (meant.Variable n)) = seen n ≡ true
IsCovered seen _ = ⊤

abbrev pub Covers : (ℕ → Bool) → Lookup → Type 0
Covers seen names = (name : List ℕ) → IsCovered seen (names name)

pub record Agrees (t : Table) (s : Scope) (st : State) : Type 0 where
  pub functions : s.functions ≡ length t.functions
  pub variables : st.variables ≡ s.variables
  pub signals : st.signals ≡ s.signals
  pub defined : (seen : ℕ → Bool) → Covers seen st.defined
  pub outer : Covers s.seen st.outer
  pub inner : Covers s.seen st.inner

seen_meaning : (s : Scope) (o : Option Meant) → IsCovered s.seen o → IsSeen s (meaning o)
seen_meaning s None h = tt
seen_meaning s (Some (meant.Variable n)) h = h
seen_meaning s (Some _) h = tt

-- what a name is read as is in scope
pub is_seen : (t : Table) (s : Scope) (st : State) (name : List ℕ) → Agrees t s st
    → IsSeen s (read_at st name)
is_seen t s st name a =
    seen_meaning s (option_or (in_scope st name) (st.defined name))
    (of_first (IsCovered s.seen) (in_scope st name) (st.defined name)
    (of_first (IsCovered s.seen) (st.inner name) (st.outer name) (a.inner name) (a.outer name))
    (a.defined s.seen name))

-- what is called is one of the program's functions
pub is_function : (t : Table) (functions : ℕ) (m : Meant) (arguments : ℕ)
    → functions ≡ length t.functions → IsCall t m arguments → IsFunction functions m
is_function t functions (meant.Function n) arguments e h =
    subst (λ k. n < k) (sym e) (slice_get_within t.functions n arguments h)
is_function t functions meant.Other arguments e h = absurd h
is_function t functions (meant.Variable n) arguments e h = absurd h
is_function t functions (meant.Signal direction n) arguments e h = absurd h
is_function t functions (meant.Component n) arguments e h = absurd h
is_function t functions (meant.Template n) arguments e h = absurd h

-- ---- declarations
pub wider_covered : (seen wider : ℕ → Bool) → ((n : ℕ) → seen n ≡ true → wider n ≡ true)
    → (o : Option Meant) → IsCovered seen o → IsCovered wider o
wider_covered seen wider so None h = tt
wider_covered seen wider so (Some (meant.Variable n)) h = so n h
wider_covered seen wider so (Some _) h = tt

pub covers_more : (seen : ℕ → Bool) (names : Lookup) (name : List ℕ) (m : Meant)
    → IsCovered seen (Some m) → Covers seen names
    → Covers seen (update bytes_eq names name (Some m))
covers_more seen names name m h k = of_more (IsCovered seen) names name m h k

pub with_seen : (s : Scope) (names : Lookup) → Covers s.seen names
    → Covers (with_variable s).seen names
with_seen s names h name =
    wider_covered s.seen (with_variable s).seen
    (λ n e. or_right (n == s.variables) (s.seen n) e) (names name) (h name)

pub agrees_variable : (t : Table) (s : Scope) (st : State) (name : List ℕ) → Agrees t s st
    → Agrees t (with_variable s)
    (with_name (counted st (meant.Variable st.variables)) name (meant.Variable st.variables))
agrees_variable t s st name a =
    record {
      functions = a.functions;
      variables = ap (λ n. n + 1) a.variables;
      signals = omega (arith, a.signals);
      defined = a.defined;
      outer = with_seen s st.outer a.outer;
      inner =
          covers_more (with_variable s).seen st.inner name (meant.Variable st.variables)
          (or_left (st.variables == s.variables) (s.seen st.variables)
          (eq-eqb st.variables s.variables a.variables))
          (with_seen s st.inner a.inner);
    }

pub agrees_signal : (t : Table) (s : Scope) (st : State) (d : Direction) (name : List ℕ)
    → Agrees t s st
    → Agrees t (with_signal s)
    (with_name (counted st (meant.Signal d st.signals)) name (meant.Signal d st.signals))
agrees_signal t s st d name a =
    record {
      functions = a.functions;
      variables = omega (arith, a.variables);
      signals = ap (λ n. n + 1) a.signals;
      defined = a.defined;
      outer = a.outer;
      inner = covers_more s.seen st.inner name (meant.Signal d st.signals) tt a.inner;
    }

pub agrees_component : (t : Table) (s : Scope) (st : State) (n : ℕ) (name : List ℕ)
    → Agrees t s st
    → Agrees t s (with_name (counted st (meant.Component n)) name (meant.Component n))
agrees_component t s st n name a =
    record {
      functions = a.functions;
      variables = omega (arith, a.variables);
      signals = omega (arith, a.signals);
      defined = a.defined;
      outer = a.outer;
      inner = covers_more s.seen st.inner name (meant.Component n) tt a.inner;
    }

-- ---- blocks
pub agrees_entered : (t : Table) (s : Scope) (st : State) → Agrees t s st
    → Agrees t s (entered st)
agrees_entered t s st a =
    record {
      functions = a.functions;
      variables = a.variables;
      signals = a.signals;
      defined = a.defined;
      outer = λ name. of_first (IsCovered s.seen) (st.inner name) (st.outer name) (a.inner name)
          (a.outer name);
      inner = λ name. tt;
    }

pub agrees_left : (t : Table) (s inside : Scope) (st after : State) → Agrees t s st
    → Agrees t inside after → Agrees t (closed s inside) (left st after)
agrees_left t s inside st after a b =
    record {
      functions = b.functions;
      variables = b.variables;
      signals = b.signals;
      defined = b.defined;
      outer = a.outer;
      inner = a.inner;
    }
