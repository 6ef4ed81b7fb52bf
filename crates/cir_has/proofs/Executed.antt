-- What a task needs that executes a statement: homes of the variables that the statement touches.
use Rattle.std.proofs.Common.{◌≡◌, ◌∙◌, ℕ, Bool, true, false, List, [], ◌∷◌, ◌++◌, None, ap, subst}
use Rattle.std.proofs.Common.{sym, append-nil, refl}
use Rattle.std.proofs.lemmas.Bool.{eqb-true}
use Rattle.std.specs.Prelude.{◌==◌, ◌||◌, filter, not}
use Rattle.std.specs.List.{list_any, AllByRecursion}
use Rattle.cir_ast.specs.declared.program.Meant.{Meant}
use Rattle.cir_ast.specs.declared.program.Meant.TheVariants as meant
use Rattle.cir_ast.specs.declared.program.Spot.{Spot}
use Rattle.cir_ast.specs.Tree.{Assign, Set, Compound, Left, Increment, Decrement}
use Rattle.cir_ast.specs.Tree.{Expr, Statement}
use Rattle.cir_emit.specs.Sourced.{EndHas, HasAll, HasHome, PlainHas, StatementHas, TaskHas}
use Rattle.cir_meaning.specs.Statement.{loop_of}
use Rattle.cir_meaning.specs.Unknown.{assign_writes, declares, outer_assigned, rising, variable_of}
use Rattle.cir_meaning.specs.Unknown.{writes}
use Rattle.cir_meaning.specs.Writing.{plain}
use Rattle.wit_lower.specs.Homes as L
use Rattle.wit_lower.specs.Statements as S
use Rattle.wit_lower.specs.Tasks.{Element, Executes}

pub all_any : (P : ℕ → Type 0) (list : List ℕ) → AllByRecursion P list → (n : ℕ)
    → list_any (λ m. m == n) list ≡ true → P n
all_any P [] h n e = cc
all_any P (k ∷ ks) h n e = at (all_any P ks h.1 n) (k == n) refl e
  where
    at : (list_any (λ m. m == n) ks ≡ true → P n) → (b : Bool) → (k == n) ≡ b
        → (b || list_any (λ m. m == n) ks) ≡ true → P n
    at rest true is any = subst P (eqb-true k n is) h.0
    at rest false is any = rest any

-- the variables that are touched and stay
abbrev pub outer : (declared written : List ℕ) → List ℕ
outer declared written = rising (filter (λ n. not (list_any (λ m. m == n) declared)) written)

module _ (There : L.Name → Type 0) (g : L.Ground) (s : L.Scope) where
  pub executes_has : (a : Statement Spot Meant) (targets : List Element)
      (declared assigned : List ℕ)
      → declared ≡ declares a → assigned ≡ outer_assigned a
      → AllByRecursion (λ n. L.find (L.Variable n) s.homes ≡ None) declared
      → AllByRecursion (λ n. HasHome There s.homes (L.Variable n)) assigned
      → StatementHas There g s a → TaskHas There g s (Executes a targets)
  executes_has a targets declared assigned declared_is assigned_is fresh homes h = (
    h,
    λ n e. all_any (λ m. L.find (L.Variable m) s.homes ≡ None) declared fresh n
        (ap (list_any (λ m. m == n)) declared_is ∙ e),
    λ n e. all_any (λ m. HasHome There s.homes (L.Variable m)) assigned homes n
        (ap (list_any (λ m. m == n)) assigned_is ∙ e),
  )

  -- an assignment touches the variable that it writes
  end_home : (m : Meant) → EndHas There s.homes (L.Named m)
      → AllByRecursion (λ n. HasHome There s.homes (L.Variable n)) (outer [] (variable_of m))
  end_home meant.Other h = tt
  end_home (meant.Variable n) h = (h, tt)
  end_home (meant.Signal direction n) h = tt
  end_home (meant.Component n) h = tt
  end_home (meant.Template n) h = tt
  end_home (meant.Function n) h = tt

  assigned_home : (a : Assign Meant) → PlainHas There g s.homes (plain a)
      → AllByRecursion (λ n. HasHome There s.homes (L.Variable n)) (outer [] (assign_writes a))
  assigned_home (Set name m accessors e) h = end_home m h.0
  assigned_home (Compound name m accessors o e) h = end_home m h.0
  assigned_home (Left name m accessors arrow e) h = tt
  assigned_home (Increment name m accessors) h = end_home m h.0
  assigned_home (Decrement name m accessors) h = end_home m h.0

  -- the loop that is left of a `for`
  pub repeats_has : (spot step_spot : Spot) (c : Expr Meant) (body : Statement Spot Meant)
      (a : Assign Meant) (targets : List Element) (declared assigned : List ℕ)
      → declared ≡ declares body
      → assigned ≡ outer (declares body) (writes body ++ assign_writes a)
      → AllByRecursion (λ n. L.find (L.Variable n) s.homes ≡ None) declared
      → AllByRecursion (λ n. HasHome There s.homes (L.Variable n)) assigned
      → HasAll There g s.homes c → StatementHas There g s body
      → PlainHas There g (S.scope_behind g s body).homes (plain a)
      → TaskHas There g s (Executes (loop_of spot c body step_spot a) targets)
  repeats_has spot step_spot c body a targets declared assigned declared_is assigned_is fresh homes
      test turn step =
      executes_has (loop_of spot c body step_spot a) targets declared assigned
      (declared_is ∙ sym (append-nil (declares body)))
      (assigned_is
      ∙ ap (λ d. outer d (writes body ++ assign_writes a)) (sym (append-nil (declares body)))
      ∙ ap (λ w. outer (declares body ++ []) (writes body ++ w))
      (sym (append-nil (assign_writes a)))) fresh homes (test, (turn, (step, tt)))
