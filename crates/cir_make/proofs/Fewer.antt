-- A task that has what all of these names are asked for has it also where fewer are there.
use Rattle.std.proofs.Common.{ℕ, zero, suc, List, [], ◌∷◌, ◌++◌, Option, Some, None}
use Rattle.std.specs.List.{AllByRecursion}
use Rattle.cir_ast.specs.declared.program.Meant.{Meant}
use Rattle.cir_ast.specs.declared.program.Meant.TheVariants as meant
use Rattle.cir_ast.specs.declared.program.Spot.{Spot}
use Rattle.cir_ast.specs.Tree.{Expr, Number, Place, Call, Anonymous, Parentheses, Array, Unary}
use Rattle.cir_ast.specs.Tree.{Binary, Choice, Exprs, none, more, Accessors, done, index, member}
use Rattle.cir_ast.specs.Tree.{Variable as Declared, Assign, Set, First, FirstVars, FirstAssign}
use Rattle.cir_ast.specs.Tree.{Simple, Vars, Assigned, Statement, Block, If, IfElse, While, For}
use Rattle.cir_ast.specs.Tree.{Return, Assert, Log, Ended, Statements, empty, then_more}
use Rattle.cir_meaning.specs.Operators.{operator_of}
use Rattle.cir_meaning.specs.RunValues.{Numbers}
use Rattle.cir_meaning.specs.Texts.{indices_of, list_of}
use Rattle.cir_meaning.specs.Writing.{plain}
use Rattle.wit_lower.specs.Homes.{Name, Homes, Scope, Ground, Front, Named, port_of}
use Rattle.wit_lower.specs.Pieces.{decided}
use Rattle.wit_lower.specs.Fits.{UnlessSkipped, Sides}
use Rattle.wit_lower.specs.Statements.{variable_scope, first_scope, scope_behind}
use Rattle.wit_lower.specs.Tasks.{Task, Gives, Equal, Logs, Executes}
use Rattle.cir_emit.specs.Sourced.{HasHome, EndHas, PortHas, UnlessKnown, HasAll, EachHas, PlaceHas}
use Rattle.cir_emit.specs.Sourced.{SetHas, PlainHas, ValueHas, VariableHas, VariablesHave, FirstHas}
use Rattle.cir_emit.specs.Sourced.{SimpleHas, StatementHas, StatementsHave, TaskHas}

all_fewer : {X : Type 0} (P Q : X → Type 0) → ((x : X) → P x → Q x) → (xs : List X)
    → AllByRecursion P xs → AllByRecursion Q xs
all_fewer P Q each [] all = tt
all_fewer P Q each (x ∷ xs) all = (each x all.0, all_fewer P Q each xs all.1)

module _ (More Less : Name → Type 0) (fewer : (x : Name) → Less x → More x) (g : Ground) where
  home : (homes : Homes) (x : Name) → HasHome More homes x → HasHome Less homes x
  home homes x has there = has (fewer x there)

  end : (homes : Homes) (f : Front) → EndHas More homes f → EndHas Less homes f
  end homes (Named (meant.Variable n)) has = home homes _ has
  end homes (Named (meant.Signal d n)) has = home homes _ has
  end homes _ has = tt

  port : (homes : Homes) (f : Front) (known : List (Option ℕ)) (name : List ℕ)
      → PortHas More g homes f known name → PortHas Less g homes f known name
  port homes (Named (meant.Component n)) known name has =
      λ indices is inside. home homes _ (has indices is inside)
  port homes _ known name has = tt

  unless : (o : Option Numbers) (P Q : Type 0) → (P → Q) → UnlessKnown o P → UnlessKnown o Q
  unless None P Q go h = go h
  unless (Some d) P Q go h = tt

  skipped : (o : Option ℕ) (P Q : Type 0) → (P → Q) → UnlessSkipped o P → UnlessSkipped o Q
  skipped None P Q go h = go h
  skipped (Some n) P Q go h = tt

  sides : (o : Option ℕ) (A B C D : Type 0) → (A → B) → (C → D) → Sides o A C → Sides o B D
  sides None A B C D one two h = (one h.0, two h.1)
  sides (Some zero) A B C D one two h = two h
  sides (Some (suc m)) A B C D one two h = one h

  mutual
    all : (homes : Homes) (e : Expr Meant) → HasAll More g homes e → HasAll Less g homes e
    all homes (Number n) h = tt
    all homes (Place name m accessors) h = place homes (Named m) [] accessors h
    all homes (Call parallel name m arguments) h =
        unless (g.called (Call parallel name m arguments)) _ _
        (λ x. (each homes arguments x.0, x.1)) h
    all homes (Anonymous parallel name m arguments inputs) h = tt
    all homes (Parentheses e) h = all homes e h
    all homes (Array none) h = h
    all homes (Array (more e es)) h = (all homes e h.0, each homes es h.1)
    all homes (Unary o a) h = all homes a h
    all homes (Binary o a b) h = (
      all homes a h.0,
      skipped (decided (operator_of o) (g.known a)) _ _ (λ x. all homes b x) h.1,
    )
    all homes (Choice c a b) h = (
      all homes c h.0,
      sides (g.known c) _ _ _ _ (λ x. all homes a x) (λ x. all homes b x) h.1,
    )

    each : (homes : Homes) (es : Exprs Meant) → EachHas More g homes es → EachHas Less g homes es
    each homes none h = tt
    each homes (more e es) h = (all homes e h.0, each homes es h.1)

    place : (homes : Homes) (f : Front) (indices : List (Option ℕ)) (a : Accessors Meant)
        → PlaceHas More g homes f indices a → PlaceHas Less g homes f indices a
    place homes f indices done h = end homes f h
    place homes f indices (index e rest) h =
        (all homes e h.0, place homes f (indices ++ g.known e ∷ []) rest h.1)
    place homes f indices (member name rest) h = (
      port homes f indices name h.0,
      place homes (port_of g homes f indices name) [] rest h.1,
    )

  set : (homes : Homes) (m : Meant) (a : Accessors Meant) (e : Expr Meant)
      → SetHas More g homes m a e → SetHas Less g homes m a e
  set homes m a e h =
      (end homes (Named m) h.0, all_fewer _ _ (all homes) (indices_of a) h.1, all homes e h.2)

  plain_has : (homes : Homes) (a : Assign Meant) → PlainHas More g homes a
      → PlainHas Less g homes a
  plain_has homes (Set name m accessors e) h = set homes m accessors e h
  plain_has homes _ h = tt

  value : (homes : Homes) (m : Meant) (o : Option (Expr Meant)) → ValueHas More g homes m o
      → ValueHas Less g homes m o
  value homes m None h = tt
  value homes m (Some e) h = set homes m done e h

  variable : (s : Scope) (v : Declared Meant) → VariableHas More g s v → VariableHas Less g s v
  variable s v h = (
    all_fewer _ _ (all s.homes) (list_of v.dimensions) h.0,
    value (variable_scope g s v).homes v.meant v.value h.1,
  )

  variables : (s : Scope) (vs : List (Declared Meant)) → VariablesHave More g s vs
      → VariablesHave Less g s vs
  variables s [] h = tt
  variables s (v ∷ vs) h = (variable s v h.0, variables (variable_scope g s v) vs h.1)

  first : (s : Scope) (f : First Meant) → FirstHas More g s f → FirstHas Less g s f
  first s (FirstVars vs) h = variables s vs h
  first s (FirstAssign a) h = plain_has s.homes (plain a) h

  simple : (s : Scope) (x : Simple Meant) → SimpleHas More g s x → SimpleHas Less g s x
  simple s (Vars vs) h = variables s vs h
  simple s (Assigned a) h = plain_has s.homes (plain a) h
  simple s _ h = tt

  mutual
    statement : (s : Scope) (a : Statement Spot Meant) → StatementHas More g s a
        → StatementHas Less g s a
    statement s (Block spot ss) h = statements s ss h
    statement s (If spot c a) h = (all s.homes c h.0, statement s a h.1)
    statement s (IfElse spot c a b) h =
        (all s.homes c h.0, statement s a h.1, statement s b h.2)
    statement s (While spot c a) h = (all s.homes c h.0, statement s a h.1)
    statement s (For spot first_spot f c step_spot a body) h = (
      first s f h.0,
      all (first_scope g s f).homes c h.1,
      statement (first_scope g s f) body h.2,
      plain_has (scope_behind g (first_scope g s f) body).homes (plain a) h.3,
    )
    statement s (Return spot e) h = tt
    statement s (Assert spot e) h = all s.homes e h
    statement s (Log spot arguments) h = tt
    statement s (Ended spot x) h = simple s x h

    statements : (s : Scope) (ss : Statements Spot Meant) → StatementsHave More g s ss
        → StatementsHave Less g s ss
    statements s empty h = tt
    statements s (then_more a rest) h =
        (statement s a h.0, statements (scope_behind g s a) rest h.1)

  pub task_fewer : (s : Scope) (t : Task) → TaskHas More g s t → TaskHas Less g s t
  task_fewer s (Gives e) h = all s.homes e h
  task_fewer s (Equal a b) h = (all s.homes a h.0, all s.homes b h.1)
  task_fewer s (Logs es) h = all_fewer _ _ (all s.homes) es h
  task_fewer s (Executes a targets) h =
      (statement s a h.0, h.1, λ n is. home s.homes _ (h.2 n is))
