-- A statement is ready where its expressions stand, if besides what each of them reads is loaded.
use Rattle.std.proofs.Common.{ℕ, List, [], ◌∷◌, ◌++◌, Option, Some, None, flat_map}
use Rattle.std.specs.List.{AllByRecursion}
use Rattle.cir_ast.specs.declared.program.Spot.{Spot}
use Rattle.cir_ast.specs.declared.program.Meant.{Meant}
use Rattle.cir_ast.specs.declared.program.Meant.TheVariants as meant
use Rattle.cir_ast.specs.Tree.{Expr, Accessors, done, Variable as Declared, Assign, Set, Compound}
use Rattle.cir_ast.specs.Tree.{Left, Increment, Decrement, First, FirstVars, FirstAssign, Simple}
use Rattle.cir_ast.specs.Tree.{Vars, Assigned, Signals, Declared as DeclaredComponents, Created}
use Rattle.cir_ast.specs.Tree.{Constrain, Right as RightArrow, TargetLeft, TargetRight, Alone}
use Rattle.cir_ast.specs.Tree.{Statement, Block, If, IfElse, While, For, Return, Assert, Log, Ended}
use Rattle.cir_ast.specs.Tree.{Statements, empty, then_more}
use Rattle.cir_meaning.specs.Arrays.{Scalar, Whole}
use Rattle.cir_meaning.specs.Texts.{Wanted, wanted, list_of, indices_of, numbers_wanted}
use Rattle.cir_meaning.specs.Texts.{value_wanted, variable_wanted, plain_wanted, assign_wanted}
use Rattle.cir_meaning.specs.Texts.{first_wanted, simple_wanted, wanted_in, all_wanted}
use Rattle.cir_meaning.specs.Writing.{plain}
use Rattle.wit_lower.specs.Homes.{Homes, Scope, Ground}
use Rattle.wit_lower.specs.Statements.{variable_scope, first_scope, scope_behind}
use Rattle.cir_emit.proofs.Lists.{all_front, all_back}
use Rattle.cir_emit.proofs.Scanned.{SetReady, PlainReady, ValueReady, DeclaredReady, VariablesReady}
use Rattle.cir_emit.proofs.Scanned.{FirstReady, SimpleReady, StatementReady, StatementsReady}

module _ (Before After : Homes → Expr Meant → Type 0) (Besides : Expr Meant → Type 0)
    (more : (homes : Homes) (e : Expr Meant) → Before homes e → Besides e → After homes e)
    (g : Ground) (free : ℕ → Type 0) where
  abbrev Has : List Wanted → Type 0
  Has vs = AllByRecursion (λ (v : Wanted). Besides v.expr) vs

  front : (xs ys : List Wanted) → Has (xs ++ ys) → Has xs
  front = all_front (λ (v : Wanted). Besides v.expr)

  back : (xs ys : List Wanted) → Has (xs ++ ys) → Has ys
  back = all_back (λ (v : Wanted). Besides v.expr)

  numbers_more : (homes : Homes) (es : List (Expr Meant)) → AllByRecursion (Before homes) es
      → Has (numbers_wanted es) → AllByRecursion (After homes) es
  numbers_more homes [] h l = tt
  numbers_more homes (e ∷ es) h l = (more homes e h.0 l.0, numbers_more homes es h.1 l.1)

  set_more : (homes : Homes) (m : Meant) (accessors : Accessors Meant) (e : Expr Meant)
      → SetReady Before g free homes m accessors e
      → Has (wanted Whole e ++ numbers_wanted (indices_of accessors))
      → SetReady After g free homes m accessors e
  set_more homes (meant.Variable n) accessors e h l = record {
    home = h.home;
    found = h.found;
    may = h.may;
    are = h.are;
    indices = numbers_more homes (indices_of accessors) h.indices l.1;
    value = more homes e h.value l.0;
  }
  set_more homes meant.Other accessors e h l = tt
  set_more homes (meant.Signal d n) accessors e h l = tt
  set_more homes (meant.Component n) accessors e h l = tt
  set_more homes (meant.Template n) accessors e h l = tt
  set_more homes (meant.Function n) accessors e h l = tt

  plain_more : (homes : Homes) (x : Assign Meant) → PlainReady Before g free homes x
      → Has (plain_wanted x) → PlainReady After g free homes x
  plain_more homes (Set name m accessors e) h l = set_more homes m accessors e h l
  plain_more homes (Compound name m accessors o e) h l = tt
  plain_more homes (Left name m accessors arrow e) h l = tt
  plain_more homes (Increment name m accessors) h l = tt
  plain_more homes (Decrement name m accessors) h l = tt

  value_more : (homes : Homes) (m : Meant) (o : Option (Expr Meant))
      → ValueReady Before g free homes m o → Has (value_wanted o)
      → ValueReady After g free homes m o
  value_more homes m None h l = tt
  value_more homes m (Some e) h l = set_more homes m done e h l

  declared_more : (s : Scope) (v : Declared Meant) (m : Meant)
      → DeclaredReady Before g free s v m → Has (variable_wanted v)
      → DeclaredReady After g free s v m
  declared_more s v (meant.Variable n) h l = record {
    dims = numbers_more s.homes (list_of v.dimensions) h.dims
        (front (numbers_wanted (list_of v.dimensions)) (value_wanted v.value) l);
    fresh = h.fresh;
    may = h.may;
    value = value_more _ v.meant v.value h.value
        (back (numbers_wanted (list_of v.dimensions)) (value_wanted v.value) l);
  }
  declared_more s v meant.Other h l = tt
  declared_more s v (meant.Signal d n) h l = tt
  declared_more s v (meant.Component n) h l = tt
  declared_more s v (meant.Template n) h l = tt
  declared_more s v (meant.Function n) h l = tt

  variables_more : (vs : List (Declared Meant)) (s : Scope) → VariablesReady Before g free s vs
      → Has (flat_map variable_wanted vs) → VariablesReady After g free s vs
  variables_more [] s h l = tt
  variables_more (v ∷ vs) s h l = (
    declared_more s v v.meant h.0 (front (variable_wanted v) (flat_map variable_wanted vs) l),
    variables_more vs (variable_scope g s v) h.1
        (back (variable_wanted v) (flat_map variable_wanted vs) l),
  )

  first_more : (x : First Meant) (s : Scope) → FirstReady Before g free s x
      → Has (first_wanted x) → FirstReady After g free s x
  first_more (FirstVars vs) s h l = variables_more vs s h l
  first_more (FirstAssign x) s h l = plain_more s.homes (plain x) h l

  simple_more : (x : Simple Meant) (s : Scope) → SimpleReady Before g free s x
      → Has (simple_wanted x) → SimpleReady After g free s x
  simple_more (Vars vs) s h l = variables_more vs s h l
  simple_more (Assigned x) s h l = plain_more s.homes (plain x) h l
  simple_more (Signals d ds) s h l = tt
  simple_more (DeclaredComponents cs) s h l = tt
  simple_more (Created name m e) s h l = tt
  simple_more (Constrain x y) s h l = tt
  simple_more (RightArrow e arrow name m accessors) s h l = tt
  simple_more (TargetLeft x arrow y) s h l = tt
  simple_more (TargetRight y arrow x) s h l = tt
  simple_more (Alone parallel name m arguments inputs) s h l = tt

  mutual
    pub statement_more : (x : Statement Spot Meant) (s : Scope)
        → StatementReady Before g free s x → Has (wanted_in x) → StatementReady After g free s x
    statement_more (Block spot ss) s h l = statements_more ss s h l
    statement_more (If spot c x) s h l = (more s.homes c h.0 l.0, statement_more x s h.1 l.1)
    statement_more (IfElse spot c x y) s h l = (
      more s.homes c h.0 l.0,
      statement_more x s h.1 (front (wanted_in x) (wanted_in y) l.1),
      statement_more y s h.2 (back (wanted_in x) (wanted_in y) l.1),
    )
    statement_more (While spot c x) s h l = (more s.homes c h.0 l.0, statement_more x s h.1 l.1)
    statement_more (For spot first_spot f c step_spot x body) s h l =
        let rest : Has (wanted Scalar c ++ (wanted_in body ++ assign_wanted x)) =
        back (first_wanted f) (wanted Scalar c ++ (wanted_in body ++ assign_wanted x)) l in (
          first_more f s h.0
              (front (first_wanted f) (wanted Scalar c ++ (wanted_in body ++ assign_wanted x)) l),
          more (first_scope g s f).homes c h.1 rest.0,
          statement_more body (first_scope g s f) h.2
              (front (wanted_in body) (assign_wanted x) rest.1),
          plain_more (scope_behind g (first_scope g s f) body).homes (plain x) h.3
              (back (wanted_in body) (assign_wanted x) rest.1),
        )
    statement_more (Return spot e) s h l = tt
    statement_more (Assert spot e) s h l = more s.homes e h l.0
    statement_more (Log spot arguments) s h l = tt
    statement_more (Ended spot x) s h l = simple_more x s h l

    statements_more : (ss : Statements Spot Meant) (s : Scope)
        → StatementsReady Before g free s ss → Has (all_wanted ss)
        → StatementsReady After g free s ss
    statements_more empty s h l = tt
    statements_more (then_more x rest) s h l = (
      statement_more x s h.0 (front (wanted_in x) (all_wanted rest) l),
      statements_more rest (scope_behind g s x) h.1 (back (wanted_in x) (all_wanted rest) l),
    )
