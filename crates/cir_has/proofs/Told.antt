-- What a task needs, over the values that its calls have: of no other call a value is asked.
use Rattle.std.proofs.Common.{◌≡◌, ◌∙◌, ℕ, zero, suc, List, [], ◌∷◌, ◌++◌, ap, subst}
use Rattle.std.specs.Prelude.{flat_map, Option, Some, None}
use Rattle.std.specs.List.{AllByRecursion}
use Rattle.cir_ast.specs.declared.program.Meant.{Meant}
use Rattle.cir_ast.specs.declared.program.Meant.TheVariants as meant
use Rattle.cir_ast.specs.declared.program.Spot.{Spot}
use Rattle.cir_ast.specs.Tree.{Expr, Number, Place, Call, Anonymous, Parentheses, Array, Unary}
use Rattle.cir_ast.specs.Tree.{Binary, Choice, Exprs, none, more, Accessors, done, index, member}
use Rattle.cir_ast.specs.Tree.{Variable, Assign, Set, Compound, Left, Increment, Decrement, First}
use Rattle.cir_ast.specs.Tree.{FirstVars, FirstAssign, Simple, Vars, Signals, Declared, Created}
use Rattle.cir_ast.specs.Tree.{Assigned, Constrain, Right, TargetLeft, TargetRight, Alone}
use Rattle.cir_ast.specs.Tree.{Statement, Block, If, IfElse, While, For, Return, Assert, Log, Ended}
use Rattle.cir_ast.specs.Tree.{Statements, empty, then_more}
use Rattle.cir_meaning.specs.Arrays.{Scalar}
use Rattle.cir_meaning.specs.Costs.{Made}
use Rattle.cir_meaning.specs.Operators.{operator_of}
use Rattle.cir_meaning.specs.RunValues.{Numbers}
use Rattle.cir_meaning.specs.Texts as X
use Rattle.cir_meaning.specs.Writing.{plain}
use Rattle.cir_emit.specs.Sourced as H
use Rattle.wit_lower.specs.Fits.{UnlessSkipped, Sides}
use Rattle.wit_lower.specs.Homes as L
use Rattle.wit_lower.specs.Pieces.{decided}
use Rattle.wit_lower.specs.Sources as R
use Rattle.wit_lower.specs.Statements as S
use Rattle.wit_lower.specs.Tasks as T
use Rattle.wit_emit.specs.Asked.{asked, all_asked, place_asked}
use Rattle.wit_emit.proofs.Agreed as A
use Rattle.wit_sourced.specs.Loaded.{Calls}
use Rattle.wit_statements.specs.Asked.{asked_by}
use Rattle.wit_statements.proofs.Agreed as W

known_to : (o p : Option Numbers) (A B : Type 0) → o ≡ p → (A → B) → H.UnlessKnown o A
    → H.UnlessKnown p B
known_to o p A B e f x = subst (λ q. H.UnlessKnown q B) e (over o x)
  where
    over : (q : Option Numbers) → H.UnlessKnown q A → H.UnlessKnown q B
    over None y = f y
    over (Some d) y = tt

skipped_to : (o p : Option ℕ) (A B : Type 0) → o ≡ p → (A → B) → UnlessSkipped o A
    → UnlessSkipped p B
skipped_to o p A B e f x = subst (λ q. UnlessSkipped q B) e (over o x)
  where
    over : (q : Option ℕ) → UnlessSkipped q A → UnlessSkipped q B
    over None y = f y
    over (Some n) y = tt

sides_to : (o p : Option ℕ) (A B C D : Type 0) → o ≡ p → (A → B) → (C → D) → Sides o A C
    → Sides p B D
sides_to o p A B C D e f k x = subst (λ q. Sides q B D) e (over o x)
  where
    over : (q : Option ℕ) → Sides q A C → Sides q B D
    over None y = (f y.0, k y.1)
    over (Some zero) y = k y
    over (Some (suc n)) y = f y

module _ (There : L.Name → Type 0) (keys : List Made) (shapes : List R.Shape)
    (components : ℕ → List ℕ) (list : List R.Source) (changed : List ℕ) (one two : Calls) where
  abbrev g : L.Ground
  g = A.ground_with keys shapes components list changed one two one

  abbrev h : L.Ground
  h = A.ground_with keys shapes components list changed one two two

  abbrev Agree : List (Expr Meant) → Type 0
  Agree calls = AllByRecursion (λ c. one c ≡ two c) calls

  abbrev wanted_calls : List X.Wanted → List (Expr Meant)
  wanted_calls ws = flat_map (λ x. asked x.expr) ws

  abbrev Wanted : List X.Wanted → Type 0
  Wanted ws = Agree (wanted_calls ws)

  front : (xs ys : List (Expr Meant)) → Agree (xs ++ ys) → Agree xs
  front = A.front keys shapes components list changed one two

  back : (xs ys : List (Expr Meant)) → Agree (xs ++ ys) → Agree ys
  back = A.back keys shapes components list changed one two

  first_of : (xs ys : List X.Wanted) → Wanted (xs ++ ys) → Wanted xs
  first_of = W.first_of keys shapes components list changed one two

  last_of : (xs ys : List X.Wanted) → Wanted (xs ++ ys) → Wanted ys
  last_of = W.last_of keys shapes components list changed one two

  known_same : (e : Expr Meant) → Agree (asked e) → g.known e ≡ h.known e
  known_same = A.known_same keys shapes components list changed one two

  port_to : (homes : L.Homes) (f : L.Front) (indices : List (Option ℕ)) (name : List ℕ)
      → H.PortHas There g homes f indices name → H.PortHas There h homes f indices name
  port_to homes (L.Named meant.Other) indices name x = x
  port_to homes (L.Named (meant.Variable n)) indices name x = x
  port_to homes (L.Named (meant.Signal direction n)) indices name x = x
  port_to homes (L.Named (meant.Component n)) indices name x = x
  port_to homes (L.Named (meant.Template n)) indices name x = x
  port_to homes (L.Named (meant.Function n)) indices name x = x
  port_to homes (L.Found home) indices name x = x
  port_to homes L.Lost indices name x = x

  mutual
    has_to : (homes : L.Homes) (e : Expr Meant) → Agree (asked e)
        → H.HasAll There g homes e → H.HasAll There h homes e
    has_to homes (Number n) a x = tt
    has_to homes (Place name m accessors) a x = place_to homes (L.Named m) [] accessors a x
    has_to homes (Call parallel name m es) a x =
        known_to (one (Call parallel name m es)) (two (Call parallel name m es)) _ _ a.0
        (λ y. (
          each_to homes es a.1 y.0,
          subst (H.KeyHas keys m)
              (A.shapes_same keys shapes components list changed one two homes es a.1) y.1,
        )) x
    has_to homes (Anonymous parallel name m es inputs) a x = tt
    has_to homes (Parentheses e) a x = has_to homes e a x
    has_to homes (Array none) a x = x
    has_to homes (Array (more e es)) a x = (
      has_to homes e (front (asked e) (all_asked es) a) x.0,
      each_to homes es (back (asked e) (all_asked es) a) x.1,
    )
    has_to homes (Unary o e) a x = has_to homes e a x
    has_to homes (Binary o e f) a x =
        let first = front (asked e) (asked f) a in (
          has_to homes e first x.0,
          skipped_to (decided (operator_of o) (g.known e)) (decided (operator_of o) (h.known e))
              _ _ (ap (decided (operator_of o)) (known_same e first))
              (has_to homes f (back (asked e) (asked f) a)) x.1,
        )
    has_to homes (Choice c e f) a x =
        let test = front (asked c) (asked e ++ asked f) a in
        let rest = back (asked c) (asked e ++ asked f) a in (
          has_to homes c test x.0,
          sides_to (g.known c) (h.known c) _ _ _ _ (known_same c test)
              (has_to homes e (front (asked e) (asked f) rest))
              (has_to homes f (back (asked e) (asked f) rest)) x.1,
        )

    each_to : (homes : L.Homes) (es : Exprs Meant) → Agree (all_asked es)
        → H.EachHas There g homes es → H.EachHas There h homes es
    each_to homes none a x = tt
    each_to homes (more e es) a x = (
      has_to homes e (front (asked e) (all_asked es) a) x.0,
      each_to homes es (back (asked e) (all_asked es) a) x.1,
    )

    place_to : (homes : L.Homes) (f : L.Front) (indices : List (Option ℕ))
        (accessors : Accessors Meant) → Agree (place_asked accessors)
        → H.PlaceHas There g homes f indices accessors
        → H.PlaceHas There h homes f indices accessors
    place_to homes f indices done a x = x
    place_to homes f indices (index e rest) a x =
        let first = front (asked e) (place_asked rest) a in (
          has_to homes e first x.0,
          place_to homes f (indices ++ h.known e ∷ []) rest (back (asked e) (place_asked rest) a)
              (subst (λ k. H.PlaceHas There g homes f (indices ++ k ∷ []) rest)
              (known_same e first) x.1),
        )
    place_to homes f indices (member name rest) a x = (
      port_to homes f indices name x.0,
      place_to homes (L.port_of h homes f indices name) [] rest a
          (subst (λ q. H.PlaceHas There g homes q [] rest)
          (A.port_same keys shapes components list changed one two homes f indices name) x.1),
    )

  list_to : (homes : L.Homes) (es : List (Expr Meant)) → Wanted (X.numbers_wanted es)
      → AllByRecursion (H.HasAll There g homes) es → AllByRecursion (H.HasAll There h homes) es
  list_to homes [] a x = tt
  list_to homes (e ∷ es) a x =
      let rest = wanted_calls (X.numbers_wanted es) in (
        has_to homes e (front (asked e) rest a) x.0,
        list_to homes es (back (asked e) rest a) x.1,
      )

  -- ---- assignments
  plain_to : (homes : L.Homes) (x : Assign Meant) → Wanted (X.plain_wanted x)
      → H.PlainHas There g homes x → H.PlainHas There h homes x
  plain_to homes (Set name m accessors e) a x =
      let rest = wanted_calls (X.numbers_wanted (X.indices_of accessors)) in (
        x.0,
        list_to homes (X.indices_of accessors) (back (asked e) rest a) x.1,
        has_to homes e (front (asked e) rest a) x.2,
      )
  plain_to homes (Compound name m accessors o e) a x = tt
  plain_to homes (Left name m accessors arrow e) a x = tt
  plain_to homes (Increment name m accessors) a x = tt
  plain_to homes (Decrement name m accessors) a x = tt

  -- ---- declarations
  value_to : (homes : L.Homes) (m : Meant) (value : Option (Expr Meant))
      → Wanted (X.value_wanted value) → H.ValueHas There g homes m value
      → H.ValueHas There h homes m value
  value_to homes m None a x = tt
  value_to homes m (Some e) a x = (x.0, tt, has_to homes e (front (asked e) [] a) x.2)

  variable_to : (s : L.Scope) (v : Variable Meant) → Wanted (X.variable_wanted v)
      → H.VariableHas There g s v → H.VariableHas There h s v
  variable_to s v a x =
      let dims = X.numbers_wanted (X.list_of v.dimensions) in (
        list_to s.homes (X.list_of v.dimensions) (first_of dims (X.value_wanted v.value) a) x.0,
        subst (λ (t : L.Scope). H.ValueHas There h t.homes v.meant v.value)
            (W.variable_scope_same keys shapes components list changed one two s v a)
            (value_to (S.variable_scope g s v).homes v.meant v.value
            (last_of dims (X.value_wanted v.value) a) x.1),
      )

  variables_to : (s : L.Scope) (vs : List (Variable Meant)) → Wanted (flat_map X.variable_wanted vs)
      → H.VariablesHave There g s vs → H.VariablesHave There h s vs
  variables_to s [] a x = tt
  variables_to s (v ∷ vs) a x =
      let rest = flat_map X.variable_wanted vs in
      let first = first_of (X.variable_wanted v) rest a in (
        variable_to s v first x.0,
        subst (λ (t : L.Scope). H.VariablesHave There h t vs)
            (W.variable_scope_same keys shapes components list changed one two s v first)
            (variables_to (S.variable_scope g s v) vs (last_of (X.variable_wanted v) rest a) x.1),
      )

  first_to : (s : L.Scope) (f : First Meant) → Wanted (X.first_wanted f)
      → H.FirstHas There g s f → H.FirstHas There h s f
  first_to s (FirstVars vs) a x = variables_to s vs a x
  first_to s (FirstAssign y) a x = plain_to s.homes (plain y) a x

  simple_to : (s : L.Scope) (y : Simple Meant) → Wanted (X.simple_wanted y)
      → H.SimpleHas There g s y → H.SimpleHas There h s y
  simple_to s (Vars vs) a x = variables_to s vs a x
  simple_to s (Assigned y) a x = plain_to s.homes (plain y) a x
  simple_to s (Signals direction ds) a x = tt
  simple_to s (Declared cs) a x = tt
  simple_to s (Created name m e) a x = tt
  simple_to s (Constrain e f) a x = tt
  simple_to s (Right e arrow name m accessors) a x = tt
  simple_to s (TargetLeft t arrow y) a x = tt
  simple_to s (TargetRight y arrow t) a x = tt
  simple_to s (Alone parallel name m arguments inputs) a x = tt

  -- ---- statements
  mutual
    statement_to : (s : L.Scope) (y : Statement Spot Meant) → Wanted (X.wanted_in y)
        → H.StatementHas There g s y → H.StatementHas There h s y
    statement_to s (Block spot ss) a x = statements_to s ss a x
    statement_to s (If spot c y) a x = (
      has_to s.homes c (front (asked c) (wanted_calls (X.wanted_in y)) a) x.0,
      statement_to s y (back (asked c) (wanted_calls (X.wanted_in y)) a) x.1,
    )
    statement_to s (IfElse spot c y z) a x =
        let both = X.wanted_in y ++ X.wanted_in z in
        let rest = back (asked c) (wanted_calls both) a in (
          has_to s.homes c (front (asked c) (wanted_calls both) a) x.0,
          statement_to s y (first_of (X.wanted_in y) (X.wanted_in z) rest) x.1,
          statement_to s z (last_of (X.wanted_in y) (X.wanted_in z) rest) x.2,
        )
    statement_to s (While spot c y) a x = (
      has_to s.homes c (front (asked c) (wanted_calls (X.wanted_in y)) a) x.0,
      statement_to s y (back (asked c) (wanted_calls (X.wanted_in y)) a) x.1,
    )
    statement_to s (For spot first_spot f c step_spot step body) a x =
        let last = X.wanted_in body ++ X.assign_wanted step in
        let behind = X.wanted Scalar c ++ last in
        let head = first_of (X.first_wanted f) behind a in
        let rest = last_of (X.first_wanted f) behind a in
        let test = front (asked c) (wanted_calls last) rest in
        let turn = back (asked c) (wanted_calls last) rest in
        let one_turn = first_of (X.wanted_in body) (X.assign_wanted step) turn in
        let stepped = last_of (X.wanted_in body) (X.assign_wanted step) turn in
        let outer = S.first_scope g s f in
        let same : outer ≡ S.first_scope h s f =
        W.first_scope_same keys shapes components list changed one two s f head in (
          first_to s f head x.0,
          subst (λ (t : L.Scope). H.HasAll There h t.homes c) same
              (has_to outer.homes c test x.1),
          subst (λ (t : L.Scope). H.StatementHas There h t body) same
              (statement_to outer body one_turn x.2),
          subst (λ (t : L.Scope). H.PlainHas There h (S.scope_behind h t body).homes (plain step))
              same
              (subst (λ (t : L.Scope). H.PlainHas There h t.homes (plain step))
              (W.scope_same keys shapes components list changed one two outer body one_turn)
              (plain_to (S.scope_behind g outer body).homes (plain step) stepped x.3)),
        )
    statement_to s (Return spot e) a x = tt
    statement_to s (Assert spot e) a x = has_to s.homes e (front (asked e) [] a) x
    statement_to s (Log spot arguments) a x = tt
    statement_to s (Ended spot y) a x = simple_to s y a x

    statements_to : (s : L.Scope) (ys : Statements Spot Meant) → Wanted (X.all_wanted ys)
        → H.StatementsHave There g s ys → H.StatementsHave There h s ys
    statements_to s empty a x = tt
    statements_to s (then_more y rest) a x =
        let first = first_of (X.wanted_in y) (X.all_wanted rest) a in (
          statement_to s y first x.0,
          subst (λ (t : L.Scope). H.StatementsHave There h t rest)
              (W.scope_same keys shapes components list changed one two s y first)
              (statements_to (S.scope_behind g s y) rest
              (last_of (X.wanted_in y) (X.all_wanted rest) a) x.1),
        )

  -- ---- tasks
  logs_to : (homes : L.Homes) (es : List (Expr Meant)) → Agree (flat_map asked es)
      → AllByRecursion (H.HasAll There g homes) es → AllByRecursion (H.HasAll There h homes) es
  logs_to homes [] a x = tt
  logs_to homes (e ∷ es) a x = (
    has_to homes e (front (asked e) (flat_map asked es) a) x.0,
    logs_to homes es (back (asked e) (flat_map asked es) a) x.1,
  )

  pub task_to : (s : L.Scope) (task : T.Task) → Agree (asked_by task)
      → H.TaskHas There g s task → H.TaskHas There h s task
  task_to s (T.Gives e) a x = has_to s.homes e a x
  task_to s (T.Equal e f) a x = (
    has_to s.homes e (front (asked e) (asked f) a) x.0,
    has_to s.homes f (back (asked e) (asked f) a) x.1,
  )
  task_to s (T.Logs es) a x = logs_to s.homes es a x
  task_to s (T.Executes y targets) a x = (statement_to s y a x.0, x.1, x.2)
