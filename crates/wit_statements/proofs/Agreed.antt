-- The code of a task asks for the values of the calls that stand in it, and of no others.
use Rattle.std.proofs.Common.{◌≡◌, ◌∙◌, ℕ, ◌+◌, List, [], ◌∷◌, ◌++◌, map, refl, ap, sym, subst}
use Rattle.std.proofs.Common.{append_assoc}
use Rattle.std.specs.Prelude.{flat_map, Option, Some, None, unwrap_or}
use Rattle.std.specs.List.{AllByRecursion}
use Rattle.wit_code.specs.declared.code.Op.TheVariants as op
use Rattle.wit_code.specs.declared.code.Proc.{Proc}
use Rattle.cir_ast.specs.declared.program.Meant.{Meant}
use Rattle.cir_ast.specs.declared.program.Meant.TheVariants as meant
use Rattle.cir_ast.specs.declared.program.Spot.{Spot}
use Rattle.cir_ast.specs.Tree.{Expr, Exprs, none, more, Accessors, done, index, member, Variable}
use Rattle.cir_ast.specs.Tree.{Assign, Set, Compound, Left, Increment, Decrement, First, FirstVars}
use Rattle.cir_ast.specs.Tree.{FirstAssign, Simple, Vars, Signals, Declared, Created, Assigned}
use Rattle.cir_ast.specs.Tree.{Constrain, Right, TargetLeft, TargetRight, Alone, Statement, Block}
use Rattle.cir_ast.specs.Tree.{If, IfElse, While, For, Return, Assert, Log, Ended, Statements}
use Rattle.cir_ast.specs.Tree.{empty, then_more}
use Rattle.cir_meaning.specs.Arrays.{Scalar}
use Rattle.cir_meaning.specs.Costs.{Made}
use Rattle.cir_meaning.specs.Reached.{indices_count}
use Rattle.cir_meaning.specs.Texts as X
use Rattle.cir_meaning.specs.Writing.{plain}
use Rattle.wit_lower.specs.Homes as L
use Rattle.wit_lower.specs.Known as K
use Rattle.wit_lower.specs.Pieces as P
use Rattle.wit_lower.specs.Procedures.{params_at}
use Rattle.wit_lower.specs.Sources as R
use Rattle.wit_lower.specs.Statements as S
use Rattle.wit_lower.specs.Tasks as T
use Rattle.wit_lower.specs.Values as V
use Rattle.wit_emit.specs.Asked.{asked, all_asked, place_asked}
use Rattle.wit_sourced.specs.Loaded.{Calls}
use Rattle.wit_emit.proofs.Agreed.{all_front, all_back}
use Rattle.wit_emit.proofs.Agreed as A
use Rattle.wit_statements.specs.Asked.{asked_by}

flat_map-append : {A B : Type 0} (f : A → List B) (xs ys : List A)
    → flat_map f (xs ++ ys) ≡ flat_map f xs ++ flat_map f ys
flat_map-append f [] ys = refl
flat_map-append f (x ∷ xs) ys =
    ap (λ zs. f x ++ zs) (flat_map-append f xs ys)
    ∙ sym (append_assoc (f x) (flat_map f xs) (flat_map f ys))

-- the calls of what is wanted
abbrev wanted_calls : List X.Wanted → List (Expr Meant)
wanted_calls ws = flat_map (λ x. asked x.expr) ws

indices_asked : (accessors : Accessors Meant)
    → wanted_calls (X.numbers_wanted (X.indices_of accessors)) ≡ place_asked accessors
indices_asked done = refl
indices_asked (index e rest) = ap (λ l. asked e ++ l) (indices_asked rest)
indices_asked (member name rest) = indices_asked rest

dims_asked : (es : Exprs Meant)
    → wanted_calls (X.numbers_wanted (X.list_of es)) ≡ all_asked es
dims_asked none = refl
dims_asked (more e es) = ap (λ l. asked e ++ l) (dims_asked es)

module _ (keys : List Made) (shapes : List R.Shape) (components : ℕ → List ℕ)
    (list : List R.Source) (changed : List ℕ) (one two : Calls) where
  abbrev g : L.Ground
  g = A.ground_with keys shapes components list changed one two one

  abbrev h : L.Ground
  h = A.ground_with keys shapes components list changed one two two

  abbrev Agree : List (Expr Meant) → Type 0
  Agree calls = AllByRecursion (λ c. one c ≡ two c) calls

  abbrev Wanted : List X.Wanted → Type 0
  Wanted ws = Agree (wanted_calls ws)

  front : (xs ys : List (Expr Meant)) → Agree (xs ++ ys) → Agree xs
  front xs ys a = all_front (λ c. one c ≡ two c) xs ys a

  back : (xs ys : List (Expr Meant)) → Agree (xs ++ ys) → Agree ys
  back xs ys a = all_back (λ c. one c ≡ two c) xs ys a

  pub first_of : (xs ys : List X.Wanted) → Wanted (xs ++ ys) → Wanted xs
  first_of xs ys a =
      front (wanted_calls xs) (wanted_calls ys)
      (subst Agree (flat_map-append (λ x. asked x.expr) xs ys) a)

  pub last_of : (xs ys : List X.Wanted) → Wanted (xs ++ ys) → Wanted ys
  last_of xs ys a =
      back (wanted_calls xs) (wanted_calls ys)
      (subst Agree (flat_map-append (λ x. asked x.expr) xs ys) a)

  code_of : (homes : L.Homes) (top at : ℕ) (e : Expr Meant) → Agree (asked e)
      → V.expr_code g homes top at e ≡ V.expr_code h homes top at e
  code_of = A.code_same keys shapes components list changed one two

  size_same : (homes : L.Homes) (e : Expr Meant) → Agree (asked e)
      → V.size_of g homes e ≡ V.size_of h homes e
  size_same homes e a =
      ap L.slots_of (A.shape_same keys shapes components list changed one two homes e a)

  -- ---- assignments
  set_same : (s : L.Scope) (at : ℕ) (m : Meant) (accessors : Accessors Meant) (e : Expr Meant)
      → Agree (asked e) → Agree (place_asked accessors)
      → S.set_code g s at m accessors e ≡ S.set_code h s at m accessors e
  set_same s at m accessors e a b =
      (λ i. P.followed at (code_of s.homes s.top at e a i) (λ p.
      V.indices_code g s.homes (s.top + size_same s.homes e a i) p accessors
      ++ P.write_code (L.home_of s.homes (L.Named m)) (s.top + size_same s.homes e a i)
      (indices_count accessors) s.top (size_same s.homes e a i)))
      ∙ (λ i. P.followed at (V.expr_code h s.homes s.top at e) (λ p.
      A.indices_code_same keys shapes components list changed one two s.homes
      (s.top + V.size_of h s.homes e) p accessors b i
      ++ P.write_code (L.home_of s.homes (L.Named m)) (s.top + V.size_of h s.homes e)
      (indices_count accessors) s.top (V.size_of h s.homes e)))

  plain_same : (s : L.Scope) (at : ℕ) (x : Assign Meant) → Wanted (X.plain_wanted x)
      → S.plain_code g s at x ≡ S.plain_code h s at x
  plain_same s at (Set name m accessors e) a =
      let rest = wanted_calls (X.numbers_wanted (X.indices_of accessors)) in
      set_same s at m accessors e (front (asked e) rest a)
      (subst Agree (indices_asked accessors) (back (asked e) rest a))
  plain_same s at (Compound name m accessors o e) a = refl
  plain_same s at (Left name m accessors arrow e) a = refl
  plain_same s at (Increment name m accessors) a = refl
  plain_same s at (Decrement name m accessors) a = refl

  assign_same : (s : L.Scope) (at : ℕ) (x : Assign Meant) → Wanted (X.assign_wanted x)
      → S.assign_code g s at x ≡ S.assign_code h s at x
  assign_same s at x a = plain_same s at (plain x) a

  -- ---- declarations
  dims_same : (s : L.Scope) (at : ℕ) (es : Exprs Meant) → Agree (all_asked es)
      → S.dims_code g s at es ≡ S.dims_code h s at es
  dims_same s at none a = refl
  dims_same s at (more e es) a =
      let first = front (asked e) (all_asked es) a in
      let rest = back (asked e) (all_asked es) a in λ i.
      P.followed at (code_of s.homes s.top at e first i) (λ p. dims_same s p es rest i)

  numbers_same : (es : Exprs Meant) → Agree (all_asked es)
      → map (λ e. unwrap_or (g.known e) 0) (X.list_of es)
      ≡ map (λ e. unwrap_or (h.known e) 0) (X.list_of es)
  numbers_same none a = refl
  numbers_same (more e es) a =
      let first = front (asked e) (all_asked es) a in
      let rest = back (asked e) (all_asked es) a in λ i.
      unwrap_or (A.known_same keys shapes components list changed one two e first i) 0
      ∷ numbers_same es rest i

  scope_step : (s : L.Scope) (v : Variable Meant) (m : Meant)
      → S.known_dims g v ≡ S.known_dims h v
      → S.declared_scope g s v m ≡ S.declared_scope h s v m
  scope_step s v (meant.Variable n) e = ap (λ dims. L.with_variable n dims s) e
  scope_step s v meant.Other e = refl
  scope_step s v (meant.Signal direction n) e = refl
  scope_step s v (meant.Component n) e = refl
  scope_step s v (meant.Template n) e = refl
  scope_step s v (meant.Function n) e = refl

  dims_part : (v : Variable Meant) → Wanted (X.variable_wanted v)
      → Agree (all_asked v.dimensions)
  dims_part v a = subst Agree (dims_asked v.dimensions)
      (first_of (X.numbers_wanted (X.list_of v.dimensions)) (X.value_wanted v.value) a)

  pub variable_scope_same : (s : L.Scope) (v : Variable Meant) → Wanted (X.variable_wanted v)
      → S.variable_scope g s v ≡ S.variable_scope h s v
  variable_scope_same s v a = scope_step s v v.meant (numbers_same v.dimensions (dims_part v a))

  value_same : (s : L.Scope) (at : ℕ) (m : Meant) (value : Option (Expr Meant))
      → Wanted (X.value_wanted value) → S.value_code g s at m value ≡ S.value_code h s at m value
  value_same s at m None a = refl
  value_same s at m (Some e) a = set_same s at m done e (front (asked e) [] a) tt

  variable_same : (s : L.Scope) (at : ℕ) (v : Variable Meant) → Wanted (X.variable_wanted v)
      → S.variable_code g s at v ≡ S.variable_code h s at v
  variable_same s at v a =
      let dims = dims_part v a in
      let value =
      last_of (X.numbers_wanted (X.list_of v.dimensions)) (X.value_wanted v.value) a in
      (λ i. P.followed at (dims_same s at v.dimensions dims i
      ++ P.zeros s.top (L.slots_of (numbers_same v.dimensions dims i)))
      (λ p. S.value_code g (variable_scope_same s v a i) p v.meant v.value))
      ∙ (λ i. P.followed at (S.dims_code h s at v.dimensions
      ++ P.zeros s.top (L.slots_of (S.known_dims h v)))
      (λ p. value_same (S.variable_scope h s v) p v.meant v.value value i))

  variables_scope_same : (s : L.Scope) (vs : List (Variable Meant))
      → Wanted (flat_map X.variable_wanted vs)
      → S.variables_scope g s vs ≡ S.variables_scope h s vs
  variables_scope_same s [] a = refl
  variables_scope_same s (v ∷ vs) a =
      let rest = flat_map X.variable_wanted vs in
      ap (λ t. S.variables_scope g t vs)
      (variable_scope_same s v (first_of (X.variable_wanted v) rest a))
      ∙ variables_scope_same (S.variable_scope h s v) vs (last_of (X.variable_wanted v) rest a)

  variables_same : (s : L.Scope) (at : ℕ) (vs : List (Variable Meant))
      → Wanted (flat_map X.variable_wanted vs)
      → S.variables_code g s at vs ≡ S.variables_code h s at vs
  variables_same s at [] a = refl
  variables_same s at (v ∷ vs) a =
      let rest = flat_map X.variable_wanted vs in
      let first = first_of (X.variable_wanted v) rest a in
      (λ i. P.followed at (variable_same s at v first i)
      (λ p. S.variables_code g (variable_scope_same s v first i) p vs))
      ∙ (λ i. P.followed at (S.variable_code h s at v) (λ p. variables_same
      (S.variable_scope h s v) p vs (last_of (X.variable_wanted v) rest a) i))

  -- ---- simple statements, and the head of a `for`
  pub first_scope_same : (s : L.Scope) (f : First Meant) → Wanted (X.first_wanted f)
      → S.first_scope g s f ≡ S.first_scope h s f
  first_scope_same s (FirstVars vs) a = variables_scope_same s vs a
  first_scope_same s (FirstAssign x) a = refl

  first_same : (s : L.Scope) (at : ℕ) (f : First Meant) → Wanted (X.first_wanted f)
      → S.first_code g s at f ≡ S.first_code h s at f
  first_same s at (FirstVars vs) a = variables_same s at vs a
  first_same s at (FirstAssign x) a = assign_same s at x a

  simple_scope_same : (s : L.Scope) (x : Simple Meant) → Wanted (X.simple_wanted x)
      → S.simple_scope g s x ≡ S.simple_scope h s x
  simple_scope_same s (Vars vs) a = variables_scope_same s vs a
  simple_scope_same s (Assigned x) a = refl
  simple_scope_same s (Signals direction ds) a = refl
  simple_scope_same s (Declared cs) a = refl
  simple_scope_same s (Created name m e) a = refl
  simple_scope_same s (Constrain e f) a = refl
  simple_scope_same s (Right e arrow name m accessors) a = refl
  simple_scope_same s (TargetLeft t arrow x) a = refl
  simple_scope_same s (TargetRight x arrow t) a = refl
  simple_scope_same s (Alone parallel name m arguments inputs) a = refl

  simple_same : (s : L.Scope) (at : ℕ) (x : Simple Meant) → Wanted (X.simple_wanted x)
      → S.simple_code g s at x ≡ S.simple_code h s at x
  simple_same s at (Vars vs) a = variables_same s at vs a
  simple_same s at (Assigned x) a = assign_same s at x a
  simple_same s at (Signals direction ds) a = refl
  simple_same s at (Declared cs) a = refl
  simple_same s at (Created name m e) a = refl
  simple_same s at (Constrain e f) a = refl
  simple_same s at (Right e arrow name m accessors) a = refl
  simple_same s at (TargetLeft t arrow x) a = refl
  simple_same s at (TargetRight x arrow t) a = refl
  simple_same s at (Alone parallel name m arguments inputs) a = refl

  pub scope_same : (s : L.Scope) (x : Statement Spot Meant) → Wanted (X.wanted_in x)
      → S.scope_behind g s x ≡ S.scope_behind h s x
  scope_same s (Ended spot x) a = simple_scope_same s x a
  scope_same s (Block spot ss) a = refl
  scope_same s (If spot c x) a = refl
  scope_same s (IfElse spot c x y) a = refl
  scope_same s (While spot c x) a = refl
  scope_same s (For spot first_spot f c step_spot step body) a = refl
  scope_same s (Return spot e) a = refl
  scope_same s (Assert spot e) a = refl
  scope_same s (Log spot arguments) a = refl

  -- ---- statements
  mutual
    statement_same : (s : L.Scope) (at : ℕ) (x : Statement Spot Meant) → Wanted (X.wanted_in x)
        → S.statement_code g s at x ≡ S.statement_code h s at x
    statement_same s at (Block spot ss) a = statements_same s at ss a
    statement_same s at (If spot c x) a =
        let test = front (asked c) (wanted_calls (X.wanted_in x)) a in
        let rest = back (asked c) (wanted_calls (X.wanted_in x)) a in λ i.
        P.followed at (code_of s.homes s.top at c test i) (λ p.
        P.unless_zero s.top p (λ q. statement_same s q x rest i))
    statement_same s at (IfElse spot c x y) a =
        let both = X.wanted_in x ++ X.wanted_in y in
        let test = front (asked c) (wanted_calls both) a in
        let rest = back (asked c) (wanted_calls both) a in
        let first = first_of (X.wanted_in x) (X.wanted_in y) rest in
        let second = last_of (X.wanted_in x) (X.wanted_in y) rest in λ i.
        P.followed at (code_of s.homes s.top at c test i) (λ p. P.either s.top p
        (λ q. statement_same s q x first i) (λ q. statement_same s q y second i))
    statement_same s at (While spot c x) a =
        let test = front (asked c) (wanted_calls (X.wanted_in x)) a in
        let rest = back (asked c) (wanted_calls (X.wanted_in x)) a in λ i.
        P.turns s.top at (λ q. statement_same s q x rest i)
        (λ q. code_of s.homes s.top q c test i)
    statement_same s at (For spot first_spot f c step_spot step body) a =
        let last = X.wanted_in body ++ X.assign_wanted step in
        let behind = X.wanted Scalar c ++ last in
        let head = first_of (X.first_wanted f) behind a in
        let rest = last_of (X.first_wanted f) behind a in
        let test = front (asked c) (wanted_calls last) rest in
        let turn = back (asked c) (wanted_calls last) rest in
        let one_turn = first_of (X.wanted_in body) (X.assign_wanted step) turn in
        let stepped = last_of (X.wanted_in body) (X.assign_wanted step) turn in
        let inner = S.first_scope h s f in
        (λ i. P.followed at (first_same s at f head i) (λ p.
        P.turns (first_scope_same s f head i).top p (λ q. P.followed q
        (S.statement_code g (first_scope_same s f head i) q body)
        (λ r. S.assign_code g (S.scope_behind g (first_scope_same s f head i) body) r step))
        (λ q. S.test_code g (first_scope_same s f head i) q c)))
        ∙ (λ i. P.followed at (S.first_code h s at f) (λ p.
        P.turns inner.top p (λ q. P.followed q (statement_same inner q body one_turn i)
        (λ r. S.assign_code g (scope_same inner body one_turn i) r step))
        (λ q. code_of inner.homes inner.top q c test i)))
        ∙ (λ i. P.followed at (S.first_code h s at f) (λ p.
        P.turns inner.top p (λ q. P.followed q (S.statement_code h inner q body)
        (λ r. assign_same (S.scope_behind h inner body) r step stepped i))
        (λ q. S.test_code h inner q c)))
    statement_same s at (Return spot e) a =
        ap (λ (k : P.Code). k ++ op.Return s.top ∷ [])
        (code_of s.homes s.top at e (front (asked e) [] a))
    statement_same s at (Assert spot e) a =
        ap (λ (k : P.Code). k ++ op.Assert s.top ∷ [])
        (code_of s.homes s.top at e (front (asked e) [] a))
    statement_same s at (Log spot arguments) a = refl
    statement_same s at (Ended spot x) a = simple_same s at x a

    statements_same : (s : L.Scope) (at : ℕ) (xs : Statements Spot Meant)
        → Wanted (X.all_wanted xs)
        → S.statements_code g s at xs ≡ S.statements_code h s at xs
    statements_same s at empty a = refl
    statements_same s at (then_more x rest) a =
        let first = first_of (X.wanted_in x) (X.all_wanted rest) a in
        let others = last_of (X.wanted_in x) (X.all_wanted rest) a in
        (λ i. P.followed at (statement_same s at x first i)
        (λ p. S.statements_code g (scope_same s x first i) p rest))
        ∙ (λ i. P.followed at (S.statement_code h s at x)
        (λ p. statements_same (S.scope_behind h s x) p rest others i))

  -- ---- tasks
  logs_same : (s : L.Scope) (at : ℕ) (es : List (Expr Meant)) → Agree (flat_map asked es)
      → T.logs_code g s at es ≡ T.logs_code h s at es
  logs_same s at [] a = refl
  logs_same s at (e ∷ es) a =
      let first = front (asked e) (flat_map asked es) a in
      let rest = back (asked e) (flat_map asked es) a in λ i.
      P.followed at (code_of s.homes s.top at e first i ++ op.Write s.top ∷ [])
      (λ p. logs_same s p es rest i)

  task_same : (s : L.Scope) (at : ℕ) (task : T.Task) → Agree (asked_by task)
      → T.task_code g s at task ≡ T.task_code h s at task
  task_same s at (T.Gives e) a = λ i.
      code_of s.homes s.top at e a i ++ T.writes s.top (size_same s.homes e a i)
  task_same s at (T.Equal x y) a =
      let left = front (asked x) (asked y) a in
      let right = back (asked x) (asked y) a in λ i.
      P.followed at (code_of s.homes s.top at x left i) (λ p.
      code_of s.homes (s.top + 1) p y right i ++ op.Check s.top (s.top + 1) ∷ [])
  task_same s at (T.Logs es) a = logs_same s at es a
  task_same s at (T.Executes x targets) a =
      ap (λ (k : P.Code). k ++ T.targets_code s.homes targets) (statement_same s at x a)

  pub step_same : (task : T.Task) → Agree (asked_by task)
      → T.step_code g (A.sources_with keys shapes components list changed one two one) task
      ≡ T.step_code h (A.sources_with keys shapes components list changed one two two) task
  step_same task a =
      let s : L.Scope = R.homes_from shapes record { homes = []; top = 0 } in
      let body : T.step_body g (A.sources_with keys shapes components list changed one two one) task
      ≡ T.step_body h (A.sources_with keys shapes components list changed one two two) task = λ i.
      P.followed 0 (R.sources_code (R.cells_read list) s.homes list)
      (λ p. task_same s p task a i) in
      ap framed body
    where
      framed : P.Code → Proc
      framed body =
          record { params = 0; slots = P.most_named (params_at keys) body; body = body }

  -- the code of a step with the values that calls have
  pub step_told : (task : T.Task) → changed ≡ T.changed_by task → Agree (asked_by task)
      → T.step_code g (A.sources_with keys shapes components list changed one two one) task
      ≡ T.step_code (T.step_ground keys
      (A.sources_with keys shapes components list changed one two two) task)
      (A.sources_with keys shapes components list changed one two two) task
  step_told task same a =
      let sources = A.sources_with keys shapes components list changed one two two in
      step_same task a ∙ ap (λ (ns : List ℕ). T.step_code record {
        keys = keys;
        known = K.number_known sources ns;
        called = two;
        components = components;
      } sources task) same
