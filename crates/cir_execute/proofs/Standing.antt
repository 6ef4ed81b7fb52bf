-- What stands in a statement under a condition that isn't known, part by part.
use Rattle.std.proofs.Common.{◌≡◌, ◌∙◌, ℕ, ◌+◌, ◌<◌, ◌≤◌, Bool, true, List, [], ◌∷◌, ◌++◌, get_or}
use Rattle.std.proofs.Common.{drop, length, map, ap, sym, refl, subst, arith, append-nil}
use Rattle.std.specs.Prelude.{flat_map, Option, Some, None, OnOk, Result, Ok, Err}
use Rattle.std.proofs.lemmas.Grind.{flat_map-append}
use Rattle.std.proofs.lemmas.List.{drop_all}
use Rattle.std.proofs.lemmas.List.Sums.{sum_by-cons}
use Rattle.cir_ast.specs.declared.program.Spot.{Spot}
use Rattle.cir_ast.specs.declared.program.Meant.{Meant}
use Rattle.cir_ast.specs.declared.marked.Expr.{Expr as CodeExpr}
use Rattle.cir_ast.specs.declared.marked.DeclaredVariable.{DeclaredVariable as CodeVariable}
use Rattle.cir_ast.specs.declared.marked.Statement.{Statement as CodeStatement}
use Rattle.cir_ast.specs.declared.marked.StatementForm.{StatementForm as CodeForm}
use Rattle.cir_ast.specs.Tree.{Assign, Expr, First, For, If, IfElse, Statement, Variable}
use Rattle.cir_ast.specs.Tree.{as_statements, bare, bare_exprs, bare_form, bare_statement}
use Rattle.cir_ast.specs.Tree.{bare_value, bare_variable}
use Rattle.cir_arrays.proofs.Lists.{at_read}
use Rattle.cir_frame.specs.declared.frame.Frame.{Frame}
use Rattle.cir_frame.specs.declared.world.World.{World}
use Rattle.cir_frame.specs.Shown.{state_of}
use Rattle.cir_meaning.specs.Source.{Equation}
use Rattle.cir_meaning.specs.Tried.{Where}
use Rattle.cir_meaning.specs.Arrays.{Want, Scalar}
use Rattle.cir_meaning.specs.Frame.{State, Context}
use Rattle.cir_meaning.specs.Texts.{Wanted, all_wanted, assign_wanted, first_wanted, list_of}
use Rattle.cir_meaning.specs.Texts.{numbers_wanted, value_wanted, variable_wanted, wanted}
use Rattle.cir_meaning.specs.Texts.{wanted_in}
use Rattle.cir_meaning.specs.Costs as M
use Rattle.cir_meaning.specs.Costs.{Cell, Made, cost_of}
use Rattle.cir_meaning.specs.Steps.{assign_nodes, expr_nodes, statement_nodes, statements_nodes}
use Rattle.cir_meaning.specs.Steps.{value_nodes}
use Rattle.cir_meaning.specs.Statement.{loop_of}
use Rattle.cir_meaning.specs.Unknown as U
use Rattle.cir_meaning.specs.Unknown.{fault_in, fault_of, first_of}
use Rattle.cir_cost.specs.declared.cost.Cost.{Cost}
use Rattle.cir_cost.specs.Adds.{Adds, IsCost}
use Rattle.cir_cost.proofs.Adding.{adds_both, adds_none, cost_both}
use Rattle.cir_evaluate.specs.Within.{Kept, kept_of}
use Rattle.cir_execute.specs.Again.{AddsOnce, IsOnce, IsUnchanged}
use Rattle.cir_execute.specs.Rests.{assign_inside, first_inside, inside, standing_in}
use Rattle.cir_execute.specs.Rests.{variables_inside}
use Rattle.cir_execute.proofs.Agains.{repeats_self, repeats_both}

-- ---- worlds that stay as they were
pub unchanged : (w : World) → IsUnchanged w w
unchanged w = record { states = λ f qs. refl; constraints = refl }

pub unchanged_next : (old mid new : World) → IsUnchanged old mid → IsUnchanged mid new
    → IsUnchanged old new
unchanged_next old mid new h k = record {
  states = λ f qs. k.states f qs ∙ h.states f qs;
  constraints = k.constraints ∙ h.constraints;
}

pub unchanged_by : (old new : World)
    → ((f : Frame) (qs : List Equation) → state_of f new qs ≡ state_of f old qs)
    → kept_of new ≡ kept_of old → IsUnchanged old new
unchanged_by old new h k =
    record { states = h; constraints = ap (λ (x : Kept). x.constraints) k }

pub unchanged_all : {A E : Type 0} (r : Result A E) (old new : World)
    → ((f : Frame) (qs : List Equation) → OnOk r (state_of f new qs ≡ state_of f old qs))
    → kept_of new ≡ kept_of old → OnOk r (IsUnchanged old new)
unchanged_all (Ok a) old new h k = unchanged_by old new h k
unchanged_all (Err e) old new h k = tt

-- ---- costs one behind the other
pub once : (a b : Cost) (c : M.Cost) → Adds a b c → AddsOnce a b c
once a b c h = record { once = c; adds = h; repeats = repeats_self c }

once_both : (a b c : Cost) (x y : M.Cost) → AddsOnce a b x → AddsOnce b c y
    → AddsOnce a c (M.both x y)
once_both a b c x y h k = record {
  once = M.both h.once k.once;
  adds = adds_both a b c h.once k.once h.adds k.adds;
  repeats = repeats_both h.once x k.once y h.repeats k.repeats;
}

-- a cost of nothing, and what comes behind it
pub once_alone : (a b : Cost) (c : M.Cost) → IsCost a (M.node 0) → AddsOnce a b c → IsOnce b c
once_alone a b c h k =
    let all : IsCost b (M.both (M.node 0) k.once) = cost_both a b (M.node 0) k.once h k.adds in
    record {
      once = k.once;
      is = record { nodes = omega (arith, all.nodes); reads = all.reads; calls = all.calls };
      repeats = k.repeats;
    }

abbrev cost_by : ℕ → List Cell → List Made → M.Cost
cost_by n r c = record { nodes = n; reads = r; calls = c }

cost_as : (m n : ℕ) (r q : List Cell) (c d : List Made) → m ≡ n → r ≡ q → c ≡ d
    → cost_by m r c ≡ cost_by n q d
cost_as m n r q c d g h k =
    ap (λ x. cost_by x r c) g ∙ ap (λ x. cost_by n x c) h ∙ ap (λ x. cost_by n q x) k

module _ (k : Context) (w : Where) (s : State) where
  abbrev pub Stands : Cost → Cost → ℕ → List Wanted → Type 0
  Stands a b n xs = AddsOnce a b (standing_in k w n xs s)

  pub stands_both : (a b c : Cost) (m n p : ℕ) (xs ys : List Wanted) → m + n ≡ p
      → Stands a b m xs → Stands b c n ys → Stands a c p (xs ++ ys)
  stands_both a b c m n p xs ys is h g =
      subst (AddsOnce a c) (cost_as (m + n) p _ _ _ _ is
      (sym (flat_map-append (λ x. (cost_of k w true x.expr s).reads) xs ys))
      (sym (flat_map-append (λ x. (cost_of k w true x.expr s).calls) xs ys)))
      (once_both a b c (standing_in k w m xs s) (standing_in k w n ys s) h g)

  pub stands_as : (a b : Cost) (m n : ℕ) (xs ys : List Wanted) → m ≡ n → xs ≡ ys
      → Stands a b m xs → Stands a b n ys
  stands_as a b m n xs ys g h r =
      subst (λ z. Stands a b n z) h (subst (λ z. Stands a b z xs) g r)

  pub stands_node : (a b : Cost) → Adds a b (M.node 1) → Stands a b 1 []
  stands_node a b h = once a b (M.node 1) h

  pub stands_none : (a : Cost) → Stands a a 0 []
  stands_none a = once a a (M.node 0) (adds_none a)

  -- an expression
  pub stands_one : (a b : Cost) (want : Want) (e : Expr Meant) (dark : Bool) (t : State)
      → dark ≡ true → t ≡ s → Adds a b (cost_of k w dark e t)
      → Stands a b (cost_of k w true e s).nodes (wanted want e)
  stands_one a b want e dark t is same h =
      let c = cost_of k w true e s in
      let is_one : standing_in k w c.nodes (wanted want e) s ≡ c =
      cost_as c.nodes c.nodes (c.reads ++ []) c.reads (c.calls ++ []) c.calls refl
      (append-nil c.reads) (append-nil c.calls) in
      once a b (standing_in k w c.nodes (wanted want e) s) (subst (Adds a b) (sym is_one)
      (subst (λ z. Adds a b (cost_of k w true e z)) same
      (subst (λ z. Adds a b (cost_of k w z e t)) is h)))

  -- ---- statements in turn
  abbrev pub AllStand : Cost → Cost → List (CodeStatement Spot Meant) → Type 0
  AllStand a b xs =
      Stands a b (statements_nodes k w (as_statements (map bare_statement xs)) s)
      (all_wanted (as_statements (map bare_statement xs)))

  pub all_more : (a b c : Cost) (xs : List (CodeStatement Spot Meant)) (i : ℕ)
      (x : CodeStatement Spot Meant) (t : State) → i < length xs → x ≡ get_or xs i x → t ≡ s
      → AddsOnce a b (inside k w (bare_statement x) t) → AllStand b c (drop (i + 1) xs)
      → AllStand a c (drop i xs)
  all_more a b c xs i x t less is same h rest =
      subst (AllStand a c) (sym (at_read (λ ys. ys) xs i x less is))
      (stands_both a b c _ _ _ (wanted_in (bare_statement x))
      (all_wanted (as_statements (map bare_statement (drop (i + 1) xs)))) refl
      (subst (λ z. AddsOnce a b (inside k w (bare_statement x) z)) same h) rest)

  pub all_end : (a : Cost) (xs : List (CodeStatement Spot Meant)) (i : ℕ) → length xs ≤ i
      → AllStand a a (drop i xs)
  all_end a xs i h = subst (λ ys. AllStand a a ys) (sym (drop_all i xs h)) (stands_none a)

  -- ---- numbers in turn
  abbrev pub NumbersStand : Cost → Cost → List (CodeExpr Meant) → Type 0
  NumbersStand a b es =
      Stands a b (expr_nodes k w (list_of (bare_exprs es)) s)
      (numbers_wanted (list_of (bare_exprs es)))

  pub numbers_more : (a b c : Cost) (es : List (CodeExpr Meant)) (i : ℕ) (e : CodeExpr Meant)
      (dark : Bool) (t : State) → i < length es → e ≡ get_or es i e → dark ≡ true → t ≡ s
      → Adds a b (cost_of k w dark (bare e) t) → NumbersStand b c (drop (i + 1) es)
      → NumbersStand a c (drop i es)
  numbers_more a b c es i e dark t less is shaded same h rest =
      let others = list_of (bare_exprs (drop (i + 1) es)) in
      subst (NumbersStand a c) (sym (at_read (λ ys. ys) es i e less is))
      (stands_both a b c _ _ _ (wanted Scalar (bare e)) (numbers_wanted others)
      (sym (sum_by-cons (λ x. (cost_of k w true x s).nodes) (bare e) others))
      (stands_one a b Scalar (bare e) dark t shaded same h) rest)

  pub numbers_end : (a : Cost) (es : List (CodeExpr Meant)) (i : ℕ) → length es ≤ i
      → NumbersStand a a (drop i es)
  numbers_end a es i h = subst (λ ys. NumbersStand a a ys) (sym (drop_all i es h)) (stands_none a)

  -- ---- variables in turn
  abbrev pub VariablesStand : Cost → Cost → List (CodeVariable Meant) → Type 0
  VariablesStand a b vs = AddsOnce a b (variables_inside k w (map bare_variable vs) s)

  abbrev nodes_in : Variable Meant → ℕ
  nodes_in v = expr_nodes k w (list_of v.dimensions) s + value_nodes k w v.value s

  zero_more : (n : ℕ) → n ≡ 0 + n
  zero_more n = omega arith

  pub variables_more : (a b c : Cost) (vs : List (CodeVariable Meant)) (i : ℕ)
      (v : CodeVariable Meant) (t : State) → i < length vs → v ≡ get_or vs i v → t ≡ s
      → AddsOnce a b (variables_inside k w (bare_variable v ∷ []) t)
      → VariablesStand b c (drop (i + 1) vs) → VariablesStand a c (drop i vs)
  variables_more a b c vs i v t less is same h rest =
      let others = map bare_variable (drop (i + 1) vs) in
      subst (VariablesStand a c) (sym (at_read (λ ys. ys) vs i v less is))
      (stands_both a b c _ _ _ (variable_wanted (bare_variable v))
      (flat_map variable_wanted others) (sym (sum_by-cons nodes_in (bare_variable v) others))
      (stands_as a b _ _ _ _ (sym (zero_more (nodes_in (bare_variable v))))
      (append-nil (variable_wanted (bare_variable v)))
      (subst (λ z. AddsOnce a b (variables_inside k w (bare_variable v ∷ []) z)) same h)) rest)

  pub variables_end : (a : Cost) (vs : List (CodeVariable Meant)) (i : ℕ) → length vs ≤ i
      → VariablesStand a a (drop i vs)
  variables_end a vs i h =
      subst (λ ys. VariablesStand a a ys) (sym (drop_all i vs h)) (stands_none a)

  -- a variable's dimensions, and its value
  pub variable_stands : (a b c : Cost) (v : CodeVariable Meant) (es : List (CodeExpr Meant))
      → es ≡ v.dimensions → NumbersStand a b es
      → Stands b c (value_nodes k w (bare_value v.value) s) (value_wanted (bare_value v.value))
      → AddsOnce a c (variables_inside k w (bare_variable v ∷ []) s)
  variable_stands a b c v es is h g =
      stands_as a c _ _ _ _ (zero_more (nodes_in (bare_variable v)))
      (sym (append-nil (variable_wanted (bare_variable v))))
      (stands_both a b c _ _ _ (numbers_wanted (list_of (bare_exprs v.dimensions)))
      (value_wanted (bare_value v.value)) refl (subst (NumbersStand a b) is h) g)

  -- ---- statements by their form
  pub simple_stands : (a b c : Cost) (n : ℕ) (xs : List Wanted) → Adds a b (M.node 1)
      → Stands b c n xs → Stands a c (1 + n) xs
  simple_stands a b c n xs node h = stands_both a b c 1 n _ [] xs refl (stands_node a b node) h

  pub if_stands : (a b c d : Cost) (spot : Spot) (e : Expr Meant) (x : Statement Spot Meant)
      → Adds a b (M.node 1) → Stands b c (cost_of k w true e s).nodes (wanted Scalar e)
      → AddsOnce c d (inside k w x s) → AddsOnce a d (inside k w (If spot e x) s)
  if_stands a b c d spot e x node test h =
      simple_stands a b d _ (wanted Scalar e ++ wanted_in x) node
      (stands_both b c d _ _ _ (wanted Scalar e) (wanted_in x) refl test h)

  pub else_stands : (a b c d f : Cost) (spot : Spot) (e : Expr Meant) (x y : Statement Spot Meant)
      → Adds a b (M.node 1) → Stands b c (cost_of k w true e s).nodes (wanted Scalar e)
      → AddsOnce c d (inside k w x s) → AddsOnce d f (inside k w y s)
      → AddsOnce a f (inside k w (IfElse spot e x y) s)
  else_stands a b c d f spot e x y node test h g =
      simple_stands a b f _ (wanted Scalar e ++ (wanted_in x ++ wanted_in y)) node
      (stands_both b c f _ _ _ (wanted Scalar e) (wanted_in x ++ wanted_in y) refl test
      (stands_both c d f _ _ _ (wanted_in x) (wanted_in y) refl h g))

  -- the step of a `for` is counted before its body
  swapped : (m n : ℕ) → m + n ≡ n + m
  swapped m n = omega arith

  pub for_stands : (a b c d f g : Cost) (spot first_spot step_spot : Spot) (first : First Meant)
      (e : Expr Meant) (step : Assign Meant) (x : Statement Spot Meant)
      → Adds a b (M.node 1) → AddsOnce b c (first_inside k w first s)
      → Stands c d (cost_of k w true e s).nodes (wanted Scalar e)
      → AddsOnce d f (inside k w x s) → AddsOnce f g (assign_inside k w step s)
      → AddsOnce a g (inside k w (For spot first_spot first e step_spot step x) s)
  for_stands a b c d f g spot first_spot step_spot first e step x node begun test h last =
      let later = wanted_in x ++ assign_wanted step in
      simple_stands a b g _ (first_wanted first ++ (wanted Scalar e ++ later)) node
      (stands_both b c g _ _ _ (first_wanted first) (wanted Scalar e ++ later) refl begun
      (stands_both c d g _ _ _ (wanted Scalar e) later refl test
      (stands_both d f g _ _ _ (wanted_in x) (assign_wanted step)
      (swapped (statement_nodes k w x s) (assign_nodes k w true step s)) h last)))

  loop_nodes : (e x a : ℕ)
      → 1 + (1 + (1 + (e + (x + a)))) ≡ 1 + (e + (1 + (x + ((1 + a) + 0))))
  loop_nodes e x a = omega arith

  -- a loop of a block of the body and the step
  pub loop_stands : (a b c d e f g : Cost) (spot step_spot : Spot) (test : Expr Meant)
      (step : Assign Meant) (x : Statement Spot Meant) → Adds a b (M.node 1)
      → Adds b c (M.node 1) → Adds c d (M.node 1)
      → Stands d e (cost_of k w true test s).nodes (wanted Scalar test)
      → AddsOnce e f (inside k w x s) → AddsOnce f g (assign_inside k w step s)
      → AddsOnce a g (inside k w (loop_of spot test x step_spot step) s)
  loop_stands a b c d e f g spot step_spot test step x one two three tested h last =
      let xs = wanted Scalar test ++ (wanted_in x ++ assign_wanted step) in
      stands_as a g _ _ xs _
      (loop_nodes (cost_of k w true test s).nodes (statement_nodes k w x s)
      (assign_nodes k w true step s))
      (ap (λ l. wanted Scalar test ++ (wanted_in x ++ l)) (sym (append-nil (assign_wanted step))))
      (simple_stands a b g _ xs one (simple_stands b c g _ xs two (simple_stands c d g _ xs three
      (stands_both d e g _ _ _ (wanted Scalar test) (wanted_in x ++ assign_wanted step) refl tested
      (stands_both e f g _ _ _ (wanted_in x) (assign_wanted step) refl h last)))))

-- ---- by a statement's form
pub formed : (P : Statement Spot Meant → Type 0) (a : CodeStatement Spot Meant)
    (f : CodeForm Spot Meant) → a.form ≡ f → P (bare_form a.spot f) → P (bare_statement a)
formed P a f is h = subst (λ x. P (bare_form a.spot x)) (sym is) h

pub form_of : (P : Statement Spot Meant → Type 0) (a : CodeStatement Spot Meant)
    (f : CodeForm Spot Meant) → a.form ≡ f → P (bare_statement a) → P (bare_form a.spot f)
form_of P a f is h = subst (λ x. P (bare_form a.spot x)) is h

pub at_both : {A : Type 0} (P : A → A → Type 0) (x y z u : A) → x ≡ y → z ≡ u → P x z → P y u
at_both P x y z u h g p = subst (P y) g (subst (λ v. P v z) h p)

-- ---- faults
pub none_first : (a b : Option U.Fault) → first_of a b ≡ None → a ≡ None
none_first None b h = refl
none_first (Some f) b h = absurd (cc)

pub none_then : (a b : Option U.Fault) → first_of a b ≡ None → b ≡ None
none_then None b h = h
none_then (Some f) b h = absurd (cc)

abbrev pub NoneAt : List (CodeStatement Spot Meant) → Type 0
NoneAt xs = fault_in (as_statements (map bare_statement xs)) ≡ None

pub none_more : (xs : List (CodeStatement Spot Meant)) (i : ℕ) (x : CodeStatement Spot Meant)
    → i < length xs → x ≡ get_or xs i x → NoneAt (drop i xs)
    → (fault_of (bare_statement x) ≡ None) × NoneAt (drop (i + 1) xs)
none_more xs i x less is h =
    let here : NoneAt (x ∷ drop (i + 1) xs) =
    subst NoneAt (at_read (λ ys. ys) xs i x less is) h in (
      none_first (fault_of (bare_statement x)) _ here,
      none_then (fault_of (bare_statement x)) _ here,
    )
