-- What the names of a definition carry before they are resolved doesn't matter, and resolving them
-- leaves it as high as it is.
use Rattle.std.proofs.Common.{◌≡◌, ℕ, ◌+◌, max, List, [], ◌∷◌, map, Option, None, Some, Ok, Err}
use Rattle.std.proofs.Common.{refl}
use Rattle.cir_ast.specs.declared.operators.Direction.{Direction}
use Rattle.cir_ast.specs.declared.program.Spot.{Spot}
use Rattle.cir_ast.specs.Tree as tree
use Rattle.cir_ast.specs.Tree.{Expr, Exprs, Accessors, Inputs, NamedInputs, Statement, Statements}
use Rattle.cir_ast.specs.Plain as plain
use Rattle.cir_ast.specs.Height as height
use Rattle.cir_ast.specs.Height.{highest}
use Rattle.cir_resolve.specs.Steps.{Step, behind, made, in_turn}
use Rattle.cir_resolve.specs.Scope.{State, Naming, entered, closed, read_at, called_at}
use Rattle.cir_resolve.specs.Naming as naming

-- ---- trees with their heights

-- two trees and their heights are the same
abbrev pub Same : {A : Type 0} → A → ℕ → A → ℕ → Type 0
Same {A = A} a m b n = ◌≡◌ {A = A × ℕ} (a, m) (b, n)

-- so are what is made of them: as high, or one node higher
as_high : {A B : Type 0} {a b : A} {m n : ℕ} (make : A → B) → Same a m b n
    → Same (make a) m (make b) n
as_high make e = λ i. (make (e i).0, (e i).1)

higher : {A B : Type 0} {a b : A} {m n : ℕ} (make : A → B) → Same a m b n
    → Same (make a) (m + 1) (make b) (n + 1)
higher make e = λ i. (make (e i).0, (e i).1 + 1)

-- and what is made of two
of_two : {A B C : Type 0} {a b : A} {c d : B} {m n k l : ℕ} (make : A → B → C) → Same a m b n
    → Same c k d l → Same (make a c) (max m k) (make b d) (max n l)
of_two make e f = λ i. (make (e i).0 (f i).0, max (e i).1 (f i).1)

over_two : {A B C : Type 0} {a b : A} {c d : B} {m n k l : ℕ} (make : A → B → C) → Same a m b n
    → Same c k d l → Same (make a c) (max m k + 1) (make b d) (max n l + 1)
over_two make e f = λ i. (make (e i).0 (f i).0, max (e i).1 (f i).1 + 1)

-- a plain tree is named as the tree is, and as high
abbrev IsKept : {A B C : Type 0} → (A → C) → (C → B) → (A → B) → (C → ℕ) → (B → ℕ) → A → Type 0
IsKept bare name other low high a = Same (name (bare a)) (low (bare a)) (other a) (high (other a))

all_kept : {A B C : Type 0} (bare : A → C) (name : C → B) (other : A → B) (low : C → ℕ)
    (high : B → ℕ) → ((a : A) → IsKept bare name other low high a) → (xs : List A)
    → IsKept (map bare) (map name) (map other) (highest low) (highest high) xs
all_kept bare name other low high all [] = refl
all_kept bare name other low high all (a ∷ xs) =
    of_two ◌∷◌ (all a) (all_kept bare name other low high all xs)

module _ {N : Type 0} (st : State) where
  mutual
    expr : (e : Expr N)
        → IsKept plain.plain (naming.named_expr st) (naming.named_expr st) height.height_of
        height.height_of e
    expr (tree.Number n) = refl
    expr (tree.Place name m a) = higher (tree.Place name (read_at st name)) (accessors a)
    expr (tree.Call p name m es) = higher (tree.Call p name (called_at st name)) (exprs es)
    expr (tree.Anonymous p name m es given) =
        over_two (tree.Anonymous p name (called_at st name)) (exprs es) (inputs given)
    expr (tree.Parentheses e) = higher tree.Parentheses (expr e)
    expr (tree.Array es) = higher tree.Array (exprs es)
    expr (tree.Unary op a) = higher (tree.Unary op) (expr a)
    expr (tree.Binary op a b) = over_two (tree.Binary op) (expr a) (expr b)
    expr (tree.Choice c a b) =
        λ i. (
          tree.Choice (expr c i).0 (expr a i).0 (expr b i).0,
          max (expr c i).1 (max (expr a i).1 (expr b i).1) + 1,
        )

    pub exprs : (es : Exprs N)
        → IsKept plain.plain_exprs (naming.named_exprs st) (naming.named_exprs st)
        height.exprs_height height.exprs_height es
    exprs tree.none = refl
    exprs (tree.more e es) = of_two tree.more (expr e) (exprs es)

    accessors : (a : Accessors N)
        → IsKept plain.plain_accessors (naming.named_accessors st) (naming.named_accessors st)
        height.accessors_height height.accessors_height a
    accessors tree.done = refl
    accessors (tree.index e a) = of_two tree.index (expr e) (accessors a)
    accessors (tree.member name a) = as_high (tree.member name) (accessors a)

    inputs : (given : Inputs N)
        → IsKept plain.plain_inputs (naming.named_inputs st) (naming.named_inputs st)
        height.inputs_height height.inputs_height given
    inputs (tree.Listed es) = as_high tree.Listed (exprs es)
    inputs (tree.Named is) = as_high tree.Named (each is)

    each : (is : NamedInputs N)
        → IsKept plain.plain_named (naming.named_each st) (naming.named_each st)
        height.named_height height.named_height is
    each tree.unnamed = refl
    each (tree.named name arrow e is) = of_two (tree.named name arrow) (expr e) (each is)

  value : (v : Option (Expr N))
      → IsKept plain.plain_value (naming.named_value st) (naming.named_value st)
      height.value_height height.value_height v
  value None = refl
  value (Some e) = as_high Some (expr e)

  given : (v : tree.SignalValue N)
      → IsKept plain.plain_signal_value (naming.named_signal_value st)
      (naming.named_signal_value st) height.signal_value_height height.signal_value_height v
  given tree.Nothing = refl
  given (tree.Given arrow e) = as_high (tree.Given arrow) (expr e)

  -- an accessed place is a node
  place : (a : Accessors N)
      → IsKept plain.plain_accessors (naming.named_accessors st) (naming.named_accessors st)
      height.place_height height.place_height a
  place a = higher (λ b. b) (accessors a)

  assign : (a : tree.Assign N)
      → IsKept plain.plain_assign (naming.named_assign st) (naming.named_assign st)
      height.assign_height height.assign_height a
  assign (tree.Set name m a e) = of_two (tree.Set name (read_at st name)) (place a) (expr e)
  assign (tree.Compound name m a op e) =
      of_two (λ b. tree.Compound name (read_at st name) b op) (place a) (expr e)
  assign (tree.Left name m a arrow e) =
      of_two (λ b. tree.Left name (read_at st name) b arrow) (place a) (expr e)
  assign (tree.Increment name m a) = as_high (tree.Increment name (read_at st name)) (place a)
  assign (tree.Decrement name m a) = as_high (tree.Decrement name (read_at st name)) (place a)

  argument : (a : tree.LogArgument N)
      → IsKept plain.plain_argument (naming.named_argument st) (naming.named_argument st)
      height.argument_height height.argument_height a
  argument (tree.Words w) = refl
  argument (tree.LogValue e) = as_high tree.LogValue (expr e)

  slot : (s : tree.Slot N)
      → IsKept plain.plain_slot (naming.named_slot st) (naming.named_slot st) height.slot_height
      height.slot_height s
  slot tree.SlotDiscard = refl
  slot (tree.SlotPlace name m a) = as_high (tree.SlotPlace name (read_at st name)) (place a)

  target : (t : tree.Target N)
      → IsKept plain.plain_target (naming.named_target st) (naming.named_target st)
      height.target_height height.target_height t
  target tree.Discard = refl
  target (tree.Slots ss) = as_high tree.Slots (all_kept _ _ _ _ _ slot ss)

  source : (s : tree.Source N)
      → IsKept plain.plain_source (naming.named_source st) (naming.named_source st)
      height.source_height height.source_height s
  source (tree.One e) = as_high tree.One (expr e)
  source (tree.Values es) = as_high tree.Values (all_kept _ _ _ _ _ expr es)

-- ---- steps

-- two steps give the same, of this height, or both stop
pub data Both {X E A : Type 0} (low : ℕ) (high : A → ℕ) : Step X E A → Step X E A → Type 0 where
  both : {a b : A} {x : X} → Same a low b (high b) → Both low high (Ok (a, x)) (Ok (b, x))
  neither : {stop : E} → Both low high (Err stop) (Err stop)

pub both_behind : {X E A B : Type 0} {low k : ℕ} {high : A → ℕ} {h : B → ℕ} {n m : Step X E A}
    {f g : A → X → Step X E B} → Both low high n m
    → ((a b : A) (x : X) → Same a low b (high b) → Both k h (f a x) (g b x))
    → Both k h (behind n f) (behind m g)
both_behind (both e) all = all _ _ _ e
both_behind neither all = neither

both_made : {X E A B : Type 0} {low k : ℕ} {high : A → ℕ} {h : B → ℕ} {n m : Step X E A}
    (f g : A → B) → Both low high n m
    → ((a b : A) → Same a low b (high b) → Same (f a) k (g b) (h (g b)))
    → Both k h (made f n) (made g m)
both_made f g (both e) all = both (all _ _ e)
both_made f g neither all = neither

both_closed : {A : Type 0} {low : ℕ} {high : A → ℕ} {n m : Naming A} (around : State)
    → Both low high n m → Both low high (closed around n) (closed around m)
both_closed around (both e) = both e
both_closed around neither = neither

pub both_any : {X E A : Type 0} (n : Step X E A) → Both 0 (λ a. 0) n n
both_any (Ok pair) = both refl
both_any (Err stop) = neither

pub both_same : {X E A : Type 0} {low : ℕ} {high : A → ℕ} {n m : Step X E A} → Both low high n m
    → n ≡ m
both_same (both {x = x} e) = λ i. Ok ((e i).0, x)
both_same neither = refl

pub both_turn : {X E A B C : Type 0} (bare : A → C) (low : C → ℕ) (high : B → ℕ)
    (step : X → C → Step X E B) (other : X → A → Step X E B)
    → ((x : X) (a : A) → Both (low (bare a)) high (step x (bare a)) (other x a)) → (x : X)
    (xs : List A)
    → Both (highest low (map bare xs)) (highest high) (in_turn step x (map bare xs))
    (in_turn other x xs)
both_turn bare low high step other all x [] = both refl
both_turn bare low high step other all x (a ∷ xs) =
    both_behind (all x a) (λ b c y e.
    both_made _ _ (both_turn bare low high step other all y xs) (λ bs cs f. of_two ◌∷◌ e f))

module _ {N : Type 0} (spot : Spot) where
  variable : (st : State) (v : tree.Variable N)
      → Both (height.variable_height (plain.plain_variable v)) height.variable_height
      (naming.named_variable spot st (plain.plain_variable v)) (naming.named_variable spot st v)
  variable st v =
      both_behind (both_any _) (λ m k after e.
      both (λ i.
      of_two (λ ds w. record { name = v.name; meant = (e i).0; dimensions = ds; value = w })
      (exprs st v.dimensions) (value after v.value) i))

  signal : (d : Direction) (st : State) (s : tree.Signal N)
      → Both (height.signal_height (plain.plain_signal s)) height.signal_height
      (naming.named_signal spot d st (plain.plain_signal s)) (naming.named_signal spot d st s)
  signal d st s =
      both_behind (both_any _) (λ m k after e.
      both (λ i.
      of_two (λ ds w. record { name = s.name; meant = (e i).0; dimensions = ds; value = w })
      (exprs st s.dimensions) (given after s.value) i))

  component : (st : State) (c : tree.Component N)
      → Both (height.component_height (plain.plain_component c)) height.component_height
      (naming.named_component spot st (plain.plain_component c)) (naming.named_component spot st c)
  component st c =
      both_behind (both_any _) (λ m k after e.
      both (λ i. as_high (λ ds. record { name = c.name; meant = (e i).0; dimensions = ds })
      (exprs st c.dimensions) i))

  first : (st : State) (f : tree.First N)
      → Both (height.first_height (plain.plain_first f)) height.first_height
      (naming.named_first spot st (plain.plain_first f)) (naming.named_first spot st f)
  first st (tree.FirstVars vs) =
      both_made _ _ (both_turn _ _ _ _ _ variable st vs) (λ a b e. as_high tree.FirstVars e)
  first st (tree.FirstAssign a) = both (as_high tree.FirstAssign (assign st a))

  simple : (st : State) (s : tree.Simple N)
      → Both (height.simple_height (plain.plain_simple s)) height.simple_height
      (naming.named_simple spot st (plain.plain_simple s)) (naming.named_simple spot st s)
  simple st (tree.Vars vs) =
      both_made _ _ (both_turn _ _ _ _ _ variable st vs) (λ a b e. as_high tree.Vars e)
  simple st (tree.Signals d ss) =
      both_made _ _ (both_turn _ _ _ _ _ (signal d) st ss) (λ a b e. as_high (tree.Signals d) e)
  simple st (tree.Declared cs) =
      both_made _ _ (both_turn _ _ _ _ _ component st cs) (λ a b e. as_high tree.Declared e)
  simple st (tree.Created name m e) =
      both_behind (both_any _) (λ m k after f.
      both (λ i. as_high (tree.Created name (f i).0) (expr after e) i))
  simple st (tree.Assigned a) = both (as_high tree.Assigned (assign st a))
  simple st (tree.Constrain a b) = both (of_two tree.Constrain (expr st a) (expr st b))
  simple st (tree.Right e arrow name m a) =
      both (of_two (λ b. tree.Right b arrow name (read_at st name)) (expr st e) (place st a))
  simple st (tree.TargetLeft t arrow s) =
      both (of_two (λ b. tree.TargetLeft b arrow) (target st t) (source st s))
  simple st (tree.TargetRight s arrow t) =
      both (of_two (λ b. tree.TargetRight b arrow) (source st s) (target st t))
  simple st (tree.Alone p name m es given) =
      both (over_two (tree.Alone p name (called_at st name)) (exprs st es) (inputs st given))

module _ {N : Type 0} where
  mutual
    statement : (st : State) (s : Statement Spot N)
        → Both (height.statement_height (plain.plain_statement s)) height.statement_height
        (naming.named_statement st (plain.plain_statement s)) (naming.named_statement st s)
    statement st (tree.Block spot ss) =
        both_made _ _ (both_closed st (statements (entered st) ss))
        (λ a b e. higher (tree.Block spot) e)
    statement st (tree.If spot c s) =
        both_made _ _ (both_closed st (statement (entered st) s))
        (λ a b e. over_two (tree.If spot) (expr st c) e)
    statement st (tree.IfElse spot c s t) =
        both_behind (both_closed st (statement (entered st) s)) (λ a b after e.
        both_made _ _ (both_closed after (statement (entered after) t)) (λ a' b' f.
        λ i. (
          tree.IfElse spot (expr st c i).0 (e i).0 (f i).0,
          max (expr st c i).1 (max (e i).1 (f i).1) + 1,
        )))
    statement st (tree.While spot c s) =
        both_made _ _ (both_closed st (statement (entered st) s))
        (λ a b e. over_two (tree.While spot) (expr st c) e)
    statement st (tree.For spot first_spot f c step_spot a s) =
        both_closed st (both_behind (first first_spot (entered st) f) (λ g h after e.
        both_closed after (both_behind (statement (entered after) s) (λ b d end k.
        both (λ i. (
          tree.For spot first_spot (e i).0 (expr after c i).0 step_spot (assign end a i).0 (k i).0,
          max (e i).1 (max (expr after c i).1 (max (assign end a i).1 (k i).1)) + 1,
        ))))))
    statement st (tree.Return spot e) = both (higher (tree.Return spot) (expr st e))
    statement st (tree.Assert spot e) = both (higher (tree.Assert spot) (expr st e))
    statement st (tree.Log spot xs) =
        both (higher (tree.Log spot) (all_kept _ _ _ _ _ (argument st) xs))
    statement st (tree.Ended spot s) =
        both_made _ _ (simple spot st s) (λ a b e. higher (tree.Ended spot) e)

    pub statements : (st : State) (ss : Statements Spot N)
        → Both (height.statements_height (plain.plain_statements ss)) height.statements_height
        (naming.named_statements st (plain.plain_statements ss)) (naming.named_statements st ss)
    statements st tree.empty = both refl
    statements st (tree.then_more s ss) =
        both_behind (statement st s) (λ a b after e.
        both_made _ _ (statements after ss) (λ c d f. of_two tree.then_more e f))

  pub statements_same : (st : State) (ss : Statements Spot N)
      → naming.named_statements st (plain.plain_statements ss) ≡ naming.named_statements st ss
  statements_same st ss = both_same (statements st ss)
