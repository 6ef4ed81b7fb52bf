-- What is scanned when a program is compiled fits: tests, assignments and dimensions. What stands
-- in the frame where a variable is declared.
use Rattle.std.proofs.Common.{◌≡◌, ℕ, zero, suc, ◌<◌, Bool, true, false, cond, List, [], ◌∷◌}
use Rattle.std.proofs.Common.{length, map, replicate, Option, Some, None, refl, sym, ap, ap₂, subst}
use Rattle.std.proofs.Common.{◌∙◌, arith, get_or-set_same, get_or-set_other}
use Rattle.std.specs.Prelude.{slice_get, slice_set, unwrap_or, ◌==◌}
use Rattle.std.specs.List.{AllByRecursion, list_any}
use Rattle.std.proofs.lemmas.Bool.{eqb-true, eqb-false}
use Rattle.std.proofs.lemmas.Option.{unwrap_or-slice_get}
use Rattle.cir_ast.specs.declared.program.Spot.{Spot}
use Rattle.cir_ast.specs.declared.program.Meant.{Meant}
use Rattle.cir_ast.specs.declared.program.Meant.TheVariants as meant
use Rattle.cir_ast.specs.Tree.{Expr, Exprs, none, more, Accessors, done, Variable as Declared}
use Rattle.cir_ast.specs.Tree.{Assign, Set, First, FirstVars, FirstAssign, Simple, Vars, Assigned}
use Rattle.cir_ast.specs.Tree.{Statement, Block, If, IfElse, While, For, Return, Assert, Log, Ended}
use Rattle.cir_ast.specs.Tree.{Statements, empty, then_more, Compound, Left, Increment, Decrement}
use Rattle.cir_meaning.specs.Tried.{Where}
use Rattle.cir_meaning.specs.Limits.{is_too_large}
use Rattle.cir_meaning.specs.Places.{elements}
use Rattle.cir_meaning.specs.Arrays.{Datum, Scalar, Whole, single, item_at, filled, the_item}
use Rattle.cir_meaning.specs.Values.{Known, Opaque, known_number}
use Rattle.cir_meaning.specs.Costs.{Made}
use Rattle.cir_meaning.specs.Frame.{State, Context, variable_at, entry_at, uncounted}
use Rattle.cir_meaning.specs.Evaluate.{value_in, dims_in}
use Rattle.cir_meaning.specs.Scan.{scan_test, scan_set, scan_plain, scan_value, scan_declared}
use Rattle.cir_meaning.specs.Run.{known_value}
use Rattle.cir_meaning.specs.Writing.{plain}
use Rattle.cir_meaning.specs.Texts.{list_of, indices_of}
use Rattle.wit_lower.specs.Homes.{Name, Variable, same_name, Home, Homes, Scope, Ground, find}
use Rattle.wit_lower.specs.Homes.{slots_of, with_variable}
use Rattle.wit_lower.specs.Sources.{Sources, scope_of, input_of, Constant}
use Rattle.cir_emit.specs.Lowered.{IsLoaded}
use Rattle.cir_emit.proofs.Values.{reading}
use Rattle.cir_ast.specs.declared.refusal.Kind.TheVariants.{UnknownIndex}
use Rattle.wit_lower.specs.Statements.{known_dims, variable_scope, first_scope, scope_behind}
use Rattle.wit_lower.specs.Fits.{TestFits, DimsFit, PlaceSetFits, PlainFits, ValueFits}
use Rattle.wit_lower.proofs.Names.{same_name_is}
use Rattle.cir_meaning.proofs.Good.{OnGood, good_ok, good_bad, good_next, good_weaker}
use Rattle.cir_meaning.proofs.Likes.{CallKeeps, Like, like_itself}
use Rattle.cir_meaning.proofs.FineValues.{FineContext, Fine}
use Rattle.cir_meaning.proofs.KnownCalls.{CallBoth}
use Rattle.cir_emit.proofs.Reached.{good_found}
use Rattle.cir_meaning.specs.Scoped.{Scope as Names, AreCallsMeant}
use Rattle.cir_steps.proofs.Sized.{SizedCall}
use Rattle.cir_emit.proofs.Standing.{IsStanding, no_dims, known_is}
use Rattle.cir_emit.proofs.Fitting.{ground_of, IsReady, Accepted, accepted, test_fits, set_accepted}
use Rattle.cir_steps.specs.Places.{HasNoMember}

-- a variable of a frame, behind a new value of one
pub set_here : (xs : List Datum) (n : ℕ) (d : Datum) → n < length xs
    → unwrap_or (slice_get (slice_set xs n d) n) (single (Known 0)) ≡ d
set_here xs n d h =
    unwrap_or-slice_get (slice_set xs n d) n (single (Known 0)) ∙
    get_or-set_same xs n d (single (Known 0)) h

pub set_there : (xs : List Datum) (n m : ℕ) (d : Datum) → (m ≡ n → ⊥)
    → unwrap_or (slice_get (slice_set xs n d) m) (single (Known 0))
    ≡ unwrap_or (slice_get xs m) (single (Known 0))
set_there xs n m d h =
    unwrap_or-slice_get (slice_set xs n d) m (single (Known 0)) ∙
    get_or-set_other xs n m d (single (Known 0)) h ∙
    sym (unwrap_or-slice_get xs m (single (Known 0)))

opaque_at : (count k v : ℕ) → k < count → item_at (replicate count Opaque) k ≡ Known v → ⊥
opaque_at zero k v l e = omega (arith, l)
opaque_at (suc count) zero v l e = cc
opaque_at (suc count) (suc k) v l e = opaque_at count k v (omega (arith, l)) e

filled_opaque : (dims : List ℕ) (k v : ℕ) → k < slots_of dims
    → item_at (filled dims Opaque).items k ≡ Known v → ⊥
filled_opaque dims k v l e = at (is_too_large dims) l e
  where
    at : (b : Bool) → k < cond b 0 (elements dims)
        → item_at (cond b [] (replicate (elements dims) Opaque)) k ≡ Known v → ⊥
    at true l e = omega (arith, l)
    at false l e = opaque_at (elements dims) k v l e

-- states that differ in counts alone have the same variables, signals and components
like_stands : (There : Name → Type 0) (w : Where) (s t : State) (sources : Sources)
    (changed : List ℕ) (homes : Homes)
    → Like s t → IsStanding There w s sources changed homes
    → IsStanding There w t sources changed homes
like_stands There w s t sources changed homes l x = record {
  small = x.small;
  variable = λ n h e. ap (λ vs. (unwrap_or (slice_get vs n) (single (Known 0))).dims) l.0 ∙
      x.variable n h e;
  known = λ n h k v e lk i. x.known n h k v e lk
      (ap (λ vs. item_at (unwrap_or (slice_get vs n) (single (Known 0))).items k) (sym l.0) ∙ i);
  signal = λ n h e found es. x.signal n h e found (ap (λ xs. entry_at xs n) (sym l.1) ∙ es);
  component = λ n c ec. x.component n c (ap (λ xs. entry_at xs n) (sym l.2) ∙ ec);
  port = λ n c is name h j p y ec inside full ej ep ey found.
      x.port n c is name h j p y (ap (λ xs. entry_at xs n) (sym l.2) ∙ ec) inside full ej
      (ap (λ xs. slice_get xs j) (sym l.3) ∙ ep) ey found;
  signal_there = λ n e es. x.signal_there n e (ap (λ xs. entry_at xs n) (sym l.1) ∙ es);
  port_there = λ n c is name j p y ec inside full ej ep ey.
      x.port_there n c is name j p y (ap (λ xs. entry_at xs n) (sym l.2) ∙ ec) inside full ej
      (ap (λ xs. slice_get xs j) (sym l.3) ∙ ep) ey;
}

-- a variable is declared: it is opaque
pub new_stands : (There : Name → Type 0) (w : Where) (s : State) (sources : Sources)
    (changed : List ℕ) (homes : Homes)
    (n : ℕ) (h : Home) → n < length s.frame.variables → is_too_large h.dims ≡ false
    → IsStanding There w s sources changed homes
    → IsStanding There w (scan_declared n h.dims s) sources changed
    (record { name = Variable n; home = h } ∷ homes)
new_stands There w s sources changed homes n h room fits x = record {
  small = λ y j e. small y j (same_name y (Variable n)) e;
  variable = λ m j e. variable m j (m == n) refl e;
  known = λ m j k v e lk i. known m j k v (m == n) refl e lk i;
  signal = λ m j e found es. x.signal m j e found es;
  component = x.component;
  port = x.port;
  signal_there = x.signal_there;
  port_there = x.port_there;
}
  where
    d : Datum
    d = filled h.dims Opaque

    small : (y : Name) (j : Home) (b : Bool) → cond b (Some h) (find y homes) ≡ Some j
        → is_too_large j.dims ≡ false
    small y j true e = let same : h ≡ j = cc in subst (λ z. is_too_large z.dims ≡ false) same fits
    small y j false e = x.small y j e

    variable : (m : ℕ) (j : Home) (b : Bool) → (m == n) ≡ b
        → cond b (Some h) (find (Variable m) homes) ≡ Some j
        → (variable_at (scan_declared n h.dims s).frame m).dims ≡ j.dims
    variable m j true em e =
        let same : h ≡ j = cc in
        ap (λ i. (unwrap_or (slice_get (slice_set s.frame.variables n d) i)
        (single (Known 0))).dims)
        (eqb-true m n em) ∙ ap (λ y. y.dims) (set_here s.frame.variables n d room) ∙
        ap (λ z. z.dims) same
    variable m j false em e =
        ap (λ y. y.dims) (set_there s.frame.variables n m d (λ q. eqb-false m n em q)) ∙
        x.variable m j e

    known : (m : ℕ) (j : Home) (k v : ℕ) (b : Bool) → (m == n) ≡ b
        → cond b (Some h) (find (Variable m) homes) ≡ Some j → k < slots_of j.dims
        → item_at (variable_at (scan_declared n h.dims s).frame m).items k ≡ Known v
        → (list_any (λ i. i == m) changed ≡ false)
        × (find (Variable m) (scope_of sources).homes ≡ Some j)
        × (IsLoaded sources (reading (Variable m) k)
        → input_of (Variable m) sources.list k ≡ Some (Constant v))
    known m j k v true em e lk i =
        let same : h ≡ j = cc in
        absurd (filled_opaque h.dims k v (subst (λ z. k < slots_of z.dims) (sym same) lk)
        (sym (ap (λ y. item_at y.items k) (set_here s.frame.variables n d room)) ∙
        ap (λ i. item_at (unwrap_or (slice_get (slice_set s.frame.variables n d) i)
        (single (Known 0))).items k) (sym (eqb-true m n em)) ∙ i))
    known m j k v false em e lk i =
        x.known m j k v e lk
        (sym (ap (λ y. item_at y.items k)
        (set_there s.frame.variables n m d (λ q. eqb-false m n em q))) ∙ i)

-- its scope ends
pub old_stands : (There : Name → Type 0) (w : Where) (s : State) (sources : Sources)
    (changed : List ℕ) (homes : Homes)
    (n : ℕ) (h : Home) → find (Variable n) homes ≡ None
    → IsStanding There w s sources changed (record { name = Variable n; home = h } ∷ homes)
    → IsStanding There w s sources changed homes
old_stands There w s sources changed homes n h fresh x = record {
  small = λ y j e. x.small y j (outer y j e);
  variable = λ m j e. x.variable m j (outer (Variable m) j e);
  known = λ m j k v e lk i. x.known m j k v (outer (Variable m) j e) lk i;
  signal = λ m j e found es. x.signal m j e found es;
  component = x.component;
  port = x.port;
  signal_there = x.signal_there;
  port_there = x.port_there;
}
  where
    outer : (y : Name) (j : Home) → find y homes ≡ Some j
        → cond (same_name y (Variable n)) (Some h) (find y homes) ≡ Some j
    outer y j e = at (same_name y (Variable n)) refl
      where
        at : (b : Bool) → same_name y (Variable n) ≡ b → cond b (Some h) (find y homes) ≡ Some j
        at true eb =
            let there : None ≡ Some j =
            sym fresh ∙ subst (λ z. find z homes ≡ Some j) (same_name_is y (Variable n) eb) e in cc
        at false eb = e

-- statements whose expressions are ready, whose variables have homes, and whose indices are indices
module _ (Ready : Homes → Expr Meant → Type 0) (ground : Ground) (free : ℕ → Type 0) where
  pub record IsSetReady (homes : Homes) (n : ℕ) (accessors : Accessors Meant)
      (e : Expr Meant) : Type 0 where
    pub home : Home
    pub found : find (Variable n) homes ≡ Some home
    pub may : free n
    pub are : HasNoMember accessors
    pub indices : AllByRecursion (Ready homes) (indices_of accessors)
    pub value : Ready homes e

  abbrev pub SetReady : Homes → Meant → Accessors Meant → Expr Meant → Type 0
  SetReady homes (meant.Variable n) accessors e = IsSetReady homes n accessors e
  SetReady homes _ accessors e = Unit {0}

  abbrev pub PlainReady : Homes → Assign Meant → Type 0
  PlainReady homes (Set name m accessors e) = SetReady homes m accessors e
  PlainReady homes _ = Unit {0}

  abbrev pub ValueReady : Homes → Meant → Option (Expr Meant) → Type 0
  ValueReady homes m None = Unit {0}
  ValueReady homes m (Some e) = SetReady homes m done e

  pub record IsDeclaredReady (s : Scope) (v : Declared Meant) (n : ℕ) : Type 0 where
    pub dims : AllByRecursion (Ready s.homes) (list_of v.dimensions)
    pub fresh : find (Variable n) s.homes ≡ None
    pub may : free n
    pub value : ValueReady (with_variable n (known_dims ground v) s).homes v.meant v.value

  abbrev pub DeclaredReady : Scope → Declared Meant → Meant → Type 0
  DeclaredReady s v (meant.Variable n) = IsDeclaredReady s v n
  DeclaredReady s v _ = Unit {0}

  abbrev pub VariablesReady : Scope → List (Declared Meant) → Type 0
  VariablesReady s [] = Unit {0}
  VariablesReady s (v ∷ vs) =
      DeclaredReady s v v.meant × VariablesReady (variable_scope ground s v) vs

  abbrev pub FirstReady : Scope → First Meant → Type 0
  FirstReady s (FirstVars vs) = VariablesReady s vs
  FirstReady s (FirstAssign a) = PlainReady s.homes (plain a)

  abbrev pub SimpleReady : Scope → Simple Meant → Type 0
  SimpleReady s (Vars vs) = VariablesReady s vs
  SimpleReady s (Assigned a) = PlainReady s.homes (plain a)
  SimpleReady s _ = Unit {0}

  abbrev mutual
    pub StatementReady : Scope → Statement Spot Meant → Type 0
    StatementReady s (Block spot ss) = StatementsReady s ss
    StatementReady s (If spot c a) = Ready s.homes c × StatementReady s a
    StatementReady s (IfElse spot c a b) =
        Ready s.homes c × StatementReady s a × StatementReady s b
    StatementReady s (While spot c a) = Ready s.homes c × StatementReady s a
    StatementReady s (For spot first_spot f c step_spot a body) =
        FirstReady s f × Ready (first_scope ground s f).homes c ×
        StatementReady (first_scope ground s f) body ×
        PlainReady (scope_behind ground (first_scope ground s f) body).homes (plain a)
    StatementReady s (Return spot e) = Unit {0}
    StatementReady s (Assert spot e) = Ready s.homes e
    StatementReady s (Log spot arguments) = Unit {0}
    StatementReady s (Ended spot x) = SimpleReady s x

    pub StatementsReady : Scope → Statements Spot Meant → Type 0
    StatementsReady s empty = Unit {0}
    StatementsReady s (then_more a rest) =
        StatementReady s a × StatementsReady (scope_behind ground s a) rest

module _ (k : Context) (keeps : CallKeeps k.call) (both : CallBoth k.call) (fine : FineContext k)
    (sized : SizedCall k.call) (w : Where) (keys : List Made) (sources : Sources)
    (changed : List ℕ) (There : Name → Type 0) (scope : Names) (Within : State → Type 0)
    (alike : (s t : State) → Within s → Like s t → Within t)
    (seen : (t : State) → Within t → (n : ℕ) → scope.seen n ≡ true → There (Variable n))
    (called_is : (t : State) → Within t → (e : Expr Meant) → AreCallsMeant scope e
    → sources.called e ≡ known_value (value_in k w true Whole e (uncounted t)))
    (free : ℕ → Type 0) where
  abbrev g : Ground
  g = ground_of keys sources changed

  abbrev Ready : Homes → Expr Meant → Type 0
  Ready homes e = IsReady There scope keys sources changed homes e

  pub record At (homes : Homes) (t : State) : Type 0 where
    pub stands : IsStanding There w t sources changed homes
    pub fine_state : Fine t
    pub within : Within t

  pub like_at : (homes : Homes) (s t : State) → At homes s → Like s t → Fine t → At homes t
  like_at homes s t a l i = record {
    stands = like_stands There w s t sources changed homes l a.stands;
    fine_state = i;
    within = alike s t a.within l;
  }

  -- tests and assignments
  number_scanned : (homes : Homes) (e : Expr Meant) (s : State) → At homes s
      → Ready homes e
      → OnGood (λ x. TestFits g homes e × At homes x.1
      × ((n : ℕ) → known_number (the_item x.0) ≡ Some n → g.known e ≡ Some n))
      (value_in k w true Scalar e s)
  number_scanned homes e s a ready =
      good_weaker
      (Accepted k keeps both fine sized w s a.fine_state keys sources changed homes There
      a.stands
      scope (seen s a.within) (called_is s a.within) Scalar e) _ (value_in k w true Scalar e s)
      (accepted k keeps both fine sized w s a.fine_state keys sources changed homes There
      a.stands scope (seen s a.within) (called_is s a.within)
      e true Scalar s (like_itself s) a.fine_state ready)
      (λ x p. (
        test_fits k keeps both fine sized w s a.fine_state keys sources changed homes There
            a.stands scope (seen s a.within) (called_is s a.within) e x p,
        like_at homes s x.1 a p.like p.fine_state,
        λ n en. p.told.tells n (no_dims _ _ x.0 p.told) (known_is (the_item x.0) n en),
      ))

  pub test_scanned : (homes : Homes) (e : Expr Meant) (s : State) → At homes s
      → Ready homes e
      → OnGood (λ t. TestFits g homes e × At homes t) (scan_test k w e s)
  test_scanned homes e s a ready =
      good_next _ (λ t. TestFits g homes e × At homes t) (value_in k w true Scalar e s) _
      (number_scanned homes e s a ready)
      (λ x p. good_ok (λ t. TestFits g homes e × At homes t) x.1 (p.0, p.1))

  set_scanned : (homes : Homes) (m : Meant) (accessors : Accessors Meant) (e : Expr Meant)
      (s : State) → At homes s → SetReady Ready g free homes m accessors e
      → OnGood (λ t. PlaceSetFits free g homes m accessors e × At homes t)
      (scan_set k w m accessors e s)
  set_scanned homes (meant.Variable n) accessors e s a ready =
      set_accepted k keeps both fine sized w s a.fine_state keys sources changed homes There
      a.stands scope (seen s a.within) (called_is s a.within) (At homes) free n ready.home accessors
      e true s (λ d r t. t)
      (λ d r t l i. like_at homes s t a l i) (like_itself s) a.fine_state ready.found ready.may
      ready.are ready.indices ready.value
  set_scanned homes meant.Other accessors e s a ready = good_bad _ _
  set_scanned homes (meant.Signal d n) accessors e s a ready = good_bad _ _
  set_scanned homes (meant.Component n) accessors e s a ready = good_bad _ _
  set_scanned homes (meant.Template n) accessors e s a ready = good_bad _ _
  set_scanned homes (meant.Function n) accessors e s a ready = good_bad _ _

  pub plain_scanned : (homes : Homes) (x : Assign Meant) (s : State) → At homes s
      → PlainReady Ready g free homes x
      → OnGood (λ t. PlainFits free g homes x × At homes t) (scan_plain k w x s)
  plain_scanned homes (Set name m accessors e) s a ready = set_scanned homes m accessors e s a ready
  plain_scanned homes (Compound name m accessors o e) s a ready = good_bad _ _
  plain_scanned homes (Left name m accessors arrow e) s a ready = good_bad _ _
  plain_scanned homes (Increment name m accessors) s a ready = good_bad _ _
  plain_scanned homes (Decrement name m accessors) s a ready = good_bad _ _

  pub value_scanned : (homes : Homes) (m : Meant) (o : Option (Expr Meant)) (s : State) → At homes s
      → ValueReady Ready g free homes m o
      → OnGood (λ t. ValueFits free g homes m o × At homes t) (scan_value k w m o s)
  value_scanned homes m None s a ready = good_ok _ s (tt, a)
  value_scanned homes m (Some e) s a ready = set_scanned homes m done e s a ready

  -- declarations
  abbrev pub DimsTold : Homes → Exprs Meant → List ℕ × State → Type 0
  DimsTold homes es x =
      DimsFit g homes es × (x.0 ≡ map (λ e. unwrap_or (g.known e) 0) (list_of es)) × At homes x.1

  pub dims_scanned : (homes : Homes) (es : Exprs Meant) (s : State) → At homes s
      → AllByRecursion (Ready homes) (list_of es)
      → OnGood (DimsTold homes es) (dims_in k w true es s)
  dims_scanned homes none s a ready = good_ok (DimsTold homes none) ([], s) (tt, refl, a)
  dims_scanned homes (more e es) s a ready =
      good_next _ (DimsTold homes (more e es)) (value_in k w true Scalar e s) _
      (number_scanned homes e s a ready.0) (λ x p.
      good_found (DimsTold homes (more e es)) w UnknownIndex (known_number (the_item x.0)) _
      (λ n en.
      good_next (DimsTold homes es) (DimsTold homes (more e es)) (dims_in k w true es x.1) _
      (dims_scanned homes es x.1 p.1 ready.1) (λ y q.
      good_ok (DimsTold homes (more e es)) (n ∷ y.0, y.1) (
        (p.0, record { value = n; told = p.2 n en }, q.0),
        ap₂ (λ i is. i ∷ is) (sym (ap (λ o. unwrap_or o 0) (p.2 n en))) q.1,
        q.2,
      ))))
