-- A statement that is scanned when a program is compiled fits, and what is counted where a step is
-- made tells of all that its expressions may read.
use Rattle.std.proofs.Common.{◌≡◌, ℕ, ◌+◌, ◌<◌, List, [], ◌∷◌, ◌++◌, length, flat_map, None, Ok}
use Rattle.std.proofs.Common.{sym, subst, ◌∙◌, arith, refl}
use Rattle.std.specs.Prelude.{◌||◌, true, false}
use Rattle.std.specs.List.{AllByRecursion}
use Rattle.std.proofs.lemmas.Bool.{eq-eqb}
use Rattle.cir_ast.specs.declared.program.Spot.{Spot}
use Rattle.cir_ast.specs.declared.program.Meant.{Meant}
use Rattle.cir_ast.specs.declared.program.Meant.TheVariants as meant
use Rattle.cir_ast.specs.Tree.{Expr, Variable as Declared, Assign, First, FirstVars, FirstAssign}
use Rattle.cir_ast.specs.Tree.{Simple, Vars, Assigned, Signals, Declared as DeclaredComponents}
use Rattle.cir_ast.specs.Tree.{Created, Constrain, Right as RightArrow, TargetLeft, TargetRight}
use Rattle.cir_ast.specs.Tree.{Alone, Statement, Block, If, IfElse, While, For, Return, Assert, Log}
use Rattle.cir_ast.specs.Tree.{Ended, Statements, empty, then_more}
use Rattle.cir_meaning.specs.Tried.{Where, next}
use Rattle.cir_meaning.specs.Limits.{is_too_large}
use Rattle.cir_meaning.specs.Arrays.{Datum, Want, Scalar, Whole, filled}
use Rattle.cir_meaning.specs.Values.{Opaque}
use Rattle.cir_meaning.specs.Costs.{Made, Cell, Cost, cost_of}
use Rattle.cir_meaning.specs.Frame.{State, Context, uncounted}
use Rattle.cir_meaning.specs.Evaluate.{value_in, dims_in}
use Rattle.cir_meaning.specs.Run.{known_value}
use Rattle.cir_meaning.specs.Scan.{scan_test, scan_assign, scan_value, scan_declared, scan_meant}
use Rattle.cir_meaning.specs.Scan.{scan_variable, scan_first, scan_simple, scan, scan_all}
use Rattle.cir_meaning.specs.Scoped.{Scope as Names, AreCallsMeant, AreAllMeant, IsAssignMeant}
use Rattle.cir_meaning.specs.Scoped.{IsOptionMeant, with_variable as with_name, with_variables}
use Rattle.cir_meaning.specs.Scoped.{IsVariableScoped, AreVariablesScoped, IsFirstScoped}
use Rattle.cir_meaning.specs.Scoped.{behind_first, IsSimpleScoped, behind_simple, closed, behind}
use Rattle.cir_meaning.specs.Scoped.{behind_all, IsScoped, AreScoped}
use Rattle.cir_meaning.specs.Simple.{each}
use Rattle.cir_meaning.specs.Texts.{Wanted, wanted, list_of, numbers_wanted, value_wanted}
use Rattle.cir_meaning.specs.Texts.{variable_wanted, assign_wanted, first_wanted, simple_wanted}
use Rattle.cir_meaning.specs.Texts.{wanted_in, all_wanted}
use Rattle.cir_meaning.specs.Unknown.{variable_of, vars_declare, first_declares, simple_declares}
use Rattle.cir_meaning.specs.Unknown.{declares, all_declares}
use Rattle.cir_meaning.specs.Writing.{plain}
use Rattle.cir_meaning.proofs.Good.{good_is}
use Rattle.cir_meaning.proofs.Likes.{CallKeeps, Like, like_itself, value_like}
use Rattle.cir_meaning.proofs.FineValues.{FineContext, Fine, FineAnswer, filled_datum, value_fine}
use Rattle.cir_meaning.proofs.FineWriting.{set_fine}
use Rattle.cir_meaning.proofs.KnownCalls.{CallBoth}
use Rattle.cir_meaning.proofs.Rows.{all_append}
use Rattle.cir_meaning.proofs.ScanPoints.{next_to}
use Rattle.cir_meaning.proofs.ScopeLaws.{IsSound, sound_variable, sound_first, sound_closed, sound}
use Rattle.cir_meaning.proofs.ScopeLaws.{grows_variables, grows, grows_all}
use Rattle.wit_lower.specs.Homes.{Homes, Scope, Ground, with_variable, Name, Variable, find}
use Rattle.wit_lower.specs.Sources.{Sources, scope_of}
use Rattle.wit_lower.specs.Statements.{known_dims, declared_scope, variable_scope, variables_scope}
use Rattle.wit_lower.specs.Statements.{first_scope, simple_scope, scope_behind}
use Rattle.wit_lower.specs.Fits.{TestFits, AssignFits, ValueFits, DeclarationFits, DeclaredFits}
use Rattle.wit_lower.specs.Fits.{VariablesFit, FirstFits, SimpleFits, StatementFits, StatementsFit}
use Rattle.wit_lower.proofs.Listed.{In, in_front, in_back, in_one}
use Rattle.cir_emit.specs.Reads.{Reading, expr_reads}
use Rattle.cir_emit.proofs.Behind.{cost_same}
use Rattle.cir_emit.proofs.Counted.{AreLed, expr_led}
use Rattle.cir_emit.proofs.Evaluated.{AllOf, test_seen, dims_seen, plain_seen, value_seen}
use Rattle.cir_emit.proofs.LedScans.{led_like, led_declared}
use Rattle.cir_emit.proofs.Standing.{IsStanding}
use Rattle.cir_emit.proofs.Fitting.{ground_of, IsHeld, IsReady}
use Rattle.cir_steps.proofs.Sized.{SizedCall}
use Rattle.cir_emit.proofs.SmallArrays.{array_small}
use Rattle.cir_emit.proofs.Seen.{Within, Stays, Closes, within_like, known_within, stays_declared}
use Rattle.cir_emit.proofs.Seen.{leaves, closes_before, value_part, variable_part, variables_part}
use Rattle.cir_emit.proofs.Seen.{assign_part, test_part, first_part, statement_part}
use Rattle.cir_emit.proofs.Seen.{statements_part}
use Rattle.cir_emit.proofs.InScope.{ready_in, dims_ready, assign_ready, value_ready}
use Rattle.cir_emit.proofs.Scanned.{At, PlainReady, ValueReady, IsDeclaredReady, DeclaredReady}
use Rattle.cir_emit.proofs.Scanned.{VariablesReady, FirstReady, SimpleReady, StatementReady}
use Rattle.cir_emit.proofs.Scanned.{StatementsReady, new_stands, old_stands, DimsTold, test_scanned}
use Rattle.cir_emit.proofs.Scanned.{plain_scanned, value_scanned, dims_scanned, like_at}

-- `s` has the variables of the state behind the whole scan
module _ (k : Context) (keeps : CallKeeps k.call) (both : CallBoth k.call) (fine : FineContext k)
    (sized : SizedCall k.call) (w : Where) (functions : ℕ) (s : State) (keys : List Made)
    (sources : Sources) (changed : List ℕ) (There : Name → Type 0)
    (there : (n : ℕ) → n < length s.frame.variables → There (Variable n))
    (called_is : (e : Expr Meant)
    → sources.called e ≡ known_value (value_in k w true Whole e (uncounted s)))
    (free : ℕ → Type 0) (room : (n : ℕ) → free n → n < length s.frame.variables)
    (C : Cell → Type 0) (Q : Reading → Type 0) where
  abbrev g : Ground
  g = ground_of keys sources changed

  abbrev first_homes : Homes
  first_homes = (scope_of sources).homes

  abbrev pub Staying : State → Type 0
  Staying = Stays k keeps w functions s

  abbrev pub Ending : ℕ → State → Type 0
  Ending = Closes k keeps w functions s

  abbrev pub Inside : Names → State → Type 0
  Inside = Within k keeps w functions s

  -- what is counted tells of all that may be read
  abbrev Led : State → Type 0
  Led t = AreLed w t first_homes C Q

  abbrev Point : Names → State → Type 0
  Point scope t = Inside scope t × Led t

  point_like : (scope : Names) (t u : State) → Point scope t → Like t u → Point scope u
  point_like scope t u h l =
      (within_like k keeps w functions s scope t u h.0 l, led_like w first_homes C Q t u h.1 l)

  called_in : (scope : Names) (t : State) → Point scope t → (e : Expr Meant)
      → AreCallsMeant scope e
      → sources.called e ≡ known_value (value_in k w true Whole e (uncounted t))
  called_in scope t h e is = called_is e ∙ known_within k keeps w functions s scope t h.0 e is

  seen_in : (scope : Names) (t : State) → Point scope t → (n : ℕ) → scope.seen n ≡ true
      → There (Variable n)
  seen_in scope t h n e = there n (omega (arith, h.0.sound.below n e, h.0.ends.0))

  pub record Stood (homes : Homes) (t : State) : Type 0 where
    pub stands : IsStanding There w t sources changed homes
    pub fine_state : Fine t
    pub led : Led t

  abbrev AtIn : Names → Homes → State → Type 0
  AtIn scope =
      At k keeps both fine sized w keys sources changed There scope (Point scope)
      (point_like scope) (seen_in scope) (called_in scope) free

  at_in : (scope : Names) (homes : Homes) (t : State) → Inside scope t → Stood homes t
      → AtIn scope homes t
  at_in scope homes t h a =
      record { stands = a.stands; fine_state = a.fine_state; within = (h, a.led) }

  stood : (scope : Names) (homes : Homes) (t : State) → AtIn scope homes t → Stood homes t
  stood scope homes t a =
      record { stands = a.stands; fine_state = a.fine_state; led = a.within.1 }

  abbrev Ready : Homes → Expr Meant → Type 0
  Ready homes e = IsHeld There keys sources changed homes e

  abbrev InReady : Names → Homes → Expr Meant → Type 0
  InReady scope homes e = IsReady There scope keys sources changed homes e

  -- of an expression that is evaluated
  abbrev pub Tells : Expr Meant → Type 0
  Tells e =
      AllByRecursion C (cost_of k w true e s).reads
      → AllByRecursion Q (expr_reads g first_homes e)

  abbrev AllTell : List Wanted → Type 0
  AllTell zs = AllOf Tells zs

  tells : (scope : Names) (homes : Homes) (t : State) (want : Want) (e : Expr Meant)
      (x : Datum × State) → AtIn scope homes t → InReady scope homes e
      → value_in k w true want e t ≡ Ok x → Tells e
  tells scope homes t want e x a ready ex counts =
      expr_led k keeps both fine sized w t a.fine_state keys sources changed homes There a.stands
      scope (seen_in scope t a.within) (called_in scope t a.within) C Q a.within.1 e true want t x
      (like_itself t) a.fine_state ready.0.has ready.1 ready.0.loaded ex
      (subst (λ (c : Cost). AllByRecursion C c.reads)
      (sym (cost_same k w scope s t a.within.0.stays.0
      (λ n seen. a.within.0.ends.1 n (a.within.0.sound.below n seen)) true e ready.1)) counts)

  evaluated : (scope : Names) (homes : Homes) (t : State) (want : Want) (e : Expr Meant)
      (x : Datum × State) → AtIn scope homes t → value_in k w true want e t ≡ Ok x
      → AtIn scope homes x.1
  evaluated scope homes t want e x a ex =
      let answer : FineAnswer x =
      good_is FineAnswer (value_in k w true want e t) x ex
      (value_fine k fine w true want e t a.fine_state) in
      like_at k keeps both fine sized w keys sources changed There scope (Point scope)
      (point_like scope) (seen_in scope) (called_in scope) free homes t x.1 a
      (good_is (λ y. Like t y.1) (value_in k w true want e t) x ex
      (value_like t k keeps w true want e t (like_itself t))) answer.1

  -- variables that are declared have no home before the statement
  abbrev pub AreNew : List ℕ → Type 0
  AreNew ns = (n : ℕ) → In n ns → find (Variable n) first_homes ≡ None

  front_new : (ns ms : List ℕ) → AreNew (ns ++ ms) → AreNew ns
  front_new ns ms new n i = new n (in_front n ns ms i)

  back_new : (ns ms : List ℕ) → AreNew (ns ++ ms) → AreNew ms
  back_new ns ms new n i = new n (in_back n ns ms i)

  -- tests and assignments
  test_done : (scope : Names) (homes : Homes) (e : Expr Meant) (t t1 : State) → Inside scope t
      → Stood homes t → Ready homes e → AreCallsMeant scope e → scan_test k w e t ≡ Ok t1
      → TestFits g homes e × Stood homes t1 × Inside scope t1 × Tells e
  test_done scope homes e t t1 h a ready is ex =
      let p : TestFits g homes e × AtIn scope homes t1 =
      good_is (λ u. TestFits g homes e × AtIn scope homes u) (scan_test k w e t) t1 ex
      (test_scanned k keeps both fine sized w keys sources changed There scope (Point scope)
      (point_like scope) (seen_in scope) (called_in scope) free homes e t
      (at_in scope homes t h a) there_ready) in (
        p.0,
        stood scope homes t1 p.1,
        p.1.within.0,
        test_seen k w (InReady scope) g free homes (AtIn scope homes) (evaluated scope homes) Tells
            (tells scope homes) e t t1 (at_in scope homes t h a) there_ready ex,
      )
    where
      there_ready : InReady scope homes e
      there_ready = ready_in There scope keys sources changed free homes e ready is

  assign_done : (scope : Names) (homes : Homes) (x : Assign Meant) (t t1 : State)
      → Inside scope t → Stood homes t → PlainReady Ready g free homes (plain x)
      → IsAssignMeant scope x → scan_assign k w x t ≡ Ok t1
      → AssignFits free g homes x × Stood homes t1 × AllTell (assign_wanted x)
  assign_done scope homes x t t1 h a ready is ex =
      let p : AssignFits free g homes x × AtIn scope homes t1 =
      good_is (λ u. AssignFits free g homes x × AtIn scope homes u) (scan_assign k w x t) t1 ex
      (plain_scanned k keeps both fine sized w keys sources changed There scope (Point scope)
      (point_like scope) (seen_in scope) (called_in scope) free homes (plain x) t
      (at_in scope homes t h a) there_ready) in (
        p.0,
        stood scope homes t1 p.1,
        plain_seen k w (InReady scope) g free homes (AtIn scope homes) (evaluated scope homes) Tells
            (tells scope homes) (plain x) t t1 (at_in scope homes t h a) there_ready ex,
      )
    where
      there_ready : PlainReady (InReady scope) g free homes (plain x)
      there_ready = assign_ready There scope keys sources changed free homes x ready is

  -- a variable of the next number is declared
  module _ (scope : Names) (c : Scope) (v : Declared Meant) (t t1 : State)
      (h : Inside scope t) (a : Stood c.homes t)
      (dims_meant : AreAllMeant scope v.dimensions)
      (value_meant : IsOptionMeant (with_name scope) v.value)
      (ready : IsDeclaredReady Ready g free c v scope.variables)
      (fresh : find (Variable scope.variables) first_homes ≡ None)
      (same : v.meant ≡ meant.Variable scope.variables)
      (ex : next (dims_in k w true v.dimensions t)
      (λ x. scan_value k w (meant.Variable scope.variables) v.value
      (scan_declared scope.variables x.0 x.1)) ≡ Ok t1)
      (ends : Ending (scope.variables + 1) t1) where
    abbrev new : ℕ
    new = scope.variables

    abbrev inner : Scope
    inner = with_variable new (known_dims g v) c

    abbrev Dims : List ℕ × State → Type 0
    Dims =
        DimsTold k keeps both fine sized w keys sources changed There scope (Point scope)
        (point_like scope) (seen_in scope) (called_in scope) free c.homes v.dimensions

    parts : (y : List ℕ × State) × (dims_in k w true v.dimensions t ≡ Ok y)
        × (scan_value k w (meant.Variable new) v.value (scan_declared new y.0 y.1) ≡ Ok t1)
    parts =
        next_to (dims_in k w true v.dimensions t)
        (λ y. scan_value k w (meant.Variable new) v.value (scan_declared new y.0 y.1)) t1 ex

    there_ready : AllByRecursion (InReady scope c.homes) (list_of v.dimensions)
    there_ready =
        dims_ready There scope keys sources changed free c.homes v.dimensions ready.dims dims_meant

    told : Dims parts.0
    told =
        good_is Dims (dims_in k w true v.dimensions t) parts.0 parts.1
        (dims_scanned k keeps both fine sized w keys sources changed There scope (Point scope)
        (point_like scope) (seen_in scope) (called_in scope) free c.homes v.dimensions t
        (at_in scope c.homes t h a) there_ready)

    abbrev behind_dims : State
    behind_dims = parts.0.1

    abbrev new_state : State
    new_state = scan_declared new (known_dims g v) behind_dims

    value_ex : scan_value k w (meant.Variable new) v.value new_state ≡ Ok t1
    value_ex =
        subst (λ ds. scan_value k w (meant.Variable new) v.value (scan_declared new ds behind_dims)
        ≡ Ok t1) told.1 parts.2

    new_ends : Ending (new + 1) new_state
    new_ends =
        closes_before k keeps w functions s (scan_value k w (meant.Variable new) v.value) (new + 1)
        (new + 1) (value_part k keeps w functions s (new + 1) new v.value) new_state t1 value_ex
        (omega arith) ends

    new_small : is_too_large (known_dims g v) ≡ false
    new_small = array_small (known_dims g v) behind_dims.frame.added new_ends.1

    new_inside : Inside (with_name scope) new_state
    new_inside = record {
      sound = sound_variable functions scope h.sound;
      stays = stays_declared k keeps w functions s new (known_dims g v) behind_dims
          told.2.within.0.stays;
      ends = new_ends.0;
    }

    new_stood : Stood inner.homes new_state
    new_stood = record {
      stands = new_stands There w behind_dims sources changed c.homes new
          (record { base = c.top; dims = known_dims g v })
          (omega (arith, room new ready.may, told.2.within.0.stays.1)) new_small told.2.stands;
      fine_state = set_fine new (filled (known_dims g v) Opaque) behind_dims
          (filled_datum (known_dims g v) Opaque tt) told.2.fine_state;
      led = led_declared w first_homes C Q new (known_dims g v) behind_dims fresh told.2.within.1;
    }

    new_ready : ValueReady (InReady (with_name scope)) g free inner.homes (meant.Variable new)
        v.value
    new_ready =
        value_ready There (with_name scope) keys sources changed free inner.homes new v.value
        (subst (λ b. (b || scope.seen new) ≡ true) (sym (eq-eqb new new refl)) refl)
        (subst (λ m. ValueReady Ready g free inner.homes m v.value) same ready.value) value_meant

    value_told : ValueFits free g inner.homes (meant.Variable new) v.value
        × AtIn (with_name scope) inner.homes t1
    value_told =
        good_is (λ u. ValueFits free g inner.homes (meant.Variable new) v.value
        × AtIn (with_name scope) inner.homes u)
        (scan_value k w (meant.Variable new) v.value new_state) t1 value_ex
        (value_scanned k keeps both fine sized w keys sources changed There (with_name scope)
        (Point (with_name scope)) (point_like (with_name scope)) (seen_in (with_name scope))
        (called_in (with_name scope)) free inner.homes (meant.Variable new) v.value new_state
        (at_in (with_name scope) inner.homes new_state new_inside new_stood) new_ready)

    dims_tell : AllTell (numbers_wanted (list_of v.dimensions))
    dims_tell =
        dims_seen k w (InReady scope) g free c.homes (AtIn scope c.homes) (evaluated scope c.homes)
        Tells (tells scope c.homes) v.dimensions t parts.0 (at_in scope c.homes t h a) there_ready
        parts.1

    value_tells : AllTell (value_wanted v.value)
    value_tells =
        value_seen k w (InReady (with_name scope)) g free inner.homes
        (AtIn (with_name scope) inner.homes) (evaluated (with_name scope) inner.homes) Tells
        (tells (with_name scope) inner.homes) (meant.Variable new) v.value new_state t1
        (at_in (with_name scope) inner.homes new_state new_inside new_stood) new_ready value_ex

    declared_done : DeclarationFits free g c v new × Stood inner.homes t1
        × AllTell (variable_wanted v)
    declared_done = (
      record {
        dims = told.0;
        fresh = ready.fresh;
        small = new_small;
        may = ready.may;
        value = subst (λ m. ValueFits free g inner.homes m v.value) (sym same) value_told.0;
      },
      stood (with_name scope) inner.homes t1 value_told.1,
      all_append (λ (z : Wanted). Tells z.expr) (numbers_wanted (list_of v.dimensions))
          (value_wanted v.value) dims_tell value_tells,
    )

  starts_variable : (scope : Names) (v : Declared Meant) (t t1 : State) → IsSound functions scope
      → Staying t → IsVariableScoped scope v → scan_variable k w v t ≡ Ok t1
      → Ending (scope.variables + 1) t1 → Inside scope t
  starts_variable scope v t t1 sounds stays is ex ends = record {
    sound = sounds;
    stays = stays;
    ends = (closes_before k keeps w functions s (scan_variable k w v) scope.variables
        (scope.variables + 1) (variable_part k keeps w functions s scope v is) t t1 ex
        (omega arith) ends).0;
  }

  variable_done : (scope : Names) (c : Scope) (v : Declared Meant) (t t1 : State)
      → IsSound functions scope → Staying t → Stood c.homes t → IsVariableScoped scope v
      → AreNew (variable_of v.meant) → DeclaredReady Ready g free c v v.meant
      → scan_variable k w v t ≡ Ok t1 → Ending (scope.variables + 1) t1
      → DeclaredFits free g c v v.meant × Stood (variable_scope g c v).homes t1
      × AllTell (variable_wanted v)
  variable_done scope c v t t1 sounds stays a is fresh ready ex ends =
      let inside : Inside scope t = starts_variable scope v t t1 sounds stays is ex ends in
      by v.meant is.0 inside ready
      (subst (λ m. AreNew (variable_of m)) is.0 fresh scope.variables (in_one scope.variables))
      (subst (λ m. scan_meant w m (λ n. next (dims_in k w true v.dimensions t) (λ y.
      scan_value k w m v.value (scan_declared n y.0 y.1))) ≡ Ok t1) is.0 ex)
    where
      by : (m : Meant) → m ≡ meant.Variable scope.variables → Inside scope t
          → DeclaredReady Ready g free c v m
          → find (Variable scope.variables) first_homes ≡ None
          → next (dims_in k w true v.dimensions t)
          (λ y. scan_value k w (meant.Variable scope.variables) v.value
          (scan_declared scope.variables y.0 y.1)) ≡ Ok t1
          → DeclaredFits free g c v m × Stood (declared_scope g c v m).homes t1
          × AllTell (variable_wanted v)
      by m e inside ready none ex1 =
          subst (λ m. DeclaredReady Ready g free c v m
          → DeclaredFits free g c v m × Stood (declared_scope g c v m).homes t1
          × AllTell (variable_wanted v)) (sym e)
          (λ r. declared_done scope c v t t1 inside a is.1 is.2 r none is.0 ex1 ends) ready

  variables_done : (vs : List (Declared Meant)) (scope : Names) (c : Scope) (t t1 : State)
      → IsSound functions scope → Staying t → Stood c.homes t → AreVariablesScoped scope vs
      → AreNew (vars_declare vs) → VariablesReady Ready g free c vs
      → each (scan_variable k w) vs t ≡ Ok t1 → Ending (with_variables scope vs).variables t1
      → VariablesFit free g c vs × Stood (variables_scope g c vs).homes t1
      × AllTell (flat_map variable_wanted vs)
  variables_done [] scope c t t1 sounds stays a is fresh ready ex ends =
      let same : t ≡ t1 = cc in (tt, subst (Stood c.homes) same a, tt)
  variables_done (v ∷ vs) scope c t t1 sounds stays a is fresh ready ex ends =
      let two : (t2 : State) × (scan_variable k w v t ≡ Ok t2)
      × (each (scan_variable k w) vs t2 ≡ Ok t1) =
      next_to (scan_variable k w v t) (each (scan_variable k w) vs) t1 ex in
      let first : DeclaredFits free g c v v.meant × Stood (variable_scope g c v).homes two.0
      × AllTell (variable_wanted v) =
      variable_done scope c v t two.0 sounds stays a is.0
      (front_new (variable_of v.meant) (vars_declare vs) fresh) ready.0 two.1
      (closes_before k keeps w functions s (each (scan_variable k w) vs) (with_name scope).variables
      (with_variables (with_name scope) vs).variables
      (variables_part k keeps w functions s (with_name scope) vs is.1) two.0 t1 two.2
      (grows_variables (with_name scope) vs).variables ends) in
      let rest : VariablesFit free g (variable_scope g c v) vs
      × Stood (variables_scope g (variable_scope g c v) vs).homes t1
      × AllTell (flat_map variable_wanted vs) =
      variables_done vs (with_name scope) (variable_scope g c v) two.0 t1
      (sound_variable functions scope sounds)
      (leaves k keeps w functions s (scan_variable k w v) scope.variables
      (variable_part k keeps w functions s scope v is.0) t two.0 two.1 stays) first.1 is.1
      (back_new (variable_of v.meant) (vars_declare vs) fresh) ready.1 two.2 ends in (
        (first.0, rest.0),
        rest.1,
        all_append (λ (z : Wanted). Tells z.expr) (variable_wanted v) (flat_map variable_wanted vs)
            first.2 rest.2,
      )

  -- what is declared is left
  leave_declared : (c : Scope) (v : Declared Meant) (m : Meant) (t : State)
      → DeclaredFits free g c v m → Stood (declared_scope g c v m).homes t → Stood c.homes t
  leave_declared c v (meant.Variable n) t fits a = record {
    stands = old_stands There w t sources changed c.homes n _ fits.fresh a.stands;
    fine_state = a.fine_state;
    led = a.led;
  }
  leave_declared c v meant.Other t fits a = absurd fits
  leave_declared c v (meant.Signal d n) t fits a = absurd fits
  leave_declared c v (meant.Component n) t fits a = absurd fits
  leave_declared c v (meant.Template n) t fits a = absurd fits
  leave_declared c v (meant.Function n) t fits a = absurd fits

  leave_variables : (vs : List (Declared Meant)) (c : Scope) (t : State)
      → VariablesFit free g c vs → Stood (variables_scope g c vs).homes t → Stood c.homes t
  leave_variables [] c t fits a = a
  leave_variables (v ∷ vs) c t (fv, fs) a =
      leave_declared c v v.meant t fv (leave_variables vs (variable_scope g c v) t fs a)

  leave_first : (x : First Meant) (c : Scope) (t : State) → FirstFits free g c x
      → Stood (first_scope g c x).homes t → Stood c.homes t
  leave_first (FirstVars vs) c t fits a = leave_variables vs c t fits a
  leave_first (FirstAssign x) c t fits a = a

  leave_behind : (x : Statement Spot Meant) (c : Scope) (t : State)
      → StatementFits free ⊥ g c x → Stood (scope_behind g c x).homes t → Stood c.homes t
  leave_behind (Ended spot (Vars vs)) c t fits a = leave_variables vs c t fits a
  leave_behind (Ended spot (Assigned x)) c t fits a = a
  leave_behind (Ended spot (Signals d ds)) c t fits a = a
  leave_behind (Ended spot (DeclaredComponents cs)) c t fits a = a
  leave_behind (Ended spot (Created name m e)) c t fits a = a
  leave_behind (Ended spot (Constrain x y)) c t fits a = a
  leave_behind (Ended spot (RightArrow e arrow name m accessors)) c t fits a = a
  leave_behind (Ended spot (TargetLeft x arrow y)) c t fits a = a
  leave_behind (Ended spot (TargetRight y arrow x)) c t fits a = a
  leave_behind (Ended spot (Alone parallel name m arguments inputs)) c t fits a = a
  leave_behind (Block spot ss) c t fits a = a
  leave_behind (If spot e x) c t fits a = a
  leave_behind (IfElse spot e x y) c t fits a = a
  leave_behind (While spot e x) c t fits a = a
  leave_behind (For spot first_spot f e step_spot x body) c t fits a = a
  leave_behind (Return spot e) c t fits a = a
  leave_behind (Assert spot e) c t fits a = a
  leave_behind (Log spot arguments) c t fits a = a

  -- where a part of a scan begins
  assign_starts : (scope : Names) (x : Assign Meant) (t t1 : State) → IsSound functions scope
      → Staying t → scan_assign k w x t ≡ Ok t1 → Ending scope.variables t1 → Inside scope t
  assign_starts scope x t t1 sounds stays ex ends = record {
    sound = sounds;
    stays = stays;
    ends = (closes_before k keeps w functions s (scan_assign k w x) scope.variables scope.variables
        (assign_part k keeps w functions s scope.variables x) t t1 ex (omega arith) ends).0;
  }

  test_starts : (scope : Names) (e : Expr Meant) (t t1 : State) → IsSound functions scope
      → Staying t → scan_test k w e t ≡ Ok t1 → Ending scope.variables t1 → Inside scope t
  test_starts scope e t t1 sounds stays ex ends = record {
    sound = sounds;
    stays = stays;
    ends = (closes_before k keeps w functions s (scan_test k w e) scope.variables scope.variables
        (test_part k keeps w functions s scope.variables e) t t1 ex (omega arith) ends).0;
  }

  starts : (scope : Names) (x : Statement Spot Meant) (t t1 : State) → IsSound functions scope
      → Staying t → IsScoped scope x → scan k w x t ≡ Ok t1
      → Ending (behind scope x).variables t1 → Inside scope t
  starts scope x t t1 sounds stays is ex ends = record {
    sound = sounds;
    stays = stays;
    ends = (closes_before k keeps w functions s (scan k w x) scope.variables
        (behind scope x).variables (statement_part k keeps w functions s scope x is) t t1 ex
        (grows scope x).variables ends).0;
  }

  statement_leaves : (scope : Names) (x : Statement Spot Meant) (t t1 : State) → IsScoped scope x
      → scan k w x t ≡ Ok t1 → Staying t → Staying t1
  statement_leaves scope x t t1 is =
      leaves k keeps w functions s (scan k w x) scope.variables
      (statement_part k keeps w functions s scope x is) t t1

  simple_done : (x : Simple Meant) (scope : Names) (c : Scope) (t t1 : State)
      → IsSound functions scope → Staying t → Stood c.homes t → IsSimpleScoped scope x
      → AreNew (simple_declares x) → SimpleReady Ready g free c x → scan_simple k w x t ≡ Ok t1
      → Ending (behind_simple scope x).variables t1
      → SimpleFits free g c x × Stood (simple_scope g c x).homes t1 × AllTell (simple_wanted x)
  simple_done (Vars vs) scope c t t1 sounds stays a is fresh ready ex ends =
      variables_done vs scope c t t1 sounds stays a is fresh ready ex ends
  simple_done (Assigned x) scope c t t1 sounds stays a is fresh ready ex ends =
      assign_done scope c.homes x t t1 (assign_starts scope x t t1 sounds stays ex ends) a ready is
      ex
  simple_done (Signals d ds) scope c t t1 sounds stays a is fresh ready ex ends = cc
  simple_done (DeclaredComponents cs) scope c t t1 sounds stays a is fresh ready ex ends = cc
  simple_done (Created name m e) scope c t t1 sounds stays a is fresh ready ex ends = cc
  simple_done (Constrain x y) scope c t t1 sounds stays a is fresh ready ex ends = cc
  simple_done (RightArrow e arrow name m accessors) scope c t t1 sounds stays a is fresh ready ex
      ends = cc
  simple_done (TargetLeft x arrow y) scope c t t1 sounds stays a is fresh ready ex ends = cc
  simple_done (TargetRight y arrow x) scope c t t1 sounds stays a is fresh ready ex ends = cc
  simple_done (Alone parallel name m arguments inputs) scope c t t1 sounds stays a is fresh ready ex
      ends = cc

  first_done : (x : First Meant) (scope : Names) (c : Scope) (t t1 : State)
      → IsSound functions scope → Staying t → Stood c.homes t → IsFirstScoped scope x
      → AreNew (first_declares x) → FirstReady Ready g free c x → scan_first k w x t ≡ Ok t1
      → Ending (behind_first scope x).variables t1
      → FirstFits free g c x × Stood (first_scope g c x).homes t1 × AllTell (first_wanted x)
  first_done (FirstVars vs) scope c t t1 sounds stays a is fresh ready ex ends =
      variables_done vs scope c t t1 sounds stays a is fresh ready ex ends
  first_done (FirstAssign x) scope c t t1 sounds stays a is fresh ready ex ends =
      assign_done scope c.homes x t t1 (assign_starts scope x t t1 sounds stays ex ends) a ready is
      ex

  -- a statement whose declarations end with it
  left : (x : Statement Spot Meant) (c : Scope) (t : State)
      → StatementFits free ⊥ g c x × Stood (scope_behind g c x).homes t × AllTell (wanted_in x)
      → StatementFits free ⊥ g c x × Stood c.homes t × AllTell (wanted_in x)
  left x c t p = (p.0, leave_behind x c t p.0 p.1, p.2)

  joined : (xs ys : List Wanted) → AllTell xs → AllTell ys → AllTell (xs ++ ys)
  joined xs ys h g = all_append (λ (z : Wanted). Tells z.expr) xs ys h g

  mutual
    -- a statement, as it stands in a block
    pub statement_done : (x : Statement Spot Meant) (scope : Names) (c : Scope) (t t1 : State)
        → IsSound functions scope → Staying t → Stood c.homes t → IsScoped scope x
        → AreNew (declares x) → StatementReady Ready g free c x → scan k w x t ≡ Ok t1
        → Ending (behind scope x).variables t1
        → StatementFits free ⊥ g c x × Stood (scope_behind g c x).homes t1 × AllTell (wanted_in x)
    statement_done (Block spot ss) scope c t t1 sounds stays a is fresh ready ex ends =
        statements_done ss scope c t t1 sounds stays a is fresh ready ex ends
    statement_done (If spot e x) scope c t t1 sounds stays a is fresh ready ex ends =
        let two : (t2 : State) × (scan_test k w e t ≡ Ok t2) × (scan k w x t2 ≡ Ok t1) =
        next_to (scan_test k w e t) (scan k w x) t1 ex in
        let test : TestFits g c.homes e × Stood c.homes two.0 × Inside scope two.0 × Tells e =
        test_done scope c.homes e t two.0
        (starts scope (If spot e x) t t1 sounds stays is ex ends) a ready.0 is.0 two.1 in
        let p : StatementFits free ⊥ g c x × Stood c.homes t1 × AllTell (wanted_in x) =
        left x c t1
        (statement_done x scope c two.0 t1 sounds test.2.stays test.1 is.1 fresh ready.1 two.2 ends)
        in ((test.0, p.0), p.1, (test.3, p.2))
    statement_done (IfElse spot e x y) scope c t t1 sounds stays a is fresh ready ex ends =
        let between : Names = closed scope (behind scope x) in
        let two : (t2 : State) × (scan_test k w e t ≡ Ok t2)
        × (next (scan k w x t2) (scan k w y) ≡ Ok t1) =
        next_to (scan_test k w e t) (λ t2. next (scan k w x t2) (scan k w y)) t1 ex in
        let three : (t3 : State) × (scan k w x two.0 ≡ Ok t3) × (scan k w y t3 ≡ Ok t1) =
        next_to (scan k w x two.0) (scan k w y) t1 two.2 in
        let test : TestFits g c.homes e × Stood c.homes two.0 × Inside scope two.0 × Tells e =
        test_done scope c.homes e t two.0
        (starts scope (IfElse spot e x y) t t1 sounds stays is ex ends) a ready.0 is.0 two.1 in
        let p : StatementFits free ⊥ g c x × Stood c.homes three.0 × AllTell (wanted_in x) =
        left x c three.0
        (statement_done x scope c two.0 three.0 sounds test.2.stays test.1 is.1
        (front_new (declares x) (declares y) fresh) ready.1 three.1
        (closes_before k keeps w functions s (scan k w y) between.variables
        (behind between y).variables (statement_part k keeps w functions s between y is.2) three.0
        t1 three.2 (grows between y).variables ends)) in
        let q : StatementFits free ⊥ g c y × Stood c.homes t1 × AllTell (wanted_in y) =
        left y c t1
        (statement_done y between c three.0 t1
        (sound_closed functions scope (behind scope x) (grows scope x) sounds)
        (statement_leaves scope x two.0 three.0 is.1 three.1 test.2.stays) p.1 is.2
        (back_new (declares x) (declares y) fresh) ready.2 three.2 ends) in
        ((test.0, p.0, q.0), q.1, (test.3, joined (wanted_in x) (wanted_in y) p.2 q.2))
    statement_done (While spot e x) scope c t t1 sounds stays a is fresh ready ex ends =
        let two : (t2 : State) × (scan_test k w e t ≡ Ok t2) × (scan k w x t2 ≡ Ok t1) =
        next_to (scan_test k w e t) (scan k w x) t1 ex in
        let test : TestFits g c.homes e × Stood c.homes two.0 × Inside scope two.0 × Tells e =
        test_done scope c.homes e t two.0
        (starts scope (While spot e x) t t1 sounds stays is ex ends) a ready.0 is.0 two.1 in
        let p : StatementFits free ⊥ g c x × Stood c.homes t1 × AllTell (wanted_in x) =
        left x c t1
        (statement_done x scope c two.0 t1 sounds test.2.stays test.1 is.1 fresh ready.1 two.2 ends)
        in ((test.0, p.0), p.1, (test.3, p.2))
    statement_done (For spot first_spot f e step_spot x body) scope c t t1 sounds stays a is fresh
        ready ex ends =
        let inside : Names = behind_first scope f in
        let after : Names = behind inside body in
        let inner : Scope = first_scope g c f in
        let two : (t2 : State) × (scan_first k w f t ≡ Ok t2)
        × (next (scan_test k w e t2) (λ t3. next (scan k w body t3) (scan_assign k w x)) ≡ Ok t1) =
        next_to (scan_first k w f t)
        (λ t2. next (scan_test k w e t2) (λ t3. next (scan k w body t3) (scan_assign k w x))) t1
        ex in
        let three : (t3 : State) × (scan_test k w e two.0 ≡ Ok t3)
        × (next (scan k w body t3) (scan_assign k w x) ≡ Ok t1) =
        next_to (scan_test k w e two.0) (λ t3. next (scan k w body t3) (scan_assign k w x)) t1
        two.2 in
        let four : (t4 : State) × (scan k w body three.0 ≡ Ok t4)
        × (scan_assign k w x t4 ≡ Ok t1) =
        next_to (scan k w body three.0) (scan_assign k w x) t1 three.2 in
        let sounds_inside : IsSound functions inside = sound_first functions scope f sounds in
        let ends_four : Ending after.variables four.0 =
        closes_before k keeps w functions s (scan_assign k w x) after.variables after.variables
        (assign_part k keeps w functions s after.variables x) four.0 t1 four.2 (omega arith) ends in
        let ends_three : Ending inside.variables three.0 =
        closes_before k keeps w functions s (scan k w body) inside.variables after.variables
        (statement_part k keeps w functions s inside body is.2) three.0 four.0 four.1
        (grows inside body).variables ends_four in
        let ends_two : Ending inside.variables two.0 =
        closes_before k keeps w functions s (scan_test k w e) inside.variables inside.variables
        (test_part k keeps w functions s inside.variables e) two.0 three.0 three.1 (omega arith)
        ends_three in
        let stays_two : Staying two.0 =
        leaves k keeps w functions s (scan_first k w f) scope.variables
        (first_part k keeps w functions s scope f is.0) t two.0 two.1 stays in
        let inside_two : Inside inside two.0 =
        test_starts inside e two.0 three.0 sounds_inside stays_two three.1 ends_three in
        let first : FirstFits free g c f × Stood inner.homes two.0 × AllTell (first_wanted f) =
        first_done f scope c t two.0 sounds stays a is.0
        (front_new (first_declares f) (declares body) fresh) ready.0 two.1 ends_two in
        let test : TestFits g inner.homes e × Stood inner.homes three.0
        × Inside inside three.0 × Tells e =
        test_done inside inner.homes e two.0 three.0 inside_two first.1 ready.1 is.1 three.1 in
        let last : Scope = scope_behind g inner body in
        let p : StatementFits free ⊥ g inner body × Stood last.homes four.0
        × AllTell (wanted_in body) =
        statement_done body inside inner three.0 four.0 sounds_inside test.2.stays test.1 is.2
        (back_new (first_declares f) (declares body) fresh) ready.2 four.1 ends_four in
        let q : AssignFits free g last.homes x × Stood last.homes t1
        × AllTell (assign_wanted x) =
        assign_done after last.homes x four.0 t1
        (assign_starts after x four.0 t1 (sound functions inside body sounds_inside)
        (statement_leaves inside body three.0 four.0 is.2 four.1 test.2.stays) four.2 ends) p.1
        ready.3 is.3 four.2 in (
          (first.0, test.0, p.0, q.0),
          leave_first f c t1 first.0 (leave_behind body inner t1 p.0 q.1),
          joined (first_wanted f) (wanted Scalar e ++ (wanted_in body ++ assign_wanted x)) first.2
              (test.3, joined (wanted_in body) (assign_wanted x) p.2 q.2),
        )
    statement_done (Return spot e) scope c t t1 sounds stays a is fresh ready ex ends = absurd is
    statement_done (Assert spot e) scope c t t1 sounds stays a is fresh ready ex ends =
        let test : TestFits g c.homes e × Stood c.homes t1 × Inside scope t1 × Tells e =
        test_done scope c.homes e t t1
        (starts scope (Assert spot e) t t1 sounds stays is ex ends) a ready is ex in
        (test.0, test.1, (test.3, tt))
    statement_done (Log spot arguments) scope c t t1 sounds stays a is fresh ready ex ends = cc
    statement_done (Ended spot x) scope c t t1 sounds stays a is fresh ready ex ends =
        simple_done x scope c t t1 sounds stays a is fresh ready ex ends

    statements_done : (ss : Statements Spot Meant) (scope : Names) (c : Scope) (t t1 : State)
        → IsSound functions scope → Staying t → Stood c.homes t → AreScoped scope ss
        → AreNew (all_declares ss) → StatementsReady Ready g free c ss → scan_all k w ss t ≡ Ok t1
        → Ending (behind_all scope ss).variables t1
        → StatementsFit free ⊥ g c ss × Stood c.homes t1 × AllTell (all_wanted ss)
    statements_done empty scope c t t1 sounds stays a is fresh ready ex ends =
        let same : t ≡ t1 = cc in (tt, subst (Stood c.homes) same a, tt)
    statements_done (then_more x rest) scope c t t1 sounds stays a is fresh ready ex ends =
        let two : (t2 : State) × (scan k w x t ≡ Ok t2) × (scan_all k w rest t2 ≡ Ok t1) =
        next_to (scan k w x t) (scan_all k w rest) t1 ex in
        let p : StatementFits free ⊥ g c x × Stood (scope_behind g c x).homes two.0
        × AllTell (wanted_in x) =
        statement_done x scope c t two.0 sounds stays a is.0
        (front_new (declares x) (all_declares rest) fresh) ready.0 two.1
        (closes_before k keeps w functions s (scan_all k w rest) (behind scope x).variables
        (behind_all (behind scope x) rest).variables
        (statements_part k keeps w functions s (behind scope x) rest is.1) two.0 t1 two.2
        (grows_all (behind scope x) rest).variables ends) in
        let q : StatementsFit free ⊥ g (scope_behind g c x) rest
        × Stood (scope_behind g c x).homes t1 × AllTell (all_wanted rest) =
        statements_done rest (behind scope x) (scope_behind g c x) two.0 t1
        (sound functions scope x sounds) (statement_leaves scope x t two.0 is.0 two.1 stays) p.1
        is.1 (back_new (declares x) (all_declares rest) fresh) ready.1 two.2 ends in (
          (p.0, q.0),
          leave_behind x c t1 p.0 q.1,
          joined (wanted_in x) (all_wanted rest) p.2 q.2,
        )
