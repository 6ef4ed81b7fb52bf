-- A step under an unknown condition misses no value: what it evaluates has been scanned.
use Rattle.std.proofs.Common.{◌≡◌, ◌≢◌, inl, inr, ℕ, zero, suc, ◌≤◌, ◌<◌, Bool, true, false, cond}
use Rattle.std.proofs.Common.{List, [], replicate, Option, Some, None, Ok, refl, sym, ap, subst}
use Rattle.std.proofs.Common.{◌∙◌, slice_get, slice_set, arith}
use Rattle.std.specs.Prelude.{◌==◌, ◌||◌, unwrap_or}
use Rattle.std.proofs.lemmas.Bool.{eqb-true, eq-eqb}
use Rattle.cir_ast.specs.declared.program.Meant.{Meant}
use Rattle.cir_ast.specs.declared.program.Meant.TheVariants as meant
use Rattle.cir_ast.specs.Tree.{Expr, Exprs, done}
use Rattle.cir_lc.specs.Number.{Assignment}
use Rattle.cir_meaning.specs.Scoped.{Scope, AreCallsMeant, with_variable, IsOptionMeant}
use Rattle.cir_meaning.specs.Tried.{Where, Tried}
use Rattle.cir_meaning.specs.Limits.{is_too_large}
use Rattle.cir_meaning.specs.Places.{elements}
use Rattle.cir_meaning.specs.Arrays.{Datum, Scalar, single, filled}
use Rattle.cir_meaning.specs.Values.{Known, Opaque}
use Rattle.cir_meaning.specs.Frame.{State, Context, variable_at, uncounted}
use Rattle.cir_meaning.specs.Evaluate.{value_in}
use Rattle.cir_meaning.specs.Scan.{scan_test, scan_value, scan_declared}
use Rattle.cir_meaning.specs.RunValues.{Ran, Environment, Store, stored, number_in, fuel_spent}
use Rattle.cir_meaning.specs.RunStatements.{spend, step_value}
use Rattle.cir_meaning.proofs.Good.{OnGood, good_is}
use Rattle.cir_meaning.proofs.Likes.{CallKeeps, Like}
use Rattle.cir_meaning.proofs.FineValues.{FineContext, Fine}
use Rattle.cir_meaning.proofs.Same.{Rows, Same}
use Rattle.cir_meaning.proofs.Sound.{Fitting}
use Rattle.cir_meaning.proofs.KnownCalls.{CallBoth}
use Rattle.cir_meaning.proofs.RunFree.{NoMiss, Any, no_ok, no_stop, no_weaker}
use Rattle.cir_meaning.proofs.Fading.{IsOpaque, opaque_filled}
use Rattle.cir_meaning.proofs.Scans.{AllMay, like_valued, value_kept}
use Rattle.cir_meaning.proofs.PartWrites.{get_other, set_count}
use Rattle.cir_meaning.proofs.Writing.{get_set}
use Rattle.cir_meaning.proofs.ScopeLaws.{IsSound, sound_variable}
use Rattle.cir_meaning.proofs.ScanPoints.{next_to, get_there, Stay, stay_like, Final, Point, Has}
use Rattle.cir_meaning.proofs.ScanPoints.{expr_real, evaluated, Dims, Fades, has_set, set_real}

-- a variable that is set to a filled array
set_there : {A : Type 0} (xs : List A) (n : ℕ) (old x d : A) → slice_get xs n ≡ Some old
    → unwrap_or (slice_get (slice_set xs n x) n) d ≡ x
set_there xs n old x d e = ap (λ (o : Option _). unwrap_or o d) (get_set xs n old x e)

pub filled_same : (E : Assignment → Type 0) (dims : List ℕ) → Same E (filled dims Opaque)
    (filled dims 0)
filled_same E dims = (refl, at (is_too_large dims))
  where
    fill : (n : ℕ) → Rows E (replicate n Opaque) (replicate n 0)
    fill zero = tt
    fill (suc n) = (tt, fill n)

    at : (b : Bool)
        → Rows E (cond b [] (replicate (elements dims) Opaque)) (cond b [] (replicate
        (elements dims) 0))
    at true = tt
    at false = fill (elements dims)

pub no_spend : {A : Type 0} (Q : A × ℕ → Type 0) (u : ℕ) (go : ℕ → Ran A)
    → ((u : ℕ) → NoMiss Q (go u)) → NoMiss Q (spend u go)
no_spend Q zero go h = no_stop Q fuel_spent (λ no. cc)
no_spend Q (suc u) go h = h u

module _ (E : Assignment → Type 0) (k : Context) (fine : FineContext k) (both : CallBoth k.call)
    (keeps : CallKeeps k.call) (w : Where) (functions : ℕ) (s : State) (finely : Fine s)
    (env : Environment)
    (fit : (scope : Scope) (store : Store) → scope.functions ≡ functions
    → ((n : ℕ) → scope.seen n ≡ true → Same E (variable_at s.frame n) (stored store n))
    → Fitting E k w scope (uncounted s) env store) (base : ℕ) where
  abbrev Stays : State → Type 0
  Stays = Stay E k fine both keeps w functions s finely env fit

  abbrev Ends : Scope → State → Type 0
  Ends = Final E k fine both keeps w functions s finely env fit

  abbrev At : Scope → State → Type 0
  At = Point E k fine both keeps w functions s finely env fit

  abbrev Numbered : Scope → Store → Type 0
  Numbered = Has E k fine both keeps w functions s finely env fit

  abbrev Fading : ℕ → Type 0
  Fading = Fades E k fine both keeps w functions s finely env fit

  -- what is declared in the statement isn't known
  abbrev pub Declares : Scope → Type 0
  Declares scope = (n : ℕ) → scope.seen n ≡ true → base ≤ n → Fading n

  -- nor is what it assigns
  abbrev pub Assigns : List ℕ → Type 0
  Assigns ns = AllMay (λ n. n < base → Fading n) ns

  -- a scan leaves what is there
  stays_declared : (n : ℕ) (dims : List ℕ) (t : State) → Stays t → Stays (scan_declared n dims t)
  stays_declared n dims t h = (h.0, set_count t.frame.variables n (filled dims Opaque) ∙ h.1)

  stays_like : (t u : State) → Like t u → Stays t → Stays u
  stays_like = stay_like E k fine both keeps w functions s finely env fit

  -- a variable of a lesser number stays as it is
  abbrev Kept : ℕ → Datum → State → Type 0
  Kept n d u = variable_at u.frame n ≡ d

  kept_like : (n : ℕ) (d : Datum) (t u : State) → Like t u → Kept n d t → Kept n d u
  kept_like n d t u l h =
      ap (λ (vs : List Datum). unwrap_or (slice_get vs n) (single (Known 0))) l.0 ∙ h

  kept_declared : (least n : ℕ) (d : Datum) → n < least → (m : ℕ) (dims : List ℕ) (u : State)
      → least ≤ m → Kept n d u → Kept n d (scan_declared m dims u)
  kept_declared least n d less m dims u le h =
      ap (λ (o : Option Datum). unwrap_or o (single (Known 0)))
      (get_other u.frame.variables m n (filled dims Opaque)
      (λ e. absurd (let same : m ≡ n = e in omega arith))) ∙ h

  -- through a part of a scan
  module _ (scan_part : State → Tried State) (least : ℕ)
      (part : (Q : State → Type 0) → ((f s : State) → Like f s → Q f → Q s)
      → ((n : ℕ) (dims : List ℕ) (s : State) → least ≤ n → Q s → Q (scan_declared n dims s))
      → (s : State) → Q s → OnGood Q (scan_part s)) where
    pub part_stays : (t t1 : State) → scan_part t ≡ Ok t1 → Stays t → Stays t1
    part_stays t t1 ex h =
        good_is Stays (scan_part t) t1 ex
        (part Stays stays_like (λ n dims u le g. stays_declared n dims u g) t h)

    pub part_final : (scope after : Scope) (t t1 : State) → scan_part t ≡ Ok t1
        → scope.variables ≤ least → scope.variables ≤ after.variables → Ends after t1
        → Ends scope t
    part_final scope after t t1 ex le more h = λ n less.
        sym (good_is (Kept n (variable_at t.frame n)) (scan_part t) t1 ex
        (part (Kept n (variable_at t.frame n)) (kept_like n (variable_at t.frame n))
        (kept_declared least n (variable_at t.frame n) (omega arith)) t refl))
        ∙ h n (omega arith)

  -- expressions
  pub test_real : (scope : Scope) (e : Expr Meant) (t t1 : State) → At scope t
      → AreCallsMeant scope e
      → scan_test k w e t ≡ Ok t1
      → (At scope t1) × ((store : Store) (u : ℕ) → Numbered scope store
      → NoMiss Any (number_in env store e u))
  test_real scope e t t1 point te ex =
      let a : (x : Datum × State) × (value_in k w true Scalar e t ≡ Ok x) × (last x ≡ Ok t1) =
      next_to (value_in k w true Scalar e t) last t1 ex in
      let same : a.0.1 ≡ t1 = cc in (
        subst (At scope) same
            (evaluated E k fine both keeps w functions s finely env fit scope t Scalar e a.0 point
            a.1),
        (λ store u has. no_weaker (λ y. Same E a.0.0 y.0) Any (number_in env store e u)
            (λ y p. tt)
            (expr_real E k fine both keeps w functions s finely env fit scope t Scalar e a.0 point
            te a.1 store u has)),
      )
    where
      last : Datum × State → Tried State
      last x = Ok x.1

  -- declared variables
  pub record Declared' (scope after : Scope) (t t1 : State) (run : Store → ℕ → Ran Store)
      : Type 0 where
    pub point : At scope t
    pub stays : Stays t1
    pub declares : Declares after
    pub real : (store : Store) (u : ℕ) → Numbered scope store
        → NoMiss (λ y. Numbered after y.0) (run store u)

  or_none : (b : Bool) → (b || false) ≡ true → b ≡ true
  or_none true e = refl
  or_none false e = cc

  -- the variable that is declared
  module _ (scope : Scope) (sound_scope : IsSound functions scope) (value : Option (Expr Meant))
      (dimensions : Exprs Meant) (is : IsOptionMeant (with_variable scope) value) (t1 : State)
      (final : Ends (with_variable scope) t1) (declares : Declares scope)
      (y : List ℕ × State) (at_y : Dims E k fine both keeps w functions s finely env fit scope
      dimensions y)
      (ex : scan_value k w (meant.Variable scope.variables) value
      (scan_declared scope.variables y.0 y.1) ≡ Ok t1) where
    abbrev new : ℕ
    new = scope.variables

    abbrev declared_state : State
    declared_state = scan_declared new y.0 y.1

    value_keeps : (Q : State → Type 0) → ((f s : State) → Like f s → Q f → Q s) → (u : State) → Q u
        → OnGood Q (scan_value k w (meant.Variable new) value u)
    value_keeps Q like u h =
        value_kept k Q (like_valued k keeps Q like true) (λ n. ⊥) (λ n dims v no g. absurd no) w
        (meant.Variable new) value
        u h

    declared_stays : Stays declared_state
    declared_stays = stays_declared new y.0 y.1 at_y.point.stay

    declared_final : Ends (with_variable scope) declared_state
    declared_final = λ n less.
        sym (good_is (Kept n (variable_at declared_state.frame n))
        (scan_value k w (meant.Variable new) value declared_state) t1 ex
        (value_keeps (Kept n (variable_at declared_state.frame n))
        (kept_like n (variable_at declared_state.frame n)) declared_state refl)) ∙ final n less

    declared_point : At (with_variable scope) declared_state
    declared_point = record {
      sound = sound_variable functions scope sound_scope;
      stay = declared_stays;
      final = declared_final;
    }

    is_filled : (old : Datum) → slice_get s.frame.variables new ≡ Some old
        → variable_at s.frame new ≡ filled y.0 Opaque
    is_filled old there =
        let before : (x : Datum) × (slice_get y.1.frame.variables new ≡ Some x) =
        get_there s.frame.variables y.1.frame.variables new old (sym at_y.point.stay.1) there in
        sym (declared_final new (omega arith))
        ∙ set_there y.1.frame.variables new before.0 (filled y.0 Opaque) (single (Known 0)) before.1

    new_fades : Fading new
    new_fades = at (slice_get s.frame.variables new) refl
      where
        at : (o : Option Datum) → slice_get s.frame.variables new ≡ o → Fading new
        at None e = inl e
        at (Some old) e = inr (subst IsOpaque (sym (is_filled old e)) (opaque_filled y.0))

    pub new_declares : Declares (with_variable scope)
    new_declares n seen le = at (n == new) refl seen
      where
        at : (b : Bool) → (n == new) ≡ b → (b || scope.seen n) ≡ true → Fading n
        at true e g = subst Fading (sym (eqb-true n new e)) new_fades
        at false e g = declares n g le

    new_seen : (with_variable scope).seen new ≡ true
    new_seen = subst (λ b. (b || scope.seen new) ≡ true) (sym (eq-eqb new new refl)) refl

    pub new_has : (store : Store) → Numbered scope store
        → Numbered (with_variable scope) (slice_set store new (filled y.0 0))
    new_has store has =
        has_set E k fine both keeps w functions s finely env fit scope (with_variable scope) new
        store (filled y.0 0) has (λ m ne seen. at m (m == new) refl ne seen) (λ old there.
        subst (λ d. Same E d (filled y.0 0)) (sym (is_filled old there)) (filled_same E y.0))
      where
        at : (m : ℕ) (b : Bool) → (m == new) ≡ b → new ≢ m → (b || scope.seen m) ≡ true
            → scope.seen m ≡ true
        at m true e ne g = absurd (ne (sym (eqb-true m new e)))
        at m false e ne g = g

    pub value_real : (value : Option (Expr Meant)) → IsOptionMeant (with_variable scope) value
        → scan_value k w (meant.Variable new) value declared_state ≡ Ok t1
        → (store : Store) (u : ℕ) → Numbered (with_variable scope) store
        → NoMiss (λ z. Numbered (with_variable scope) z.0)
        (step_value env (meant.Variable new) value store u)
    value_real None is ex store u has =
        no_ok (λ z. Numbered (with_variable scope) z.0) (store, u) has
    value_real (Some e) is ex store u has =
        set_real E k fine both keeps w functions s finely env fit (with_variable scope)
        (meant.Variable new) done e declared_state t1 declared_point (new_seen, tt, is)
        (λ n same seen. subst Fading (number_of n same) new_fades) ex store u has
      where
        number_of : (n : ℕ) → meant.Variable new ≡ meant.Variable n → new ≡ n
        number_of n e = cc
