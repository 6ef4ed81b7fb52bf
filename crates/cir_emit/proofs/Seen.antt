-- The states of a scan differ in variables and in what is counted. A variable that is declared
-- stays as it is to the end. So a call has the value there that it has behind the scan.
use Rattle.std.proofs.Common.{◌≡◌, ℕ, ◌<◌, ◌≤◌, true, List, length, Option, Ok, Err, refl, sym, ap}
use Rattle.std.proofs.Common.{subst, ◌∙◌, arith}
use Rattle.std.specs.Prelude.{slice_get, unwrap_or}
use Rattle.cir_ast.specs.declared.program.Spot.{Spot}
use Rattle.cir_ast.specs.declared.program.Meant.{Meant}
use Rattle.cir_ast.specs.declared.program.Meant.TheVariants as meant
use Rattle.cir_ast.specs.Tree.{Expr, Variable as Declared, Assign, First, Statement, Statements}
use Rattle.cir_meaning.specs.Tried.{Where, Tried}
use Rattle.cir_meaning.specs.Limits.{nothing}
use Rattle.cir_meaning.specs.Arrays.{Datum, Whole, single, filled}
use Rattle.cir_meaning.specs.Values.{Known, Opaque}
use Rattle.cir_meaning.specs.Frame.{Signals, Part, ComponentEntry, World, State, Context}
use Rattle.cir_meaning.specs.Frame.{variable_at, uncounted}
use Rattle.cir_meaning.specs.Scoped.{Scope, AreCallsMeant, IsVariableScoped, AreVariablesScoped}
use Rattle.cir_meaning.specs.Scoped.{IsFirstScoped, IsScoped, AreScoped}
use Rattle.cir_meaning.specs.Evaluate.{value_in}
use Rattle.cir_meaning.specs.Scan.{scan_test, scan_assign, scan_value, scan_declared, scan_variable}
use Rattle.cir_meaning.specs.Scan.{scan_first, scan, scan_all}
use Rattle.cir_meaning.specs.Run.{known_numbers, known_value}
use Rattle.cir_meaning.specs.Simple.{each}
use Rattle.cir_meaning.specs.Writing.{plain}
use Rattle.cir_meaning.proofs.Good.{OnGood, good_is}
use Rattle.cir_meaning.proofs.Likes.{CallKeeps, Like}
use Rattle.cir_meaning.proofs.Twins.{Twin, twin_weaker}
use Rattle.cir_meaning.proofs.Varied.{varied, Varied, value_varied}
use Rattle.cir_meaning.proofs.ValueKeepings.{Valued}
use Rattle.cir_meaning.proofs.Fading.{Rest, rest_like}
use Rattle.cir_meaning.proofs.PartWrites.{get_other, set_count}
use Rattle.cir_meaning.proofs.ScanStarts.{rest_between}
use Rattle.cir_meaning.proofs.Scans.{like_valued, test_kept, plain_kept, value_kept, variable_kept}
use Rattle.cir_meaning.proofs.Scans.{variables_kept, first_kept, scan_kept, scan_all_kept}
use Rattle.cir_meaning.proofs.ScopeLaws.{IsSound, later_one, later_variables, later_first, later}
use Rattle.cir_meaning.proofs.ScopeLaws.{later_all}
use Rattle.cir_emit.proofs.SmallArrays.{IsOver, over_valued, over_declared, none_before}

-- two evaluations, each of which has the other's value
same_known : (m r : Tried (Datum × State)) → Twin (λ x y. y.0 ≡ x.0) m r
    → Twin (λ x y. y.0 ≡ x.0) r m → known_value m ≡ known_value r
unfolding Twin
same_known (Ok a) (Ok b) h g = sym (ap known_numbers h)
same_known (Ok a) (Err e) h g = absurd h
same_known (Err e) (Ok b) h g = absurd g
same_known (Err e) (Err f) h g = refl

-- with the variables of another state
pub moved : (scope : Scope) (s t : State) → Rest s t
    → varied scope s.frame.variables (uncounted t) ≡ uncounted s
moved scope s t h =
    ap (λ (x : Signals). whole x t.frame.components t.frame.parts t.world) h.0 ∙
    ap (λ (x : List (Option ComponentEntry)). whole s.frame.signals x t.frame.parts t.world) h.1 ∙
    ap (λ (x : List Part). whole s.frame.signals s.frame.components x t.world) h.2 ∙
    ap (λ (v : World). whole s.frame.signals s.frame.components s.frame.parts v) h.3
  where
    whole : Signals → List (Option ComponentEntry) → List Part → World → State
    whole signals components parts world = record {
      frame = record {
        variables = s.frame.variables;
        signals = signals;
        components = components;
        parts = parts;
        added = nothing;
      };
      world = record world { counts = nothing };
    }

half : (k : Context) (w : Where) (scope : Scope) (s t : State) (e : Expr Meant) → Rest s t
    → AreCallsMeant scope e
    → ((n : ℕ) → scope.seen n ≡ true → variable_at s.frame n ≡ variable_at t.frame n)
    → Twin (λ x y. y.0 ≡ x.0) (value_in k w true Whole e (uncounted t))
    (value_in k w true Whole e (uncounted s))
half k w scope s t e rest is same =
    subst (λ u. Twin (λ x y. y.0 ≡ x.0) (value_in k w true Whole e (uncounted t))
    (value_in k w true Whole e u)) (moved scope s t rest)
    (twin_weaker (Varied scope s.frame.variables) (λ x y. y.0 ≡ x.0)
    (value_in k w true Whole e (uncounted t))
    (value_in k w true Whole e (varied scope s.frame.variables (uncounted t)))
    (λ x y p. p.0)
    (value_varied scope s.frame.variables k w true Whole e (uncounted t) is same))

pub value_known : (k : Context) (w : Where) (scope : Scope) (s t : State) (e : Expr Meant)
    → Rest s t → AreCallsMeant scope e
    → ((n : ℕ) → scope.seen n ≡ true → variable_at t.frame n ≡ variable_at s.frame n)
    → known_value (value_in k w true Whole e (uncounted s))
    ≡ known_value (value_in k w true Whole e (uncounted t))
value_known k w scope s t e rest is same =
    same_known (value_in k w true Whole e (uncounted s)) (value_in k w true Whole e (uncounted t))
    (half k w scope t s e (rest_between s t s rest (refl, refl, refl, refl)) is same)
    (half k w scope s t e rest is (λ n seen. sym (same n seen)))

-- the states of a scan that ends in a state with these variables
module _ (k : Context) (keeps : CallKeeps k.call) (w : Where) (functions : ℕ) (s : State) where
  abbrev pub Stays : State → Type 0
  Stays t = Rest s t × (length t.frame.variables ≡ length s.frame.variables)

  -- variables of lesser numbers stay as they are
  abbrev pub Ends : ℕ → State → Type 0
  Ends least t =
      (least ≤ length s.frame.variables)
      × ((n : ℕ) → n < least → variable_at t.frame n ≡ variable_at s.frame n)

  pub record Within (scope : Scope) (t : State) : Type 0 where
    pub sound : IsSound functions scope
    pub stays : Stays t
    pub ends : Ends scope.variables t

  stays_like : (t u : State) → Like t u → Stays t → Stays u
  stays_like t u l h =
      (rest_like s t u l h.0, ap (λ (vs : List Datum). length vs) l.0 ∙ h.1)

  pub stays_declared : (n : ℕ) (dims : List ℕ) (t : State) → Stays t
      → Stays (scan_declared n dims t)
  stays_declared n dims t h = (h.0, set_count t.frame.variables n (filled dims Opaque) ∙ h.1)

  pub within_like : (scope : Scope) (t u : State) → Within scope t → Like t u → Within scope u
  within_like scope t u h l = record {
    sound = h.sound;
    stays = stays_like t u l h.stays;
    ends = (
      h.ends.0,
      λ n less.
          ap (λ (vs : List Datum). unwrap_or (slice_get vs n) (single (Known 0))) l.0
          ∙ h.ends.1 n less,
    );
  }

  pub known_within : (scope : Scope) (t : State) → Within scope t → (e : Expr Meant)
      → AreCallsMeant scope e
      → known_value (value_in k w true Whole e (uncounted s))
      ≡ known_value (value_in k w true Whole e (uncounted t))
  known_within scope t h e is =
      value_known k w scope s t e h.stays.0 is
      (λ n seen. h.ends.1 n (h.sound.below n seen))

  -- a part of a scan keeps what evaluation and declarations of greater numbers keep
  abbrev pub IsPart : (State → Tried State) → ℕ → Type 1
  IsPart scan_part least =
      (Q : State → Type 0) → Valued k Q true
      → ((n : ℕ) (dims : List ℕ) (s : State) → least ≤ n → Q s → Q (scan_declared n dims s))
      → (s : State) → Q s → OnGood Q (scan_part s)

  valued : (Q : State → Type 0) → ((f s : State) → Like f s → Q f → Q s) → Valued k Q true
  valued Q like = like_valued k keeps Q like true

  abbrev Kept : ℕ → Datum → State → Type 0
  Kept n d u = variable_at u.frame n ≡ d

  kept_like : (n : ℕ) (d : Datum) (t u : State) → Like t u → Kept n d t → Kept n d u
  kept_like n d t u l h =
      ap (λ (vs : List Datum). unwrap_or (slice_get vs n) (single (Known 0))) l.0 ∙ h

  kept_declared : (least n : ℕ) (d : Datum) → n < least → (m : ℕ) (dims : List ℕ) (u : State)
      → least ≤ m → Kept n d u → Kept n d (scan_declared m dims u)
  kept_declared least n d less m dims u le h =
      ap (λ (o : Option Datum). unwrap_or o (single (Known 0)))
      (get_other u.frame.variables m n (filled dims Opaque)
      (λ e. absurd (let same : m ≡ n = e in omega arith))) ∙ h

  pub leaves : (scan_part : State → Tried State) (least : ℕ) → IsPart scan_part least
      → (t t1 : State) → scan_part t ≡ Ok t1 → Stays t → Stays t1
  leaves scan_part least part t t1 ex h =
      good_is Stays (scan_part t) t1 ex
      (part Stays (valued Stays stays_like) (λ n dims u le g. stays_declared n dims u g) t h)

  before : (scan_part : State → Tried State) (least after : ℕ) → IsPart scan_part least
      → (t t1 : State) → scan_part t ≡ Ok t1 → least ≤ after → Ends after t1 → Ends least t
  before scan_part least after part t t1 ex le h = (
    omega (arith, le, h.0),
    λ n less.
        sym (good_is (Kept n (variable_at t.frame n)) (scan_part t) t1 ex
        (part (Kept n (variable_at t.frame n))
        (valued (Kept n (variable_at t.frame n)) (kept_like n (variable_at t.frame n)))
        (kept_declared least n (variable_at t.frame n) less) t refl)) ∙ h.1 n (omega arith),
  )

  -- a scan that is accepted has counted no array that is too large
  abbrev pub Closes : ℕ → State → Type 0
  Closes least t = Ends least t × (t.frame.added.elements ≡ 0)

  pub closes_before : (scan_part : State → Tried State) (least after : ℕ) → IsPart scan_part least
      → (t t1 : State) → scan_part t ≡ Ok t1 → least ≤ after → Closes after t1 → Closes least t
  closes_before scan_part least after part t t1 ex le h = (
    before scan_part least after part t t1 ex le h.0,
    none_before scan_part
        (part IsOver (over_valued k) (λ n dims u le g. over_declared n dims u g)) t t1 ex h.1,
  )

  pub value_part : (least n : ℕ) (given : Option (Expr Meant))
      → IsPart (scan_value k w (meant.Variable n) given) least
  value_part least n given Q value declare u h =
      value_kept k Q value (λ n. least ≤ n) declare w (meant.Variable n) given u h

  pub variable_part : (scope : Scope) (v : Declared Meant) → IsVariableScoped scope v
      → IsPart (scan_variable k w v) scope.variables
  variable_part scope v is Q value declare u h =
      variable_kept k Q value (λ n. scope.variables ≤ n) declare w v
      (later_one scope v.meant is.0) u h

  pub variables_part : (scope : Scope) (vs : List (Declared Meant)) → AreVariablesScoped scope vs
      → IsPart (each (scan_variable k w) vs) scope.variables
  variables_part scope vs is Q value declare u h =
      variables_kept k Q value (λ n. scope.variables ≤ n) declare w vs
      (later_variables scope vs is) u h

  pub assign_part : (least : ℕ) (a : Assign Meant) → IsPart (scan_assign k w a) least
  assign_part least a Q value declare u h =
      plain_kept k Q value (λ n. least ≤ n) declare w (plain a) u h

  pub test_part : (least : ℕ) (c : Expr Meant) → IsPart (scan_test k w c) least
  test_part least c Q value declare u h =
      test_kept k Q value (λ n. least ≤ n) declare w c u h

  pub first_part : (scope : Scope) (f : First Meant) → IsFirstScoped scope f
      → IsPart (scan_first k w f) scope.variables
  first_part scope f is Q value declare u h =
      first_kept k Q value (λ n. scope.variables ≤ n) declare w f
      (later_first scope f is) u h

  pub statement_part : (scope : Scope) (a : Statement Spot Meant) → IsScoped scope a
      → IsPart (scan k w a) scope.variables
  statement_part scope a is Q value declare u h =
      scan_kept k Q value (λ n. scope.variables ≤ n) declare w a (later scope a is) u h

  pub statements_part : (scope : Scope) (ss : Statements Spot Meant) → AreScoped scope ss
      → IsPart (scan_all k w ss) scope.variables
  statements_part scope ss is Q value declare u h =
      scan_all_kept k Q value (λ n. scope.variables ≤ n) declare w ss
      (later_all scope ss is) u h
