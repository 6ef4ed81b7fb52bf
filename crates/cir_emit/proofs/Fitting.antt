-- What is accepted when a program is compiled fits: tests, and assignments to variables.
use Rattle.std.proofs.Common.{◌≡◌, ℕ, ◌+◌, List, [], ◌∷◌, ◌++◌, length, drop, Option, Some, Ok, sym}
use Rattle.std.proofs.Common.{ap, ap₂, ◌∙◌, arith, length-append, Bool, true}
use Rattle.std.specs.Prelude.{slice_get, unwrap_or}
use Rattle.std.specs.List.{AllByRecursion}
use Rattle.cir_ast.specs.declared.refusal.Kind.TheVariants.{ShapeDiffers}
use Rattle.cir_ast.specs.Tree.{Expr, Accessors, done, index, member}
use Rattle.cir_ast.specs.declared.program.Meant.{Meant}
use Rattle.cir_meaning.specs.Tried.{Where, Tried, next, needed}
use Rattle.cir_meaning.specs.Arrays.{Datum, Want, Scalar, Whole, Reach, reach, same_dims, single}
use Rattle.cir_meaning.specs.Arrays.{the_item}
use Rattle.cir_meaning.specs.Values.{Known, known_number}
use Rattle.cir_meaning.specs.Costs.{Made}
use Rattle.cir_meaning.specs.Frame.{State, Context, variable_at, uncounted}
use Rattle.cir_meaning.specs.Evaluate.{value_in, indices_in}
use Rattle.cir_meaning.specs.Reached.{indices_count}
use Rattle.cir_meaning.specs.Run.{known_value}
use Rattle.cir_meaning.specs.Texts.{indices_of}
use Rattle.cir_steps.specs.Places.{HasNoMember}
use Rattle.wit_lower.specs.Homes.{Variable, Home, Homes, Ground, find, Name}
use Rattle.wit_lower.specs.Sources.{Sources, scope_of}
use Rattle.wit_lower.specs.Known.{number_known}
use Rattle.wit_lower.specs.Values.{shape_of}
use Rattle.wit_lower.specs.Fits.{Fits, TestFits, IndicesFit, SetFits}
use Rattle.cir_meaning.proofs.Good.{OnGood, good_ok, good_next, good_weaker}
use Rattle.cir_meaning.proofs.Pairs.{good_both}
use Rattle.cir_meaning.proofs.Likes.{CallKeeps, Like, value_like}
use Rattle.cir_meaning.proofs.FineValues.{FineContext, Fine, FineAnswer, value_fine}
use Rattle.cir_meaning.proofs.KnownCalls.{CallBoth}
use Rattle.cir_emit.specs.Reads.{expr_reads}
use Rattle.cir_emit.specs.Lowered.{IsLoaded}
use Rattle.cir_emit.proofs.Reached.{good_needs, Reaches, reach_told}
use Rattle.cir_emit.proofs.Standing.{IsStanding, Told, no_shape, same_shapes}
use Rattle.cir_emit.specs.Sourced.{HasAll}
use Rattle.cir_meaning.specs.Scoped.{Scope as Names, AreCallsMeant}
use Rattle.cir_steps.proofs.Sized.{SizedCall}
use Rattle.cir_emit.proofs.Accepted.{expr_accepted}

-- what is known of a step, and how its procedures and calls are told
abbrev pub ground_of : List Made → Sources → (changed : List ℕ) → Ground
ground_of keys sources changed = record {
  keys = keys;
  known = number_known sources changed;
  called = sources.called;
  components = sources.components;
}

-- an expression whose names have homes, with what it reads loaded; and one whose names are in scope
pub record IsHeld (There : Name → Type 0) (keys : List Made) (sources : Sources)
    (changed : List ℕ) (homes : Homes) (e : Expr Meant) : Type 0 where
  pub has : HasAll There (ground_of keys sources changed) homes e
  pub loaded : AllByRecursion (IsLoaded sources)
      (expr_reads (ground_of keys sources changed) (scope_of sources).homes e)

abbrev pub IsReady : (There : Name → Type 0) → Names → List Made → Sources → (changed : List ℕ)
    → Homes → Expr Meant → Type 0
IsReady There scope keys sources changed homes e =
    IsHeld There keys sources changed homes e × AreCallsMeant scope e

module _ (k : Context) (keeps : CallKeeps k.call) (both : CallBoth k.call) (fine : FineContext k)
    (sized : SizedCall k.call) (w : Where) (f : State) (fine_f : Fine f) (keys : List Made)
    (sources : Sources) (changed : List ℕ) (homes : Homes) (There : Name → Type 0)
    (stands : IsStanding There w f sources changed homes) (scope : Names)
    (seen : (n : ℕ) → scope.seen n ≡ true → There (Variable n))
    (called_is : (e : Expr Meant) → AreCallsMeant scope e
    → sources.called e ≡ known_value (value_in k w true Whole e (uncounted f))) where
  abbrev g : Ground
  g = ground_of keys sources changed

  abbrev Ready : Expr Meant → Type 0
  Ready e = IsReady There scope keys sources changed homes e

  pub record Accepted (want : Want) (e : Expr Meant) (x : Datum × State) : Type 0 where
    pub like : Like f x.1
    pub fine_state : Fine x.1
    pub fits : Fits g homes e
    pub told : Told want (shape_of g homes e) (λ v. number_known sources changed e ≡ Some v) x.0

  pub accepted : (e : Expr Meant) (shaded : Bool) (want : Want) (s : State) → Like f s → Fine s
      → Ready e → OnGood (Accepted want e) (value_in k w shaded want e s)
  accepted e shaded want s l i ready =
      good_weaker (λ x. Like f x.1 × (FineAnswer x × (Fits g homes e
      × Told want (shape_of g homes e) (λ v. number_known sources changed e ≡ Some v) x.0)))
      (Accepted want e) (value_in k w shaded want e s)
      (good_both (λ x. Like f x.1) _ (value_in k w shaded want e s)
      (value_like f k keeps w shaded want e s l)
      (good_both FineAnswer _ (value_in k w shaded want e s) (value_fine k fine w shaded want e s i)
      (expr_accepted k keeps both fine sized w f fine_f keys sources changed homes There stands
      scope seen called_is e shaded want s l i ready.0.has ready.1 ready.0.loaded)))
      (λ x p. record { like = p.0; fine_state = p.1.0.1; fits = p.1.1.0; told = p.1.1.1 })

  -- a number that is wanted
  pub test_fits : (e : Expr Meant) (x : Datum × State) → Accepted Scalar e x → TestFits g homes e
  test_fits e x a = (
    a.fits,
    no_shape (shape_of g homes e) (λ v. number_known sources changed e ≡ Some v) x.0
        a.told,
  )

  -- the indices of a place that is written
  indices_accepted : {A : Type 0} (Q : A → Type 0) (rest : Accessors Meant) (shaded : Bool)
      (os : List (Option ℕ)) (s : State)
      (go : List (Option ℕ) → Accessors Meant → State → Tried A) → Like f s → Fine s
      → HasNoMember rest → AllByRecursion Ready (indices_of rest)
      → ((more : List (Option ℕ)) (t : State) → Like f t → Fine t
      → length more ≡ length os + indices_count rest → IndicesFit g homes rest
      → OnGood Q (go more done t))
      → OnGood Q (indices_in k w shaded os rest s go)
  indices_accepted Q done shaded os s go l i are ready on =
      on os s l i (omega arith) tt
  indices_accepted Q (member name rest) shaded os s go l i are ready on = absurd are
  indices_accepted Q (index e rest) shaded os s go l i are ready on =
      good_next (Accepted Scalar e) Q (value_in k w shaded Scalar e s) _
      (accepted e shaded Scalar s l i ready.0) (λ x a.
      indices_accepted Q rest shaded (os ++ known_number (the_item x.0) ∷ []) x.1 go a.like
      a.fine_state are ready.1
      (λ more t lt it count fit. on more t lt it
      (count ∙ omega (arith, length-append os (known_number (the_item x.0) ∷ [])))
      (test_fits e x a, fit)))

  -- an assignment to a part of a variable, also one that is only scanned
  pub set_accepted : {A : Type 0} (P : A → Type 0) (free : ℕ → Type 0) (n : ℕ) (h : Home)
      (accessors : Accessors Meant) (e : Expr Meant) (shaded : Bool) (s : State)
      (last : Datum → Reach → State → A)
      → ((d : Datum) (r : Reach) (t : State) → Like f t → Fine t → P (last d r t)) → Like f s
      → Fine s → find (Variable n) homes ≡ Some h
      → free n → HasNoMember accessors → AllByRecursion Ready (indices_of accessors) → Ready e
      → OnGood (λ a. SetFits free g homes n accessors e × P a)
      (next (value_in k w shaded Whole e s) (λ x. indices_in k w shaded [] accessors x.1
      (λ os rest t. next (reach w shaded Whole (variable_at t.frame n).dims os)
      (λ r. needed (same_dims r.left x.0.dims) w ShapeDiffers (Ok (last x.0 r t))))))
  set_accepted {A} P free n h accessors e shaded s last holds l i found may are ready value =
      good_next (Accepted Whole e) Q (value_in k w shaded Whole e s) _
      (accepted e shaded Whole s l i value) (λ x a.
      indices_accepted Q accessors shaded [] x.1 _ a.like a.fine_state are ready
      (λ os t lt it count fit.
      good_next (Reaches Whole (variable_at t.frame n).dims os) Q
      (reach w shaded Whole (variable_at t.frame n).dims os) _
      (reach_told w shaded Whole (variable_at t.frame n).dims os) (λ r re.
      good_needs Q (same_dims r.left x.0.dims) w ShapeDiffers _ (λ same.
      good_ok Q (last x.0 r t) (ended x a os t lt count fit r re same, holds x.0 r t lt it)))))
    where
      Q : A → Type 0
      Q a = SetFits free g homes n accessors e × P a

      ended : (x : Datum × State) → Accepted Whole e x → (os : List (Option ℕ)) (t : State)
          → Like f t → length os ≡ length {A = Option ℕ} [] + indices_count accessors
          → IndicesFit g homes accessors → (r : Reach)
          → Reaches Whole (variable_at t.frame n).dims os r
          → same_dims r.left x.0.dims ≡ true → SetFits free g homes n accessors e
      ended x a os t lt count fit r re same =
          let dims : (variable_at t.frame n).dims ≡ h.dims =
          ap (λ vs. (unwrap_or (slice_get vs n) (single (Known 0))).dims) lt.0 ∙
          stands.variable n h found in
          let many : length os ≡ indices_count accessors = omega (arith, count) in
          record {
            home = h;
            found = found;
            value = a.fits;
            indices = fit;
            rank = omega (arith, re.left.rank, many, ap length dims);
            shape = a.told.shape ∙ sym (same_shapes r.left x.0.dims same) ∙ re.left.is ∙
                ap₂ (λ c ds. drop c ds) many dims;
            may = may;
          }
