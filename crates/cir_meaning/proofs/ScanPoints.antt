-- What a scan has evaluated, a step evaluates too: its expressions miss no value, and have the
-- numbers of their values in the state behind the scan.
use Rattle.std.proofs.Common.{◌≡◌, ◌≢◌, ◌⊎◌, inl, inr, ℕ, zero, suc, ◌<◌, Bool, true, false, List}
use Rattle.std.proofs.Common.{[], ◌∷◌, ◌++◌, map, length, Option, Some, None, Result, Ok, Err, refl}
use Rattle.std.proofs.Common.{sym, ap, subst, ◌∙◌, slice_get, slice_set}
use Rattle.std.specs.Prelude.{unwrap_or}
use Rattle.std.specs.List.{AllByRecursion}
use Rattle.cir_ast.specs.declared.program.Meant.{Meant}
use Rattle.cir_ast.specs.declared.program.Meant.TheVariants as meant
use Rattle.cir_ast.specs.declared.refusal.Kind.{Kind}
use Rattle.cir_ast.specs.declared.refusal.Kind.TheVariants.{ShapeDiffers, UnknownIndex}
use Rattle.cir_ast.specs.Tree.{Expr, Exprs, none, more, Accessors, done, index, member}
use Rattle.cir_lc.specs.Number.{Assignment}
use Rattle.cir_meaning.specs.Scoped.{Scope, AreCallsMeant, AreAllMeant, AreIndicesMeant, IsSetMeant}
use Rattle.cir_meaning.specs.Tried.{Where, Tried, next, needed, found}
use Rattle.cir_meaning.specs.Limits.{nothing}
use Rattle.cir_meaning.specs.Places.{is_inside, left_of, places_of}
use Rattle.cir_meaning.specs.Arrays.{Datum, Want, Scalar, Whole, single, reach, same_dims}
use Rattle.cir_meaning.specs.Arrays.{put_items, the_item}
use Rattle.cir_meaning.specs.Values.{Value, Known, Linear, Quadratic, Opaque, known_number}
use Rattle.cir_meaning.specs.Frame.{Signals, Part, ComponentEntry, World, State, Context}
use Rattle.cir_meaning.specs.Frame.{variable_at, uncounted}
use Rattle.cir_meaning.specs.Evaluate.{value_in, dims_in, indices_in, known_at}
use Rattle.cir_meaning.specs.Scan.{scan_set}
use Rattle.cir_meaning.specs.RunValues.{Numbers, Ran, Environment, Store, stored, number_in}
use Rattle.cir_meaning.specs.RunValues.{index_numbers, dims_numbers, bounded, gives, the_number}
use Rattle.cir_meaning.specs.RunValues.{index_out}
use Rattle.cir_meaning.specs.RunStatements.{step_set}
use Rattle.cir_meaning.proofs.Good.{good_is}
use Rattle.cir_meaning.proofs.Goes.{pair_no}
use Rattle.cir_meaning.proofs.Likes.{CallKeeps, Like, like_itself, value_like}
use Rattle.cir_meaning.proofs.FineValues.{FineContext, Fine}
use Rattle.cir_meaning.proofs.Meaning.{Means}
use Rattle.cir_meaning.proofs.Same.{Rows, Same, rows_at, rows_count}
use Rattle.cir_meaning.proofs.Sound.{Fitting, Answers}
use Rattle.cir_meaning.proofs.Numbered.{value_pair}
use Rattle.cir_meaning.proofs.Assigning.{put_count}
use Rattle.cir_meaning.proofs.Twins.{Twin, nothing_below, counted_as}
use Rattle.cir_meaning.proofs.ValueTwins.{value_twin}
use Rattle.cir_meaning.proofs.ValueTwins as twins
use Rattle.cir_meaning.proofs.FunctionTwins.{wide_itself}
use Rattle.cir_meaning.proofs.KnownCalls.{CallBoth, both_twin}
use Rattle.cir_meaning.proofs.RunFree.{NoMiss, no_ok, no_stop, no_next, no_if, no_weaker}
use Rattle.cir_meaning.proofs.Fading.{IsOpaque, Rest, rest_like}
use Rattle.cir_meaning.proofs.PartWrites.{get_other, same_or_not, set_count}
use Rattle.cir_meaning.proofs.VariableRuns.{stored_set}
use Rattle.cir_meaning.proofs.Varied.{varied, Varied, value_varied}
use Rattle.cir_meaning.proofs.ScopeLaws.{IsSound}

-- what an answer is made of
pub next_to : {E A B : Type 0} (m : Result A E) (go : A → Result B E) (b : B) → next m go ≡ Ok b
    → (a : A) × (m ≡ Ok a) × (go a ≡ Ok b)
next_to (Ok a) go b e = (a, refl, e)
next_to (Err x) go b e = cc

pub needed_to : {A : Type 0} (test : Bool) (w : Where) (kind : Kind) (go : Tried A) (a : A)
    → needed test w kind go ≡ Ok a → (test ≡ true) × (go ≡ Ok a)
needed_to true w kind go a e = (refl, e)
needed_to false w kind go a e = cc

pub found_to : {A : Type 0} (w : Where) (kind : Kind) (o : Option A) (a : A)
    → found w kind o ≡ Ok a → o ≡ Some a
found_to w kind None a e = cc
found_to w kind (Some b) a e = let same : b ≡ a = cc in ap (λ x. Some x) same

pub twin_to : {A B : Type 0} (R : A → B → Type 0) (m : Tried A) (r : Tried B) (a : A)
    → Twin R m r → m ≡ Ok a → (b : B) × (r ≡ Ok b) × R a b
unfolding Twin
twin_to R (Ok x) (Ok b) a h e =
    let same : x ≡ a = cc in (b, refl, subst (λ y. R y b) same h)
twin_to R (Ok x) (Err y) a h e = absurd h
twin_to R (Err y) r a h e = cc

abbrev more_dims : ℕ → List ℕ × State → Tried (List ℕ × State)
more_dims n z = Ok (n ∷ z.0, z.1)

same_list : (a b : ℕ) (xs ys : List ℕ) → a ≡ b → xs ≡ ys → a ∷ xs ≡ b ∷ ys
same_list a b xs ys e g = ap (λ (n : ℕ). n ∷ xs) e ∙ ap (λ (ns : List ℕ). b ∷ ns) g

-- places of two lists of one length
pub get_there : {A B : Type 0} (xs : List A) (ys : List B) (n : ℕ) (x : A)
    → length xs ≡ length ys → slice_get xs n ≡ Some x → (y : B) × (slice_get ys n ≡ Some y)
get_there [] ys n x l e = cc
get_there (z ∷ zs) [] n x l e = cc
get_there (z ∷ zs) (y ∷ ys) zero x l e = (y, refl)
get_there (z ∷ zs) (y ∷ ys) (suc n) x l e = get_there zs ys n x (cc) e

pub get_none : {A B : Type 0} (xs : List A) (ys : List B) (n : ℕ) → length xs ≡ length ys
    → slice_get xs n ≡ None → slice_get ys n ≡ None
get_none [] [] n l e = refl
get_none [] (y ∷ ys) n l e = cc
get_none (x ∷ xs) [] n l e = refl
get_none (x ∷ xs) (y ∷ ys) zero l e = cc
get_none (x ∷ xs) (y ∷ ys) (suc n) l e = get_none xs ys n (cc) e

set_none : {A : Type 0} (xs : List A) (n : ℕ) (x : A) → slice_get xs n ≡ None
    → slice_get (slice_set xs n x) n ≡ None
set_none [] n x e = refl
set_none (y ∷ ys) zero x e = cc
set_none (y ∷ ys) (suc n) x e = set_none ys n x e

-- a number that is known
known_means : (E : Assignment → Type 0) (v : Value) (n m : ℕ) → known_number v ≡ Some n
    → Means E v m → n ≡ m
known_means E (Known k) n m e h = let same : k ≡ n = cc in sym same ∙ h
known_means E (Linear f) n m e h = cc
known_means E (Quadratic a b c) n m e h = cc
known_means E Opaque n m e h = cc

-- opaque elements have whatever numbers
pub rows_any : (E : Assignment → Type 0) (vs : List Value) (ns : List ℕ)
    → AllByRecursion (λ v. v ≡ Opaque) vs → length ns ≡ length vs → Rows E vs ns
rows_any E [] [] h l = tt
rows_any E [] (n ∷ ns) h l = cc
rows_any E (v ∷ vs) [] h l = cc
rows_any E (v ∷ vs) (n ∷ ns) h l =
    (subst (λ x. Means E x n) (sym h.0) tt, rows_any E vs ns h.1 (cc))

pub no_bounded : {A : Type 0} (Q : A → Type 0) (dims indices : List ℕ)
    (go : List ℕ → List ℕ → Result A ℕ)
    → ((left places : List ℕ) → NoMiss Q (go left places)) → NoMiss Q (bounded dims indices go)
no_bounded Q dims indices go h =
    no_if Q (is_inside dims (map Some indices))
    (go (unwrap_or (left_of dims (map Some indices)) []) (places_of dims (map Some indices)))
    (Err index_out)
    (h (unwrap_or (left_of dims (map Some indices)) []) (places_of dims (map Some indices)))
    (no_stop Q index_out (λ no. cc))

-- the state behind a scan, and what the step reads there
module _ (E : Assignment → Type 0) (k : Context) (fine : FineContext k) (both : CallBoth k.call)
    (keeps : CallKeeps k.call) (w : Where) (functions : ℕ) (s : State) (finely : Fine s)
    (env : Environment)
    (fit : (scope : Scope) (store : Store) → scope.functions ≡ functions
    → ((n : ℕ) → scope.seen n ≡ true → Same E (variable_at s.frame n) (stored store n))
    → Fitting E k w scope (uncounted s) env store) where
  -- a state in the scan: it differs in variables and counts
  abbrev pub Stay : State → Type 0
  Stay t = Rest s t × (length t.frame.variables ≡ length s.frame.variables)

  -- variables that are declared already stay as they are
  abbrev pub Final : Scope → State → Type 0
  Final scope t =
      (n : ℕ) → n < scope.variables → variable_at t.frame n ≡ variable_at s.frame n

  pub record Point (scope : Scope) (t : State) : Type 0 where
    pub sound : IsSound functions scope
    pub stay : Stay t
    pub final : Final scope t

  -- the variables of the step have the numbers of those that are in scope
  abbrev pub Has : Scope → Store → Type 0
  Has scope store =
      (length store ≡ length s.frame.variables)
      × ((n : ℕ) → scope.seen n ≡ true → Same E (variable_at s.frame n) (stored store n))

  pub stay_like : (t u : State) → Like t u → Stay t → Stay u
  stay_like t u l h =
      (rest_like s t u l h.0, ap (λ (vs : List Datum). length vs) l.0 ∙ h.1)

  pub point_like : (scope : Scope) (t u : State) → Like t u → Point scope t → Point scope u
  point_like scope t u l h = record {
    sound = h.sound;
    stay = stay_like t u l h.stay;
    final = λ n less.
        ap (λ (vs : List Datum). unwrap_or (slice_get vs n) (single (Known 0))) l.0
        ∙ h.final n less;
  }

  moved : (scope : Scope) (t : State) → Rest s t
      → varied scope s.frame.variables (counted_as t nothing nothing) ≡ uncounted s
  moved scope t h =
      ap (λ (x : Signals). whole x t.frame.components t.frame.parts t.world) h.0
      ∙ ap (λ (x : List (Option ComponentEntry)). whole s.frame.signals x t.frame.parts t.world) h.1
      ∙ ap (λ (x : List Part). whole s.frame.signals s.frame.components x t.world) h.2
      ∙ ap (λ (v : World). whole s.frame.signals s.frame.components s.frame.parts v) h.3
    where
      whole : Signals → List (Option ComponentEntry) → List Part → World → State
      whole signals components parts world = record {
        frame = record {
          variables = s.frame.variables;
          signals = signals;
          components = components;
          parts = parts;
          added = nothing;
        };
        world = record world { counts = nothing };
      }

  -- an expression has its value behind the scan too
  still_value : (scope : Scope) (t : State) (want : Want) (e : Expr Meant) (x : Datum × State)
      → Point scope t → AreCallsMeant scope e → value_in k w true want e t ≡ Ok x
      → (y : Datum × State) × (value_in k w true want e (uncounted s) ≡ Ok y) × (y.0 ≡ x.0)
  still_value scope t want e x point te ex =
      let first : (y : Datum × State)
      × (value_in k w true want e (counted_as t nothing nothing) ≡ Ok y) × twins.Answers x y =
      twin_to twins.Answers (value_in k w true want e t)
      (value_in k w true want e (counted_as t nothing nothing)) x
      (value_twin k (both_twin k.call both) w true true want want e t nothing nothing refl
      (wide_itself want) (nothing_below t.frame.added) (nothing_below t.world.counts)) ex in
      let second : (z : Datum × State)
      × (value_in k w true want e (varied scope s.frame.variables (counted_as t nothing nothing))
      ≡ Ok z) × Varied scope s.frame.variables first.0 z =
      twin_to (Varied scope s.frame.variables)
      (value_in k w true want e (counted_as t nothing nothing))
      (value_in k w true want e (varied scope s.frame.variables (counted_as t nothing nothing)))
      first.0
      (value_varied scope s.frame.variables k w true want e (counted_as t nothing nothing) te
      (λ n seen. sym (point.final n (point.sound.below n seen)))) first.1 in (
        second.0,
        subst (λ u. value_in k w true want e u ≡ Ok second.0) (moved scope t point.stay.0)
            second.1,
        second.2.0 ∙ first.2.0,
      )

  pub expr_real : (scope : Scope) (t : State) (want : Want) (e : Expr Meant) (x : Datum × State)
      → Point scope t → AreCallsMeant scope e → value_in k w true want e t ≡ Ok x
      → (store : Store) (u : ℕ) → Has scope store
      → NoMiss (λ y. Same E x.0 y.0) (number_in env store e u)
  expr_real scope t want e x point te ex store u has =
      let y : (y : Datum × State) × (value_in k w true want e (uncounted s) ≡ Ok y)
      × (y.0 ≡ x.0) = still_value scope t want e x point te ex in
      no_weaker (λ z. Answers E (uncounted s) y.0 z) (λ z. Same E x.0 z.0)
      (number_in env store e u) (λ z p. subst (λ d. Same E d z.0) y.2 p.0)
      (pair_no (Answers E (uncounted s)) (value_in k w true want e (uncounted s))
      (number_in env store e u) y.0
      (value_pair E k fine w scope (uncounted s) env store
      (fit scope store point.sound.count has.1) true want e (uncounted s) u te
      (like_itself (uncounted s), finely)) y.1)

  -- what is evaluated leaves the point
  pub evaluated : (scope : Scope) (t : State) (want : Want) (e : Expr Meant) (x : Datum × State)
      → Point scope t → value_in k w true want e t ≡ Ok x → Point scope x.1
  evaluated scope t want e x point ex =
      point_like scope t x.1
      (good_is (λ y. Like t y.1) (value_in k w true want e t) x ex
      (value_like t k keeps w true want e t (like_itself t))) point

  -- a number that was wanted
  pub number_real : {A : Type 0} (Q : A → Type 0) (scope : Scope) (t : State) (e : Expr Meant)
      (x : Datum × State) → Point scope t → AreCallsMeant scope e
      → value_in k w true Scalar e t ≡ Ok x → (store : Store) (u : ℕ) → Has scope store
      → (on : Numbers × ℕ → Result A ℕ) → ((y : Numbers × ℕ) → NoMiss Q (on y))
      → NoMiss Q (next (number_in env store e u) on)
  number_real Q scope t e x point te ex store u has on h =
      no_next (λ y. Same E x.0 y.0) Q (number_in env store e u) on
      (expr_real scope t Scalar e x point te ex store u has) (λ y p. h y)

  -- dimensions
  pub record Dims (scope : Scope) (es : Exprs Meant) (y : List ℕ × State) : Type 0 where
    pub point : Point scope y.1
    pub numbers : (store : Store) (u : ℕ) → Has scope store
        → NoMiss (λ z. z.0 ≡ y.0) (dims_numbers env store es u)

  pub dims_real : (scope : Scope) (es : Exprs Meant) (t : State) (y : List ℕ × State)
      → Point scope t → AreAllMeant scope es → dims_in k w true es t ≡ Ok y → Dims scope es y
  dims_real scope none t y point te ex =
      let same : ([], t) ≡ y = cc in
      subst (Dims scope none) same record {
        point = point;
        numbers = λ store u has. no_ok (λ z. z.0 ≡ []) ([], u) refl;
      }
  dims_real scope (more e es) t y point te ex =
      let a : (x : Datum × State) × (value_in k w true Scalar e t ≡ Ok x)
      × (known_at w (known_number (the_item x.0)) (λ n. next (dims_in k w true es x.1)
      (λ (ns, s2). Ok (n ∷ ns, s2))) ≡ Ok y) = next_to (value_in k w true Scalar e t)
      (λ x. known_at w (known_number (the_item x.0)) (λ n. next (dims_in k w true es x.1)
      (λ (ns, s2). Ok (n ∷ ns, s2)))) y ex in
      let b : (n : ℕ) × (found w UnknownIndex (known_number (the_item a.0.0)) ≡ Ok n)
      × (next (dims_in k w true es a.0.1) (λ (ns, s2). Ok (n ∷ ns, s2)) ≡ Ok y) =
      next_to (found w UnknownIndex (known_number (the_item a.0.0)))
      (λ n. next (dims_in k w true es a.0.1) (λ (ns, s2). Ok (n ∷ ns, s2))) y a.2 in
      let c : (z : List ℕ × State) × (dims_in k w true es a.0.1 ≡ Ok z)
      × (more_dims b.0 z ≡ Ok y) =
      next_to (dims_in k w true es a.0.1) (more_dims b.0) y b.2 in
      let rest : Dims scope es c.0 =
      dims_real scope es a.0.1 c.0 (evaluated scope t Scalar e a.0 point a.1) te.1 c.1 in
      let same : (b.0 ∷ c.0.0, c.0.1) ≡ y = cc in
      subst (Dims scope (more e es)) same record {
        point = rest.point;
        numbers = λ store u has.
            no_next (λ z. Same E a.0.0 z.0) (λ z. z.0 ≡ b.0 ∷ c.0.0) (number_in env store e u) _
            (expr_real scope t Scalar e a.0 point te.0 a.1 store u has) (λ z p.
            no_next (λ q. q.0 ≡ c.0.0) (λ q. q.0 ≡ b.0 ∷ c.0.0) (dims_numbers env store es z.1) _
            (rest.numbers store z.1 has) (λ q r.
            no_ok (λ q. q.0 ≡ b.0 ∷ c.0.0) (the_number z.0 ∷ q.0, q.1)
            (same_list (the_number z.0) b.0 q.0 c.0.0
            (sym (known_means E (the_item a.0.0) b.0 (the_number z.0)
            (found_to w UnknownIndex (known_number (the_item a.0.0)) b.0 b.1)
            (rows_at E a.0.0.items z.0.items 0 p.1))) r)));
      }

  -- the indices of a written place
  pub indices_real : {A B : Type 0} (Q : B × ℕ → Type 0) (scope : Scope)
      (accessors : Accessors Meant) (os : List (Option ℕ)) (t : State)
      (go : List (Option ℕ) → Accessors Meant → State → Tried A) (res : A)
      → Point scope t → AreIndicesMeant scope accessors
      → indices_in k w true os accessors t go ≡ Ok res
      → (store : Store) (u : ℕ) → Has scope store → (ns : List ℕ) (on : List ℕ → ℕ → Ran B)
      → ((ns : List ℕ) (u : ℕ) → NoMiss Q (on ns u))
      → NoMiss Q (index_numbers env store ns accessors u on)
  indices_real Q scope done os t go res point te ex store u has ns on h = h ns u
  indices_real Q scope (member name rest) os t go res point te ex store u has ns on h = h ns u
  indices_real Q scope (index e rest) os t go res point te ex store u has ns on h =
      let a : (x : Datum × State) × (value_in k w true Scalar e t ≡ Ok x)
      × (indices_in k w true (os ++ known_number (the_item x.0) ∷ []) rest x.1 go ≡ Ok res) =
      next_to (value_in k w true Scalar e t)
      (λ x. indices_in k w true (os ++ known_number (the_item x.0) ∷ []) rest x.1 go) res ex in
      number_real Q scope t e a.0 point te.0 a.1 store u has
      (λ y. index_numbers env store (ns ++ the_number y.0 ∷ []) rest y.1 on) (λ y.
      indices_real Q scope rest (os ++ known_number (the_item a.0.0) ∷ []) a.0.1 go res
      (evaluated scope t Scalar e a.0 point a.1) te.1 a.2 store y.1 has
      (ns ++ the_number y.0 ∷ []) on h)

  -- a variable that isn't known behind the scan, or isn't there
  abbrev pub Fades : ℕ → Type 0
  Fades n = (slice_get s.frame.variables n ≡ None) ⊎ IsOpaque (variable_at s.frame n)

  -- new numbers of one variable
  pub has_set : (scope after : Scope) (n : ℕ) (store : Store) (new : Numbers) → Has scope store
      → ((m : ℕ) → n ≢ m → after.seen m ≡ true → scope.seen m ≡ true)
      → ((old : Datum) → slice_get s.frame.variables n ≡ Some old
      → Same E (variable_at s.frame n) new) → Has after (slice_set store n new)
  has_set scope after n store new has other is =
      (set_count store n new ∙ has.0, λ m seen. at m seen (same_or_not n m))
    where
      here : (o : Option Datum) → slice_get s.frame.variables n ≡ o
          → Same E (unwrap_or o (single (Known 0))) (stored (slice_set store n new) n)
      here None e =
          subst (λ x. Same E (single (Known 0)) (unwrap_or x (single 0)))
          (sym (set_none store n new (get_none s.frame.variables store n (sym has.0) e)))
          (refl, (refl, tt))
      here (Some old) e =
          let there : (m : Numbers) × (slice_get store n ≡ Some m) =
          get_there s.frame.variables store n old (sym has.0) e in
          subst (λ x. Same E old x) (sym (stored_set store n there.0 new there.1))
          (subst (λ x. Same E x new)
          (ap (λ (o : Option Datum). unwrap_or o (single (Known 0))) e) (is old e))

      at : (m : ℕ) → after.seen m ≡ true → (n ≡ m) ⊎ (n ≢ m)
          → Same E (variable_at s.frame m) (stored (slice_set store n new) m)
      at m seen (inl e) =
          subst (λ i. Same E (variable_at s.frame i) (stored (slice_set store n new) i)) e
          (here (slice_get s.frame.variables n) refl)
      at m seen (inr ne) =
          subst (λ x. Same E (variable_at s.frame m) (unwrap_or x (single 0)))
          (sym (get_other store n m new ne)) (has.1 m (other m ne seen))

  -- an assignment
  pub set_real : (scope : Scope) (m : Meant) (accessors : Accessors Meant) (e : Expr Meant)
      (t t1 : State) → Point scope t → IsSetMeant scope m accessors e
      → ((n : ℕ) → m ≡ meant.Variable n → scope.seen n ≡ true → Fades n)
      → scan_set k w m accessors e t ≡ Ok t1 → (store : Store) (u : ℕ) → Has scope store
      → NoMiss (λ y. Has scope y.0) (step_set env m accessors e store u)
  set_real scope (meant.Variable n) accessors e t t1 point te fades ex store u has =
      let a : (x : Datum × State) × (value_in k w true Whole e t ≡ Ok x)
      × (indices_in k w true [] accessors x.1 (λ indices rest s2.
      next (reach w true Whole (variable_at s2.frame n).dims indices)
      (λ r. needed (same_dims r.left x.0.dims) w ShapeDiffers (Ok s2))) ≡ Ok t1) =
      next_to (value_in k w true Whole e t) (λ x.
      indices_in k w true [] accessors x.1 (λ indices rest s2.
      next (reach w true Whole (variable_at s2.frame n).dims indices)
      (λ r. needed (same_dims r.left x.0.dims) w ShapeDiffers (Ok s2)))) t1 ex in
      no_next (λ z. Same E a.0.0 z.0) (λ y. Has scope y.0) (number_in env store e u) _
      (expr_real scope t Whole e a.0 point te.2 a.1 store u has) (λ z p.
      indices_real (λ y. Has scope y.0) scope accessors [] a.0.1 _ t1
      (evaluated scope t Whole e a.0 point a.1) te.1 a.2 store z.1 has []
      (λ ns u2. bounded (stored store n).dims ns
      (λ left places. gives (slice_set store n (put z.0 places)) u2)) (λ ns u2.
      no_bounded (λ y. Has scope y.0) (stored store n).dims ns
      (λ left places. gives (slice_set store n (put z.0 places)) u2) (λ left places.
      no_ok (λ y. Has scope y.0) (slice_set store n (put z.0 places), u2)
      (has_set scope scope n store (put z.0 places) has (λ m ne seen. seen) (λ old there.
      same_as z.0 places (has.1 n te.0) (fades n refl te.0) old there)))))
    where
      put : Numbers → List ℕ → Numbers
      put d places = record {
        dims = (stored store n).dims;
        items = put_items places d.items (stored store n).items;
      }

      same_as : (d : Numbers) (places : List ℕ)
          → Same E (variable_at s.frame n) (stored store n) → Fades n → (old : Datum)
          → slice_get s.frame.variables n ≡ Some old
          → Same E (variable_at s.frame n) (put d places)
      same_as d places same (inl absent) old there =
          let no : None ≡ Some old = sym absent ∙ there in cc
      same_as d places same (inr opaque) old there = (
        same.0,
        rows_any E (variable_at s.frame n).items
            (put_items places d.items (stored store n).items) opaque
            (put_count E places d.items (stored store n).items
            ∙ rows_count E (variable_at s.frame n).items (stored store n).items same.1),
      )
  set_real scope meant.Other accessors e t t1 point te fades ex store u has = cc
  set_real scope (meant.Signal direction n) accessors e t t1 point te fades ex store u has = cc
  set_real scope (meant.Component n) accessors e t t1 point te fades ex store u has = cc
  set_real scope (meant.Template n) accessors e t t1 point te fades ex store u has = cc
  set_real scope (meant.Function n) accessors e t t1 point te fades ex store u has = cc
