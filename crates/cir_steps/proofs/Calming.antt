-- What the compile meaning does without a change of what is told of numbers.
use Rattle.std.proofs.Common.{◌≡◌, ℕ, false, List, [], ◌∷◌, Ok, Err, refl, sym, ap, subst, ◌∙◌}
use Rattle.std.proofs.Common.{slice_get}
use Rattle.cir_ast.specs.declared.program.Spot.{Spot}
use Rattle.cir_ast.specs.declared.program.Meant.{Meant}
use Rattle.cir_ast.specs.declared.program.Meant.TheVariants as meant
use Rattle.cir_ast.specs.Tree.{Expr, Exprs, Component, LogArgument, Words, LogValue}
use Rattle.cir_meaning.specs.Tried.{Where, Tried}
use Rattle.cir_meaning.specs.Arrays.{Scalar, Whole, filled, the_item}
use Rattle.cir_meaning.specs.Values.{Value, Known, Linear, Quadratic, Opaque, number_of}
use Rattle.cir_meaning.specs.Frame.{State, Context, at, settle, counted}
use Rattle.cir_meaning.specs.Evaluate.{value_in, dims_in}
use Rattle.cir_meaning.specs.Writing.{constrained}
use Rattle.cir_meaning.specs.Declaring.{declare_variable, declare_component}
use Rattle.cir_meaning.specs.Costs.{Cost}
use Rattle.cir_meaning.specs.Steps.{stepped, equal_cost, assert_cost, log_cost, logged_cells}
use Rattle.cir_meaning.specs.Simple as simple
use Rattle.cir_meaning.specs.Statement.{condition, assert_value, logged, log_values}
use Rattle.cir_meaning.proofs.Good.{OnGood, good_ok, good_bad, good_next, good_weaker, either}
use Rattle.cir_meaning.proofs.Likes.{CallKeeps, Like, like_itself, value_like}
use Rattle.cir_meaning.proofs.VariableRuns.{IsAdded, stepped_adds}
use Rattle.cir_meaning.proofs.StepRuns.{with_equations, counted_like, settle_like}
use Rattle.cir_meaning.proofs.EqualRuns.{Constrains, constrained_adds, each_stays}
use Rattle.cir_meaning.proofs.SimpleRuns.{dims_like}
use Rattle.cir_meaning.proofs.FineValues.{FineContext, Fine, filled_datum, zero_value}
use Rattle.cir_meaning.proofs.FineWriting.{set_fine}
use Rattle.cir_meaning.proofs.FineStatements.{equal_fine}
use Rattle.cir_meaning.proofs.KnownValues.{known_filled}
use Rattle.cir_meaning.proofs.Settling.{known_same, set_variables}
use Rattle.cir_meaning.proofs.Pairs.{good_both}
use Rattle.cir_meaning.specs.RunValues.{Store}
use Rattle.cir_steps.proofs.Related.{Nowhere, Knows}
use Rattle.cir_steps.proofs.Simulation.{Calm, knows_as, calm_like, calm_then}

pub calm_itself : (s : State) → Calm s s
calm_itself s = (refl, refl, (λ numbers h. h), (λ h. h))

pub calm_added : (s t : State) → IsAdded s t → Calm s t
calm_added s t h = (
  ap (λ (a : State). a.frame.parts) h.1,
  ap (λ (a : State). a.frame.signals) h.1,
  (λ numbers g. knows_as s.frame.variables t.frame.variables numbers
      (ap (λ (a : State). a.frame.variables) h.1) g),
  (λ g. subst Fine (sym h.1) g),
)

pub calm_declared : (n : ℕ) (dims : List ℕ) (s : State) → Calm s (declare_variable n dims s)
calm_declared n dims s = (
  refl,
  refl,
  (λ numbers g. set_variables Nowhere s.frame.variables numbers n (filled dims (Known 0))
      (λ old there. known_same Nowhere (filled dims (Known 0)) (slice_get numbers n)
      (known_filled dims)) g),
  (λ g. set_fine n (filled dims (Known 0)) s (filled_datum dims (Known 0) zero_value) g),
)

-- what follows from a premise
pub good_later : {A : Type 0} (P : Type 0) (Q : A → Type 0) (m : Tried A) → (P → OnGood Q m)
    → OnGood (λ a. P → Q a) m
unfolding OnGood
good_later P Q (Ok a) h = h
good_later P Q (Err e) h = tt

-- where equations may be new
abbrev Steady : State → State → Type 0
Steady f s =
    (s.frame.parts ≡ f.frame.parts) × (s.frame.signals ≡ f.frame.signals)
    × ((numbers : Store) → Knows f.frame.variables numbers → Knows s.frame.variables numbers)

steady : (f s : State) → Calm f s → Steady f s
steady f s c = (c.0, c.1, c.2)

steady_then : (f s t : State) → Steady f s → Steady s t → Steady f t
steady_then f s t h g = (g.0 ∙ h.0, g.1 ∙ h.1, (λ numbers i. g.2 numbers (h.2 numbers i)))

pub counted_calm : (w : Where) (s : State) → OnGood (Calm s) (counted w s)
counted_calm w s =
    good_weaker (Like s) (Calm s) (counted w s) (counted_like s w s (like_itself s)) (calm_like s)

pub stepped_calm : (k : Context) (w : Where) (cost : Cost) (cells : ℕ) (s : State)
    → OnGood (Calm s) (stepped k w cost cells s)
stepped_calm k w cost cells s =
    good_weaker (IsAdded s) (Calm s) (stepped k w cost cells s) (stepped_adds k w cost cells s)
    (calm_added s)

module _ (k : Context) (keeps : CallKeeps k.call) where
  pub condition_calm : (spot : Spot) (c : Expr Meant) (s : State)
      → OnGood (λ x. Calm s x.1) (condition k spot c s)
  condition_calm spot c s =
      good_next (λ x. Like s x.1) (λ x. Calm s x.1) (value_in k (at k spot) false Scalar c s) _
      (value_like s k keeps (at k spot) false Scalar c s (like_itself s)) (λ x l.
      good_next (Like s) (λ x. Calm s x.1) (settle (at k spot) x.1) _
      (settle_like s (at k spot) x.1 l)
      (λ t i. good_ok (λ x. Calm s x.1) (the_item x.0, t) (calm_like s t i)))

  pub dims_calm : (w : Where) (es : Exprs Meant) (s : State)
      → OnGood (λ x. Calm s x.1) (dims_in k w false es s)
  dims_calm w es s =
      good_weaker (λ x. Like s x.1) (λ x. Calm s x.1) (dims_in k w false es s)
      (dims_like k keeps s w es s (like_itself s)) (λ x l. calm_like s x.1 l)

  pub dropped_calm : (w : Where) (e : Expr Meant) (s : State)
      → OnGood (Calm s) (simple.dropped k w e s)
  dropped_calm w e s =
      good_next (λ x. Like s x.1) (Calm s) (value_in k w false Whole e s) _
      (value_like s k keeps w false Whole e s (like_itself s))
      (λ x l. good_ok (Calm s) x.1 (calm_like s x.1 l))

  number_calm : (w : Where) (m : Meant) (s : State) (go : ℕ → Tried State)
      → ((n : ℕ) → OnGood (Calm s) (go n)) → OnGood (Calm s) (simple.declared_number w m go)
  number_calm w (meant.Variable n) s go h = h n
  number_calm w (meant.Signal direction n) s go h = h n
  number_calm w (meant.Component n) s go h = h n
  number_calm w meant.Other s go h = good_bad (Calm s) _
  number_calm w (meant.Template n) s go h = good_bad (Calm s) _
  number_calm w (meant.Function n) s go h = good_bad (Calm s) _

  pub component_calm : (w : Where) (c : Component Meant) (s : State)
      → OnGood (Calm s) (simple.component_declaration k w c s)
  component_calm w c s =
      number_calm w c.meant s _ (λ n.
      good_next (λ x. Like s x.1) (Calm s) (dims_in k w false c.dimensions s) _
      (dims_like k keeps s w c.dimensions s (like_itself s)) (λ x l.
      good_ok (Calm s) (declare_component n c.name x.0 x.1) (calm_like s x.1 l)))

  constrained_steady : (w : Where) (x y : Value) (s : State)
      → OnGood (Steady s) (constrained k w x y s)
  constrained_steady w x y s =
      good_weaker (Constrains x y s) (Steady s) (constrained k w x y s)
      (constrained_adds k w x y s) (λ t c. steady (with_equations s
      (record { left = number_of x; right = number_of y; parts = c.parts } ∷ [])) t
      (calm_added (with_equations s
      (record { left = number_of x; right = number_of y; parts = c.parts } ∷ [])) t c.adds))

  equal_steady : (w : Where) (a b : Expr Meant) (s : State)
      → OnGood (Steady s) (simple.equal k w a b s)
  equal_steady w a b s =
      good_next (λ x. Like s x.1) (Steady s) (value_in k w false Scalar a s) _
      (value_like s k keeps w false Scalar a s (like_itself s)) (λ x l.
      good_next (λ y. Like s y.1) (Steady s) (value_in k w false Scalar b x.1) _
      (value_like s k keeps w false Scalar b x.1 l) (λ y i.
      good_next (Steady y.1) (Steady s) (constrained k w (the_item x.0) (the_item y.0) y.1) _
      (constrained_steady w (the_item x.0) (the_item y.0) y.1) (λ t c.
      good_weaker (Calm t) (Steady s) (stepped k w (equal_cost k w a b s) 0 t)
      (stepped_calm k w (equal_cost k w a b s) 0 t)
      (λ u d. steady_then s t u (steady_then s y.1 t (steady s y.1 (calm_like s y.1 i)) c)
      (steady t u d)))))

  pub equal_calm : FineContext k → (w : Where) (a b : Expr Meant) (s : State)
      → OnGood (Calm s) (simple.equal k w a b s)
  equal_calm fine w a b s =
      good_weaker (λ t. Steady s t × (Fine s → Fine t)) (Calm s) (simple.equal k w a b s)
      (good_both (Steady s) (λ t. Fine s → Fine t) (simple.equal k w a b s)
      (equal_steady w a b s)
      (good_later (Fine s) Fine (simple.equal k w a b s) (equal_fine k fine w a b s)))
      (λ t h. (h.0.0, h.0.1, h.0.2, h.1))

  pub assert_calm : (w : Where) (e : Expr Meant) (before : State) (v : Value) (s : State)
      → Calm before s → OnGood (Calm before) (assert_value k w e before v s)
  assert_calm w e before v s c = at v
    where
      step : OnGood (Calm before) (stepped k w (assert_cost k w e before) 0 s)
      step =
          good_weaker (Calm s) (Calm before) (stepped k w (assert_cost k w e before) 0 s)
          (stepped_calm k w (assert_cost k w e before) 0 s) (λ t d. calm_then before s t c d)

      at : (v : Value) → OnGood (Calm before) (assert_value k w e before v s)
      at (Known n) =
          either (OnGood (Calm before)) _ _ (Ok s) (good_bad (Calm before) _)
          (good_ok (Calm before) s c)
      at (Linear f) = step
      at (Quadratic a b d) = step
      at Opaque = step

  logged_calm : (f : State) (w : Where) (a : LogArgument Meant) (s : State) → Like f s
      → OnGood (Like f) (logged k w a s)
  logged_calm f w (Words text) s l = good_ok (Like f) s l
  logged_calm f w (LogValue e) s l =
      good_next (λ x. Like f x.1) (Like f) (value_in k w false Scalar e s) _
      (value_like f k keeps w false Scalar e s l) (λ x i. good_ok (Like f) x.1 i)

  pub log_calm : (w : Where) (arguments : List (LogArgument Meant)) (s : State)
      → OnGood (Calm s) (log_values k w arguments s)
  log_calm w arguments s =
      good_next (Like s) (Calm s) (simple.each (logged k w) arguments s) _
      (each_stays (Like s) (logged k w) arguments s (λ a t l. logged_calm s w a t l)
      (like_itself s)) (λ t l.
      good_weaker (Calm t) (Calm s)
      (stepped k w (log_cost k w arguments s) (logged_cells arguments) t)
      (stepped_calm k w (log_cost k w arguments s) (logged_cells arguments) t)
      (λ u d. calm_then s t u (calm_like s t l) d))
