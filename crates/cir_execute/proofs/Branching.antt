-- Conditions, and what follows them; the turns of loops.
use Rattle.std.proofs.Common.{◌≡◌, ◌∙◌, ℕ, ◌+◌, ◌<◌, ◌≤◌, suc, Bool, true, false, List}
use Rattle.std.proofs.Common.{length, get_or, drop, map, Result, Ok, Err, ap, sym, refl}
use Rattle.std.specs.Prelude.{◌==◌, IsErrAnd, if◌then◌else◌}
use Rattle.std.proofs.lemmas.List.{drop_all, drop_more}
use Rattle.cir_ast.specs.declared.program.Spot.{Spot}
use Rattle.cir_ast.specs.declared.program.Meant.{Meant}
use Rattle.cir_ast.specs.declared.marked.Statement.{Statement as CodeStatement}
use Rattle.cir_ast.specs.Tree.{Expr, as_statements, bare_statement}
use Rattle.cir_values.specs.declared.operators.Side.{Side as CodeSide}
use Rattle.cir_values.specs.Meant.{meant_side}
use Rattle.cir_meaning.specs.Tried.{Tried, next}
use Rattle.cir_meaning.specs.Source.{Equation}
use Rattle.cir_meaning.specs.Values.{Value, Known, Linear, Quadratic, Opaque, Side, First, Second}
use Rattle.cir_meaning.specs.Values.{Both, side_of}
use Rattle.cir_meaning.specs.Arrays.{Scalar, single}
use Rattle.cir_meaning.specs.Evaluate.{scalar, value_in}
use Rattle.cir_meaning.specs.Frame.{State, Context, at, counted, settle}
use Rattle.cir_meaning.specs.Statement.{Flow, Going, going, decided, condition, branch, turns}
use Rattle.cir_meaning.specs.Statement.{most_turns, exec, exec_all}
use Rattle.cir_arrays.specs.declared.stop.Fault.{Fault}
use Rattle.cir_arrays.specs.Stopped.{IsRefusal}
use Rattle.cir_arrays.proofs.Exits.{exits}
use Rattle.cir_frame.specs.declared.frame.Frame.{Frame}
use Rattle.cir_frame.specs.declared.world.World.{World}
use Rattle.cir_frame.specs.Shown.{state_of}
use Rattle.cir_assign.specs.Leads.{Lists}
use Rattle.cir_assign.proofs.Stepping.{next_next, lists_next}
use Rattle.cir_execute.specs.declared.statement.Flow.{Flow as CodeFlow}
use Rattle.cir_execute.specs.declared.statement.Flow.TheVariants as flow
use Rattle.cir_execute.specs.Flows.{Flows, Decides}
use Rattle.cir_execute.proofs.Going.{Went, refusal, flows_at, flows_after, flows_exit}

-- ---- a condition
abbrev pub pick : {A : Type 0} → Side → (if_true if_false if_unknown : A) → A
pick First t f u = t
pick Second t f u = f
pick Both t f u = u

pub decided_is : {A : Type 0} (v : Value) (f t u : A) → decided v f t u ≡ pick (side_of v) t f u
decided_is (Known n) f t u = at (n == 0)
  where
    at : (b : Bool) → (if b then f else t) ≡ pick (if b then Second else First) t f u
    at true = refl
    at false = refl
decided_is (Linear x) f t u = refl
decided_is (Quadratic a b c) f t u = refl
decided_is Opaque f t u = refl

abbrev pub Told : State → CodeSide → Tried (Value × State) → Type 0
Told s side m = (v : Value) × (m ≡ Ok (v, s)) × (meant_side side ≡ side_of v)

-- what follows a condition is what its side tells
pub decides : {A : Type 0} (m : Tried (Value × State)) (f t u : State → Tried A) (s : State)
    (side : CodeSide) → Told s side m
    → next m (λ (v, s). decided v f t u s) ≡ pick (meant_side side) t f u s
decides m f t u s side h =
    ap (λ x. next x (λ (v, s). decided v f t u s)) h.1
    ∙ ap (λ g. g s) (decided_is h.0 f t u)
    ∙ ap (λ d. pick d t f u s) (sym h.2)

module _ (k : Context) (spot : Spot) (c : Expr Meant) (f t u : State → Tried Flow) where
  branched : (s : State) → branch k spot c f t u s
      ≡ next (next (counted (at k spot) s) (condition k spot c)) (λ (v, s). decided v f t u s)
  branched s =
      sym (next_next (counted (at k spot) s) (condition k spot c) (λ (v, s). decided v f t u s))

  pub branch_is : (s s1 : State) (side : CodeSide)
      → Told s1 side (next (counted (at k spot) s) (condition k spot c))
      → branch k spot c f t u s ≡ pick (meant_side side) t f u s1
  branch_is s s1 side h =
      branched s ∙ decides (next (counted (at k spot) s) (condition k spot c)) f t u s1 side h

  pub branch_refused : (s : State) (e : Fault)
      → IsRefusal e (next (counted (at k spot) s) (condition k spot c))
      → IsRefusal e (branch k spot c f t u s)
  branch_refused s e h =
      refusal e _ _ (branched s)
      (exits e (next (counted (at k spot) s) (condition k spot c)) (λ (v, s). decided v f t u s) h)

-- ---- what doesn't go on ends all
abbrev pub Stops : Result CodeFlow Fault → Type 0
Stops (Ok flow.Going) = ⊥
Stops (Ok (flow.Returned d)) = Unit {0}
Stops (Err e) = Unit {0}

pub flows_stop : (qs : List Equation) (old new : World) (f : Frame) (r : Result CodeFlow Fault)
    (m : Tried Flow) (go : State → Tried Flow) → Stops r → Flows qs old f new r m
    → Flows qs old f new r (next m (λ x. going x go))
flows_stop qs old new f (Ok flow.Going) m go h k = absurd h
flows_stop qs old new f (Ok (flow.Returned d)) m go h k =
    (k.0, ap (λ x. next x (λ x. going x go)) k.1, k.2)
flows_stop qs old new f (Err e) m go h k = exits e m (λ x. going x go) k

-- ---- statements in turn
abbrev pub Rests : List Equation → World → Frame → World → Tried Flow → (State → Tried Flow) → Type
    0
Rests qs old f mid whole rest =
    (es : List Equation) × (whole ≡ rest (state_of f mid es)) × Lists qs old es mid

-- what is left is all that flows
pub rests_flow : (qs : List Equation) (old mid new : World) (f g : Frame)
    (r : Result CodeFlow Fault) (whole : Tried Flow) (rest : State → Tried Flow)
    → Rests qs old f mid whole rest
    → ((es : List Equation) → Flows es mid g new r (rest (state_of f mid es)))
    → Flows qs old g new r whole
rests_flow qs old mid new f g r whole rest h k =
    flows_at qs old new g r whole (rest (state_of f mid h.0)) h.1
    (flows_after qs h.0 old mid new g r (rest (state_of f mid h.0)) h.2 (k h.0))

-- a step after which others are left
pub rests_more : (qs : List Equation) (old mid new : World) (f g : Frame) (whole : Tried Flow)
    (rest other : State → Tried Flow) → Rests qs old f mid whole rest
    → ((es : List Equation) → (fs : List Equation)
    × (rest (state_of f mid es) ≡ other (state_of g new fs)) × Lists es mid fs new)
    → Rests qs old g new whole other
rests_more qs old mid new f g whole rest other h k =
    let step = k h.0 in
    (step.0, h.1 ∙ step.1, lists_next qs h.0 step.0 old mid new h.2 step.2)

module _ (k : Context) (xs : List (CodeStatement Spot Meant)) where
  abbrev pub all_from : ℕ → State → Tried Flow
  all_from i s = exec_all k (as_statements (map bare_statement (drop i xs))) s

  pub first_from : (i : ℕ) (x : CodeStatement Spot Meant) (s : State) → i < length xs
      → x ≡ get_or xs i x → all_from i s
      ≡ next (exec k (bare_statement x) s) (λ f. going f (all_from (i + 1)))
  first_from i x s h is =
      ap (λ ys. exec_all k (as_statements (map bare_statement ys)) s) (drop_more xs i x h)
      ∙ ap (λ y. next (exec k (bare_statement y) s) (λ f. going f (all_from (i + 1)))) (sym is)

  pub all_goes : (i : ℕ) (x : CodeStatement Spot Meant) (mid new : World) (f g : Frame)
      (es : List Equation) → i < length xs → x ≡ get_or xs i x
      → Went es mid g new (exec k (bare_statement x) (state_of f mid es))
      → (fs : List Equation) × (all_from i (state_of f mid es)
      ≡ all_from (i + 1) (state_of g new fs)) × Lists es mid fs new
  all_goes i x mid new f g es h is went = (
    went.0,
    first_from i x (state_of f mid es) h is
        ∙ ap (λ m. next m (λ f. going f (all_from (i + 1)))) went.1,
    went.2,
  )

  pub all_stops : (i : ℕ) (x : CodeStatement Spot Meant) (mid new : World) (f g : Frame)
      (es : List Equation) (r : Result CodeFlow Fault) → i < length xs → x ≡ get_or xs i x
      → Stops r → Flows es mid g new r (exec k (bare_statement x) (state_of f mid es))
      → Flows es mid g new r (all_from i (state_of f mid es))
  all_stops i x mid new f g es r h is stop k1 =
      flows_at es mid new g r _ _ (first_from i x (state_of f mid es) h is)
      (flows_stop es mid new g r (exec k (bare_statement x) (state_of f mid es))
      (all_from (i + 1)) stop k1)

  pub all_refused : (i : ℕ) (x : CodeStatement Spot Meant) (mid new : World) (f g : Frame)
      (es : List Equation) (r : Result CodeFlow Fault) (e : Fault) → i < length xs
      → x ≡ get_or xs i x → IsErrAnd r (λ y. y ≡ e)
      → IsRefusal e (exec k (bare_statement x) (state_of f mid es))
      → Flows es mid g new r (all_from i (state_of f mid es))
  all_refused i x mid new f g es r e h is err refuses =
      flows_at es mid new g r _ _ (first_from i x (state_of f mid es) h is)
      (flows_exit es mid new g r e (exec k (bare_statement x) (state_of f mid es))
      (λ f. going f (all_from (i + 1))) err refuses)

  pub all_end : (i : ℕ) (s : State) → length xs ≤ i → all_from i s ≡ Ok (Going s)
  all_end i s h = ap (λ ys. exec_all k (as_statements (map bare_statement ys)) s) (drop_all i xs h)

-- ---- turns
module _ (k : Context) (spot : Spot) (c : Expr Meant) (body unknown : State → Tried Flow) where
  abbrev pub turn_by : ℕ → State → Tried Flow
  turn_by n s =
      next (counted (at k spot) s) (λ s1. next (body s1) (λ f. going f (turns n k spot c body
      unknown)))

  pub turn_is : (n : ℕ) (s s1 : State) (side : CodeSide) → Told s1 side (condition k spot c s)
      → turns (suc n) k spot c body unknown s
      ≡ pick (meant_side side) (turn_by n) (λ s. Ok (Going s)) unknown s1
  turn_is n s s1 side h =
      decides (condition k spot c s) (λ s. Ok (Going s)) (turn_by n) unknown s1 side h

  pub turn_refused : (n : ℕ) (s : State) (e : Fault) → IsRefusal e (condition k spot c s)
      → IsRefusal e (turns (suc n) k spot c body unknown s)
  turn_refused n s e h =
      exits e (condition k spot c s)
      (λ (v, s). decided v (λ s. Ok (Going s)) (turn_by n) unknown s) h

  -- as many turns are left
  abbrev pub TurnsLeft : ℕ → List Equation → World → Frame → World → Tried Flow → Type 0
  TurnsLeft i qs old f mid whole =
      (n : ℕ) × (n + i ≡ most_turns)
      × Rests qs old f mid whole (λ s. turns n k spot c body unknown s)

-- the turns are as many as statements may be
pub most_is : most_turns ≡ 16777217
unfolding most_turns
most_is = refl

-- ---- what is decided
pub decides_refused : (s : State) (r : Result CodeSide Fault) (e : Fault)
    (m : Tried (Value × State)) → IsErrAnd r (λ x. x ≡ e) → IsRefusal e m → Decides s r m
decides_refused s (Ok a) e m is h = absurd is
decides_refused s (Err x) e m is h = rw is h

pub decides_after : (s : State) (r : Result CodeSide Fault) (m n : Tried (Value × State)) → m ≡ n
    → Decides s r n → Decides s r m
decides_after s (Ok a) m n e h = (h.0, e ∙ h.1, h.2)
decides_after s (Err x) m n e h = refusal x m n e h

-- a condition that is a number
module _ (k : Context) (spot : Spot) (c : Expr Meant) (s s1 : State) where
  abbrev settled : Value → State → Tried (Value × State)
  settled v s = next (settle (at k spot) s) (λ s2. Ok (v, s2))

  pub condition_is : (s2 : State) (v : Value)
      → value_in k (at k spot) false Scalar c s ≡ Ok (single v, s1)
      → settle (at k spot) s1 ≡ Ok s2 → condition k spot c s ≡ Ok (v, s2)
  condition_is s2 v h e =
      ap (λ z. scalar z settled) h ∙ ap (λ z. next z (λ s2. Ok (v, s2))) e

  pub condition_stops : (v : Value) (f : Fault)
      → value_in k (at k spot) false Scalar c s ≡ Ok (single v, s1)
      → IsRefusal f (settle (at k spot) s1) → IsRefusal f (condition k spot c s)
  condition_stops v f h e =
      refusal f _ _ (ap (λ z. scalar z settled) h)
      (exits f (settle (at k spot) s1) (λ s2. Ok (v, s2)) e)
