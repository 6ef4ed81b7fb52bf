-- An execution at compile time and the making of its steps, side by side: where the first isn't
-- refused, the second isn't either, the same is known behind both, and a relation holds that a
-- sequence keeps.
use Rattle.std.proofs.Common.{◌≡◌, ℕ, Bool, true, false, cond, List, [], ◌∷◌, ◌++◌, Ok, Err, refl}
use Rattle.std.proofs.Common.{sym, subst}
use Rattle.cir_ast.specs.declared.program.Meant.{Meant}
use Rattle.cir_ast.specs.declared.program.Meant.TheVariants as meant
use Rattle.cir_meaning.specs.Tried.{Where, Tried, next}
use Rattle.cir_meaning.specs.Frame.{State}
use Rattle.cir_meaning.specs.Simple as simple
use Rattle.cir_meaning.specs.Simple.{declared_number}
use Rattle.cir_meaning.specs.Statement.{Flow, Going, Returned, going, goes}
use Rattle.cir_meaning.proofs.Good.{OnGood}
use Rattle.cir_meaning.proofs.Twins.{Twin, twin_bad, twin_weaker}
use Rattle.cir_steps.specs.Emission.{Emission, Emitted, quiet, behind, then_emit, known_in}
use Rattle.cir_steps.specs.Emission.{with_state, emit_known}
use Rattle.cir_steps.specs.Emit.{emit_each, emit_number}
use Rattle.cir_steps.proofs.Moving.{Moves, moves_itself}

abbrev pub still_at : State → Emission → Emitted
still_at s x = record { state = with_state s x; steps = [] }

abbrev pub joined : Emitted → Emitted → Emitted
joined y z = record { state = z.state; steps = y.steps ++ z.steps }

-- a relation that holds of what leaves signals and components as they are, and of a sequence
pub record Keeps (R : Emission → Emitted → Type 0) : Type 0 where
  pub still : (x : Emission) (s : State) → Moves (known_in x) s → R x (still_at s x)
  pub joins : (x : Emission) (y z : Emitted) → R x y → R y.state z → R x (joined y z)

module _ (R : Emission → Emitted → Type 0) (keeps : Keeps R) where
  -- `P` holds of the state behind
  abbrev pub Follows : (State → Type 0) → Emission → State → Emitted → Type 0
  Follows P x s y = (known_in y.state ≡ s) × R x y × P s

  abbrev pub FollowsFlow : (State → Type 0) → Emission → Flow → Emitted → Type 0
  FollowsFlow P x (Going s) y = Follows P x s y
  FollowsFlow P x (Returned d world) y = ⊥

  -- what holds behind two in sequence, where it does behind the second
  abbrev pub Joins : {B : Type 0} → (Emission → B → Emitted → Type 0) → Type 0
  Joins T = (x : Emission) (y : Emitted) (b : _) (z : Emitted) → R x y → T y.state b z
      → T x b (joined y z)

  pub follows_joins : (P : State → Type 0) → Joins (Follows P)
  follows_joins P x y b z h g = (g.0, keeps.joins x y z h g.1, g.2)

  pub flow_joins : (P : State → Type 0) → Joins (FollowsFlow P)
  flow_joins P x y (Going s) z h g = (g.0, keeps.joins x y z h g.1, g.2)
  flow_joins P x y (Returned d world) z h g = absurd g

  module _ {B : Type 0} (T : Emission → B → Emitted → Type 0) (joins : Joins T) where
    behind_twin : (x : Emission) (y : Emitted) (m : Tried B) (r : Tried Emitted) → R x y
        → Twin (T y.state) m r → Twin (T x) m (behind y.steps r)
    unfolding Twin
    behind_twin x y (Ok b) (Ok z) h g = joins x y b z h g
    behind_twin x y (Ok b) (Err e) h g = absurd g
    behind_twin x y (Err e) r h g = tt

    pub twin_then : (P : State → Type 0) (x : Emission) (m : Tried State) (r : Tried Emitted)
        (go : State → Tried B) (on : Emission → Tried Emitted) → Twin (Follows P x) m r
        → ((y : Emission) → P (known_in y) → Twin (T y) (go (known_in y)) (on y))
        → Twin (T x) (next m go) (then_emit r on)
    unfolding Twin
    twin_then P x (Ok s) (Ok y) go on h f =
        behind_twin x y (go s) (on y.state) h.1
        (subst (λ t. Twin (T y.state) (go t) (on y.state)) h.0
        (f y.state (subst P (sym h.0) h.2)))
    twin_then P x (Ok s) (Err e) go on h f = absurd h
    twin_then P x (Err e) r go on h f = tt

    -- behind what makes no step
    pub from_quiet : (x y : Emission) (m : Tried B) (r : Tried Emitted)
        → R x record { state = y; steps = [] } → Twin (T y) m r → Twin (T x) m r
    from_quiet x y m r h g =
        twin_weaker (T y) (T x) m r
        (λ b z i. joins x record { state = y; steps = [] } b z h i) g

    -- from a state in which signals and components are as before
    pub from_still : (x : Emission) (s : State) (m : Tried B) (r : Tried Emitted)
        → Moves (known_in x) s → Twin (T (with_state s x)) m r → Twin (T x) m r
    from_still x s m r h g = from_quiet x (with_state s x) m r (keeps.still x s h) g

    pub valued_twin : {C : Type 0} (x : Emission) (m : Tried C) (state : C → State)
        (go : C → Tried B) (on : C → Tried Emitted)
        → OnGood (λ a. Moves (known_in x) (state a)) m
        → ((a : C) → Moves (known_in x) (state a)
        → Twin (T (with_state (state a) x)) (go a) (on a))
        → Twin (T x) (next m go) (next m on)
    unfolding Twin OnGood
    valued_twin x (Ok a) state go on h f = from_still x (state a) (go a) (on a) h (f a h)
    valued_twin x (Err e) state go on h f = tt

  module _ (P : State → Type 0) where
    pub twin_goes : (x : Emission) (m : Tried State) (r : Tried Emitted) → Twin (Follows P x) m r
        → Twin (FollowsFlow P x) (goes m) r
    unfolding Twin
    twin_goes x (Ok s) (Ok y) h = h
    twin_goes x (Ok s) (Err e) h = absurd h
    twin_goes x (Err e) r h = tt

    pub twin_going : (Q : State → Type 0) (x : Emission) (m : Tried Flow) (r : Tried Emitted)
        (go : State → Tried Flow) (on : Emission → Tried Emitted) → Twin (FollowsFlow Q x) m r
        → ((y : Emission) → Q (known_in y) → Twin (FollowsFlow P y) (go (known_in y)) (on y))
        → Twin (FollowsFlow P x) (next m (λ f. going f go)) (then_emit r on)
    unfolding Twin
    twin_going Q x (Ok (Going s)) (Ok y) go on h f =
        twin_then (FollowsFlow P) (flow_joins P) Q x (Ok s) (Ok y) go on h f
    twin_going Q x (Ok (Going s)) (Err e) go on h f = absurd h
    twin_going Q x (Ok (Returned d world)) (Ok y) go on h f = absurd h
    twin_going Q x (Ok (Returned d world)) (Err e) go on h f = absurd h
    twin_going Q x (Err e) r go on h f = tt

    pub quiet_follows : (x : Emission) → P (known_in x)
        → Twin (Follows P x) (Ok (known_in x)) (quiet x)
    unfolding Twin
    quiet_follows x p = (refl, keeps.still x (known_in x) (moves_itself (known_in x)), p)

    pub quiet_flow : (x : Emission) → P (known_in x)
        → Twin (FollowsFlow P x) (Ok (Going (known_in x))) (quiet x)
    unfolding Twin
    quiet_flow x p = (refl, keeps.still x (known_in x) (moves_itself (known_in x)), p)

    pub known_follows : (x : Emission) (go : State → Tried State)
        → ((s : State) → Moves (known_in x) s → P s)
        → OnGood (Moves (known_in x)) (go (known_in x))
        → Twin (Follows P x) (go (known_in x)) (emit_known go x)
    unfolding Twin OnGood
    known_follows x go p h = at (go (known_in x)) h
      where
        at : (m : Tried State) → OnGood (Moves (known_in x)) m
            → Twin (Follows P x) m (next m (λ s. quiet (with_state s x)))
        at (Ok s) h = (refl, keeps.still x s h, p s h)
        at (Err e) h = tt

    -- what the compile meaning is asked for as a whole, after a part of it
    pub follows_twice : {A : Type 0} (x : Emission) (m : Tried A) (go : A → Tried State)
        (on : A → State → Tried Emitted)
        → ((a : A) → m ≡ Ok a → Twin (Follows P x) (go a) (next (go a) (on a)))
        → Twin (Follows P x) (next m go) (next m (λ a. next (next m go) (on a)))
    unfolding Twin
    follows_twice x (Ok a) go on f = f a refl
    follows_twice x (Err e) go on f = tt

    pub follows_made : (Q : State → Type 0) (x : Emission) (m : Tried State)
        (on : State → Tried Emitted) → OnGood Q m
        → ((s : State) → m ≡ Ok s → Q s → Twin (Follows P x) (Ok s) (on s))
        → Twin (Follows P x) m (next m on)
    unfolding Twin OnGood
    follows_made Q x (Ok s) on h f = f s refl h
    follows_made Q x (Err e) on h f = tt

    pub follows_either : (x : Emission) (s : State) (b : Bool) (y z : Emitted)
        → (b ≡ true → Follows P x s y) → Follows P x s z
        → Twin (Follows P x) (Ok s) (cond b (Ok y) (Ok z))
    unfolding Twin
    follows_either x s true y z h g = h refl
    follows_either x s false y z h g = g

    pub follows_ok : (x : Emission) (s : State) (y : Emitted) → Follows P x s y
        → Twin (Follows P x) (Ok s) (Ok y)
    unfolding Twin
    follows_ok x s y h = h

    pub each_follows : {A : Type 0} (f : A → State → Tried State)
        (g : A → Emission → Tried Emitted) (as' : List A) (x : Emission) → P (known_in x)
        → ((a : A) (y : Emission) → P (known_in y)
        → Twin (Follows P y) (f a (known_in y)) (g a y))
        → Twin (Follows P x) (simple.each f as' (known_in x)) (emit_each g as' x)
    each_follows f g [] x p h = quiet_follows x p
    each_follows f g (a ∷ as') x p h =
        twin_then (Follows P) (follows_joins P) P x (f a (known_in x)) (g a x)
        (simple.each f as') (emit_each g as') (h a x p) (λ y i. each_follows f g as' y i h)

    pub number_follows : (x : Emission) (w : Where) (m : Meant) (go : ℕ → Tried State)
        (on : ℕ → Tried Emitted) → ((n : ℕ) → Twin (Follows P x) (go n) (on n))
        → Twin (Follows P x) (declared_number w m go) (emit_number w m on)
    number_follows x w (meant.Variable n) go on h = h n
    number_follows x w (meant.Signal direction n) go on h = h n
    number_follows x w (meant.Component n) go on h = h n
    number_follows x w meant.Other go on h = twin_bad (Follows P x) _ _
    number_follows x w (meant.Template n) go on h = twin_bad (Follows P x) _ _
    number_follows x w (meant.Function n) go on h = twin_bad (Follows P x) _ _

  pub weaker_flow : (P Q : State → Type 0) (x : Emission) (m : Tried Flow) (r : Tried Emitted)
      → ((s : State) → P s → Q s) → Twin (FollowsFlow P x) m r → Twin (FollowsFlow Q x) m r
  unfolding Twin
  weaker_flow P Q x (Ok (Going s)) (Ok y) f h = (h.0, h.1, f s h.2)
  weaker_flow P Q x (Ok (Returned d world)) (Ok y) f h = h
  weaker_flow P Q x (Ok a) (Err e) f h = h
  weaker_flow P Q x (Err e) r f h = tt
