-- An assertion, and its step where its condition isn't known.
use Rattle.std.proofs.Common.{◌≡◌, ◌∙◌, ◌++◌, Bool, true, false, List, [], ◌∷◌, Result, Ok, Err, ap}
use Rattle.std.proofs.Common.{refl, subst, sym}
use Rattle.std.specs.Prelude.{◌==◌, if◌then◌else◌, OnOk}
use Rattle.cir_ast.specs.declared.program.Meant.{Meant}
use Rattle.cir_ast.specs.Tree.{Expr}
use Rattle.cir_values.specs.declared.operators.Side.{Side as CodeSide}
use Rattle.cir_values.specs.Meant.{meant_side}
use Rattle.cir_meaning.specs.Tried.{Tried, Where, next}
use Rattle.cir_meaning.specs.Arrays.{Datum, Scalar, single, the_item}
use Rattle.cir_meaning.specs.Costs.{Made as Key}
use Rattle.cir_meaning.specs.Frame.{State}
use Rattle.cir_meaning.specs.Evaluate.{scalar, value_in}
use Rattle.cir_meaning.specs.Statement.{assert_value, decided}
use Rattle.cir_meaning.specs.Values.{Known, Linear, Opaque, Quadratic, Value, side_of}
use Rattle.cir_arrays.specs.declared.stop.Fault.{Fault}
use Rattle.cir_arrays.specs.Stopped.{IsRefusal}
use Rattle.cir_arrays.proofs.Exits.{exits}
use Rattle.cir_frame.specs.Shown.{state_of}
use Rattle.cir_assign.specs.Leads.{Leads}
use Rattle.cir_execute.proofs.Branching.{decided_is, pick}
use Rattle.cir_steps.specs.Step.{Step}
use Rattle.cir_steps.specs.Emission.{Emission, Emitted, behind, known_in, quiet, with_state}
use Rattle.cir_steps.specs.Making.{Emitting, make_assertion}
use Rattle.cir_steps.specs.Statements.{emit_assert, emit_assert_value}
use Rattle.cir_make.specs.declared.whole.Inside.{Inside}
use Rattle.cir_make.specs.declared.whole.Whole.{Whole}
use Rattle.cir_assert.specs.Asserts.{IsAsserted, assert_steps}
use Rattle.cir_make.specs.Emits.{Emits, go_on}
use Rattle.cir_make.specs.Shows.{Shows, equations_in}
use Rattle.cir_make.proofs.Going.{append_none, emits_as}
use Rattle.cir_make.proofs.Leading.{kept_state, led_emits}

-- steps of what is known are none
pub steps_known : (told side : CodeSide) (v : Value) (ss : List Step) → told ≡ side
    → meant_side told ≡ side_of v → decided v [] [] ss ≡ pick (meant_side side) [] [] ss
steps_known told side v ss is tells =
    decided_is v [] [] ss ∙ ap (λ x. pick x [] [] ss) (sym tells ∙ ap meant_side is)

pub none_behind : (ss none : List Step) → none ≡ [] → ss ≡ ss ++ none
none_behind ss none is = sym (append_none ss) ∙ ap (λ l. ss ++ l) (sym is)

module _ (q : Emitting) (w : Where) (e : Expr Meant) where
  abbrev pub asserting : State → Tried State
  asserting s = scalar (value_in q.context w false Scalar e s) (assert_value q.context w e s)

  assertion_stops : (x : Emission) (f : Fault) → IsRefusal f (asserting (known_in x))
      → IsRefusal f (emit_assert q w e x)
  assertion_stops x f h = at (value_in q.context w false Scalar e (known_in x)) h
    where
      at : (m : Tried (Datum × State))
          → IsRefusal f (scalar m (assert_value q.context w e (known_in x)))
          → IsRefusal f (next m (λ (d, s). emit_assert_value q w e (the_item d) s x))
      at (Ok (d, s)) h =
          exits f (assert_value q.context w e (known_in x) (the_item d) s)
          (λ s1. decided (the_item d) (quiet (with_state s1 x)) (quiet (with_state s1 x))
          (make_assertion q.context w e s1 x)) h
      at (Err r) h = h

  stepped_as : (x : Emission) (v : Value) (m : Tried State)
      → next m (λ s1. decided v (quiet (with_state s1 x)) (quiet (with_state s1 x))
      (make_assertion q.context w e s1 x))
      ≡ next m (λ s. Ok record {
        state = with_state s x;
        steps = assert_steps q.context w e v x;
      })
  stepped_as x v (Err r) = refl
  stepped_as x (Known n) (Ok s) = at (n == 0)
    where
      at : (b : Bool)
          → (if b then quiet (with_state s x) else quiet (with_state s x))
          ≡ Ok record { state = with_state s x; steps = if b then [] else [] }
      at true = refl
      at false = refl
  stepped_as x (Linear f) (Ok s) = refl
  stepped_as x (Quadratic a b c) (Ok s) = refl
  stepped_as x Opaque (Ok s) = refl

  assertion_is : (x : Emission) (v : Value) (s1 : State)
      → value_in q.context w false Scalar e (known_in x) ≡ Ok (single v, s1)
      → emit_assert q w e x
      ≡ next (asserting (known_in x)) (λ s. Ok record {
        state = with_state s x;
        steps = assert_steps q.context w e v x;
      })
  assertion_is x v s1 h =
      ap (λ m. next m (λ (d, s). emit_assert_value q w e (the_item d) s x)) h
      ∙ stepped_as x v (assert_value q.context w e (known_in x) v s1)
      ∙ ap (λ (m : Tried (Datum × State)). next
      (scalar m (assert_value q.context w e (known_in x)))
      (λ s. Ok record {
        state = with_state s x;
        steps = assert_steps q.context w e v x;
      })) (sym h)

  pub assert_emits : {A : Type 0} (p : List Key) (i j : Inside) (u v : Whole) (d : Emitted)
      (r : Result A Fault) → Shows p i u d
      → Leads (equations_in d.state) u.world j.frame v.world r
      (asserting (state_of i.frame u.world (equations_in d.state)))
      → OnOk r (IsAsserted q.context w e p j v d.state d.steps)
      → Emits p j v r (go_on d (emit_assert q w e))
  assert_emits p i j u v d (Ok a) shows leads h =
      emits_as p j v (Ok a) _ _
      (ap (behind d.steps) (assertion_is d.state h.value h.state h.is))
      (led_emits p i j u v d asserting with_state (λ s. assert_steps q.context w e h.value) shows
      (Ok a) leads (λ s. refl)
      (λ es. kept_state p j.frame j.cells v.made d.state _ _ h.kept))
  assert_emits p i j u v d (Err f) shows leads h =
      let P : State → Type 0 = λ s. IsRefusal f (asserting s) in
      exits f (emit_assert q w e d.state)
      (λ y. Ok record { state = y.state; steps = d.steps ++ y.steps })
      (assertion_stops d.state f (subst P (sym shows.state) leads))
