-- Conditions, and what is emitted behind them; the turns of loops.
use Rattle.std.proofs.Common.{◌≡◌, ◌∙◌, ℕ, ◌+◌, ◌<◌, ◌≤◌, List, length, get_or, drop, map, Result}
use Rattle.std.proofs.Common.{Ok, Err, ap, sym, subst, refl}
use Rattle.std.specs.Prelude.{IsErrAnd}
use Rattle.std.proofs.lemmas.List.{drop_all, drop_more}
use Rattle.cir_ast.specs.declared.program.Spot.{Spot}
use Rattle.cir_ast.specs.declared.program.Meant.{Meant}
use Rattle.cir_ast.specs.declared.marked.Statement.{Statement as CodeStatement}
use Rattle.cir_meaning.specs.Costs.{Made as Key}
use Rattle.cir_ast.specs.Tree.{Expr, as_statements, bare_statement}
use Rattle.cir_values.specs.declared.operators.Side.{Side as CodeSide}
use Rattle.cir_values.specs.Meant.{meant_side}
use Rattle.cir_meaning.specs.Tried.{Tried, next}
use Rattle.cir_meaning.specs.Values.{Value}
use Rattle.cir_meaning.specs.Frame.{State, at, counted}
use Rattle.cir_meaning.specs.Statement.{decided, condition}
use Rattle.cir_arrays.specs.declared.stop.Fault.{Fault}
use Rattle.cir_arrays.specs.Stopped.{IsRefusal}
use Rattle.cir_arrays.proofs.Exits.{exits}
use Rattle.cir_frame.specs.declared.world.World.{World}
use Rattle.cir_frame.specs.Shown.{state_of}
use Rattle.cir_execute.proofs.Going.{refusal}
use Rattle.cir_execute.proofs.Branching.{Told, pick, decided_is}
use Rattle.cir_steps.specs.Emission.{Emission, Emitted, quiet, then_emit, known_in, with_state}
use Rattle.cir_steps.specs.Making.{Emitting}
use Rattle.cir_steps.specs.Statements.{emit, emit_all, emit_branch}
use Rattle.cir_make.specs.declared.whole.Inside.{Inside}
use Rattle.cir_make.specs.declared.whole.Whole.{Whole}
use Rattle.cir_make.specs.Emits.{Emits, go_on}
use Rattle.cir_make.specs.Shows.{Shows, equations_in}
use Rattle.cir_make.proofs.Going.{Rests, seen, with_world, emits_refused, shows_world, known_next}

-- ---- a condition
module _ (x : Emission) (f t u : Emission → Tried Emitted) where
  chosen : Value × State → Tried Emitted
  chosen (v, s) = decided v f t u (with_state s x)

  pub decides : (m : Tried (Value × State)) (s : State) (side : CodeSide) → Told s side m
      → next m (λ (v, s). decided v f t u (with_state s x))
      ≡ pick (meant_side side) t f u (with_state s x)
  decides m s side h =
      ap (λ z. next z (λ (v, s). decided v f t u (with_state s x))) h.1
      ∙ ap (λ g. g (with_state s x)) (decided_is h.0 f t u)
      ∙ ap (λ e. pick e t f u (with_state s x)) (sym h.2)

module _ (q : Emitting) (spot : Spot) (c : Expr Meant) (f t u : Emission → Tried Emitted) where
  abbrev tested : Emission → Tried Emitted
  tested x =
      next (condition q.context spot c (known_in x)) (λ (v, s). decided v f t u (with_state s x))

  branch_at : (d : Emitted) (m : Tried State) (s : State) (side : CodeSide)
      → Told s side (next m (condition q.context spot c))
      → next m (λ s1. go_on (seen d s1) tested) ≡ go_on (seen d s) (pick (meant_side side) t f u)
  branch_at d (Ok s1) s side h =
      ap (λ z. go_on d (λ x. z))
      (decides (with_state s1 d.state) f t u (condition q.context spot c s1) s side h)
      ∙ at (meant_side side)
    where
      at : (e : _) → go_on d (λ x. pick e t f u (with_state s (with_state s1 d.state)))
          ≡ go_on (seen d s) (pick e t f u)
      at e = refl
  branch_at d (Err e) s side h = absurd (cc)

  stops_at : (d : Emitted) (m : Tried State) (e : Fault)
      → IsRefusal e (next m (condition q.context spot c))
      → IsRefusal e (next m (λ s1. go_on (seen d s1) tested))
  stops_at d (Ok s1) e h =
      exits e (tested (with_state s1 d.state)) _
      (exits e (condition q.context spot c s1)
      (λ (v, s). decided v f t u (with_state s (with_state s1 d.state))) h)
  stops_at d (Err x) e h = h

  -- what is chosen behind a condition is emitted
  pub branch_rests : (p : List Key) (i : Inside) (w : Whole) (d : Emitted) (world : World)
      (told side : CodeSide) → told ≡ side → Shows p i w d
      → Told (state_of i.frame world (equations_in d.state)) told
      (next (counted (at q.context spot) (state_of i.frame w.world (equations_in d.state)))
      (condition q.context spot c))
      → world.constraints.items ≡ w.world.constraints.items
      → Rests p i (with_world w world) (go_on d (emit_branch q spot c f t u))
      (pick (meant_side side) t f u)
  branch_rests p i w d world told side is shows tells same =
      let s = state_of i.frame world (equations_in d.state) in
      let m = counted (at q.context spot) (known_in d.state) in (
        seen d s,
        known_next d m tested
            ∙ branch_at d m s told (subst (λ (z : State). Told s told (next (counted
            (at q.context spot) z) (condition q.context spot c))) (sym shows.state) tells)
            ∙ ap (λ x. go_on (seen d s) (pick (meant_side x) t f u)) is,
        shows_world p i w d world shows same,
      )

  pub branch_stops : {A : Type 0} (p : List Key) (i j : Inside) (w v : Whole) (d : Emitted)
      (r : Result A Fault) (e : Fault) → IsErrAnd r (λ x. x ≡ e) → Shows p i w d
      → IsRefusal e (next (counted (at q.context spot)
      (state_of i.frame w.world (equations_in d.state))) (condition q.context spot c))
      → Emits p j v r (go_on d (emit_branch q spot c f t u))
  branch_stops p i j w v d r e is shows h =
      let m = counted (at q.context spot) (known_in d.state) in
      emits_refused p j v r e _ is
      (refusal e _ _ (known_next d m tested) (stops_at d m e (subst
      (λ (z : State). IsRefusal e (next (counted (at q.context spot) z)
      (condition q.context spot c))) (sym shows.state) h)))

-- ---- statements in turn
module _ (q : Emitting) (xs : List (CodeStatement Spot Meant)) where
  abbrev pub all_from : ℕ → Emission → Tried Emitted
  all_from i x = emit_all q (as_statements (map bare_statement (drop i xs))) x

  pub first_from : (i : ℕ) (a : CodeStatement Spot Meant) (d : Emitted) → i < length xs
      → a ≡ get_or xs i a → go_on d (all_from i)
      ≡ go_on d (λ x. then_emit (emit q (bare_statement a) x) (all_from (i + 1)))
  first_from i a d h is =
      ap (λ ys. go_on d (emit_all q (as_statements (map bare_statement ys)))) (drop_more xs i a h)
      ∙ ap (λ y. go_on d (λ x. then_emit (emit q (bare_statement y) x) (all_from (i + 1))))
      (sym is)

  pub all_end : (i : ℕ) (d : Emitted) → length xs ≤ i → go_on d (all_from i) ≡ go_on d quiet
  all_end i d h =
      ap (λ ys. go_on d (emit_all q (as_statements (map bare_statement ys)))) (drop_all i xs h)
