-- The turns of loops.
use Rattle.std.proofs.Common.{◌≡◌, ◌∙◌, ℕ, ◌+◌, ◌<◌, ◌≤◌, zero, suc, List, Result, ap, sym, subst}
use Rattle.std.proofs.Common.{refl, arith}
use Rattle.std.specs.Prelude.{IsErrAnd}
use Rattle.cir_ast.specs.declared.program.Spot.{Spot}
use Rattle.cir_ast.specs.declared.program.Meant.{Meant}
use Rattle.cir_ast.specs.declared.refusal.Kind.TheVariants.{Limit}
use Rattle.cir_ast.specs.declared.refusal.Which.TheVariants.{Statements as StatementCount}
use Rattle.cir_meaning.specs.Costs.{Made as Key}
use Rattle.cir_ast.specs.Tree.{Assign, Expr, Statement}
use Rattle.cir_values.specs.declared.operators.Side.{Side as CodeSide}
use Rattle.cir_values.specs.Meant.{meant_side}
use Rattle.cir_meaning.specs.Tried.{Tried}
use Rattle.cir_meaning.specs.Frame.{State, at}
use Rattle.cir_meaning.specs.Statement.{condition, loop_of, most_turns}
use Rattle.cir_arrays.specs.declared.stop.Fault.{Fault}
use Rattle.cir_arrays.specs.Stopped.{IsRefusal, Refuses}
use Rattle.cir_arrays.proofs.Exits.{exits}
use Rattle.cir_frame.specs.declared.world.World.{World}
use Rattle.cir_frame.specs.Shown.{state_of}
use Rattle.cir_execute.specs.Rests.{loop_fault}
use Rattle.cir_execute.proofs.Going.{refusal}
use Rattle.cir_execute.proofs.Branching.{Told, pick, most_is}
use Rattle.cir_steps.specs.Emission.{Emission, Emitted, quiet, then_emit, known_in}
use Rattle.cir_steps.specs.Making.{Emitting}
use Rattle.cir_steps.specs.Emit.{emit_counted}
use Rattle.cir_steps.specs.Statements.{emit_turns, emit_undecided}
use Rattle.cir_make.specs.declared.whole.Inside.{Inside}
use Rattle.cir_make.specs.declared.whole.Whole.{Whole}
use Rattle.cir_make.specs.Emits.{Emits, go_on}
use Rattle.cir_make.specs.Shows.{Shows, equations_in}
use Rattle.cir_make.proofs.Going.{Rests, Emitted_by, seen, with_world, emits_as, emits_refused}
use Rattle.cir_make.proofs.Going.{emits_exit, rests_emit, rests_more, rests_then, shows_world}
use Rattle.cir_make.proofs.Going.{then_then}
use Rattle.cir_body.specs.Turns.{loop_turn}
use Rattle.cir_body.proofs.Branching.{decides}

-- the loop of a `for`
abbrev pub looped : Emitting → Spot → Expr Meant → Statement Spot Meant → Spot → Assign Meant
    → Emission → Tried Emitted
looped q spot condition body step_spot step =
    emit_turns most_turns q spot condition (loop_turn q spot body step_spot step)
    (emit_undecided q spot (loop_fault body step_spot step)
    (loop_of spot condition body step_spot step))

-- ---- turns
module _ (q : Emitting) (spot : Spot) (c : Expr Meant) (body unknown : Emission → Tried Emitted)
  where
    abbrev pub turn_by : ℕ → Emission → Tried Emitted
    turn_by n x =
        then_emit (emit_counted q spot x) (λ x1. then_emit (body x1) (emit_turns n q spot c body
        unknown))

    -- as many turns are left
    abbrev pub TurnsLeft : List Key → ℕ → Inside → Whole → Tried Emitted → Type 0
    TurnsLeft p i inside whole m =
        (n : ℕ) × (n + i ≡ most_turns) × Rests p inside whole m (emit_turns n q spot c body unknown)

    pub turns_begin : (p : List Key) (inside : Inside) (whole : Whole) (d : Emitted)
        → Shows p inside whole d
        → TurnsLeft p 0 inside whole (go_on d (emit_turns most_turns q spot c body unknown))
    turns_begin p inside whole d shows = (most_turns, omega arith, (d, refl, shows))

    at_turn : (p : List Key) (i : ℕ) (inside : Inside) (whole : Whole) (m : Tried Emitted)
        → i < 16777217 → TurnsLeft p i inside whole m
        → (n : ℕ) × (suc n + i ≡ most_turns)
        × Rests p inside whole m (emit_turns (suc n) q spot c body unknown)
    at_turn p i inside whole m less (zero, is, rest) = absurd (omega (arith, most_is))
    at_turn p i inside whole m less (suc n, is, rest) = (n, is, rest)

    -- no turn is left
    pub turns_end : (p : List Key) (i : ℕ) (inside : Inside) (whole : Whole) (m : Tried Emitted)
        (e : Fault) → 16777217 ≤ i → TurnsLeft p i inside whole m
        → Refuses (at q.context spot) (Limit StatementCount 16777217) e → IsRefusal e m
    turns_end p i inside whole m e most (zero, is, rest) h = refusal e m _ rest.1 h
    turns_end p i inside whole m e most (suc n, is, rest) h = absurd (omega (arith, most_is))

    condition_rests : (p : List Key) (i : Inside) (w : Whole) (y : Emitted) (world : World) (n : ℕ)
        (told side : CodeSide) → told ≡ side → Shows p i w y
        → Told (state_of i.frame world (equations_in y.state)) told
        (condition q.context spot c (state_of i.frame w.world (equations_in y.state)))
        → world.constraints.items ≡ w.world.constraints.items
        → Rests p i (with_world w world) (go_on y (emit_turns (suc n) q spot c body unknown))
        (pick (meant_side side) (turn_by n) quiet unknown)
    condition_rests p i w y world n told side is shows tells same =
        let s = state_of i.frame world (equations_in y.state) in (
          seen y s,
          ap (λ z. go_on y (λ x. z))
              (decides y.state quiet (turn_by n) unknown
              (condition q.context spot c (known_in y.state)) s told
              (subst (λ (z : State). Told s told (condition q.context spot c z)) (sym shows.state)
              tells))
              ∙ ap (λ x. go_on (seen y s) (pick (meant_side x) (turn_by n) quiet unknown)) is,
          shows_world p i w y world shows same,
        )

    -- a condition tells what a turn does
    pub turn_told : (p : List Key) (k : ℕ) (i : Inside) (w : Whole) (m : Tried Emitted)
        (world : World) (told side : CodeSide) → told ≡ side → k < 16777217
        → TurnsLeft p k i w m
        → ((y : Emitted) → Told (state_of i.frame world (equations_in y.state)) told
        (condition q.context spot c (state_of i.frame w.world (equations_in y.state))))
        → world.constraints.items ≡ w.world.constraints.items
        → (n : ℕ) × (suc n + k ≡ most_turns) × Rests p i (with_world w world) m
        (pick (meant_side side) (turn_by n) quiet unknown)
    turn_told p k i w m world told side is less left tells same =
        let here = at_turn p k i w m less left in (
          here.0,
          here.1,
          rests_more p i i w (with_world w world) m
              (emit_turns (suc here.0) q spot c body unknown)
              (pick (meant_side side) (turn_by here.0) quiet unknown) here.2
              (λ y shows. condition_rests p i w y world here.0 told side is shows (tells y) same),
        )

    pub turn_stops : {A : Type 0} (p : List Key) (k : ℕ) (i j : Inside) (w v : Whole)
        (m : Tried Emitted) (r : Result A Fault) (e : Fault) → k < 16777217
        → TurnsLeft p k i w m → IsErrAnd r (λ x. x ≡ e)
        → ((y : Emitted) → IsRefusal e
        (condition q.context spot c (state_of i.frame w.world (equations_in y.state))))
        → Emits p j v r m
    turn_stops p k i j w v m r e less left is h =
        let here = at_turn p k i w m less left in
        rests_emit p i j w v r m (emit_turns (suc here.0) q spot c body unknown) here.2
        (λ y shows. emits_refused p j v r e _ is
        (exits e (emit_turns (suc here.0) q spot c body unknown y.state) _
        (exits e (condition q.context spot c (known_in y.state)) _
        (subst (λ (z : State). IsRefusal e (condition q.context spot c z)) (sym shows.state)
        (h y)))))

    -- a turn, and what is left behind it
    turned : (n : ℕ) (y : Emitted) → go_on y (turn_by n)
        ≡ go_on y (λ x. then_emit (then_emit (emit_counted q spot x) body)
        (emit_turns n q spot c body unknown))
    turned n y =
        ap (λ z. go_on y (λ x. z))
        (sym (then_then (emit_counted q spot y.state) body (emit_turns n q spot c body unknown)))

    pub turn_goes : (p : List Key) (k : ℕ) (i j : Inside) (w v : Whole) (m : Tried Emitted)
        → (n : ℕ) × (suc n + k ≡ most_turns) × Rests p i w m (turn_by n)
        → ((y : Emitted) → Shows p i w y
        → Emitted_by p j v (go_on y (λ x. then_emit (emit_counted q spot x) body)))
        → TurnsLeft p (k + 1) j v m
    turn_goes p k i j w v m (n, is, rest) h = (
      n,
      omega (arith, is),
      rests_more p i j w v m (turn_by n) (emit_turns n q spot c body unknown) rest
          (λ y shows.
          let z = rests_then p j v y (λ x. then_emit (emit_counted q spot x) body)
          (emit_turns n q spot c body unknown) (h y shows) in
          (z.0, turned n y ∙ z.1, z.2)),
    )

    pub turn_ends : {A : Type 0} (p : List Key) (k : ℕ) (i j : Inside) (w v : Whole)
        (m : Tried Emitted) (r : Result A Fault) (e : Fault)
        → (n : ℕ) × (suc n + k ≡ most_turns) × Rests p i w m (turn_by n)
        → IsErrAnd r (λ x. x ≡ e)
        → ((y : Emitted) → Shows p i w y
        → IsRefusal e (go_on y (λ x. then_emit (emit_counted q spot x) body)))
        → Emits p j v r m
    turn_ends p k i j w v m r e (n, is, rest) err h =
        rests_emit p i j w v r m (turn_by n) rest
        (λ y shows. emits_as p j v r _ _ (turned n y)
        (emits_exit p j v r e y (λ x. then_emit (emit_counted q spot x) body)
        (emit_turns n q spot c body unknown) err (h y shows)))
