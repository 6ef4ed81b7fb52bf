-- Statements by their forms, and what is counted before them and behind them.
use Rattle.std.proofs.Common.{◌≡◌, List, Result, Ok, Err, ap, sym, Bor}
use Rattle.std.specs.Prelude.{IsErrAnd, Option, Some}
use Rattle.cir_ast.specs.declared.program.Spot.{Spot}
use Rattle.cir_ast.specs.declared.program.Meant.{Meant}
use Rattle.cir_ast.specs.declared.marked.Statement.{Statement as CodeStatement}
use Rattle.cir_ast.specs.declared.marked.StatementForm.{StatementForm as CodeForm}
use Rattle.cir_ast.specs.declared.marked.Step.{Step as CodeStep}
use Rattle.cir_meaning.specs.Costs.{Made as Key}
use Rattle.cir_ast.specs.Tree.{Assigned, Expr, Statement, bare_assign, bare_form, bare_statement}
use Rattle.cir_values.specs.declared.operators.Side.{Side as CodeSide}
use Rattle.cir_values.specs.Meant.{meant_side}
use Rattle.cir_meaning.specs.Tried.{Tried, next}
use Rattle.cir_meaning.specs.Frame.{at, counted}
use Rattle.cir_meaning.specs.Unknown.{fault_of}
use Rattle.cir_meaning.specs.Statement.{condition}
use Rattle.cir_arrays.specs.declared.stop.Fault.{Fault}
use Rattle.cir_arrays.specs.Stopped.{Gives, IsRefusal}
use Rattle.cir_frame.specs.declared.world.World.{World}
use Rattle.cir_frame.specs.Shown.{state_of}
use Rattle.cir_evaluate.specs.Within.{kept_of}
use Rattle.cir_execute.proofs.Branching.{Told, pick}
use Rattle.cir_execute.proofs.Scanning.{kept_constraints}
use Rattle.cir_steps.specs.Emission.{Emission, Emitted, then_emit}
use Rattle.cir_steps.specs.Making.{Emitting}
use Rattle.cir_steps.specs.Emit.{emit_counted, emit_simple}
use Rattle.cir_steps.specs.Statements.{emit, emit_branch, emit_undecided}
use Rattle.cir_make.specs.declared.whole.Inside.{Inside}
use Rattle.cir_make.specs.declared.whole.Whole.{Whole}
use Rattle.cir_make.specs.Emits.{Emits, go_on}
use Rattle.cir_make.specs.Shows.{Shows, equations_in}
use Rattle.cir_body.specs.Turns.{turn_of}
use Rattle.cir_make.proofs.Going.{Knows, emits_as, emits_exit, emits_next, known_emits, known_stops}
use Rattle.cir_make.proofs.Going.{rests_emit, with_world}
use Rattle.cir_body.proofs.Branching.{branch_rests}

-- ---- by a statement's form
module _ (q : Emitting) (a : CodeStatement Spot Meant) (form : CodeForm Spot Meant) (d : Emitted)
    (is : a.form ≡ form) where
  pub emits_form : {A : Type 0} (p : List Key) (i : Inside) (w : Whole) (r : Result A Fault)
      → Emits p i w r (go_on d (emit q (bare_form a.spot form)))
      → Emits p i w r (go_on d (emit q (bare_statement a)))
  emits_form p i w r h =
      emits_as p i w r (go_on d (emit q (bare_statement a)))
      (go_on d (emit q (bare_form a.spot form)))
      (ap (λ f. go_on d (emit q (bare_form a.spot f))) is) h

  -- what is left of a statement is left of its form
  pub left_at : go_on d (emit_undecided q a.spot (fault_of (bare_form a.spot form))
      (bare_form a.spot form))
      ≡ go_on d (emit_undecided q a.spot (fault_of (bare_statement a)) (bare_statement a))
  left_at =
      ap (λ f. go_on d (emit_undecided q a.spot (fault_of (bare_form a.spot f))
      (bare_form a.spot f))) (sym is)

-- ---- what is counted
module _ (q : Emitting) (spot : Spot) (p : List Key) (i : Inside) (w : Whole) (d : Emitted)
    (shows : Shows p i w d) where
  pub counted_stops : {A : Type 0} (j : Inside) (v : Whole) (r : Result A Fault) (e : Fault)
      (g : Emission → Tried Emitted) → IsErrAnd r (λ x. x ≡ e)
      → IsRefusal e (counted (at q.context spot)
      (state_of i.frame w.world (equations_in d.state)))
      → Emits p j v r (go_on d (λ x. then_emit (emit_counted q spot x) g))
  counted_stops j v r e g is h =
      emits_exit p j v r e d (emit_counted q spot) g is
      (known_stops p i w d w.world (counted (at q.context spot)) shows e h)

  pub counted_goes : {A : Type 0} (world : World) (j : Inside) (v : Whole) (r : Result A Fault)
      (g : Emission → Tried Emitted) → Knows i w world d (counted (at q.context spot))
      → kept_of world ≡ kept_of w.world
      → ((y : Emitted) → Shows p i (with_world w world) y → Emits p j v r (go_on y g))
      → Emits p j v r (go_on d (λ x. then_emit (emit_counted q spot x) g))
  counted_goes world j v r g knows keeps h =
      emits_next p i j (with_world w world) v r d (emit_counted q spot) g
      (known_emits p i w d world (counted (at q.context spot)) shows knows
      (kept_constraints world w.world keeps)) h

  pub counted_ends : {A : Type 0} (world : World) (r : Result A Fault)
      → Gives (λ _. state_of i.frame world (equations_in d.state)) r
      (counted (at q.context spot) (state_of i.frame w.world (equations_in d.state)))
      → kept_of world ≡ kept_of w.world
      → Emits p i (with_world w world) r (go_on d (emit_counted q spot))
  counted_ends world (Ok a) h keeps =
      known_emits p i w d world (counted (at q.context spot)) shows h
      (kept_constraints world w.world keeps)
  counted_ends world (Err e) h keeps =
      known_stops p i w d w.world (counted (at q.context spot)) shows e h

-- ---- what is chosen behind a condition
module _ (q : Emitting) (spot : Spot) (c : Expr Meant) (f t u : Emission → Tried Emitted)
    (p : List Key) (i : Inside) (w : Whole) (d : Emitted) (world : World) (shows : Shows p i w d)
  where
    pub branch_emits : {A : Type 0} (j : Inside) (v : Whole) (r : Result A Fault)
        (told side : CodeSide) → told ≡ side
        → Told (state_of i.frame world (equations_in d.state)) told
        (next (counted (at q.context spot) (state_of i.frame w.world (equations_in d.state)))
        (condition q.context spot c))
        → world.constraints.items ≡ w.world.constraints.items
        → ((y : Emitted) → Shows p i (with_world w world) y
        → Emits p j v r (go_on y (pick (meant_side side) t f u)))
        → Emits p j v r (go_on d (emit_branch q spot c f t u))
    branch_emits j v r told side is tells same h =
        rests_emit p i j (with_world w world) v r (go_on d (emit_branch q spot c f t u))
        (pick (meant_side side) t f u)
        (branch_rests q spot c f t u p i w d world told side is shows tells same) h

-- ---- a turn with a step is a block, which is counted
module _ (q : Emitting) (spot : Spot) (a : Statement Spot Meant)
    (o : Option (Bor (CodeStep Spot Meant))) (step : Bor (CodeStep Spot Meant))
    (is : o ≡ Some step) (p : List Key) (i : Inside) (w : Whole) (d : Emitted)
    (shows : Shows p i w d) where
  abbrev step_behind : Emission → Tried Emitted
  step_behind x =
      then_emit (emit q a x)
      (emit_simple q step.now.spot (Assigned (bare_assign step.now.assign)))

  pub step_emits : {A : Type 0} (one two : World) (j : Inside) (v : Whole) (r : Result A Fault)
      → Knows i w one d (counted (at q.context spot)) → kept_of one ≡ kept_of w.world
      → ((y : Emitted) → Knows i (with_world w one) two y (counted (at q.context spot)))
      → kept_of two ≡ kept_of one
      → ((y : Emitted) → Shows p i (with_world w two) y → Emits p j v r (go_on y step_behind))
      → Emits p j v r (go_on d (λ x. then_emit (emit_counted q spot x) (turn_of q spot a o)))
  step_emits one two j v r first kept second keeps h =
      emits_as p j v r _ _
      (ap (λ z. go_on d (λ x. then_emit (emit_counted q spot x) (turn_of q spot a z))) is)
      (counted_goes q spot p i w d shows one j v r
      (λ x. then_emit (emit_counted q spot x) step_behind) first kept
      (λ y here. counted_goes q spot p i (with_world w one) y here two j v r step_behind (second y)
      keeps h))
