use Rattle.std.proofs.Common.{◌∙◌, ◌+◌, ap, sym, refl}
use Rattle.std.specs.Prelude.{map}
use Rattle.std.proofs.lemmas.Result.{on_ok_weaker}
use Rattle.cir_ast.specs.Tree.{as_statements, bare, bare_assign, bare_statement}
use Rattle.cir_ast.proofs.Rows.{block_is}
use Rattle.cir_meaning.specs.Tried.{Tried, next}
use Rattle.cir_meaning.specs.Frame.{State}
use Rattle.cir_meaning.specs.Scan.{scan, scan_all, scan_assign, scan_test}
use Rattle.cir_frame.specs.Shown.{state_of}
use Rattle.cir_arrays.proofs.Exits.{exits, exit_gives}
use Rattle.cir_evaluate.specs.Within.{context_at, where_at}
use Rattle.cir_execute.proofs.Going.{given, refusal}
use Rattle.cir_execute.proofs.Scanning.{scan_from, scan_first_from, scan_end, scanned_at}
use Rattle.cir_execute.proofs.Fors.{for_shown}
use Rattle.cir_execute.proofs.scan.+scanning.Goals as goal

-- ---- the loop of a `for`
pub scan_loop-returns-in_err-scan_condition-clause-state :
    goal.scan_loop-returns-in_err-scan_condition-clause-state
scan_loop-returns-in_err-scan_condition-clause-state g t c =
    λ m qs dark. exit_gives _ _ _ _ c.from_residual.ensures.1
    (exits _ _ _ (c.in_err-scan_condition.ensures.state m qs dark))

pub scan_loop-returns-in_err-scan-clause-state : goal.scan_loop-returns-in_err-scan-clause-state
scan_loop-returns-in_err-scan-clause-state g t c =
    let h = c.args.dark.now in
    λ m qs dark.
    let k = context_at h m in
    let w = where_at h in
    exit_gives _ _ _ _ c.from_residual-in_err-scan.ensures.1
    (refusal _ _ _
    (ap (λ z. next z (λ s1. next (scan k w (bare_statement c.args.body.now) s1)
    (scan_assign k w (bare_assign c.args.step.now.assign))))
    (c.in_ok-scan_condition.ensures.state m qs dark))
    (exits _ _ _ (c.in_err-scan.ensures.state m qs dark)))

pub scan_loop-returns-clause-state : goal.scan_loop-returns-clause-state
scan_loop-returns-clause-state g t c =
    let h = c.args.dark.now in
    λ m qs dark.
    let k = context_at h m in
    let w = where_at h in
    let last = scan_assign k w (bare_assign c.args.step.now.assign) in
    given _ _ _ _
    (ap (λ z. next z (λ s1. next (scan k w (bare_statement c.args.body.now) s1) last))
    (c.in_ok-scan_condition.ensures.state m qs dark)
    ∙ ap (λ z. next z last) (c.in_ok-scan.ensures.state m qs dark))
    (c.scan_assign.ensures.state m qs dark)

pub scan_loop-returns-clause-constraints : goal.scan_loop-returns-clause-constraints
scan_loop-returns-clause-constraints g t c =
    λ m. on_ok_weaker c.scan_assign.result
    (λ z. z ∙ c.in_ok-scan.ensures.constraints m ∙ c.in_ok-scan_condition.ensures.constraints m)
    (c.scan_assign.ensures.constraints m)

-- ---- a block
pub scan-loop-inner-init : goal.scan-loop-inner-init
scan-loop-inner-init g t c = record { state = λ m qs dark. refl; constraints = λ m. refl }

pub scan-returns-in_err-scan-in-Block-clause-state :
    goal.scan-returns-in_err-scan-in-Block-clause-state
scan-returns-in_err-scan-in-Block-clause-state g t c =
    let h = c.args.dark.now in
    λ m qs dark.
    let k = context_at h m in
    let w = where_at h in
    let all = c.as_slice-inner-items.result.now in
    let s0 = state_of c.args.frame.now c.args.world.now qs in
    let s = state_of c.loop-inner.frame c.loop-inner.world qs in
    exit_gives _ _ _ _ c.from_residual.ensures.1
    (refusal _ _ _
    (scanned_at k w c.args.statement.now _ s0 c.in-Block.is
    ∙ ap (λ b. scan_all k w b s0) (block_is _ _ c.in-Block.block)
    ∙ ap (λ xs. scan_all k w (as_statements (map bare_statement xs)) s0)
    (sym c.as_slice-inner-items.ensures)
    ∙ c.loop-inner.invariant.state m qs dark
    ∙ scan_first_from k w all c.loop-inner.inner-index c.inner-item.result s
    c.loop-inner-test.true c.inner-item.is)
    (exits _ _ _ (c.in_err-scan-in-Block.ensures.state m qs dark)))

pub scan-loop-inner-preserved : goal.scan-loop-inner-preserved
scan-loop-inner-preserved g t c =
    let h = c.args.dark.now in record {
      state = λ m qs dark.
          let k = context_at h m in
          let w = where_at h in
          let all = c.as_slice-inner-items.result.now in
          let s = state_of c.loop-inner.frame c.loop-inner.world qs in
          c.loop-inner.invariant.state m qs dark
          ∙ scan_first_from k w all c.loop-inner.inner-index c.inner-item.result s
          c.loop-inner-test.true c.inner-item.is
          ∙ ap (λ z. next z (scan_from k w all (c.loop-inner.inner-index + 1)))
          (c.in_ok-scan-in-Block.ensures.state m qs dark);
      constraints = λ m. c.in_ok-scan-in-Block.ensures.constraints m
          ∙ c.loop-inner.invariant.constraints m;
    }

pub scan-returns-after-loop-inner-clause-state : goal.scan-returns-after-loop-inner-clause-state
scan-returns-after-loop-inner-clause-state g t c =
    let h = c.args.dark.now in
    λ m qs dark.
    let k = context_at h m in
    let w = where_at h in
    let all = c.as_slice-inner-items.result.now in
    let s0 = state_of c.args.frame.now c.args.world.now qs in
    scanned_at k w c.args.statement.now _ s0 c.in-Block.is
    ∙ ap (λ b. scan_all k w b s0) (block_is _ _ c.in-Block.block)
    ∙ ap (λ xs. scan_all k w (as_statements (map bare_statement xs)) s0)
    (sym c.as_slice-inner-items.ensures)
    ∙ c.loop-inner.invariant.state m qs dark
    ∙ scan_end k w all c.loop-inner.inner-index
    (state_of c.loop-inner.frame c.loop-inner.world qs) c.loop-inner-test.false

-- ---- branches
pub scan-returns-in_err-scan_condition-in-If-clause-state :
    goal.scan-returns-in_err-scan_condition-in-If-clause-state
scan-returns-in_err-scan_condition-in-If-clause-state g t c =
    let h = c.args.dark.now in
    λ m qs dark. exit_gives _ _ _ _ c.from_residual-in_err-scan_condition-in-If.ensures.1
    (refusal _ _ _
    (scanned_at (context_at h m) (where_at h) c.args.statement.now _
    (state_of c.args.frame.now c.args.world.now qs) c.in-If.is)
    (exits _ _ _ (c.in_err-scan_condition-in-If.ensures.state m qs dark)))

pub scan-returns-in_ok-scan_condition-in-If-clause-state :
    goal.scan-returns-in_ok-scan_condition-in-If-clause-state
scan-returns-in_ok-scan_condition-in-If-clause-state g t c =
    let h = c.args.dark.now in
    λ m qs dark.
    let k = context_at h m in
    let w = where_at h in
    let s = state_of c.args.frame.now c.args.world.now qs in
    given _ _ _ _
    (scanned_at k w c.args.statement.now _ s c.in-If.is
    ∙ ap (λ x. next (scan_test k w (bare c.in-If.condition) s) (scan k w (bare_statement x)))
    (sym c.deref.ensures)
    ∙ ap (λ z. next z (scan k w (bare_statement c.deref.result.now)))
    (c.in_ok-scan_condition-in-If.ensures.state m qs dark))
    (c.scan-in-If.ensures.state m qs dark)

pub scan-returns-in_ok-scan_condition-in-If-clause-constraints :
    goal.scan-returns-in_ok-scan_condition-in-If-clause-constraints
scan-returns-in_ok-scan_condition-in-If-clause-constraints g t c =
    λ m. on_ok_weaker c.scan-in-If.result
    (λ z. z ∙ c.in_ok-scan_condition-in-If.ensures.constraints m)
    (c.scan-in-If.ensures.constraints m)

pub scan-returns-in_err-scan_condition-in-While-clause-state :
    goal.scan-returns-in_err-scan_condition-in-While-clause-state
scan-returns-in_err-scan_condition-in-While-clause-state g t c =
    let h = c.args.dark.now in
    λ m qs dark. exit_gives _ _ _ _ c.from_residual-in_err-scan_condition-in-While.ensures.1
    (refusal _ _ _
    (scanned_at (context_at h m) (where_at h) c.args.statement.now _
    (state_of c.args.frame.now c.args.world.now qs) c.in-While.is)
    (exits _ _ _ (c.in_err-scan_condition-in-While.ensures.state m qs dark)))

pub scan-returns-in_ok-scan_condition-in-While-clause-state :
    goal.scan-returns-in_ok-scan_condition-in-While-clause-state
scan-returns-in_ok-scan_condition-in-While-clause-state g t c =
    let h = c.args.dark.now in
    λ m qs dark.
    let k = context_at h m in
    let w = where_at h in
    let s = state_of c.args.frame.now c.args.world.now qs in
    given _ _ _ _
    (scanned_at k w c.args.statement.now _ s c.in-While.is
    ∙ ap (λ x. next (scan_test k w (bare c.in-While.condition) s) (scan k w (bare_statement x)))
    (sym c.deref-in-While.ensures)
    ∙ ap (λ z. next z (scan k w (bare_statement c.deref-in-While.result.now)))
    (c.in_ok-scan_condition-in-While.ensures.state m qs dark))
    (c.scan-in-While.ensures.state m qs dark)

pub scan-returns-in_ok-scan_condition-in-While-clause-constraints :
    goal.scan-returns-in_ok-scan_condition-in-While-clause-constraints
scan-returns-in_ok-scan_condition-in-While-clause-constraints g t c =
    λ m. on_ok_weaker c.scan-in-While.result
    (λ z. z ∙ c.in_ok-scan_condition-in-While.ensures.constraints m)
    (c.scan-in-While.ensures.constraints m)

pub scan-returns-in_err-scan_condition-in-IfElse-clause-state :
    goal.scan-returns-in_err-scan_condition-in-IfElse-clause-state
scan-returns-in_err-scan_condition-in-IfElse-clause-state g t c =
    let h = c.args.dark.now in
    λ m qs dark. exit_gives _ _ _ _ c.from_residual-in_err-scan_condition-in-IfElse.ensures.1
    (refusal _ _ _
    (scanned_at (context_at h m) (where_at h) c.args.statement.now _
    (state_of c.args.frame.now c.args.world.now qs) c.in-IfElse.is)
    (exits _ _ _ (c.in_err-scan_condition-in-IfElse.ensures.state m qs dark)))

pub scan-returns-in_err-scan-in-IfElse-clause-state :
    goal.scan-returns-in_err-scan-in-IfElse-clause-state
scan-returns-in_err-scan-in-IfElse-clause-state g t c =
    let h = c.args.dark.now in
    λ m qs dark.
    let k = context_at h m in
    let w = where_at h in
    let s = state_of c.args.frame.now c.args.world.now qs in
    let last = scan k w (bare_statement c.in-IfElse.other.value) in
    exit_gives _ _ _ _ c.from_residual-in_err-scan-in-IfElse.ensures.1
    (refusal _ _ _
    (scanned_at k w c.args.statement.now _ s c.in-IfElse.is
    ∙ ap (λ x. next (scan_test k w (bare c.in-IfElse.condition) s)
    (λ s1. next (scan k w (bare_statement x) s1) last)) (sym c.deref-in-IfElse.ensures)
    ∙ ap (λ z. next z (λ s1. next (scan k w (bare_statement c.deref-in-IfElse.result.now) s1) last))
    (c.in_ok-scan_condition-in-IfElse.ensures.state m qs dark))
    (exits _ _ _ (c.in_err-scan-in-IfElse.ensures.state m qs dark)))

pub scan-returns-in_ok-scan-in-IfElse-clause-state :
    goal.scan-returns-in_ok-scan-in-IfElse-clause-state
scan-returns-in_ok-scan-in-IfElse-clause-state g t c =
    let h = c.args.dark.now in
    λ m qs dark.
    let k = context_at h m in
    let w = where_at h in
    let s = state_of c.args.frame.now c.args.world.now qs in
    let first = scan k w (bare_statement c.deref-in-IfElse.result.now) in
    given _ _ _ _
    (scanned_at k w c.args.statement.now _ s c.in-IfElse.is
    ∙ ap (λ x. next (scan_test k w (bare c.in-IfElse.condition) s)
    (λ s1. next (scan k w (bare_statement x) s1)
    (scan k w (bare_statement c.in-IfElse.other.value)))) (sym c.deref-in-IfElse.ensures)
    ∙ ap (λ x. next (scan_test k w (bare c.in-IfElse.condition) s)
    (λ s1. next (first s1) (scan k w (bare_statement x)))) (sym c.deref-in-IfElse-2.ensures)
    ∙ ap (λ z. next z (λ s1. next (first s1)
    (scan k w (bare_statement c.deref-in-IfElse-2.result.now))))
    (c.in_ok-scan_condition-in-IfElse.ensures.state m qs dark)
    ∙ ap (λ z. next z (scan k w (bare_statement c.deref-in-IfElse-2.result.now)))
    (c.in_ok-scan-in-IfElse.ensures.state m qs dark))
    (c.scan-in-IfElse-2.ensures.state m qs dark)

pub scan-returns-in_ok-scan-in-IfElse-clause-constraints :
    goal.scan-returns-in_ok-scan-in-IfElse-clause-constraints
scan-returns-in_ok-scan-in-IfElse-clause-constraints g t c =
    λ m. on_ok_weaker c.scan-in-IfElse-2.result
    (λ z. z ∙ c.in_ok-scan-in-IfElse.ensures.constraints m
    ∙ c.in_ok-scan_condition-in-IfElse.ensures.constraints m)
    (c.scan-in-IfElse-2.ensures.constraints m)

-- ---- a `for`
pub scan-returns-in_err-scan_first-in-For-clause-state :
    goal.scan-returns-in_err-scan_first-in-For-clause-state
scan-returns-in_err-scan_first-in-For-clause-state g t c =
    let h = c.args.dark.now in
    let shown = for_shown c.args.statement.now _ _ c.deref-in-For.result.now _ _ _ _ _
    c.in-For.is refl c.deref-in-For.ensures refl refl in
    λ m qs dark. exit_gives _ _ _ _ c.from_residual-in_err-scan_first-in-For.ensures.1
    (refusal _ _ _
    (ap (λ u. scan (context_at h m) (where_at h) u
    (state_of c.args.frame.now c.args.world.now qs)) shown)
    (exits _ _ _ (c.in_err-scan_first-in-For.ensures.state m qs dark)))

pub scan-returns-in_ok-scan_first-in-For-clause-state :
    goal.scan-returns-in_ok-scan_first-in-For-clause-state
scan-returns-in_ok-scan_first-in-For-clause-state g t c =
    let h = c.args.dark.now in
    let body = c.deref-in-For-2.result.now in
    let step = c.deref-in-For-3.result.now in
    let shown = for_shown c.args.statement.now _ _ c.deref-in-For.result.now _ _ step _ body
    c.in-For.is refl c.deref-in-For.ensures c.deref-in-For-3.ensures c.deref-in-For-2.ensures in
    λ m qs dark.
    let k = context_at h m in
    let w = where_at h in
    let s = state_of c.args.frame.now c.args.world.now qs in
    let rest : State → Tried State = λ s1.
    next (scan_test k w (bare c.in-For.condition) s1)
    (λ s2. next (scan k w (bare_statement body) s2) (scan_assign k w (bare_assign step.assign))) in
    given _ _ _ _
    (ap (λ u. scan k w u s) shown
    ∙ ap (λ z. next z rest) (c.in_ok-scan_first-in-For.ensures.state m qs dark))
    (c.scan_loop.ensures.state m qs dark)

pub scan-returns-in_ok-scan_first-in-For-clause-constraints :
    goal.scan-returns-in_ok-scan_first-in-For-clause-constraints
scan-returns-in_ok-scan_first-in-For-clause-constraints g t c =
    λ m. on_ok_weaker c.scan_loop.result
    (λ z. z ∙ c.in_ok-scan_first-in-For.ensures.constraints m) (c.scan_loop.ensures.constraints m)

-- ---- others
pub scan-returns-in-Assert-clause-state : goal.scan-returns-in-Assert-clause-state
scan-returns-in-Assert-clause-state g t c =
    let h = c.args.dark.now in
    λ m qs dark. given _ _ _ _
    (scanned_at (context_at h m) (where_at h) c.args.statement.now _
    (state_of c.args.frame.now c.args.world.now qs) c.in-Assert.is)
    (c.scan_condition-in-Assert.ensures.state m qs dark)
