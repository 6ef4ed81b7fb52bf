use Rattle.std.proofs.Common.{◌∙◌, ◌+◌, ap, refl}
use Rattle.cir_ast.specs.Tree.{bare_variable}
use Rattle.cir_meaning.specs.Tried.{next}
use Rattle.cir_meaning.specs.Scan.{scan_variable}
use Rattle.cir_frame.specs.Shown.{state_of}
use Rattle.cir_arrays.proofs.Exits.{exits, exit_gives}
use Rattle.cir_evaluate.specs.Within.{context_at, where_at}
use Rattle.cir_execute.proofs.Going.{refusal}
use Rattle.cir_execute.proofs.Scanning.{each_from, each_first, each_end}
use Rattle.cir_execute.proofs.scan.scan_variables.Goals as goal

pub loop-variable-init : goal.loop-variable-init
loop-variable-init g c = record { state = λ m qs dark. refl; constraints = λ m. refl }

pub returns-in_err-scan_variable-clause-state : goal.returns-in_err-scan_variable-clause-state
returns-in_err-scan_variable-clause-state g c =
    let h = c.args.dark.now in
    λ m qs dark.
    let go = scan_variable (context_at h m) (where_at h) in
    let s = state_of c.loop-variable.frame c.loop-variable.world qs in
    exit_gives _ _ _ _ c.from_residual.ensures.1
    (refusal _ _ _
    (c.loop-variable.invariant.state m qs dark
    ∙ each_first go bare_variable c.args.variables.now c.loop-variable.variable-index
    c.variable-item.result s c.loop-variable-test.true c.variable-item.is)
    (exits _ _ _ (c.in_err-scan_variable.ensures.state m qs dark)))

pub loop-variable-preserved : goal.loop-variable-preserved
loop-variable-preserved g c =
    let h = c.args.dark.now in record {
      state = λ m qs dark.
          let go = scan_variable (context_at h m) (where_at h) in
          let s = state_of c.loop-variable.frame c.loop-variable.world qs in
          c.loop-variable.invariant.state m qs dark
          ∙ each_first go bare_variable c.args.variables.now c.loop-variable.variable-index
          c.variable-item.result s c.loop-variable-test.true c.variable-item.is
          ∙ ap (λ z. next z (each_from go bare_variable c.args.variables.now
          (c.loop-variable.variable-index + 1))) (c.in_ok-scan_variable.ensures.state m qs dark);
      constraints = λ m. c.in_ok-scan_variable.ensures.constraints m
          ∙ c.loop-variable.invariant.constraints m;
    }

pub returns-clause-state : goal.returns-clause-state
returns-clause-state g c =
    let h = c.args.dark.now in
    λ m qs dark. c.loop-variable.invariant.state m qs dark
    ∙ each_end (scan_variable (context_at h m) (where_at h)) bare_variable c.args.variables.now
    c.loop-variable.variable-index (state_of c.loop-variable.frame c.loop-variable.world qs)
    c.loop-variable-test.false
