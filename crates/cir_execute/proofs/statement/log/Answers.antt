use Rattle.std.proofs.Common.{◌≡◌, ◌∙◌, ◌+◌, List, ap, sym, subst, refl, arith, map, false}
use Rattle.cir_ast.specs.declared.marked.LogArgument.TheVariants.{Value}
use Rattle.cir_ast.specs.Tree.{bare_argument}
use Rattle.cir_values.specs.Meant.{meant}
use Rattle.cir_meaning.specs.Limits.{standing}
use Rattle.cir_meaning.specs.Source.{Equation}
use Rattle.cir_meaning.specs.Steps.{log_cost, stepped}
use Rattle.cir_arrays.specs.Stopped.{Gives}
use Rattle.cir_frame.specs.declared.frame.Frame.{Frame}
use Rattle.cir_cost.specs.Adds.{IsCost}
use Rattle.cir_evaluate.specs.declared.context.Here.{Here}
use Rattle.cir_frame.specs.Shown.{state_of}
use Rattle.cir_arrays.proofs.Exits.{exits}
use Rattle.cir_evaluate.specs.Within.{Means, at_spot, context_at, context_of, kept_of, where_at}
use Rattle.cir_assign.proofs.Chained.{uncounted_kept}
use Rattle.cir_assign.proofs.Stepping.{leads_as, leads_refused, leads_step}
use Rattle.cir_execute.proofs.Going.{refusal}
use Rattle.cir_execute.proofs.Logging.{cells_value, cells_words, logged_value, logged_words}
use Rattle.cir_execute.proofs.Logging.{cells_end, cells_from, cells_same, log_same, logged_at}
use Rattle.cir_execute.proofs.Logging.{logged_end, logs_are, logs_stop}
use Rattle.cir_execute.proofs.Scanning.{kept_constraints}
use Rattle.cir_execute.proofs.statement.log.Given as given
use Rattle.cir_execute.proofs.statement.log.Goals as goal
use Rattle.cir_execute.proofs.statement.log.Goals.{in-Value+in_ok-v, in_default}

pub loop-argument-init : goal.loop-argument-init
loop-argument-init g c =
    record { values = λ m qs. refl; keeps = λ m. refl; cells = omega arith }

pub returns-in_err-v : goal.returns-in_err-v
returns-in_err-v g c = λ m qs.
    let k = context_of c.args.context.now m.call m.make in
    let w = at_spot c.args.context.now c.args.spot in
    let xs = c.args.arguments.now in
    let i = c.loop-argument.argument-index in
    let s = state_of c.args.frame.now c.args.world.now qs in
    let v = rw c.here-here.ensures at c.in_err-v.ensures.value in
    leads_refused qs c.args.world.now c.args.frame.now c.number.new.world c.from_residual.result _ _
    c.from_residual.ensures.1
    (logs_stop k w xs s _
    (refusal _ _ _
    (c.loop-argument.invariant.values m qs
    ∙ logged_at k w xs i c.argument-item.result (Value c.in-Value.e)
    (state_of c.args.frame.now c.loop-argument.world qs) c.loop-argument-test.true
    c.argument-item.is c.in-Value.is)
    (exits _ _ _ (exits _ _ _ (v m qs)))))

pub returns : goal.returns
returns g c = λ m qs.
    let k = context_of c.args.context.now m.call m.make in
    let w = at_spot c.args.context.now c.args.spot in
    let xs = c.args.arguments.now in
    let bare_xs = map bare_argument xs in
    let f = c.args.frame.now in
    let i = c.loop-argument.argument-index in
    let w0 = c.args.world.now in
    let w1 = c.loop-argument.world in
    let w3 = c.stepped.new.world in
    let s = state_of f w0 qs in
    let s1 = state_of f w1 qs in
    let w2 = c.log_cost.new.world in
    let cost = subst (λ (x : Here _). (n : Means (given.C-post g x.context.now.call.now)
    x.context.now) (qs : List Equation) → x.shaded ≡ false → IsCost c.in_ok-cost.cost
    (log_cost (context_at x n) (where_at x) bare_xs (state_of f w1 qs))) c.here-here.ensures
    c.in_ok-cost.ensures.cost in
    let same = subst (λ (x : Here _). (n : Means (given.C-post g x.context.now.call.now)
    x.context.now) (y : Frame) (qs : List Equation) → state_of y w2 qs ≡ state_of y w1 qs)
    c.here-here.ensures c.in_ok-cost.ensures.same in
    let added = subst (λ (x : Here _). Means (given.C-post g x.context.now.call.now) x.context.now
    → kept_of w2 ≡ kept_of w1) c.here-here.ensures c.in_ok-cost.ensures.keeps in
    let step = rw c.here-here.ensures at c.stepped.ensures.step in
    let keeps = c.loop-argument.invariant.keeps m in
    let alike = log_same k w bare_xs s1 s (uncounted_kept f w0 w1 qs keeps) in
    let paid = subst (λ x. IsCost c.in_ok-cost.cost x) alike (cost m qs refl) in
    let none = cells_end xs i c.loop-argument-test.false in
    let cells : standing c.loop-argument.cells ≡ standing (cells_from xs 0) =
    ap standing (omega (arith, none)) ∙ c.loop-argument.invariant.cells in
    leads_as qs w0 f w3 c.stepped.result _ _
    (logs_are k w xs s s1 (c.loop-argument.invariant.values m qs
    ∙ logged_end k w xs i s1 c.loop-argument-test.false)
    ∙ sym (cells_same k w (log_cost k w bare_xs s) c.loop-argument.cells (cells_from xs 0) s1
    cells))
    (leads_step qs w0 f w3 c.stepped.result _
    (subst (λ z. Gives (λ _. state_of f w3 qs) c.stepped.result
    (stepped k w (log_cost k w bare_xs s) c.loop-argument.cells z)) (same m f qs)
    (step m.call m.make (log_cost k w bare_xs s) f qs paid))
    (kept_constraints w3 w0 (c.stepped.ensures.keeps ∙ added m ∙ keeps)))

pub loop-argument-preserved : goal.loop-argument-preserved
loop-argument-preserved g c =
    let loop = c.loop-argument in
    let xs = c.args.arguments.now in
    let i = loop.argument-index in
    elim c.match-argument.branch [
      | in-Value+in_ok-v w ↦
          let number = rw c.here-here.ensures at w.in_ok-v.ensures.value in
          let kept = rw c.here-here.ensures at w.in_ok-v.ensures.keeps in
          let value : cells_from xs i ≡ 1 + cells_from xs (i + 1) =
          cells_value xs i c.argument-item.result w.in-Value.e c.loop-argument-test.true
          c.argument-item.is w.in-Value.is in
          rw (w.world-is, w.cells-is) record {
            values = λ m qs. loop.invariant.values m qs
                ∙ logged_value (context_of c.args.context.now m.call m.make)
                (at_spot c.args.context.now c.args.spot) xs i c.argument-item.result w.in-Value.e
                (state_of c.args.frame.now loop.world qs)
                (state_of c.args.frame.now w.number.new.world qs) (meant w.in_ok-v.v)
                c.loop-argument-test.true c.argument-item.is w.in-Value.is (number m qs);
            keeps = λ m. kept m ∙ loop.invariant.keeps m;
            cells = omega (arith, loop.invariant.cells, value);
          }
      | in_default w ↦
          let words : cells_from xs i ≡ 0 + cells_from xs (i + 1) =
          cells_words xs i c.argument-item.result _ c.loop-argument-test.true c.argument-item.is
          w.in_default.is in
          rw (w.world-is, w.cells-is) record {
            values = λ m qs. loop.invariant.values m qs
                ∙ logged_words (context_of c.args.context.now m.call m.make)
                (at_spot c.args.context.now c.args.spot) xs i c.argument-item.result _
                (state_of c.args.frame.now loop.world qs) c.loop-argument-test.true
                c.argument-item.is w.in_default.is;
            keeps = λ m. loop.invariant.keeps m;
            cells = omega (arith, loop.invariant.cells, words);
          }
    ]
