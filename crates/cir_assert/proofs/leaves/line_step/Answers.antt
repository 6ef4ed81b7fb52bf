use Rattle.std.proofs.Common.{◌∙◌, ◌+◌, ◌++◌, ◌∷◌, [], ℕ, List, Some, ap, map, sym, subst}
use Rattle.cir_ast.specs.Tree.{bare_argument}
use Rattle.cir_meaning.specs.Places.{numbers_from}
use Rattle.cir_meaning.specs.Steps.{logged_cells}
use Rattle.cir_evaluate.specs.Within.{context_at, where_at}
use Rattle.cir_steps.specs.Emission.{known_in, step_of}
use Rattle.cir_steps.specs.Making.{log_parts}
use Rattle.cir_steps.specs.Step.{Logging}
use Rattle.wit_circuit.specs.declared.code.LogPart.{LogPart as CodePart}
use Rattle.wit_circuit.specs.Whole.{part_of}
use Rattle.cir_make.specs.Shows.{IsKept}
use Rattle.cir_make.proofs.Leading.{stands_here}
use Rattle.cir_assert.proofs.LogSteps.{kept_next}
use Rattle.cir_assert.proofs.leaves.line_step.Goals as goal

pub returns-clause-made : goal.returns-clause-made
returns-clause-made g c = λ m qs first x steps cost shaded counted kept.
    let k = context_at c.args.here.now m in
    let w = where_at c.args.here.now in
    let f = c.args.frame.now in
    let all = map bare_argument c.args.arguments.now in
    let parts = log_parts x.next all in
    let line = ap (λ (ps : List CodePart). Some ps)
    (c.in_ok-line.ensures.parts ∙ ap (λ n. map part_of (log_parts n all)) (sym kept.next)) in
    let made = c.in_ok-make_step.ensures.made m qs f first x steps (known_in x) cost (Some parts)
    shaded line counted (stands_here f c.args.world.now qs x counted) kept in
    let told = subst (λ (ts : List ℕ). IsKept first f c.make_step.new.cells
    c.make_step.new.made x (steps ++ step_of k w (known_in x) cost (Logging all) ts (Some parts) x
    ∷ [])) (c.in_ok-line.ensures.targets
    ∙ ap (λ n. numbers_from n (logged_cells all)) (sym kept.next)) made in
    kept_next first f c.make_step.new.cells c.make_step.new.made x _ (x.next + logged_cells all)
    c.in_ok-line.line.next
    (ap (λ n. n + logged_cells all) kept.next ∙ sym c.in_ok-line.ensures.next) told
