use Rattle.std.proofs.Common.{◌≡◌, ◌∙◌, ◌+◌, ◌++◌, [], map, ap, sym, arith, append-nil}
use Rattle.cir_meaning.specs.Places.{numbers_from}
use Rattle.cir_meaning.specs.Steps.{logged_cells}
use Rattle.cir_steps.specs.Making.{log_parts}
use Rattle.wit_circuit.specs.Whole.{part_of}
use Rattle.cir_assert.proofs.LogSteps.{arguments_at, arguments_end, arguments_from}
use Rattle.cir_assert.proofs.leaves.line_from.Goals as goal

pub loop-argument-preserved : goal.loop-argument-preserved
loop-argument-preserved c =
    let xs = c.args.arguments.now in
    let i = c.loop-argument.argument-index in
    let line = c.loop-argument.line in
    let rest = arguments_from xs (i + 1) in
    let at = arguments_at xs i c.argument-item.result c.loop-argument-test.true c.argument-item.is
    in
    let loop = c.loop-argument.invariant in record {
      parts = sym (c.in_ok-add.ensures.parts rest)
          ∙ ap (λ l. line.parts ++ map part_of (log_parts line.next l)) (sym at)
          ∙ loop.parts;
      targets = sym (c.in_ok-add.ensures.targets rest)
          ∙ ap (λ l. line.targets ++ numbers_from line.next (logged_cells l)) (sym at)
          ∙ loop.targets;
      next = sym (c.in_ok-add.ensures.next rest)
          ∙ ap (λ l. line.next + logged_cells l) (sym at) ∙ loop.next;
    }

pub returns-clause-parts : goal.returns-clause-parts
returns-clause-parts c =
    let line = c.loop-argument.line in
    let end = arguments_end c.args.arguments.now c.loop-argument.argument-index
    c.loop-argument-test.false in
    sym (ap (λ l. line.parts ++ map part_of (log_parts line.next l)) end
    ∙ append-nil line.parts) ∙ c.loop-argument.invariant.parts

pub returns-clause-targets : goal.returns-clause-targets
returns-clause-targets c =
    let line = c.loop-argument.line in
    let end = arguments_end c.args.arguments.now c.loop-argument.argument-index
    c.loop-argument-test.false in
    sym (ap (λ l. line.targets ++ numbers_from line.next (logged_cells l)) end
    ∙ append-nil line.targets) ∙ c.loop-argument.invariant.targets

pub returns-clause-next : goal.returns-clause-next
returns-clause-next c =
    let end = arguments_end c.args.arguments.now c.loop-argument.argument-index
    c.loop-argument-test.false in
    let none : logged_cells (arguments_from c.args.arguments.now c.loop-argument.argument-index)
    ≡ 0 = ap logged_cells end in
    omega (arith, c.loop-argument.invariant.next, none)
