use Rattle.std.proofs.Common.{◌+◌, ◌-◌, ◌∙◌, sym, length, arith}
use Rattle.std.proofs.lemmas.List.{map-append}
use Rattle.cir_simple_statement.proofs.Steps.{exits, no_element, last_element, more_elements}
use Rattle.cir_simple_statement.proofs.Steps.{begun_list}
use Rattle.cir_parse.proofs.statements.argument_list.Goals as goal

pub loop-init : goal.loop-init
loop-init g c = rw c.new-arguments.ensures.items (begun_list _ c.args.reader.now.rest.now)

pub returns-in_err-argument : goal.returns-in_err-argument
returns-in_err-argument g c =
    exits _ _ _ _ _ c.from_residual.ensures.1
    (no_element _ (length c.args.reader.now.rest.now - c.loop.counter) _ _ _ _ (omega arith)
    c.loop.invariant c.in_err-argument.ensures)

pub returns-then-not-begins : goal.returns-then-not-begins
returns-then-not-begins g c = rw (c.in_ok-push.ensures.items, map-append)
    (last_element (length c.args.reader.now.rest.now - c.loop.counter) _ _ _ _ _ _ (omega arith)
    c.loop.invariant c.in_ok-argument.ensures (sym c.begins.ensures ∙ c.if-not-begins.true))

pub loop-preserved : goal.loop-preserved
loop-preserved g c = rw (c.in_ok-push.ensures.items, map-append, c.skip.ensures)
    (more_elements (length c.args.reader.now.rest.now - c.loop.counter)
    (length c.args.reader.now.rest.now - (c.loop.counter + 1)) _ _ _ _ _ _ (omega arith)
    (omega arith) c.loop.invariant c.in_ok-argument.ensures
    (sym c.begins.ensures ∙ c.if-not-begins.false))
