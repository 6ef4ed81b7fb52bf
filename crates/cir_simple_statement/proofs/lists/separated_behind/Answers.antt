use Rattle.std.proofs.Common.{◌+◌, ◌-◌, ◌∙◌, sym, length, arith}
use Rattle.std.proofs.lemmas.List.{map-append}
use Rattle.cir_simple_statement.proofs.lists.separated_behind.Goals as goal
use Rattle.cir_simple_statement.proofs.Steps.{exits, none_parted, last_parted, more_parted}
use Rattle.cir_simple_statement.proofs.Steps.{no_element_left}

pub returns-in_err-element : goal.returns-in_err-element
returns-in_err-element g c =
    exits _ _ _ _ _ c.from_residual.ensures.1
    (none_parted c.args.mark _ (length c.args.reader.now.rest.now - c.loop.counter) _ _ _ _
    (omega arith) c.loop.invariant c.in_err-element.ensures)

pub returns-then-not-begins : goal.returns-then-not-begins
returns-then-not-begins g c = rw (c.in_ok-push.ensures.items, map-append)
    (last_parted c.args.mark (length c.args.reader.now.rest.now - c.loop.counter) _ _ _ _ _ _
    (omega arith) c.loop.invariant
    c.in_ok-element.ensures (sym c.begins.ensures ∙ c.if-not-begins.true))

pub loop-preserved : goal.loop-preserved
loop-preserved g c = rw (c.in_ok-push.ensures.items, map-append, c.skip.ensures)
    (more_parted c.args.mark (length c.args.reader.now.rest.now - c.loop.counter)
    (length c.args.reader.now.rest.now - (c.loop.counter + 1)) _ _ _ _ _ _ (omega arith)
    (omega arith) c.loop.invariant
    c.in_ok-element.ensures (sym c.begins.ensures ∙ c.if-not-begins.false))

pub returns : goal.returns
returns g c = c.loop.invariant
    ∙ no_element_left c.args.mark (length c.args.reader.now.rest.now - c.loop.counter) _ _ _
    (omega arith)
