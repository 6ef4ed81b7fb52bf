use Rattle.std.proofs.Common.{sym, ◌∙◌, arith}
use Rattle.std.proofs.lemmas.List.{map-append}
use Rattle.cir_expression.proofs.Steps.{exits_reads}
use Rattle.cir_expression.proofs.Lists.{no_item, no_end, last_item, more_items, no_item_left}
use Rattle.cir_expression.proofs.reader.Reader.elements.Goals as goal

pub returns-in_err-element : goal.returns-in_err-element
returns-in_err-element g c =
    exits_reads _ _ _ _ _ c.from_residual-in_err-element.ensures.1
    (no_item c.loop.invariant (omega arith) _ c.in_err-element.ensures.read)

pub returns-in_err-behind : goal.returns-in_err-behind
returns-in_err-behind g c =
    exits_reads _ _ _ _ _ c.from_residual-in_err-behind.ensures.1
    (no_end c.loop.invariant (omega arith) _ _ _ c.in_ok-element.ensures.read.0
    (sym c.begins.ensures ∙ c.if-begins.false) c.in_err-behind.ensures.1)

pub returns-else-begins : goal.returns-else-begins
returns-else-begins g c = rw (c.in_ok-push-2.ensures.items, map-append, c.tree_of.ensures)
    (last_item c.loop.invariant (omega arith) _ _ _ c.in_ok-element.ensures.read.0
    (sym c.begins.ensures ∙ c.if-begins.false) c.in_ok-behind.ensures)

pub loop-preserved : goal.loop-preserved
loop-preserved g c =
    rw (c.in_ok-push-2.ensures.items, map-append, c.tree_of.ensures, c.skip.ensures)
    (more_items c.loop.invariant (omega arith) _ _ _ (omega arith) c.in_ok-element.ensures.read.0
    (sym c.begins.ensures ∙ c.if-begins.true))

pub returns : goal.returns
returns g c = no_item_left _ _ _ _ _ _ c.loop.invariant (omega arith)
