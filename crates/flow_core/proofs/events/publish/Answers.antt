use Rattle.std.proofs.Common.{ℕ, ◌<◌, List, length, get_or, sym, ap, subst, arith}
use Rattle.flow_core.proofs.Nets.{writes_few}
use Rattle.flow_core.proofs.Steps.{next_cell_near}
use Rattle.flow_core.proofs.events.publish.Goals as goal

pub set-requires : goal.set-requires
set-requires c = let h = c.in-Some.field-0 in
    let P : List ℕ → Type 0 = λ ws. get_or ws h.published 0 < length c.args.state.now.cells in
    let written = c.writes_of-writes.ensures in let e = ap length written in
    let left = c.if-published-writes.false in
    subst P (sym written) (next_cell_near c.args.graph.now c.held.ensures.net c.args.state.now
    c.requires h.strand h.published (omega arith))

pub overflow_add-published : goal.overflow_add-published
overflow_add-published c = let h = c.in-Some.field-0 in
    let few = writes_few c.args.graph.now c.held.ensures.net h.strand in
    let e = ap length c.writes_of-writes.ensures in let left = c.if-published-writes.false in
    let small = c.held.ensures.cells in omega arith
