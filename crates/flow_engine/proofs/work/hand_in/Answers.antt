use Rattle.std.proofs.Common.{◌≡◌, ◌∙◌, List, ℕ, ap, arith, length, sym}
use Rattle.flow_core.specs.Net.{Net, succs_of}
use Rattle.flow_core.specs.Flow.{Flow}
use Rattle.flow_engine.proofs.Numbered.{told_near}
use Rattle.flow_engine.proofs.work.hand_in.Goals as goal

pub overflow_add-item : goal.overflow_add-item
overflow_add-item g c =
    let n : Net = c.graph-graph.result.now in
    let graph : n.strands ≡ c.args.job.now.answers.now.plan.graph.strands =
    ap (λ (m : Net). m.strands) c.graph-graph.ensures in
    let same : c.args.job.now.board.now.flow.net ≡ n =
    ap (λ (f : Flow). f.net) c.requires.flow ∙ sym c.graph-graph.ensures in
    let long : length c.succs_of-told-end.result.now ≡ length (succs_of n c.args.strand) =
    ap (λ (xs : List ℕ). length xs) c.succs_of-told-end.ensures in
    let lt = c.loop-told-test.true in
    let near = told_near c.args.job.now.board.now.flow n c.facts.ensures.net same
    c.loop-told.seat.view.holding c.release-released.result.strand c.args.strand
    (length c.args.values.now) c.loop-told.told c.loop-told.invariant.held
    c.release-released.ensures.strand (omega arith) in
    let few = c.requires.items in omega arith
