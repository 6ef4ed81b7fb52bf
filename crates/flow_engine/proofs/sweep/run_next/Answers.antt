use Rattle.std.proofs.Common.{◌≡◌, ℕ, List, length, take, sym, ◌∙◌, ap, subst, arith}
use Rattle.std.proofs.lemmas.List.{length-take}
use Rattle.flow_core.proofs.Totals.{times_take-le}
use Rattle.wit_flow.specs.declared.StrandOut.{StrandOut}
use Rattle.wit_flow.specs.declared.StrandOut.TheVariants.{Values}
use Rattle.wit_flow.specs.Cells.{held, with_values}
use Rattle.wit_flow.specs.OneThread.{IsStrandOut}
use Rattle.flow_engine.specs.Task.{end_at}
use Rattle.flow_engine.proofs.Orders.{writes_are, writes_near, ran_each, ran_comes, stop_few, halts}
use Rattle.flow_engine.proofs.sweep.run_next.Goals as goal

pub put-requires-clause-each : goal.put-requires-clause-each
put-requires-clause-each c =
    let t = c.args.answers.now in let k = c.args.strand in
    let at = writes_are c.writes_of-writes.result.now c.graph-graph.result.now t.plan.graph k
    c.writes_of-writes.ensures c.graph-graph.ensures in
    let O : StrandOut → Type 0 = λ o. IsStrandOut o (end_at t k) in
    let X : List ℕ → Type 0 = λ xs. IsStrandOut (Values xs) (end_at t k) in
    let out : X c.as_slice-in-Values.result.now =
    subst X (sym c.as_slice-in-Values.ensures) (subst O c.in-Values.is c.in_ok-values.ensures) in
    ran_each t c.facts.ensures k c.requires.near c.requires.come.give
    c.as_slice-in-Values.result.now out
    ∙ ap (λ (cs : List ℕ). length cs) (sym at)

pub returns-in-Values : goal.returns-in-Values
returns-in-Values c =
    let t = c.args.answers.now in let k = c.args.strand in
    let at = writes_are c.writes_of-writes.result.now c.graph-graph.result.now t.plan.graph k
    c.writes_of-writes.ensures c.graph-graph.ensures in
    let O : StrandOut → Type 0 = λ o. IsStrandOut o (end_at t k) in
    let X : List ℕ → Type 0 = λ xs. IsStrandOut (Values xs) (end_at t k) in
    let out : X c.as_slice-in-Values.result.now =
    subst X (sym c.as_slice-in-Values.ensures) (subst O c.in-Values.is c.in_ok-values.ensures) in
    ran_comes t c.facts.ensures k c.requires.near c.args.cells.now c.put.new.held_cells
    c.writes_of-writes.result.now c.as_slice-in-Values.result.now c.requires.come out at
    c.put.ensures.wide c.put.ensures.put

pub slice_bounds-put-end : goal.slice_bounds-put-end
slice_bounds-put-end c =
    let t = c.args.answers.now in let k = c.args.strand in
    let at = writes_are c.writes_of-writes.result.now c.graph-graph.result.now t.plan.graph k
    c.writes_of-writes.ensures c.graph-graph.ensures in
    let O : StrandOut → Type 0 = λ o. IsStrandOut o (end_at t k) in
    let out = subst O c.in-Refused.is c.in_ok-values.ensures in
    let few = stop_few t c.facts.ensures k c.requires.near c.requires.come.give c.in-Refused.step
    c.in-Refused.stop
    c.in-Refused.before c.writes_of-writes.result.now out at in
    let n = c.len.ensures in
    let l = length-take c.len.result c.writes_of-writes.result.now in omega arith

pub put-requires-in-Refused-clause-near : goal.put-requires-in-Refused-clause-near
put-requires-in-Refused-clause-near c = λ d here.
    let t = c.args.answers.now in
    let at = writes_are c.writes_of-writes.result.now c.graph-graph.result.now t.plan.graph
    c.args.strand
    c.writes_of-writes.ensures c.graph-graph.ensures in
    let le = times_take-le d c.len.result c.writes_of-writes.result.now in
    let wide = c.requires.come.shows.0 in
    let near = writes_near t c.facts.ensures c.args.strand c.requires.near
    c.writes_of-writes.result.now at d (omega arith) in omega arith

pub put-requires-in-Refused-clause-each : goal.put-requires-in-Refused-clause-each
put-requires-in-Refused-clause-each c =
    let t = c.args.answers.now in let k = c.args.strand in
    let at = writes_are c.writes_of-writes.result.now c.graph-graph.result.now t.plan.graph k
    c.writes_of-writes.ensures c.graph-graph.ensures in
    let O : StrandOut → Type 0 = λ o. IsStrandOut o (end_at t k) in
    let out = subst O c.in-Refused.is c.in_ok-values.ensures in
    let few = stop_few t c.facts.ensures k c.requires.near c.requires.come.give c.in-Refused.step
    c.in-Refused.stop
    c.in-Refused.before c.writes_of-writes.result.now out at in
    let n = c.len.ensures in
    let l = length-take c.len.result c.writes_of-writes.result.now in
    let e : length c.as_slice-in-Refused.result.now ≡ length c.in-Refused.before =
    ap (λ (xs : List ℕ). length xs) c.as_slice-in-Refused.ensures in omega arith

pub returns : goal.returns
returns c =
    let t = c.args.answers.now in let k = c.args.strand in
    let at = writes_are c.writes_of-writes.result.now c.graph-graph.result.now t.plan.graph k
    c.writes_of-writes.ensures c.graph-graph.ensures in
    let O : StrandOut → Type 0 = λ o. IsStrandOut o (end_at t k) in
    let out = subst O c.in-Refused.is c.in_ok-values.ensures in
    let few = stop_few t c.facts.ensures k c.requires.near c.requires.come.give c.in-Refused.step
    c.in-Refused.stop
    c.in-Refused.before c.writes_of-writes.result.now out at in
    let n = c.len.ensures in
    let ws : List ℕ = c.writes_of-writes.result.now in
    let put = c.put-in-Refused.ensures.put
    ∙ (λ i. with_values (held c.args.cells.now) (take (n i) ws) (c.as_slice-in-Refused.ensures i))
    in
    halts t c.facts.ensures k c.requires.near c.args.cells.now c.put-in-Refused.new.held_cells ws
    c.in-Refused.before c.in-Refused.step c.in-Refused.stop c.requires.come out at
    c.put-in-Refused.ensures.wide put
