use Rattle.std.proofs.Common.{◌≡◌, ◌∙◌, ap, ℕ, List, length, get_or, arith}
use Rattle.wit_flow.specs.Plan.{Plan}
use Rattle.flow_engine.proofs.Starts.{lists_starts}
use Rattle.flow_engine.proofs.boards.pairs.Goals as goal

pub returns : goal.returns
returns c =
    let t = c.args.answers.now in let x = c.loop-i.invariant in
    let cs-is : c.as_slice-cells.result.now ≡ t.plan.starts =
    c.as_slice-cells.ensures ∙ ap (λ (p : Plan). p.starts) (c.behind-answers.view_is
    ∙ c.flow.ensures) in
    let xs-is : c.start-values.result.now ≡ t.start = c.start-values.ensures in
    let all = c.loop-i-test.false in let few = c.loop-i.auto.i-end in
    let wide : length c.as_slice-cells.result.now ≡ length t.plan.starts =
    ap (λ (cs : List ℕ). length cs) cs-is in
    let each = x.each in
    lists_starts t c.facts.ensures c.loop-i.pairs.items (omega arith)
    (λ j lt. x.at j (omega arith) ∙ (λ i. (get_or (cs-is i) j 0, get_or (xs-is i) j 0)))
