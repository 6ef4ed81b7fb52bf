use Rattle.std.proofs.Common.{subst, sym}
use Rattle.flow_core.specs.Flow.{answer_of}
use Rattle.wit_flow.specs.OneThread.{IsStrandOut}
use Rattle.flow_engine.specs.Task.{IsAnswer, answers_of, end_at}
use Rattle.flow_engine.proofs.Orders.{if_ok, is_answer, answer_is, reads_are}
use Rattle.flow_engine.proofs.answers.FlowAnswers.run.Goals as goal

pub run_in_order-requires-clause-reads : goal.run_in_order-requires-clause-reads
run_in_order-requires-clause-reads c =
    (reads_are c.args.self.now c.facts.ensures c.args.strand c.requires.near c.args.reads.now
    c.requires.reads).0

pub returns : goal.returns
returns c =
    let t = c.args.self.now in let k = c.args.strand in
    let have = (reads_are t c.facts.ensures k c.requires.near c.args.reads.now c.requires.reads).1
    in
    let same = answer_is t c.facts.ensures k c.requires.near have in
    if_ok (λ o. IsStrandOut o (end_at t k)) (λ o. IsAnswer o (answer_of (answers_of t) k))
    c.run_in_order.result
    (λ o h. subst (IsAnswer o) (sym same) (is_answer o (end_at t k) h)) c.run_in_order.ensures
