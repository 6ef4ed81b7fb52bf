use Rattle.std.proofs.Common.{◌∙◌, List, ℕ, option_map, refl}
use Rattle.std.specs.Result.{result_ok}
use Rattle.std.proofs.lemmas.Result.{err_from_is_err_and}
use Rattle.out_io.specs.Contents.{Contents}
use Rattle.circom_words.specs.Words.{command_of, meant_circuit, texts}
use Rattle.circom_gold.specs.Course.{Device, device}
use Rattle.circom_gold.proofs.Doing.{does_answered, does_nothing, does_so}
use Rattle.circom_gold.proofs.circuit.run_circuit.Goals as goal

pub returns-in_err-of-clause-does : goal.returns-in_err-of-clause-does
returns-in_err-of-clause-does g c =
    let store : Device Contents =
    device (g.S.Store.may_hold c.args.store.now) (g.S.Store.may_hold c.args.store.now)
    (g.S.Store.calls c.args.store.now) (g.S.Store.calls c.args.store.now)
    (g.S.Store.faults c.args.store.now) (g.S.Store.faults c.args.store.now) in
    let sink : Device (List ℕ) =
    device (g.K.Sink.may_have c.args.out.now) (g.K.Sink.may_have c.args.out.now)
    (g.K.Sink.calls c.args.out.now) (g.K.Sink.calls c.args.out.now)
    (g.K.Sink.faults c.args.out.now) (g.K.Sink.faults c.args.out.now) in
    let p = err_from_is_err_and c.from_residual.result c.from_residual.ensures.1 in
    rw p.1
    (does_nothing (command_of (texts c.args.words.now)) store sink (λ files may. may)
    (λ text has. has) (refl, refl) refl)

pub returns-clause-does : goal.returns-clause-does
returns-clause-does g c =
    let store : Device Contents =
    device (g.S.Store.may_hold c.args.store.now) (g.S.Store.may_hold c.answered-answer.new.store)
    (g.S.Store.calls c.args.store.now) (g.S.Store.calls c.answered-answer.new.store)
    (g.S.Store.faults c.args.store.now) (g.S.Store.faults c.answered-answer.new.store) in
    let sink : Device (List ℕ) =
    device (g.K.Sink.may_have c.args.out.now) (g.K.Sink.may_have c.give.new.out)
    (g.K.Sink.calls c.args.out.now) (g.K.Sink.calls c.give.new.out)
    (g.K.Sink.faults c.args.out.now) (g.K.Sink.faults c.give.new.out) in
    does_so (c.circuit-command.ensures.meant ∙ c.in_ok-of.ensures.meant) store sink
    (result_ok c.give.result)
    (does_answered (option_map meant_circuit c.circuit-command.result) store sink
    c.answered-answer.result c.give.result c.answered-answer.ensures.answered
    c.answered-answer.ensures.asked c.answered-answer.ensures.counted c.give.ensures.exits
    c.give.ensures.puts c.give.ensures.asked)
