use Rattle.std.proofs.Common.{List, ℕ, refl}
use Rattle.out_io.specs.Contents.{Contents}
use Rattle.circom_words.specs.Words.{command_of, texts}
use Rattle.circom_gold.specs.Course.{Device, device}
use Rattle.circom_gold.proofs.Doing.{does_nothing}
use Rattle.circom_gold.proofs.program.run_plain.Goals as goal

pub returns-then-waits-clause-does : goal.returns-then-waits-clause-does
returns-then-waits-clause-does g c =
    let store : Device Contents =
    device (g.S.Store.may_hold c.args.store.now) (g.S.Store.may_hold c.args.store.now)
    (g.S.Store.calls c.args.store.now) (g.S.Store.calls c.args.store.now)
    (g.S.Store.faults c.args.store.now) (g.S.Store.faults c.args.store.now) in
    let sink : Device (List ℕ) =
    device (g.K.Sink.may_have c.args.out.now) (g.K.Sink.may_have c.args.out.now)
    (g.K.Sink.calls c.args.out.now) (g.K.Sink.calls c.args.out.now)
    (g.K.Sink.faults c.args.out.now) (g.K.Sink.faults c.args.out.now) in
    does_nothing (command_of (texts c.args.words.now)) store sink (λ files may. may)
    (λ text has. has) (refl, refl) refl
