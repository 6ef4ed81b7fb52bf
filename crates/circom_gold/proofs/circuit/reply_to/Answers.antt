use Rattle.std.proofs.Common.{◌∙◌, IfOk, Option, Some, ap, option_map, subst, sym}
use Rattle.std.proofs.lemmas.Result.{IfOk-weaker}
use Rattle.out_io.specs.Held.{OfAll}
use Rattle.circom_files.specs.Reply.{Says}
use Rattle.circom_files.specs.Running.{generated}
use Rattle.circom_files.specs.Shown.{shown}
use Rattle.circom_words.specs.Words.{Command, meant_circuit}
use Rattle.circom_gold.specs.Reply.{Answers}
use Rattle.circom_gold.specs.Witness.{Generates}
use Rattle.circom_gold.proofs.circuit.reply_to.Goals as goal

pub returns-in-Some-Generate-clause-answers : goal.returns-in-Some-Generate-clause-answers
returns-in-Some-Generate-clause-answers g c =
    let held = g.S.Store.may_hold c.args.store.now in
    let field = rw c.in-Some-Generate.is at c.in-Some-Generate.field-0-is in
    let made = c.in-Some-Generate in
    subst
    (λ (x : Option Command). IfOk c.generate_reply.result
    (λ r. OfAll held (λ files. Answers files x (shown r))))
    (sym (ap (λ x. Some (meant_circuit x)) field)
    ∙ sym (ap (option_map meant_circuit) c.in-Some-Generate.is))
    (IfOk-weaker c.generate_reply.result
    (λ r. Says (generated made.size)
    (λ found. Generates made.seed made.size made.running.fuel found) (shown r))
    (λ r. OfAll held (λ files. Says (generated made.size)
    (λ found. Generates made.seed made.size made.running.fuel found) (shown r)))
    (λ r says files may. says) c.generate_reply.ensures.says)
