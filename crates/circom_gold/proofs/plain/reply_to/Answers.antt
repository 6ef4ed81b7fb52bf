use Rattle.std.proofs.Common.{◌∙◌, Option, Some, ap, option_map, subst, sym}
use Rattle.circom_words.specs.Words.{Command, meant_plain}
use Rattle.circom_gold.specs.Asking.{ReadsFor}
use Rattle.circom_gold.proofs.plain.reply_to.Goals as goal

pub returns-in-Some-Audit-clause-asked : goal.returns-in-Some-Audit-clause-asked
returns-in-Some-Audit-clause-asked g c =
    let made = c.in-Some-Audit in
    let field = rw made.is at made.field-0-is in
    subst
    (λ (x : Option Command). ReadsFor x (g.S.Store.calls c.args.store.now)
    (g.S.Store.calls c.audit_reply.new.store))
    (sym (ap (λ x. Some (meant_plain x)) field) ∙ sym (ap (option_map meant_plain) made.is))
    c.audit_reply.ensures.asked

pub returns-in-Some-CheckNamed-clause-asked : goal.returns-in-Some-CheckNamed-clause-asked
returns-in-Some-CheckNamed-clause-asked g c =
    let made = c.in-Some-CheckNamed in
    let field = rw made.is at made.field-0-is in
    subst
    (λ (x : Option Command). ReadsFor x (g.S.Store.calls c.args.store.now)
    (g.S.Store.calls c.check_named_reply.new.store))
    (sym (ap (λ x. Some (meant_plain x)) field) ∙ sym (ap (option_map meant_plain) made.is))
    c.check_named_reply.ensures.asked
