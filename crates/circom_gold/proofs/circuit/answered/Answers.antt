use Rattle.std.proofs.Common.{◌∙◌, inl, option_map, refl}
use Rattle.out_io.specs.Contents.{Contents}
use Rattle.circom_words.specs.Words.{meant_circuit}
use Rattle.circom_files.specs.Shown.{shown}
use Rattle.circom_gold.specs.Course.{Device, device}
use Rattle.circom_gold.proofs.Answered.{assures_nothing, is_answered}
use Rattle.circom_gold.proofs.Replies.{usage_file}
use Rattle.circom_gold.proofs.circuit.answered.Goals as goal

pub returns-clause-answered : goal.returns-clause-answered
returns-clause-answered g c =
    let store : Device Contents =
    device (g.S.Store.may_hold c.args.store.now) (g.S.Store.may_hold c.write_file.new.store)
    (g.S.Store.calls c.args.store.now) (g.S.Store.calls c.write_file.new.store)
    (g.S.Store.faults c.args.store.now) (g.S.Store.faults c.write_file.new.store) in
    let read = c.in_ok-reply.ensures in
    is_answered (option_map meant_circuit c.args.command) store c.in_ok-reply.reply
    (g.S.Store.may_hold c.reply_to.new.store) read.store.still read.answers
    (λ files may. assures_nothing c.args.command files (shown c.in_ok-reply.reply)) read.fits
    c.in_ok-write_file.ensures.ok
    (λ none.
    let file =
    usage_file (option_map meant_circuit c.args.command) (shown c.in_ok-reply.reply) read.fits
    none in
    let unwritten = c.in_ok-write_file.ensures.none file in
    let unasked = read.unread none in
    (unwritten.0 ∙ unasked.0, unwritten.1 ∙ unasked.1))

pub returns-clause-asked : goal.returns-clause-asked
returns-clause-asked g c = (
  g.S.Store.calls c.reply_to.new.store,
  c.in_ok-reply.ensures.asked,
  c.in_ok-write_file.ensures.asked,
)

pub returns-in_err-write_file-clause-asked : goal.returns-in_err-write_file-clause-asked
returns-in_err-write_file-clause-asked g c = (
  g.S.Store.calls c.reply_to.new.store,
  c.in_ok-reply.ensures.asked,
  c.in_err-write_file.ensures.asked,
)

pub returns-in_err-reply-clause-asked : goal.returns-in_err-reply-clause-asked
returns-in_err-reply-clause-asked g c = (
  g.S.Store.calls c.reply_to.new.store,
  c.in_err-reply.ensures.asked,
  inl refl,
)
