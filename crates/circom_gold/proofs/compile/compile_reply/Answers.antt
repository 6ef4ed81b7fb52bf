use Rattle.std.proofs.Common.{Ok, arith}
use Rattle.out_io.specs.Faults.{Rose}
use Rattle.circom_files.proofs.Accepts.{unsuccessful}
use Rattle.circom_files.proofs.Ended.{ended_below, ended_to}
use Rattle.circom_files.proofs.Statuses.{below_by}
use Rattle.circom_files.specs.Shown.{shown}
use Rattle.circom_words.specs.Words.{meant_options}
use Rattle.circom_gold.specs.Answering.{WritesConstraintsOf}
use Rattle.circom_gold.specs.Compile.{CompilesTo}
use Rattle.circom_gold.specs.Reply.{constraints_written}
use Rattle.circom_gold.proofs.Replies.{writes}
use Rattle.circom_gold.proofs.compile.compile_reply.Goals as goal

pub returns-in_ok-compiled-in-Ok-clause-says : goal.returns-in_ok-compiled-in-Ok-clause-says
returns-in_ok-compiled-in-Ok-clause-says g c = λ files may.
    (Ok c.in-Ok.file, c.in-Ok.ensures.step files may, c.in_ok-compiled-in-Ok.ensures.reply)

pub returns-in_ok-compiled-in-Ok-clause-exactly : goal.returns-in_ok-compiled-in-Ok-clause-exactly
returns-in_ok-compiled-in-Ok-clause-exactly g c = λ files may zero.
    writes files c.args.source.now (meant_options c.args.options) c.args.out.now c.in-Ok.file
    (shown c.in_ok-compiled-in-Ok.field-0) (c.in-Ok.ensures.step files may)
    c.in_ok-compiled-in-Ok.ensures.reply c.in_ok-compiled-in-Ok.ensures.read_back

pub returns-in_ok-compiled-in-Ok-clause-status : goal.returns-in_ok-compiled-in-Ok-clause-status
returns-in_ok-compiled-in-Ok-clause-status g c =
    below_by c.in_ok-compiled-in-Ok.field-0 (constraints_written c.args.out.now c.in-Ok.file)
    c.in_ok-compiled-in-Ok.ensures.reply (omega arith)

pub returns-in-Err-clause-says : goal.returns-in-Err-clause-says
returns-in-Err-clause-says g c =
    ended_to (g.S.Store.may_hold c.file_in.new.store) (constraints_written c.args.out.now)
    (λ files found. CompilesTo files c.args.source.now (meant_options c.args.options) found)
    (Rose (g.S.Store.faults c.args.store.now) (g.S.Store.faults c.file_in.new.store))
    c.in-Err.stop c.reply.result c.in-Err.ensures.step c.reply.ensures

pub returns-in-Err-clause-exactly : goal.returns-in-Err-clause-exactly
returns-in-Err-clause-exactly g c =
    unsuccessful (g.S.Store.may_hold c.file_in.new.store)
    (λ files r. WritesConstraintsOf files c.args.source.now (meant_options c.args.options)
    c.args.out.now (shown r))
    c.in-Err.stop c.reply.result c.reply.ensures

pub returns-in-Err-clause-status : goal.returns-in-Err-clause-status
returns-in-Err-clause-status g c = ended_below c.in-Err.stop c.reply.result c.reply.ensures
