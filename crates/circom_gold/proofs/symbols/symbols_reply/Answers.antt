use Rattle.std.proofs.Common.{◌∙◌, Ok, arith}
use Rattle.out_io.specs.Faults.{Rose}
use Rattle.circom_files.proofs.Accepts.{unsuccessful}
use Rattle.circom_files.proofs.Ended.{ended_below, ended_to}
use Rattle.circom_files.proofs.Statuses.{below_by}
use Rattle.circom_files.specs.Reply.{symbols_written}
use Rattle.circom_files.specs.Shown.{shown}
use Rattle.circom_words.specs.Words.{meant_options}
use Rattle.circom_gold.specs.Symbols.{NamesTo, WritesNames, names_written}
use Rattle.circom_gold.proofs.SymbolLines.{written_as, writes_names}
use Rattle.circom_gold.proofs.symbols.symbols_reply.Goals as goal

pub returns-in_ok-symbols_written-in-Ok-clause-says
    : goal.returns-in_ok-symbols_written-in-Ok-clause-says
returns-in_ok-symbols_written-in-Ok-clause-says g c = λ files may.
    let named = c.in-Ok.ensures.step files may in (
      Ok named.lines,
      named.named,
      c.in_ok-symbols_written-in-Ok.ensures
          ∙ written_as files c.args.source.now (meant_options c.args.options) c.args.out.now
          c.in-Ok.symbols named,
    )

pub returns-in_ok-symbols_written-in-Ok-clause-names
    : goal.returns-in_ok-symbols_written-in-Ok-clause-names
returns-in_ok-symbols_written-in-Ok-clause-names g c = λ files may zero.
    writes_names files c.args.source.now (meant_options c.args.options) c.args.out.now
    c.in-Ok.symbols (shown c.in_ok-symbols_written-in-Ok.field-0)
    (c.in-Ok.ensures.step files may) c.in_ok-symbols_written-in-Ok.ensures

pub returns-in_ok-symbols_written-in-Ok-clause-status
    : goal.returns-in_ok-symbols_written-in-Ok-clause-status
returns-in_ok-symbols_written-in-Ok-clause-status g c =
    below_by c.in_ok-symbols_written-in-Ok.field-0
    (symbols_written c.args.out.now c.in-Ok.symbols.count c.in-Ok.symbols.text)
    c.in_ok-symbols_written-in-Ok.ensures (omega arith)

pub returns-in-Err-clause-says : goal.returns-in-Err-clause-says
returns-in-Err-clause-says g c =
    ended_to (g.S.Store.may_hold c.symbols_in.new.store) (names_written c.args.out.now)
    (λ files found. NamesTo files c.args.source.now (meant_options c.args.options) found)
    (Rose (g.S.Store.faults c.args.store.now) (g.S.Store.faults c.symbols_in.new.store))
    c.in-Err.stop c.reply.result c.in-Err.ensures.step c.reply.ensures

pub returns-in-Err-clause-names : goal.returns-in-Err-clause-names
returns-in-Err-clause-names g c =
    unsuccessful (g.S.Store.may_hold c.symbols_in.new.store)
    (λ files r. WritesNames files c.args.source.now (meant_options c.args.options)
    c.args.out.now (shown r))
    c.in-Err.stop c.reply.result c.reply.ensures

pub returns-in-Err-clause-status : goal.returns-in-Err-clause-status
returns-in-Err-clause-status g c = ended_below c.in-Err.stop c.reply.result c.reply.ensures
