use Rattle.out_io.specs.Faults.{Rose}
use Rattle.circom_words.specs.Words.{meant_options}
use Rattle.circom_gold.proofs.Sourcing.{stopped_so}
use Rattle.circom_gold.proofs.SymbolLines.{names_stopped}
use Rattle.circom_gold.proofs.symbols.symbols_in.Goals as goal

pub returns-in-Err-clause-step : goal.returns-in-Err-clause-step
returns-in-Err-clause-step g c =
    let held = g.S.Store.may_hold c.named_in.new.store in
    let failed =
    Rose (g.S.Store.faults c.args.store.now) (g.S.Store.faults c.named_in.new.store) in
    names_stopped held c.args.name.now (meant_options c.args.options) failed c.stop_of.result
    (stopped_so held c.args.name.now (meant_options c.args.options) failed c.in-Err.fault
    c.stop_of.result c.in-Err.ensures.names c.stop_of.ensures)
