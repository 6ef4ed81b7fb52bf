use Rattle.out_io.specs.Faults.{Rose}
use Rattle.circom_words.specs.Words.{meant_options}
use Rattle.circom_gold.proofs.Sourcing.{stopped_so}
use Rattle.circom_gold.proofs.compile.file_in.Goals as goal

pub returns-in-Ok-clause-step : goal.returns-in-Ok-clause-step
returns-in-Ok-clause-step g c = c.in-Ok.ensures.compiles

pub returns-in-Err-clause-step : goal.returns-in-Err-clause-step
returns-in-Err-clause-step g c =
    stopped_so (g.S.Store.may_hold c.compile.new.store) c.args.name.now
    (meant_options c.args.options)
    (Rose (g.S.Store.faults c.args.store.now) (g.S.Store.faults c.compile.new.store))
    c.in-Err.fault c.stop_of.result c.in-Err.ensures.compiles c.stop_of.ensures
