use Rattle.std.proofs.lemmas.Result.{err_from_is_err_and}
use Rattle.out_io.specs.Faults.{Rose}
use Rattle.cir_compile.proofs.Meaning.{unloaded}
use Rattle.circom_words.specs.Words.{meant_options}
use Rattle.circom_gold.specs.Compile.{task_of}
use Rattle.circom_gold.proofs.Sourcing.{sourced}
use Rattle.circom_gold.proofs.source.coded_in.Goals as goal

pub returns-in_err-loaded-clause-sources : goal.returns-in_err-loaded-clause-sources
returns-in_err-loaded-clause-sources g c =
    let p = err_from_is_err_and c.from_residual.result c.from_residual.ensures.1 in
    rw (p.1, p.2)
    (unloaded _ (task_of c.args.name.now (meant_options c.args.options)) _
    c.in_err-loaded.field-0.0 c.in_err-loaded.ensures.loads)

pub returns-clause-sources : goal.returns-clause-sources
returns-clause-sources g c =
    sourced (g.S.Store.may_hold c.load_all.new.store) c.args.name.now
    (meant_options c.args.options)
    (Rose (g.S.Store.faults c.args.store.now) (g.S.Store.faults c.load_all.new.store))
    c.in_ok-loaded.loaded c.coded_from.result c.in_ok-loaded.ensures.loads
    c.coded_from.ensures.codes
