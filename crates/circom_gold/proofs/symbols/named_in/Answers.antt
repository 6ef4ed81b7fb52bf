use Rattle.std.proofs.lemmas.Result.{err_from_is_err_and}
use Rattle.out_io.specs.Faults.{Rose}
use Rattle.cir_compile.proofs.Meaning.{unloaded}
use Rattle.circom_words.specs.Words.{meant_options}
use Rattle.circom_gold.specs.Compile.{task_of}
use Rattle.circom_gold.proofs.SymbolLines.{named}
use Rattle.circom_gold.proofs.symbols.named_in.Goals as goal

pub returns-in_err-program-clause-names : goal.returns-in_err-program-clause-names
returns-in_err-program-clause-names g c =
    let p = err_from_is_err_and c.from_residual.result c.from_residual.ensures.1 in
    rw (p.1, p.2)
    (unloaded _ (task_of c.args.name.now (meant_options c.args.options)) _
    c.in_err-program.field-0.0 c.in_err-program.ensures.loads)

pub returns-clause-names : goal.returns-clause-names
returns-clause-names g c =
    named (g.S.Store.may_hold c.load.new.store) c.args.name.now (meant_options c.args.options)
    (Rose (g.S.Store.faults c.args.store.now) (g.S.Store.faults c.load.new.store))
    c.in_ok-program.program c.symbols_of.result c.in_ok-program.ensures.loads
    c.symbols_of.ensures
