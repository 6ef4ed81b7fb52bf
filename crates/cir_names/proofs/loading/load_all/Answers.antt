use Rattle.std.proofs.lemmas.Result.{err_from_is_err_and}
use Rattle.std.specs.Prelude.{map}
use Rattle.cir_ast.specs.Program.{bare_program}
use Rattle.cir_sources.specs.Includes.{seen}
use Rattle.cir_names.proofs.Answering.{misnamed, unread, well_named}
use Rattle.cir_names.proofs.loading.load_all.Goals as goal

pub returns-clause-loads : goal.returns-clause-loads
returns-clause-loads g c =
    well_named c.in_ok-reached.reached.missing (map seen c.in_ok-reached.reached.sources.items)
    (bare_program c.in_ok-program.program) c.in_ok-reached.ensures.reaches
    c.in_ok-program.ensures.program

pub returns-clause-theirs : goal.returns-clause-theirs
returns-clause-theirs g c = record {
  sources = map seen c.in_ok-reached.reached.sources.items;
  are = c.in_ok-reached.ensures.read;
  theirs = c.in_ok-program.ensures.program;
}

pub returns-in_err-reached-clause-loads : goal.returns-in_err-reached-clause-loads
returns-in_err-reached-clause-loads g c =
    let p = err_from_is_err_and c.from_residual.result c.from_residual.ensures.1 in
    rw (p.1, p.2) (unread _ _ _ _ c.in_err-reached.field-0.0 c.in_err-reached.ensures.reaches)

pub returns-in_err-program-clause-loads : goal.returns-in_err-program-clause-loads
returns-in_err-program-clause-loads g c =
    let p = err_from_is_err_and c.from_residual-in_err-program.result
    c.from_residual-in_err-program.ensures.1 in
    rw (p.1, p.2)
    (misnamed _ _ _ _ c.in_ok-reached.reached.missing
    (map seen c.in_ok-reached.reached.sources.items) c.in_err-program.field-0.0
    c.in_ok-reached.ensures.reaches c.in_err-program.ensures.program)
